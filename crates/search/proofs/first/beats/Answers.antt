-- Of two placements one is earlier, or they are one.
use Rattle.std.proofs.Common.{Option, sym, subst}
use Rattle.std.proofs.lemmas.Bool.{both_ways}
use Rattle.lattice.specs.declared.placement.Placement.{Placement}
use Rattle.search.specs.Steps.{Beats, Beaten}
use Rattle.search.proofs.Best.{beaten}
use Rattle.search.proofs.first.beats.Goals as goal

pub returns-in-Some : goal.returns-in-Some
returns-in-Some c = record {
  yes = λ t. subst (λ (o : Option Placement). Beats c.args.q o) (sym c.in-Some.is) (c.earlier.ensures.0 t);
  no = λ f. subst (λ (o : Option Placement). Beaten c.args.q o) (sym c.in-Some.is) (beaten c.args.q c.in-Some.b (λ e. both_ways _ f (c.earlier.ensures.1 e)));
}
