use Rattle.std.proofs.Common.{◌≡◌, subst, arith}
use Rattle.std.proofs.lemmas.Grind.{common_steps}
use Rattle.sheets.specs.Cover.{sizes}
use Rattle.sheets.specs.Contents.{items, covered}
use Rattle.sheets.specs.Census.{Census}
use Rattle.sheets.proofs.Counted.{counted, few_atoms}
use Rattle.sheets.proofs.sheet.Sheet.atoms.Goals as goal

pub returns-clause-exact : goal.returns-clause-exact
returns-clause-exact g c =
    let m = g.K.Kind.model in
    let r = g.met.K.Kind.rules in
    let s = c.args.self.now in
    λ h.
    let small = few_atoms m r s h in
    let e : sizes m (items s) ≡ c.loop-e.sum = grind (arith, common_steps) in
    subst (Census (covered m s)) e (counted m r (items s) h.ordered)
