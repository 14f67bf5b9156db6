-- Element by element.
use Rattle.std.proofs.Common.{◌≡◌, true, subst, arith, take_all}
use Rattle.sheets.specs.Cover.{cover}
use Rattle.grammar.specs.Places.{LeastOf}
use Rattle.search.specs.Scenes.{Fits}
use Rattle.search.specs.Steps.{bound, Turned}
use Rattle.search.proofs.Searched.{list_more}
use Rattle.search.proofs.scene.Scene.first_of_turn.Goals as goal
use Rattle.lattice.specs.Turns.{index}

pub loop-x-preserved : goal.loop-x-preserved
loop-x-preserved g c = (
  λ can ins. list_more g.K.Kind.model g.met.K.Kind.rules (Fits g.M.Kind.model g.C.Kind.model c.args.self.now) c.args.from c.args.turn (bound c.args.after) c.loop-x.best c.best_on-best.result c.args.xs.now c.loop-x.x-index c.x-item.result (omega arith) c.x-item.is (c.loop-x.invariant.0 can ins) (c.best_on-best.ensures.least can ins),
  c.best_on-best.ensures.later c.loop-x.invariant.1,
)

pub returns : goal.returns
returns g c = record {
  least = λ can ins. subst (λ z. LeastOf (Turned g.K.Kind.model (Fits g.M.Kind.model g.C.Kind.model c.args.self.now) c.args.from (λ a. cover g.K.Kind.model z a ≡ true) (index c.args.turn)) (bound c.args.after) c.loop-x.best) (take_all c.loop-x.x-index c.args.xs.now (omega arith)) (c.loop-x.invariant.0 can ins);
  later = c.loop-x.invariant.1;
}
