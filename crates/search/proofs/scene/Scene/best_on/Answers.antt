-- Position by position.
use Rattle.std.proofs.Common.{arith}
use Rattle.std.proofs.lemmas.Int.{ints}
use Rattle.search.specs.Scenes.{Fits}
use Rattle.search.specs.Steps.{bound}
use Rattle.search.proofs.Searched.{under_none, under_more, under_all}
use Rattle.search.proofs.scene.Scene.best_on.Goals as goal

pub loop-at-init : goal.loop-at-init
loop-at-init g c = (
  λ can ins. under_none g.K.Kind.model g.met.K.Kind.rules (Fits g.M.Kind.model g.C.Kind.model c.args.self.now) c.args.from c.args.turn (bound c.args.after) c.args.best c.args.e.now _ (omega (arith, ints, c.start-at.ensures)),
  λ a. a,
)

pub loop-at-preserved : goal.loop-at-preserved
loop-at-preserved g c = (
  λ can ins. under_more g.K.Kind.model g.met.K.Kind.rules (Fits g.M.Kind.model g.C.Kind.model c.args.self.now) c.args.from c.args.turn (bound c.args.after) c.args.best c.loop-at.found c.best_at-found.result c.args.e.now _ _ _ (omega (arith, ints)) (omega (arith, ints)) (c.loop-at.invariant.0 can ins) (c.best_at-found.ensures.least can ins),
  λ a. c.best_at-found.ensures.later (c.loop-at.invariant.1 a),
)

pub returns : goal.returns
returns g c = record {
  least = λ can ins. under_all g.K.Kind.model g.met.K.Kind.rules (Fits g.M.Kind.model g.C.Kind.model c.args.self.now) c.args.from c.args.turn (bound c.args.after) c.args.best c.loop-at.found c.args.e.now _ (omega (arith, ints, c.end-at-end.ensures)) (c.loop-at.invariant.0 can ins);
  later = λ a. c.loop-at.invariant.1 a;
}
