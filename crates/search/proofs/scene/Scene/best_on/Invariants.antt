-- The best of the positions so far.
use Rattle.std.proofs.Common.{◌≡◌, true, ◌<ℤ◌}
use Rattle.kinds.specs.Model.{covers}
use Rattle.search.specs.Scenes.{Canonical, Fits}
use Rattle.search.specs.Steps.{bound, After, Turned, Improves}
use Rattle.search.proofs.scene.Scene.best_on.Given as goal
use Rattle.lattice.specs.Turns.{index}

abbrev pub invariant-loop-at : goal.invariant-loop-at
invariant-loop-at g l =
    (Canonical g.M.Kind.model g.C.Kind.model l.self → g.K.Kind.model.field l.from ≡ true → Improves (Turned g.K.Kind.model (Fits g.M.Kind.model g.C.Kind.model l.self) l.from (λ a. (covers g.K.Kind.model l.e a ≡ true) × (g.K.Kind.model.at a <ℤ l.at)) (index l.turn)) (bound l.after) l.initial.found l.found)
    × (After (bound l.after) l.initial.found → After (bound l.after) l.found)
