-- The first of the elements so far.
use Rattle.std.proofs.Common.{◌≡◌, true, take}
use Rattle.sheets.specs.Cover.{cover}
use Rattle.grammar.specs.Places.{LeastOf}
use Rattle.search.specs.Scenes.{Canonical, Fits}
use Rattle.search.specs.Steps.{bound, After, Turned}
use Rattle.search.proofs.scene.Scene.first_of_turn.Given as goal
use Rattle.lattice.specs.Turns.{index}

abbrev pub invariant-loop-x : goal.invariant-loop-x
invariant-loop-x g l =
    (Canonical g.M.Kind.model g.C.Kind.model l.self → g.K.Kind.model.field l.from ≡ true → LeastOf (Turned g.K.Kind.model (Fits g.M.Kind.model g.C.Kind.model l.self) l.from (λ a. cover g.K.Kind.model (take l.x-index l.xs) a ≡ true) (index l.turn)) (bound l.after) l.best)
    × After (bound l.after) l.best
