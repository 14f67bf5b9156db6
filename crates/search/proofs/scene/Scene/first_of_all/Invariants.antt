-- No place of an earlier turn comes after the bound.
use Rattle.std.proofs.Common.{◌≡◌, ◌≤◌, true}
use Rattle.lattice.specs.declared.placement.Placement.{Placement}
use Rattle.lattice.specs.Order.{triple, Before}
use Rattle.lattice.specs.Turns.{index}
use Rattle.sheets.specs.Cover.{cover}
use Rattle.search.specs.Scenes.{Canonical, Fits}
use Rattle.search.specs.Steps.{bound, Lands}
use Rattle.search.proofs.scene.Scene.first_of_all.Given as goal

abbrev pub invariant-loop-turn : goal.invariant-loop-turn
invariant-loop-turn g l = Canonical g.M.Kind.model g.C.Kind.model l.self → g.K.Kind.model.field l.from ≡ true → (p : Placement) → Lands g.K.Kind.model (Fits g.M.Kind.model g.C.Kind.model l.self) l.from (λ a. cover g.K.Kind.model l.xs a ≡ true) p → Before (bound l.after) (triple p) → l.turn-index ≤ index p.turn
