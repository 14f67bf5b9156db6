-- The places so far stand at the front of the buffer, and the rest is as it was.
use Rattle.std.proofs.Common.{◌≡◌, List, ◌++◌, take, drop}
use Rattle.lattice.specs.declared.placement.Placement.{Placement}
use Rattle.search.specs.Scenes.{Listed}
use Rattle.search.proofs.Walking.{Given}
use Rattle.search.proofs.scene.Scene.write.Given as goal

abbrev pub invariant-loop-n : goal.invariant-loop-n
invariant-loop-n g l = (ps : List Placement) (h : Listed g.M.Kind.model g.C.Kind.model l.self ps) → Given g.M.Kind.model g.C.Kind.model l.self ps h l.places l.n × (l.out ≡ take l.n ps ++ drop l.n l.initial.out)
