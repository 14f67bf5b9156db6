use Rattle.drawing.specs.Steps.{Replayed}
use Rattle.drawing.proofs.drawing.Drawing.replay.Given as goal

abbrev pub invariant-loop-i : goal.invariant-loop-i
invariant-loop-i g l = Replayed g.M.Kind.model g.C.Kind.model l.i l.initial.self l.self
