use Rattle.std.proofs.Common.{◌≡◌, ◌+◌, length, take}
use Rattle.output.specs.Lines.{lines}
use Rattle.output.proofs.show.room_after.Given as goal

abbrev pub invariant-loop-x : goal.invariant-loop-x
invariant-loop-x g l = l.left + length (lines g.T.Inscribed.line (take l.x-index l.xs)) ≡ l.room
