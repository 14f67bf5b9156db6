use Rattle.std.proofs.Common.{◌≡◌, ◌+◌, length, take}
use Rattle.output.specs.Lines.{lines}
use Rattle.output.specs.Wrote.{Wrote}
use Rattle.output.proofs.show.write_lines.Given as goal

abbrev pub invariant-loop-x : goal.invariant-loop-x
invariant-loop-x g l =
    (l.at ≡ l.from + length (lines g.T.Inscribed.line (take l.x-index l.xs)))
    × Wrote l.from l.at (lines g.T.Inscribed.line (take l.x-index l.xs)) l.initial.out l.out
