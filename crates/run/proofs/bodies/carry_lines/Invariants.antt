use Rattle.std.proofs.Common.{length}
use Rattle.reading.specs.Readers.{rest}
use Rattle.run.proofs.bodies.carry_lines.Given as goal

abbrev pub decreases-loop-line : goal.decreases-loop-line
decreases-loop-line g l = length (rest l.reader)
