use Rattle.std.proofs.Common.{arith}
use Rattle.reading.proofs.Splitting.{no_two, no_more}
use Rattle.reading.proofs.fields.three_fields.Goals as goal

pub returns-in_err-a : goal.returns-in_err-a
returns-in_err-a c = rw c.from_residual.ensures (no_two _ 2 c.in_err-a.ensures (omega arith))

pub returns-in_err-b : goal.returns-in_err-b
returns-in_err-b c = rw c.from_residual-in_err-b.ensures (no_more _ _ _ 2 c.in_ok-a.ensures.0 c.in_ok-a.ensures.1 (omega arith) c.in_err-b.ensures)
