use Rattle.std.proofs.Common.{arith}
use Rattle.reading.proofs.Splitting.{no_two, two_told}
use Rattle.reading.proofs.fields.two_fields.Goals as goal

pub returns-in_err-a : goal.returns-in_err-a
returns-in_err-a c = rw c.from_residual.ensures (no_two _ 1 c.in_err-a.ensures (omega arith))

pub returns : goal.returns
returns c = rw c.then_some.ensures (two_told _ _ _ c.in_ok-a.ensures.0 c.in_ok-a.ensures.1 c.is_field.ensures)
