use Rattle.std.proofs.Common.{arith}
use Rattle.reading.proofs.Splitting.{no_two, no_more}
use Rattle.reading.proofs.fields.five_fields.Goals as goal

pub returns-in_err-a : goal.returns-in_err-a
returns-in_err-a c = rw c.from_residual.ensures (no_two _ 4 c.in_err-a.ensures (omega arith))

pub returns-in_err-b : goal.returns-in_err-b
returns-in_err-b c =
    rw c.from_residual-in_err-b.ensures (no_more _ _ _ 4 c.in_ok-a.ensures.0 c.in_ok-a.ensures.1 (omega arith) (no_two _ 3 c.in_err-b.ensures (omega arith)))

pub returns-in_err-c : goal.returns-in_err-c
returns-in_err-c c =
    rw c.from_residual-in_err-c.ensures (no_more _ _ _ 4 c.in_ok-a.ensures.0 c.in_ok-a.ensures.1 (omega arith)
    (no_more _ _ _ 3 c.in_ok-b.ensures.0 c.in_ok-b.ensures.1 (omega arith) c.in_err-c.ensures))
