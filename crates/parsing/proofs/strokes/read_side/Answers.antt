use Rattle.std.proofs.Common.{rules}
use Rattle.parsing.proofs.Stroking.{left_told, right_told}
use Rattle.parsing.proofs.strokes.read_side.Goals as goal

pub returns-in-Some : goal.returns-in-Some
returns-in-Some c = left_told _ _ _ _ c.in-Some.ensures c.read_stroke.ensures (search rules)

pub returns-in-Some-after_right : goal.returns-in-Some-after_right
returns-in-Some-after_right c = right_told _ _ _ _ c.in-Some-after_right.ensures c.read_stroke-in-Some-after_right.ensures (search rules)
