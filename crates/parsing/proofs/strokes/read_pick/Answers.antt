use Rattle.std.proofs.Common.{refl, subst, arith}
use Rattle.std.proofs.lemmas.Result.{err_from_is_err_and}
use Rattle.reading.specs.Fields.{Two}
use Rattle.parsing.proofs.Making.{no_number}
use Rattle.parsing.proofs.strokes.read_pick.Goals as goal

pub returns-in_err-number : goal.returns-in_err-number
returns-in_err-number c =
    let p = err_from_is_err_and c.from_residual-in_err-number.result c.from_residual-in_err-number.ensures.1 in
    let s = subst (Two c.args.rest.now) c.in_ok-rule.ensures.ok_part c.two_fields.ensures in
    rw (p.1, p.2) (no_number _ _ _ 0 _ s refl (omega arith) c.in_err-number.ensures)

pub returns-in_err-number-2 : goal.returns-in_err-number-2
returns-in_err-number-2 c =
    let p = err_from_is_err_and c.from_residual-in_err-number-2.result c.from_residual-in_err-number-2.ensures.1 in
    let s = subst (Two c.args.rest.now) c.in_ok-rule.ensures.ok_part c.two_fields.ensures in
    rw (p.1, p.2) (no_number _ _ _ 1 _ s refl (omega arith) c.in_err-number-2.ensures)
