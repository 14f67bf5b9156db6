use Rattle.std.proofs.Common.{refl, inl, subst, arith, w32, SFits, rules}
use Rattle.std.proofs.lemmas.Result.{err_from_is_err_and}
use Rattle.std.proofs.lemmas.Int.{to_z-of_z}
use Rattle.reading.specs.Fields.{Three}
use Rattle.parsing.proofs.Making.{no_number, mark_fields}
use Rattle.parsing.proofs.strokes.read_mark.Goals as goal

pub returns-in_err-number : goal.returns-in_err-number
returns-in_err-number c =
    let p = err_from_is_err_and c.from_residual-in_err-number.result c.from_residual-in_err-number.ensures.1 in
    let s = subst (Three c.args.rest.now) c.in_ok-ink.ensures.ok_part c.three_fields.ensures in
    rw (p.1, p.2) (inl (no_number _ _ _ 0 _ s refl (omega arith) c.in_err-number.ensures))

pub returns-in_err-number-2 : goal.returns-in_err-number-2
returns-in_err-number-2 c =
    let p = err_from_is_err_and c.from_residual-in_err-number-2.result c.from_residual-in_err-number-2.ensures.1 in
    let s = subst (Three c.args.rest.now) c.in_ok-ink.ensures.ok_part c.three_fields.ensures in
    rw (p.1, p.2) (inl (no_number _ _ _ 1 _ s refl (omega arith) c.in_err-number-2.ensures))

pub returns-in_err-number-3 : goal.returns-in_err-number-3
returns-in_err-number-3 c =
    let p = err_from_is_err_and c.from_residual-in_err-number-3.result c.from_residual-in_err-number-3.ensures.1 in
    let s = subst (Three c.args.rest.now) c.in_ok-ink.ensures.ok_part c.three_fields.ensures in
    rw (p.1, p.2) (inl (no_number _ _ _ 2 _ s refl (omega arith) c.in_err-number-3.ensures))

pub returns : goal.returns
returns c =
    let s = subst (Three c.args.rest.now) c.in_ok-ink.ensures.ok_part c.three_fields.ensures in
    let f0 : SFits w32 c.in_ok-number.field-0 = search rules in
    let h0 = c.in_ok-number.ensures in
    let f1 : SFits w32 c.in_ok-number-2.field-0 = search rules in
    let h1 = c.in_ok-number-2.ensures in
    let f2 : SFits w32 c.in_ok-number-3.field-0 = search rules in
    let h2 = c.in_ok-number-3.ensures in
    let made = simp to_z-of_z at c.mark.ensures in
    mark_fields _ _ _ _ _ _ _ _ s (record { short = h0.0; text = h0.1 }) (record { short = h1.0; text = h1.1 }) (record { short = h2.0; text = h2.1 }) made
