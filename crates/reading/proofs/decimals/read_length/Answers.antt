use Rattle.std.proofs.Common.{◌≡◌, ℕ, ◌^◌, ◌<◌, ◌≤◌, List, length, get_or, take, decimal, sym, ap, ◌∙◌, subst, ⊎_elim, arith, rules, length-take-le, take_all}
use Rattle.std.specs.Char.{digit_value}
use Rattle.std.specs.Str.Parse.{AllDigits, digits_value}
use Rattle.std.proofs.lemmas.Bool.Decides.{nat_tests}
use Rattle.std.proofs.lemmas.Int.Digits.{digits_value_more, digits_more}
use Rattle.std.proofs.lemmas.Str.Parse.{digit_at, digits_value_short}
use Rattle.reading.proofs.Digits.{own, natural_length, natural_first, natural_digits, natural_from}
use Rattle.reading.proofs.decimals.read_length.Goals as goal

pub returns-in_err-first : goal.returns-in_err-first
returns-in_err-first c =
    let none : length c.args.field.now ≤ 0 = search rules in
    rw c.from_residual.ensures (λ n h e. omega (arith, natural_length n _ h e, none))

pub returns-then-field-gt9 : goal.returns-then-field-gt9
returns-then-field-gt9 c = λ n h e. omega (arith, natural_length n _ h e, c.if-field-gt9.true)

pub returns-then-field-gt1 : goal.returns-then-field-gt1
returns-then-field-gt1 c = λ n h e.
    let opens : get_or c.args.field.now 0 0 ≡ 48 = search rules in
    omega (arith, natural_first n _ h e opens)

-- before the ninth digit the value is below 10 ^ 8
low : (s : List ℕ) (i v : ℕ) → i < length s → length s ≤ 9 → (v ≡ digits_value 10 (take i s)) × AllDigits 10 (take i s) → v < 10 ^ 8
low s i v h n inv =
    let b = digits_value_short own (take i s) 8 inv.1 (omega (arith, length-take-le i s (omega arith))) in
    omega arith

pub overflow_mul-value : goal.overflow_mul-value
overflow_mul-value c = omega (arith, low c.args.field.now c.loop-b.b-index c.loop-b.value c.loop-b-test.true c.if-field-gt9.false c.loop-b.invariant)

pub returns-in_err-value : goal.returns-in_err-value
returns-in_err-value c =
    rw c.from_residual-in_err-value.ensures (λ n h e.
    let same : c.from.result ≡ get_or c.args.field.now c.loop-b.b-index 0 = search rules in
    let d = digit_at _ c.loop-b.b-index (natural_digits n _ h e) c.loop-b-test.true in
    c.in_err-value.ensures.value (grind (arith, nat_tests)))

pub overflow_add-value : goal.overflow_add-value
overflow_add-value c =
    omega (arith, low c.args.field.now c.loop-b.b-index c.loop-b.value c.loop-b-test.true c.if-field-gt9.false c.loop-b.invariant, c.in_ok-value.ensures.value)

pub loop-b-preserved : goal.loop-b-preserved
loop-b-preserved c =
    let same : c.from.result ≡ get_or c.args.field.now c.loop-b.b-index 0 = search rules in
    let d = c.in_ok-value.ensures.value in
    let v = ap digit_value same in
    let m = digits_value_more 10 c.args.field.now c.loop-b.b-index c.loop-b-test.true in (
      omega (arith, m, d, v, c.loop-b.invariant.0),
      digits_more 10 c.args.field.now c.loop-b.b-index c.loop-b-test.true c.loop-b.invariant.1 (omega (arith, d, v)),
    )

pub returns : goal.returns
returns c =
    let t = take_all c.loop-b.b-index c.args.field.now c.loop-b-test.false in
    let opens : get_or c.args.field.now 0 0 ≡ c.in_ok-first.field-0.now = search rules in
    let some : 0 < length c.args.field.now = search rules in
    let first : get_or c.args.field.now 0 0 ≡ 48 → length c.args.field.now ≡ 1 = λ z. ⊎_elim (λ w. omega (arith, w, some)) (λ w. absurd (w (sym opens ∙ z))) c.else-first-eq48.either in
    let f = natural_from c.args.field.now (subst (AllDigits 10) t c.loop-b.invariant.1) some c.if-field-gt9.false first in
    let e : c.loop-b.value ≡ digits_value 10 c.args.field.now = c.loop-b.invariant.0 ∙ ap (digits_value 10) t in
    (omega (arith, e, f.0), f.1 ∙ ap decimal (sym e))
