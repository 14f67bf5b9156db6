-- Numbers with a sign, from their first byte and the rest.
use Rattle.std.proofs.Common.{◌≡◌, ℕ, suc, ◌^◌, ◌<◌, ◌≤◌, ◌⊎◌, List, ◌∷◌, length, get_or, drop, ℤ, pos, negsuc, decimal, sym, ap, ◌∙◌, inl, inr, arith}
use Rattle.std.specs.Fmt.{signed_decimal}
use Rattle.std.proofs.lemmas.Str.Parse.{digit_at}
use Rattle.std.proofs.lemmas.Fmt.{decimal_injective}
use Rattle.notation.specs.Numbers.{Short}
use Rattle.reading.proofs.Digits.{natural_length, natural_digits}

-- a text that begins with a minus is of no number, if the rest is of none above 0
pub no_minus : (s rest : List ℕ) → s ≡ 45 ∷ rest → ((n : ℕ) → 0 < n → n < 10 ^ 9 → rest ≡ decimal n → ⊥) → (z : ℤ) → Short z → s ≡ signed_decimal z → ⊥
no_minus s rest opens none (pos n) h e =
    let d = digit_at s 0 (natural_digits n s h e) (natural_length n s h e).0 in
    let f = ap (λ (x : List ℕ). get_or x 0 0) opens in
    omega arith
no_minus s rest opens none (negsuc n) h e = none (suc n) (omega arith) h (ap (drop 1) (sym opens ∙ e))

pub no_zero : (rest : List ℕ) → rest ≡ decimal 0 → (n : ℕ) → 0 < n → n < 10 ^ 9 → rest ≡ decimal n → ⊥
no_zero rest z n p h e = let same = decimal_injective 0 n (omega arith) (omega arith) (sym z ∙ e) in omega arith

-- the text of a number is not empty, and opens with a minus or a digit
pub opens_number : (s : List ℕ) (z : ℤ) → Short z → s ≡ signed_decimal z → (0 < length s) × ((get_or s 0 0 ≡ 45) ⊎ ((48 ≤ get_or s 0 0) × (get_or s 0 0 ≤ 57)))
opens_number s (pos n) h e =
    let l = natural_length n s h e in
    (l.0, inr (digit_at s 0 (natural_digits n s h e) l.0))
opens_number s (negsuc n) h e = (omega (arith, ap length e), inl (ap (λ (x : List ℕ). get_or x 0 0) e))
