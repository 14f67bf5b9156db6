-- Fields that are numbers, and those that are not.
use Rattle.std.proofs.Common.{◌≡◌, ℕ, zero, suc, ◌<◌, ◌≤◌, false, eqb, List, [], ◌∷◌, map, length, get_or, ℤ, pos, negsuc, decimal, sym, refl, ap, ◌∙◌, arith}
use Rattle.std.specs.Str.Parse.{AllDigits}
use Rattle.std.specs.Fmt.{signed_decimal}
use Rattle.std.specs.List.{AllByRecursion}
use Rattle.std.proofs.lemmas.Bool.Decides.{nat_tests}
use Rattle.std.proofs.lemmas.Str.Parse.{digit_at}
use Rattle.notation.specs.Numbers.{Short}
use Rattle.notation.specs.Words.{spaced, Field, Splits}
use Rattle.reading.proofs.Digits.{natural_length, natural_digits}
use Rattle.reading.proofs.Splitting.{one_split}

-- there is one way to cut bytes into so many fields
pub splits_same : (bs : List ℕ) (fs gs : List (List ℕ)) → Splits bs fs → Splits bs gs → length fs ≡ length gs → fs ≡ gs
splits_same bs [] [] p q e = refl
splits_same bs [] (g ∷ gs) p q e = let no : ⊥ = omega arith in absurd no
splits_same bs (f ∷ fs) [] p q e = let no : ⊥ = omega arith in absurd no
splits_same bs (f ∷ []) (g ∷ []) p q e = ap (λ (x : List ℕ). x ∷ []) (sym p.text ∙ q.text)
splits_same bs (f ∷ []) (g ∷ h ∷ gs) p q e = let no : ⊥ = omega arith in absurd no
splits_same bs (f ∷ k ∷ fs) (g ∷ []) p q e = let no : ⊥ = omega arith in absurd no
splits_same bs (f ∷ k ∷ fs) (g ∷ h ∷ gs) p q e =
    let t = one_split f g (spaced (k ∷ fs)) (spaced (h ∷ gs)) p.fields.0.solid q.fields.0.solid (sym p.text ∙ q.text) in
    let r = splits_same (spaced (k ∷ fs)) (k ∷ fs) (h ∷ gs) (record { text = refl; fields = p.fields.1 }) (record { text = t.1; fields = q.fields.1 }) (omega arith) in
    λ i. t.0 i ∷ r i

digit_solid : (x : ℕ) → 48 ≤ x → eqb x 32 ≡ false
digit_solid x h = grind (arith, nat_tests)

digits_solid : (xs : List ℕ) → AllDigits 10 xs → AllByRecursion (λ b. eqb b 32 ≡ false) xs
digits_solid [] d = tt
digits_solid (x ∷ xs) d = (digit_solid x (digit_at (x ∷ xs) 0 d (omega arith)).0, digits_solid xs d.1)

-- a number's form is a field
pub signed_field : (z : ℤ) → Short z → Field (signed_decimal z)
signed_field (pos n) h = record { some = (natural_length n (decimal n) h refl).0; solid = digits_solid (decimal n) (natural_digits n (decimal n) h refl) }
signed_field (negsuc n) h = record { some = omega arith; solid = (refl, digits_solid (decimal (suc n)) (natural_digits (suc n) (decimal (suc n)) h refl)) }

signed_fields : (zs : List ℤ) → AllByRecursion Short zs → AllByRecursion Field (map signed_decimal zs)
signed_fields [] h = tt
signed_fields (z ∷ zs) h = (signed_field z h.0, signed_fields zs h.1)

pub numbers_split : (bs : List ℕ) (zs : List ℤ) → AllByRecursion Short zs → bs ≡ spaced (map signed_decimal zs) → Splits bs (map signed_decimal zs)
numbers_split bs zs h e = record { text = e; fields = signed_fields zs h }

-- with a field that is no number the fields are no numbers
pub no_numbers : (fs : List (List ℕ)) (k : ℕ) → k < length fs → ((z : ℤ) → Short z → get_or fs k [] ≡ signed_decimal z → ⊥) → (zs : List ℤ) → AllByRecursion Short zs → fs ≡ map signed_decimal zs → ⊥
no_numbers [] k l none zs h e = let no : ⊥ = omega arith in absurd no
no_numbers (f ∷ fs) k l none [] h e = let z : ◌≡◌ {A = ℕ} 0 1 = cc in omega arith
no_numbers (f ∷ fs) zero l none (z ∷ zs) h e = let t : f ≡ signed_decimal z = cc in none z h.0 t
no_numbers (f ∷ fs) (suc k) l none (z ∷ zs) h e = let t : fs ≡ map signed_decimal zs = cc in no_numbers fs k (omega arith) none zs h.1 t
