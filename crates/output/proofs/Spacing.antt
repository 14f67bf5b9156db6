-- Numbers behind a word, with a space before each.
use Rattle.std.proofs.Common.{◌≡◌, ℕ, ◌+◌, ◌≤◌, List, [], ◌∷◌, ◌++◌, map, length, ℤ, SFits, w32, w64, sym, refl, ap, append-nil, append_assoc, arith, length-append, rules}
use Rattle.std.specs.Fmt.{signed_decimal}
use Rattle.std.specs.List.{flat_map}
use Rattle.std.proofs.lemmas.Fmt.{length_signed_le}
use Rattle.std.proofs.lemmas.List.Concat.{flat_map-append}
use Rattle.notation.specs.Words.{spaced}

abbrev pub field : ℤ → List ℕ
field z = 32 ∷ signed_decimal z

pub spaced_is : (w : List ℕ) (zs : List ℤ) → spaced (w ∷ map signed_decimal zs) ≡ w ++ flat_map field zs
spaced_is w [] = sym (append-nil w)
spaced_is w (z ∷ zs) = ap (λ (bs : List ℕ). w ++ (32 ∷ bs)) (spaced_is (signed_decimal z) zs)

-- a number of 32 bits has at most 11 bytes, and one of 64 at most 20
pub field_length : (z : ℤ) → SFits w32 z → length (field z) ≤ 12
field_length z h = search (rules, length_signed_le 10)

pub wide_length : (z : ℤ) → SFits w64 z → length (field z) ≤ 21
wide_length z h = search (rules, length_signed_le 19)

pub longer : (z : ℤ) (old new : List ℕ) → SFits w64 z → new ≡ field z ++ old → length new ≤ length old + 21
longer z old new h e = omega (arith, wide_length z h, ap length e, length-append (field z) old)

-- one number more, behind the others
pub fields_more : (zs : List ℤ) (z : ℤ) (line : List ℕ) → flat_map field (zs ++ (z ∷ [])) ++ line ≡ flat_map field zs ++ (field z ++ line)
fields_more zs z line = rw (flat_map-append field zs (z ∷ []), append-nil, append_assoc) refl
