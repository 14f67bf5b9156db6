-- What reading the numbers behind a word answers.
use Rattle.std.specs.Prelude.{◌≡◌, ℕ, true, false, ◌⊎◌, List, [], ◌∷◌, map, length, ℤ, pos, Ok, Err, Result, ◌≢◌}
use Rattle.std.specs.Fmt.{signed_decimal}
use Rattle.std.specs.List.{AllByRecursion}
use Rattle.lattice.specs.Refusals.{number}
use Rattle.lattice.specs.declared.refusal.Refusal.{Refusal}
use Rattle.elements.specs.declared.ink.Ink.{Ink}
use Rattle.elements.specs.declared.point.Point.{Point}
use Rattle.segments.specs.Segments.{upper_x, upper_y}
use Rattle.segments.specs.declared.segment.Segment.{Segment}
use Rattle.notation.specs.Numbers.{Short}
use Rattle.notation.specs.Words.{spaced, Splits}
use Rattle.commands.specs.Meanings.{in_range}
use Rattle.commands.specs.declared.Pick.{Pick}

abbrev pub FieldIs : List ℕ → Result ℤ Refusal → Type 0
FieldIs bs (Ok z) = Short z × (bs ≡ signed_decimal z)
FieldIs bs (Err e) = (number e ≡ 5) × ((z : ℤ) → Short z → bs ≢ signed_decimal z)

-- the numbers of a mark, and of a cut in either order of its ends
abbrev pub mark_numbers : Ink Point → List ℤ
mark_numbers m = pos m.ink ∷ m.under.x ∷ m.under.y ∷ []

abbrev pub cut_numbers : Ink Segment → List ℤ
cut_numbers c = pos c.ink ∷ c.under.x ∷ c.under.y ∷ upper_x c.under ∷ upper_y c.under ∷ []

abbrev pub cut_numbers_back : Ink Segment → List ℤ
cut_numbers_back c = pos c.ink ∷ upper_x c.under ∷ upper_y c.under ∷ c.under.x ∷ c.under.y ∷ []

abbrev pub MarkMade : ℤ → ℤ → ℤ → Result (Ink Point) Refusal → Type 0
MarkMade i x y (Ok m) = i ∷ x ∷ y ∷ [] ≡ mark_numbers m
MarkMade i x y (Err e) = (number e ≡ 6) × (in_range (i ∷ x ∷ y ∷ []) ≡ false)

abbrev pub CutMade : ℤ → ℤ → ℤ → ℤ → ℤ → Result (Ink Segment) Refusal → Type 0
CutMade i x y p q (Ok c) = (i ∷ x ∷ y ∷ p ∷ q ∷ [] ≡ cut_numbers c) ⊎ (i ∷ x ∷ y ∷ p ∷ q ∷ [] ≡ cut_numbers_back c)
CutMade i x y p q (Err e) =
    ((number e ≡ 6) × (in_range (i ∷ x ∷ y ∷ p ∷ q ∷ []) ≡ false))
    ⊎ ((number e ≡ 7) × (in_range (i ∷ x ∷ y ∷ p ∷ q ∷ []) ≡ true) × (x ≡ p) × (y ≡ q))

-- the bytes are so many fields, and not all of them numbers
abbrev pub NotNumbers : List ℕ → ℕ → Type 0
NotNumbers bs n = (fs : List (List ℕ)) × (length fs ≡ n) × Splits bs fs × ((zs : List ℤ) → AllByRecursion Short zs → fs ≢ map signed_decimal zs)

-- the bytes are these numbers, with one space between each two
pub record NumbersAre (bs : List ℕ) (zs : List ℤ) : Type 0 where
  pub short : AllByRecursion Short zs
  pub text : bs ≡ spaced (map signed_decimal zs)

abbrev pub FieldFault : ℕ → List ℕ → ℕ → Type 0
FieldFault n bs e =
    ((e ≡ 4) × ((fs : List (List ℕ)) → length fs ≡ n → Splits bs fs → ⊥))
    ⊎ ((e ≡ 5) × NotNumbers bs n)

abbrev pub MarkFields : List ℕ → Result (Ink Point) Refusal → Type 0
MarkFields bs (Ok m) = NumbersAre bs (mark_numbers m)
MarkFields bs (Err e) = FieldFault 3 bs (number e) ⊎ ((number e ≡ 6) × (zs : List ℤ) × (length zs ≡ 3) × NumbersAre bs zs × (in_range zs ≡ false))

abbrev pub CutFields : List ℕ → Result (Ink Segment) Refusal → Type 0
CutFields bs (Ok c) = NumbersAre bs (cut_numbers c) ⊎ NumbersAre bs (cut_numbers_back c)
CutFields bs (Err e) =
    FieldFault 5 bs (number e) ⊎ ((number e ≡ 6) × (zs : List ℤ) × (length zs ≡ 5) × NumbersAre bs zs × (in_range zs ≡ false))
    ⊎ ((number e ≡ 7) × (i x y : ℤ) × NumbersAre bs (i ∷ x ∷ y ∷ x ∷ y ∷ []) × (in_range (i ∷ x ∷ y ∷ x ∷ y ∷ []) ≡ true))

abbrev pub PickFields : List ℕ → Result Pick Refusal → Type 0
PickFields bs (Ok p) = NumbersAre bs (p.rule ∷ p.place ∷ [])
PickFields bs (Err e) = FieldFault 2 bs (number e)
