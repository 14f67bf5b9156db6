-- Marks and cuts from the fields behind a word.
use Rattle.std.proofs.Common.{◌≡◌, ℕ, ◌<◌, Bool, true, false, ◌&&◌, List, [], ◌∷◌, length, get_or, ℤ, pos, Ok, Err, MatchBool, Result, sym, refl, ap, ◌∙◌, subst, inl, inr, arith}
use Rattle.std.specs.Fmt.{signed_decimal}
use Rattle.lattice.specs.Field.{ranged}
use Rattle.lattice.specs.Refusals.{number}
use Rattle.lattice.specs.declared.refusal.Refusal.{Refusal}
use Rattle.elements.specs.Inks.{inks, InkMade}
use Rattle.elements.specs.Points.{PointMade}
use Rattle.elements.specs.declared.ink.Ink.{Ink}
use Rattle.elements.specs.declared.point.Point.{Point}
use Rattle.segments.specs.Segments.{all_ranged, upper_x, upper_y, Spans, SegmentMade}
use Rattle.segments.specs.declared.segment.Segment.{Segment}
use Rattle.notation.specs.Numbers.{Short}
use Rattle.notation.specs.Words.{spaced, Splits}
use Rattle.commands.specs.Meanings.{in_range}
use Rattle.parsing.specs.Strokes.{FieldIs, FieldFault, NumbersAre, MarkMade, CutMade, MarkFields, CutFields, cut_numbers, cut_numbers_back}
use Rattle.parsing.proofs.Numbering.{no_numbers}

-- a field and the number that it is
pub record Is (f : List ℕ) (z : ℤ) : Type 0 where
  pub short : Short z
  pub text : f ≡ signed_decimal z

-- where one field is no number, the fields are not all of them numbers
pub no_number : (bs : List ℕ) (n : ℕ) (fs : List (List ℕ)) (k : ℕ) (e : Refusal) → Splits bs fs → length fs ≡ n → k < length fs → FieldIs (get_or fs k []) (Err e) → FieldFault n bs (number e)
no_number bs n fs k e s m l h = inr (h.0, (fs, m, s, no_numbers fs k l h.1))

three_numbers : (bs a b c : List ℕ) (i x y : ℤ) → Splits bs (a ∷ b ∷ c ∷ []) → Is a i → Is b x → Is c y → NumbersAre bs (i ∷ x ∷ y ∷ [])
three_numbers bs a b c i x y s p q r =
    let pa = p.text in
    let qa = q.text in
    let ra = r.text in
    record { short = (p.short, (q.short, (r.short, tt))); text = s.text ∙ (λ j. spaced (pa j ∷ qa j ∷ ra j ∷ [])) }

five_numbers : (bs a b c d e : List ℕ) (i x y v w : ℤ) → Splits bs (a ∷ b ∷ c ∷ d ∷ e ∷ []) → Is a i → Is b x → Is c y → Is d v → Is e w → NumbersAre bs (i ∷ x ∷ y ∷ v ∷ w ∷ [])
five_numbers bs a b c d e i x y v w s p q r t u =
    let pa = p.text in
    let qa = q.text in
    let ra = r.text in
    let ta = t.text in
    let ua = u.text in
    record { short = (p.short, (q.short, (r.short, (t.short, (u.short, tt))))); text = s.text ∙ (λ j. spaced (pa j ∷ qa j ∷ ra j ∷ ta j ∷ ua j ∷ [])) }

pub mark_fields : (bs a b c : List ℕ) (i x y : ℤ) (r : Result (Ink Point) Refusal) → Splits bs (a ∷ b ∷ c ∷ []) → Is a i → Is b x → Is c y → MarkMade i x y r → MarkFields bs r
mark_fields bs a b c i x y (Ok m) s p q t h = subst (NumbersAre bs) h (three_numbers bs a b c i x y s p q t)
mark_fields bs a b c i x y (Err e) s p q t h = inr (h.0, (i ∷ x ∷ y ∷ []), refl, three_numbers bs a b c i x y s p q t, h.1)

pub cut_fields : (bs a b c d e : List ℕ) (i x y v w : ℤ) (r : Result (Ink Segment) Refusal) → Splits bs (a ∷ b ∷ c ∷ d ∷ e ∷ []) → Is a i → Is b x → Is c y → Is d v → Is e w → CutMade i x y v w r → CutFields bs r
cut_fields bs a b c d e i x y v w (Ok m) s p q t u o (inl h) = inl (subst (NumbersAre bs) h (five_numbers bs a b c d e i x y v w s p q t u o))
cut_fields bs a b c d e i x y v w (Ok m) s p q t u o (inr h) = inr (subst (NumbersAre bs) h (five_numbers bs a b c d e i x y v w s p q t u o))
cut_fields bs a b c d e i x y v w (Err f) s p q t u o (inl h) = inr (inl (h.0, (i ∷ x ∷ y ∷ v ∷ w ∷ []), refl, five_numbers bs a b c d e i x y v w s p q t u o, h.1))
cut_fields bs a b c d e i x y v w (Err f) s p q t u o (inr h) =
    let n = five_numbers bs a b c d e i x y v w s p q t u o in
    let xs = h.2 in
    let ys = h.3 in
    inr (inr (h.0, i, x, y, subst (NumbersAre bs) (λ j. i ∷ x ∷ y ∷ sym xs j ∷ sym ys j ∷ []) n, ap (λ (zs : List ℤ). in_range zs) (λ j. i ∷ x ∷ y ∷ xs j ∷ ys j ∷ []) ∙ h.1))

pub mark_made : (i x y : ℤ) (p : Point) (r : Result (Ink Point) Refusal) → PointMade x y (Ok p) → InkMade i p r → MarkMade i x y r
mark_made i x y p (Ok m) s k =
    let n = sym k.1 in
    let l = sym s.1 ∙ ap (λ (q : Point). q.x) (sym k.2) in
    let o = sym s.2 ∙ ap (λ (q : Point). q.y) (sym k.2) in
    λ j. n j ∷ l j ∷ o j ∷ []
mark_made i x y p (Err f) s k = (k.1, ap (λ (b : Bool). b && (ranged x && (ranged y && true))) k.0)

-- the numbers of a cut are in range if the ink and the four coordinates are
and_five : (a b c d e v : Bool) → a ≡ true → ((b && c) && (d && e)) ≡ v → (a && (b && (c && (d && (e && true))))) ≡ v
and_five true true true true true v p h = h
and_five true true true true false v p h = h
and_five true true true false e v p h = h
and_five true true false d e v p h = h
and_five true false c d e v p h = h
and_five false b c d e v p h = let z : ◌≡◌ {A = ℕ} 0 1 = cc in let no : ⊥ = omega arith in absurd no

pub ranged_five : (i x y p q : ℤ) (v : Bool) → inks i ≡ true → all_ranged x y p q ≡ v → in_range (i ∷ x ∷ y ∷ p ∷ q ∷ []) ≡ v
ranged_five i x y p q v h k = and_five (inks i) (ranged x) (ranged y) (ranged p) (ranged q) v h k

pub cut_refused : (i x y p q : ℤ) (e : Refusal) → inks i ≡ true → SegmentMade x y p q (Err e) → CutMade i x y p q (Err e)
cut_refused i x y p q e h (inl k) = inl (k.0, ranged_five i x y p q false h k.1)
cut_refused i x y p q e h (inr k) = inr (k.0, ranged_five i x y p q true h k.1, k.2, k.3)

spans_numbers : (x y p q : ℤ) (e : Segment) (c : Ink Segment) (i : ℤ) → Spans x y p q e → pos c.ink ≡ i → c.under ≡ e → i ∷ x ∷ y ∷ p ∷ q ∷ [] ≡ cut_numbers c
spans_numbers x y p q e c i s n u =
    let l = sym s.left ∙ ap (λ (t : Segment). t.x) (sym u) in
    let o = sym s.low ∙ ap (λ (t : Segment). t.y) (sym u) in
    let r = sym s.right ∙ ap upper_x (sym u) in
    let h = sym s.high ∙ ap upper_y (sym u) in
    let k = sym n in
    λ j. k j ∷ l j ∷ o j ∷ r j ∷ h j ∷ []

back_numbers : (x y p q : ℤ) (e : Segment) (c : Ink Segment) (i : ℤ) → Spans p q x y e → pos c.ink ≡ i → c.under ≡ e → i ∷ x ∷ y ∷ p ∷ q ∷ [] ≡ cut_numbers_back c
back_numbers x y p q e c i s n u =
    let l = sym s.left ∙ ap (λ (t : Segment). t.x) (sym u) in
    let o = sym s.low ∙ ap (λ (t : Segment). t.y) (sym u) in
    let r = sym s.right ∙ ap upper_x (sym u) in
    let h = sym s.high ∙ ap upper_y (sym u) in
    let k = sym n in
    λ j. k j ∷ r j ∷ h j ∷ l j ∷ o j ∷ []

by_when : (b : Bool) (P Q R : Type 0) → MatchBool b P Q → (P → R) → (Q → R) → R
by_when true P Q R h f g = f h
by_when false P Q R h f g = g h

pub cut_made : (i x y p q : ℤ) (e : Segment) (r : Result (Ink Segment) Refusal) → inks i ≡ true → SegmentMade x y p q (Ok e) → InkMade i e r → CutMade i x y p q r
cut_made i x y p q e (Ok c) h s k = by_when _ _ _ _ s.2 (λ t. inl (spans_numbers x y p q e c i t k.1 k.2)) (λ t. inr (back_numbers x y p q e c i t k.1 k.2))
cut_made i x y p q e (Err f) h s k = let z : ◌≡◌ {A = ℕ} 0 1 = cc in let no : ⊥ = omega arith in absurd no
