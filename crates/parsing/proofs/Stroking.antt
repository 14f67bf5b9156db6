-- Lines that a word opens: what is behind it decides what they are.
use Rattle.std.proofs.Common.{◌≡◌, ℕ, suc, ◌<◌, true, false, ◌⊎◌, Ok, Err, MatchResult, Result, List, [], ◌∷◌, ◌++◌, map, length, get_or, drop, ℤ, codes, sym, refl, ap, ◌∙◌, inl, inr, ⊎_elim, arith}
use Rattle.std.specs.Fmt.{signed_decimal}
use Rattle.std.specs.List.{AllByRecursion}
use Rattle.notation.specs.Commands.{command}
use Rattle.notation.specs.Numbers.{Short}
use Rattle.notation.specs.Words.{spaced, Field, Splits}
use Rattle.lattice.specs.Refusals.{number}
use Rattle.lattice.specs.declared.refusal.Refusal.{Refusal}
use Rattle.elements.specs.declared.ink.Ink.{Ink}
use Rattle.elements.specs.declared.point.Point.{Point}
use Rattle.segments.specs.declared.segment.Segment.{Segment}
use Rattle.rulebook.specs.declared.stroke.Stroke.{Stroke}
use Rattle.rulebook.specs.declared.stroke.Stroke.TheVariants.{Mark, Cut}
use Rattle.commands.specs.Meanings.{Formed, Numeric, in_range, StrokeFault, StrokeIs, SideIs, StepIs}
use Rattle.commands.specs.declared.Pick.{Pick}
use Rattle.commands.specs.declared.SideLine.{SideLine}
use Rattle.commands.specs.declared.SideLine.TheVariants.{Left, Right}
use Rattle.commands.specs.declared.StepLine.{StepLine}
use Rattle.commands.specs.declared.StepLine.TheVariants as step
use Rattle.parsing.specs.Strokes.{FieldFault, NumbersAre, MarkFields, CutFields, PickFields}
use Rattle.parsing.proofs.Numbering.{splits_same, numbers_split}

-- the fields behind a word
behind : (w line rest : List ℕ) (n : ℕ) → 0 < n → ((f r : List ℕ) → w ++ (32 ∷ f) ≡ w ++ (32 ∷ r) → f ≡ r) → line ≡ w ++ (32 ∷ rest) → Formed w n line → (fs : List (List ℕ)) × (length fs ≡ n) × Splits rest fs
behind w line rest n p cut e f = go f.fields f.many f.each f.text where
  go : (fs : List (List ℕ)) → length fs ≡ n → AllByRecursion Field fs → line ≡ spaced (w ∷ fs) → (gs : List (List ℕ)) × (length gs ≡ n) × Splits rest gs
  go [] m h t = let no : ⊥ = omega arith in absurd no
  go (g ∷ gs) m h t = (g ∷ gs, m, record { text = cut rest (spaced (g ∷ gs)) (sym e ∙ t); fields = h })

-- and the line with them
formed : (w line rest : List ℕ) (n : ℕ) (fs : List (List ℕ)) → 0 < n → length fs ≡ n → Splits rest fs → line ≡ w ++ (32 ∷ rest) → Formed w n line
formed w line rest n [] p m s e = let no : ⊥ = omega arith in absurd no
formed w line rest n (f ∷ fs) p m s e = record { fields = f ∷ fs; many = m; each = s.fields; text = e ∙ ap (λ (r : List ℕ). w ++ (32 ∷ r)) s.text }

length_signed : (zs : List ℤ) → length (map signed_decimal zs) ≡ length zs
length_signed [] = refl
length_signed (z ∷ zs) = ap suc (length_signed zs)

numbers_behind : (w line rest : List ℕ) (n : ℕ) → 0 < n → ((f r : List ℕ) → w ++ (32 ∷ f) ≡ w ++ (32 ∷ r) → f ≡ r) → line ≡ w ++ (32 ∷ rest) → (m : Numeric w n line) → Splits rest (map signed_decimal m.numbers)
numbers_behind w line rest n p cut e m = go m.numbers m.many m.each m.text where
  go : (zs : List ℤ) → length zs ≡ n → AllByRecursion Short zs → line ≡ command w zs → Splits rest (map signed_decimal zs)
  go [] k h t = let no : ⊥ = omega arith in absurd no
  go (z ∷ zs) k h t = numbers_split rest (z ∷ zs) h (cut rest (spaced (map signed_decimal (z ∷ zs))) (sym e ∙ t))

numeric : (w line rest : List ℕ) (n : ℕ) (zs : List ℤ) → 0 < n → length zs ≡ n → NumbersAre rest zs → line ≡ w ++ (32 ∷ rest) → (m : Numeric w n line) × (m.numbers ≡ zs)
numeric w line rest n [] p k a e = let no : ⊥ = omega arith in absurd no
numeric w line rest n (z ∷ zs) p k a e = (record { numbers = z ∷ zs; many = k; each = a.short; text = e ∙ ap (λ (r : List ℕ). w ++ (32 ∷ r)) a.text }, refl)

-- faults of the fields behind a word are faults of the line
pub no_form : (w line rest : List ℕ) (n : ℕ) → 0 < n → ((f r : List ℕ) → w ++ (32 ∷ f) ≡ w ++ (32 ∷ r) → f ≡ r) → line ≡ w ++ (32 ∷ rest) → ((fs : List (List ℕ)) → length fs ≡ n → Splits rest fs → ⊥) → Formed w n line → ⊥
no_form w line rest n p cut e none f = let b = behind w line rest n p cut e f in none b.0 b.1 b.2

pub no_numeric : (w line rest : List ℕ) (n : ℕ) (fs : List (List ℕ)) → 0 < n → ((f r : List ℕ) → w ++ (32 ∷ f) ≡ w ++ (32 ∷ r) → f ≡ r) → line ≡ w ++ (32 ∷ rest) → length fs ≡ n → Splits rest fs → ((zs : List ℤ) → AllByRecursion Short zs → fs ≡ map signed_decimal zs → ⊥) → Numeric w n line → ⊥
no_numeric w line rest n fs p cut e k s none m =
    none m.numbers m.each (splits_same rest fs (map signed_decimal m.numbers) s (numbers_behind w line rest n p cut e m) (k ∙ sym m.many ∙ sym (length_signed m.numbers)))

-- a line has one first byte
other_form : (w line rest : List ℕ) (v : List ℕ) (n a b : ℕ) → (a ≡ b → ⊥) → ((r : List ℕ) → get_or (w ++ r) 0 0 ≡ a) → ((fs : List (List ℕ)) → get_or (spaced (v ∷ fs)) 0 0 ≡ b) → line ≡ w ++ (32 ∷ rest) → Formed v n line → ⊥
other_form w line rest v n a b apart first second e f =
    apart (sym (first (32 ∷ rest)) ∙ sym (ap (λ (l : List ℕ). get_or l 0 0) e) ∙ ap (λ (l : List ℕ). get_or l 0 0) f.text ∙ second f.fields)

other_numeric : (w line rest : List ℕ) (v : List ℕ) (n a b : ℕ) → (a ≡ b → ⊥) → ((r : List ℕ) → get_or (w ++ r) 0 0 ≡ a) → ((fs : List (List ℕ)) → get_or (spaced (v ∷ fs)) 0 0 ≡ b) → line ≡ w ++ (32 ∷ rest) → Numeric v n line → ⊥
other_numeric w line rest v n a b apart first second e m =
    apart (sym (first (32 ∷ rest)) ∙ sym (ap (λ (l : List ℕ). get_or l 0 0) e) ∙ ap (λ (l : List ℕ). get_or l 0 0) m.text ∙ second (map signed_decimal m.numbers))

mark_first : (fs : List (List ℕ)) → get_or (spaced (codes "mark" ∷ fs)) 0 0 ≡ 109
mark_first [] = refl
mark_first (f ∷ fs) = refl

cut_first : (fs : List (List ℕ)) → get_or (spaced (codes "cut" ∷ fs)) 0 0 ≡ 99
cut_first [] = refl
cut_first (f ∷ fs) = refl

pub mark_fault : (line rest : List ℕ) (n : ℕ) → line ≡ codes "mark " ++ rest → FieldFault 3 rest n ⊎ ((n ≡ 6) × (zs : List ℤ) × (length zs ≡ 3) × NumbersAre rest zs × (in_range zs ≡ false)) → StrokeFault line n
mark_fault line rest n e (inl (inl h)) =
    inl (h.0, λ f. ⊎_elim (no_form (codes "mark") line rest 3 (omega arith) (λ a b k. ap (drop 5) k) e h.1) (other_form (codes "mark") line rest (codes "cut") 5 109 99 (λ z. omega (arith, z)) (λ r. refl) cut_first e) f)
mark_fault line rest n e (inl (inr h)) =
    let s = h.1 in
    inr (inl (
      h.0,
      inl (formed (codes "mark") line rest 3 s.0 (omega arith) s.1 s.2 e),
      λ m. ⊎_elim (no_numeric (codes "mark") line rest 3 s.0 (omega arith) (λ a b k. ap (drop 5) k) e s.1 s.2 s.3) (other_numeric (codes "mark") line rest (codes "cut") 5 109 99 (λ z. omega (arith, z)) (λ r. refl) cut_first e) m,
    ))
mark_fault line rest n e (inr h) =
    let m = numeric (codes "mark") line rest 3 h.1 (omega arith) h.2 h.3 e in
    inr (inr (inl (h.0, inl (m.0, ap in_range m.1 ∙ h.4))))

pub cut_fault : (line rest : List ℕ) (n : ℕ) → line ≡ codes "cut " ++ rest
    → FieldFault 5 rest n ⊎ ((n ≡ 6) × (zs : List ℤ) × (length zs ≡ 5) × NumbersAre rest zs × (in_range zs ≡ false)) ⊎ ((n ≡ 7) × (i x y : ℤ) × NumbersAre rest (i ∷ x ∷ y ∷ x ∷ y ∷ []) × (in_range (i ∷ x ∷ y ∷ x ∷ y ∷ []) ≡ true))
    → StrokeFault line n
cut_fault line rest n e (inl (inl h)) =
    inl (h.0, λ f. ⊎_elim (other_form (codes "cut") line rest (codes "mark") 3 99 109 (λ z. omega (arith, z)) (λ r. refl) mark_first e) (no_form (codes "cut") line rest 5 (omega arith) (λ a b k. ap (drop 4) k) e h.1) f)
cut_fault line rest n e (inl (inr h)) =
    let s = h.1 in
    inr (inl (
      h.0,
      inr (formed (codes "cut") line rest 5 s.0 (omega arith) s.1 s.2 e),
      λ m. ⊎_elim (other_numeric (codes "cut") line rest (codes "mark") 3 99 109 (λ z. omega (arith, z)) (λ r. refl) mark_first e) (no_numeric (codes "cut") line rest 5 s.0 (omega arith) (λ a b k. ap (drop 4) k) e s.1 s.2 s.3) m,
    ))
cut_fault line rest n e (inr (inl h)) =
    let m = numeric (codes "cut") line rest 5 h.1 (omega arith) h.2 h.3 e in
    inr (inr (inl (h.0, inr (m.0, ap in_range m.1 ∙ h.4))))
cut_fault line rest n e (inr (inr h)) =
    inr (inr (inr (h.0, (h.1, h.2, h.3, e ∙ ap (λ (r : List ℕ). codes "cut " ++ r) h.4.text, h.5))))

-- what is behind the word, told of the line
pub mark_told : (line rest : List ℕ) (q : Result (Ink Point) Refusal) (r : Result (Stroke (Ink Point) (Ink Segment)) Refusal) → line ≡ codes "mark " ++ rest → MarkFields rest q
    → MatchResult q (λ m. r ≡ Ok (Mark m)) (λ e. r ≡ Err e) → StrokeIs line r
mark_told line rest (Ok m) r e h k = rw k (e ∙ ap (λ (l : List ℕ). codes "mark " ++ l) h.text)
mark_told line rest (Err f) r e h k = rw k (mark_fault line rest (number f) e h)

pub cut_told : (line rest : List ℕ) (q : Result (Ink Segment) Refusal) (r : Result (Stroke (Ink Point) (Ink Segment)) Refusal) → line ≡ codes "cut " ++ rest → CutFields rest q
    → MatchResult q (λ c. r ≡ Ok (Cut c)) (λ e. r ≡ Err e) → StrokeIs line r
cut_told line rest (Ok c) r e (inl h) k = rw k (inl (e ∙ ap (λ (l : List ℕ). codes "cut " ++ l) h.text))
cut_told line rest (Ok c) r e (inr h) k = rw k (inr (e ∙ ap (λ (l : List ℕ). codes "cut " ++ l) h.text))
cut_told line rest (Err f) r e h k = rw k (cut_fault line rest (number f) e h)

pub left_told : (line rest : List ℕ) (q : Result (Stroke (Ink Point) (Ink Segment)) Refusal) (r : Result SideLine Refusal) → line ≡ codes "left " ++ rest → StrokeIs rest q
    → MatchResult q (λ s. r ≡ Ok (Left s)) (λ e. r ≡ Err e) → SideIs line r
left_told line rest (Ok s) r e h k = rw k (rest, e, h)
left_told line rest (Err f) r e h k = rw k (inl (rest, inl e, h))

pub right_told : (line rest : List ℕ) (q : Result (Stroke (Ink Point) (Ink Segment)) Refusal) (r : Result SideLine Refusal) → line ≡ codes "right " ++ rest → StrokeIs rest q
    → MatchResult q (λ s. r ≡ Ok (Right s)) (λ e. r ≡ Err e) → SideIs line r
right_told line rest (Ok s) r e h k = rw k (rest, e, h)
right_told line rest (Err f) r e h k = rw k (inl (rest, inr e, h))

-- faults behind `pick`
pub pick_fault : (line rest : List ℕ) (n : ℕ) → line ≡ codes "pick " ++ rest → (line ≡ codes "undo" → ⊥) → FieldFault 2 rest n
    → ((n ≡ 4) × (line ≡ codes "undo" → ⊥) × (Formed (codes "pick") 2 line → ⊥)) ⊎ ((n ≡ 5) × Formed (codes "pick") 2 line × (Numeric (codes "pick") 2 line → ⊥))
pick_fault line rest n e u (inl h) = inl (h.0, u, no_form (codes "pick") line rest 2 (omega arith) (λ a b k. ap (drop 5) k) e h.1)
pick_fault line rest n e u (inr h) =
    let s = h.1 in
    inr (h.0, formed (codes "pick") line rest 2 s.0 (omega arith) s.1 s.2 e, no_numeric (codes "pick") line rest 2 s.0 (omega arith) (λ a b k. ap (drop 5) k) e s.1 s.2 s.3)

pub pick_told : (line rest : List ℕ) (q : Result Pick Refusal) (r : Result StepLine Refusal) → line ≡ codes "pick " ++ rest → (line ≡ codes "undo" → ⊥) → PickFields rest q
    → MatchResult q (λ p. r ≡ Ok (step.Pick p)) (λ e. r ≡ Err e) → StepIs line r
pick_told line rest (Ok p) r e u h k = rw k (e ∙ ap (λ (l : List ℕ). codes "pick " ++ l) h.text, h.short.0, h.short.1.0)
pick_told line rest (Err f) r e u h k = rw k (pick_fault line rest (number f) e u h)
