-- Fields and the spaces between them: a line has one way of being cut into fields.
use Rattle.std.proofs.Common.{◌≡◌, ℕ, ◌+◌, ◌-◌, ◌<◌, Bool, true, false, Decides, Bor, eqb, List, [], ◌∷◌, ◌++◌, length, take, drop, sym, refl, ap, ◌∙◌, subst, arith, length-append, eq-eqb, eqb-true}
use Rattle.std.proofs.lemmas.List.{take_rest, take_all, length-take-le}
use Rattle.std.specs.Bool.{then_some}
use Rattle.std.proofs.lemmas.Bool.{true≢false}
use Rattle.std.proofs.lemmas.Bool.Decides.{nat_tests}
use Rattle.notation.specs.Words.{spaced, Field, Splits}
use Rattle.reading.proofs.Cutting.{Free, front_free, free_front, free_whole, cut_at}
use Rattle.reading.specs.Fields.{NoFields, Two}
use Rattle.reading.specs.Parts.{length_before}

abbrev Solid : List ℕ → Type 0
Solid bs = Free 32 bs

-- where the field in front ends, if there is one
pub front_length : (xs f rest : List ℕ) → Field f → xs ≡ f ++ (32 ∷ rest) → (0 < length_before 32 xs) × (length_before 32 xs < length xs)
front_length xs f rest h e =
    let s = ap (length_before 32) e ∙ free_front 32 f rest h.solid in
    let l = ap length e ∙ length-append f (32 ∷ rest) in
    let some = h.some in
    (omega arith, omega arith)

-- a field in front is one
pub one_split : (f g r s : List ℕ) → Solid f → Solid g → f ++ (32 ∷ r) ≡ g ++ (32 ∷ s) → (f ≡ g) × (r ≡ s)
one_split [] [] r s h k e = (refl, ap (drop 1) e)
one_split [] (y ∷ g) r s h k e = let w : 32 ≡ y = cc in let v = k.0 in let no : ⊥ = grind (arith, nat_tests) in absurd no
one_split (x ∷ f) [] r s h k e = let w : x ≡ 32 = cc in let v = h.0 in let no : ⊥ = grind (arith, nat_tests) in absurd no
one_split (x ∷ f) (y ∷ g) r s h k e =
    let w : x ≡ y = cc in
    let t = one_split f g r s h.1 k.1 (ap (drop 1) e) in
    (λ i. w i ∷ t.0 i, t.1)

-- with a field in front there is one more
pub one_more : (xs f rest g : List ℕ) (gs : List (List ℕ)) → Field f → xs ≡ f ++ (32 ∷ rest) → Splits rest (g ∷ gs) → Splits xs (f ∷ g ∷ gs)
one_more xs f rest g gs h e s = record { text = e ∙ ap (λ (ys : List ℕ). f ++ (32 ∷ ys)) s.text; fields = (h, s.fields) }

pub one_field : (xs : List ℕ) → Field xs → Splits xs (xs ∷ [])
one_field xs h = record { text = refl; fields = (h, tt) }

-- and no more
pub no_more : (xs f rest : List ℕ) (n : ℕ) → Field f → xs ≡ f ++ (32 ∷ rest) → 0 < n → NoFields rest n → NoFields xs (n + 1)
no_more xs f rest n h e p none [] l s = let no : ⊥ = omega arith in absurd no
no_more xs f rest n h e p none (g ∷ []) l s = let no : ⊥ = omega arith in absurd no
no_more xs f rest n h e p none (g ∷ k ∷ gs) l s =
    let t = one_split f g rest (spaced (k ∷ gs)) h.solid s.fields.0.solid (sym e ∙ s.text) in
    none (k ∷ gs) (omega arith) (record { text = t.1; fields = s.fields.1 })

-- without a field in front there are no two
pub no_two : (xs : List ℕ) (n : ℕ) → ((f rest : List ℕ) → Field f → xs ≡ f ++ (32 ∷ rest) → ⊥) → 0 < n → NoFields xs (n + 1)
no_two xs n none p [] l s = let no : ⊥ = omega arith in absurd no
no_two xs n none p (g ∷ []) l s = let no : ⊥ = omega arith in absurd no
no_two xs n none p (g ∷ k ∷ gs) l s = none g (spaced (k ∷ gs)) s.fields.0 s.text

pub not_one : (xs : List ℕ) → (Field xs → ⊥) → NoFields xs 1
not_one xs none [] l s = let no : ⊥ = omega arith in absurd no
not_one xs none (g ∷ []) l s = none (subst Field (sym s.text) s.fields.0)
not_one xs none (g ∷ k ∷ gs) l s = let no : ⊥ = omega arith in absurd no

-- two, as what follows the field in front is one or not
pub two_told : (xs : List ℕ) (p : Bor (List ℕ) × Bor (List ℕ)) (b : Bool) → Field p.0.now → xs ≡ p.0.now ++ (32 ∷ p.1.now) → Decides b (Field p.1.now) → Two xs (then_some b p)
two_told xs p true h e d = one_more xs p.0.now p.1.now p.1.now [] h e (one_field p.1.now (d.0 refl))
two_told xs p false h e d = no_more xs p.0.now p.1.now 1 h e (omega arith) (not_one p.1.now (λ f. true≢false (sym (d.1 f))))

-- the bytes up to the first space, where there are some and a space follows
pub taken_field : (xs : List ℕ) (n : ℕ) → n ≡ length_before 32 xs → (n ≡ 0 → ⊥) → n < length xs → Field (take n xs) × (xs ≡ take n xs ++ (32 ∷ take (length xs - (n + 1)) (drop (n + 1) xs)))
taken_field xs n e h l =
    let k : length_before 32 xs < length xs = omega arith in
    let t : take n xs ≡ take (length_before 32 xs) xs = ap (λ (i : ℕ). take i xs) e in
    let r : take (length xs - (n + 1)) (drop (n + 1) xs) ≡ drop (length_before 32 xs + 1) xs = take_rest xs (n + 1) ∙ ap (λ (i : ℕ). drop (i + 1) xs) e in (
      record { some = omega (arith, ap length t, length-take-le (length_before 32 xs) xs (omega arith)); solid = subst Solid (sym t) (front_free 32 xs) },
      cut_at 32 xs k ∙ ap (λ (ys : List ℕ). ys ++ (32 ∷ drop (length_before 32 xs + 1) xs)) (sym t) ∙ ap (λ (ys : List ℕ). take n xs ++ (32 ∷ ys)) (sym r),
    )

-- bytes are a field if no space ends the count of them before their end
pub whole_field : (xs : List ℕ) (n : ℕ) → n ≡ length_before 32 xs → 0 < length xs → eqb n (length xs) ≡ true → Field xs
whole_field xs n e p t =
    let k : n ≡ length xs = eqb-true n (length xs) t in
    record { some = p; solid = subst Solid (take_all (length_before 32 xs) xs (omega arith)) (front_free 32 xs) }

pub field_whole : (xs : List ℕ) (n : ℕ) → n ≡ length_before 32 xs → Field xs → eqb n (length xs) ≡ true
field_whole xs n e f = eq-eqb n (length xs) (e ∙ free_whole 32 xs f.solid)
