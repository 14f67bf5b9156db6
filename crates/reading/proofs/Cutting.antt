-- Bytes up to the first one of a value, and the cut that it makes.
use Rattle.std.proofs.Common.{◌≡◌, ℕ, suc, ◌+◌, ◌<◌, Bool, true, false, cond, eqb, List, [], ◌∷◌, ◌++◌, length, take, drop, refl, ap, ◌∙◌, one-add, arith}
use Rattle.std.specs.List.{AllByRecursion}
use Rattle.std.proofs.lemmas.Bool.Decides.{nat_tests}
use Rattle.reading.specs.Parts.{length_before}

module _ (k : ℕ) where
  abbrev pub free_length : List ℕ → ℕ
  free_length bs = length_before k bs

  abbrev pub Free : List ℕ → Type 0
  Free bs = AllByRecursion (λ b. eqb b k ≡ false) bs

  front_step : (x : ℕ) (xs : List ℕ) (b : Bool) → eqb x k ≡ b → Free (take (free_length xs) xs) → Free (take (cond (cond b false true) (1 + free_length xs) 0) (x ∷ xs))
  front_step x xs true e h = tt
  front_step x xs false e h = rw one-add (e, h)

  -- the bytes before the first k have no k
  pub front_free : (xs : List ℕ) → Free (take (free_length xs) xs)
  front_free [] = tt
  front_free (x ∷ xs) = front_step x xs (eqb x k) refl (front_free xs)

  cut_step : (x : ℕ) (xs : List ℕ) (b : Bool) → eqb x k ≡ b → cond (cond b false true) (1 + free_length xs) 0 < suc (length xs) → (free_length xs < length xs → xs ≡ take (free_length xs) xs ++ (k ∷ drop (free_length xs + 1) xs)) → x ∷ xs ≡ take (cond (cond b false true) (1 + free_length xs) 0) (x ∷ xs) ++ (k ∷ drop (cond (cond b false true) (1 + free_length xs) 0 + 1) (x ∷ xs))
  cut_step x xs true e l h = let j : x ≡ k = grind (arith, nat_tests) in ap (λ (y : ℕ). y ∷ xs) j
  cut_step x xs false e l h =
      let s : 1 + free_length xs + 1 ≡ suc (free_length xs + 1) = omega arith in
      rw (s, one-add) (ap (λ (ys : List ℕ). x ∷ ys) (h (omega arith)))

  -- and where it stands, the bytes are cut
  pub cut_at : (xs : List ℕ) → free_length xs < length xs → xs ≡ take (free_length xs) xs ++ (k ∷ drop (free_length xs + 1) xs)
  cut_at [] h = let no : ⊥ = omega arith in absurd no
  cut_at (x ∷ xs) h = cut_step x xs (eqb x k) refl h (cut_at xs)

  pub free_front : (f rest : List ℕ) → Free f → free_length (f ++ (k ∷ rest)) ≡ length f
  free_front [] rest h = let e : eqb k k ≡ true = grind (arith, nat_tests) in simp e
  free_front (x ∷ f) rest h = let e = h.0 in simp e (ap (λ (n : ℕ). 1 + n) (free_front f rest h.1) ∙ one-add (length f))

  pub free_whole : (f : List ℕ) → Free f → free_length f ≡ length f
  free_whole [] h = refl
  free_whole (x ∷ f) h = let e = h.0 in simp e (ap (λ (n : ℕ). 1 + n) (free_whole f h.1) ∙ one-add (length f))
