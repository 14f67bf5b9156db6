-- A stretch of a list, by ends that may pass the list's own.
use Rattle.std.proofs.Common.{◌≡◌, ℕ, ◌-◌, ◌<◌, ◌≤◌, min, max, ◌⊎◌, List, [], length, take, drop, sym, ap, ◌∙◌, ⊎_elim, arith, length-drop}
use Rattle.std.proofs.lemmas.List.{drop_all, take_all}

-- either bound of two
upto : (a b : ℕ) → (a ≤ b) ⊎ (b < a)
upto a b = grind arith

take_none : {X : Type 0} (n : ℕ) (xs : List X) → xs ≡ [] → take n xs ≡ []
take_none n xs e = take_all n xs (omega (arith, ap length e)) ∙ e

pub stretch_clipped : {X : Type 0} (xs : List X) (from to f t : ℕ) → f ≡ min from (length xs) → t ≡ max (min to (length xs)) f → take (t - f) (drop f xs) ≡ take (to - from) (drop from xs)
stretch_clipped xs from to f t e g =
    ⊎_elim inside outside (upto from (length xs)) where
      within : from ≤ length xs → to ≤ length xs → take (t - f) (drop f xs) ≡ take (to - from) (drop from xs)
      within h k = ap (λ (n : ℕ). take n (drop f xs)) (omega arith) ∙ ap (λ (n : ℕ). take (to - from) (drop n xs)) (omega arith)

      beyond : from ≤ length xs → length xs < to → take (t - f) (drop f xs) ≡ take (to - from) (drop from xs)
      beyond h k =
          take_all (t - f) (drop f xs) (omega (arith, length-drop f xs)) ∙ ap (λ (n : ℕ). drop n xs) (omega arith) ∙ sym (take_all (to - from) (drop from xs) (omega (arith, length-drop from xs)))

      inside : from ≤ length xs → take (t - f) (drop f xs) ≡ take (to - from) (drop from xs)
      inside h = ⊎_elim (within h) (beyond h) (upto to (length xs))

      outside : length xs < from → take (t - f) (drop f xs) ≡ take (to - from) (drop from xs)
      outside h = take_none (t - f) (drop f xs) (drop_all f xs (omega arith)) ∙ sym (take_none (to - from) (drop from xs) (drop_all from xs (omega arith)))
