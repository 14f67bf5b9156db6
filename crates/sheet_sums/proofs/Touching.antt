-- How many elements of a list one element touches.
use Rattle.std.proofs.Common.{◌≡◌, ℕ, ◌+◌, Bool, true, false, cond, ◌&&◌, ◌⊎◌, List, [], ◌∷◌, Equal, sym, refl, ap, ◌∙◌, inl, inr, ⊎_elim, zero-add, arith}
use lib.Signed.{le_z}
use Rattle.std.specs.Ordering.{is_eq}
use Rattle.std.proofs.lemmas.Bool.{false≢true, and_parts, and_from, cases_Bool}
use Rattle.std.proofs.lemmas.Int.{ints}
use Rattle.kinds.specs.Model.{KindModel}
use Rattle.kinds.specs.Rules.{Rules, Touch}
use Rattle.kinds.proofs.Having.{equal_from}
use Rattle.kinds.proofs.Numbers.{le_from, le_to}
use Rattle.sheets.specs.Cover.{ahead}
use Rattle.sheets.proofs.Ahead.{gap, apart}
use Rattle.sheets.proofs.Order.{Before}

abbrev pub one_if : Bool → ℕ
one_if b = cond b 1 0

pub one_if_not : (b : Bool) (n : ℕ) → b ≡ false → one_if b + n ≡ n
one_if_not b n h = ap (λ t. one_if t + n) h ∙ zero-add n

module _ {E A C : Type 0} (m : KindModel E A C) where
  -- whether d and e overlap or touch
  unfoldable pub touch : E → E → Bool
  touch d e = is_eq (m.order (m.carrier d) (m.carrier e)) && (le_z (m.start d) (m.end e) && le_z (m.start e) (m.end d))

  abbrev pub touching : E → List E → ℕ
  touching e [] = 0
  touching e (x ∷ xs) = one_if (touch e x) + touching e xs

  module _ (r : Rules m) where
    pub touch_from : (d e : E) → touch d e ≡ true → Touch m d e
    unfolding touch
    touch_from d e h =
        let p = and_parts (is_eq (m.order (m.carrier d) (m.carrier e))) _ h in
        let q = and_parts (le_z (m.start d) (m.end e)) (le_z (m.start e) (m.end d)) p.1 in
        record { same = r.ordered.same _ _ (equal_from _ p.0); left = le_from _ _ q.0; right = le_from _ _ q.1 }

    pub touch_to : (d e : E) → Touch m d e → touch d e ≡ true
    unfolding touch
    touch_to d e t =
        let q : m.order (m.carrier d) (m.carrier e) ≡ Equal = ap (λ c. m.order (m.carrier d) c) (sym t.same) ∙ r.ordered.self (m.carrier d) in
        and_from _ _ (ap is_eq q) (and_from _ _ (le_to _ _ t.left) (le_to _ _ t.right))

    pub touch_not : (d e : E) → (Touch m d e → ⊥) → touch d e ≡ false
    touch_not d e h = ⊎_elim (λ t. absurd (h (touch_from d e t))) (λ f. f) (cases_Bool (touch d e))

    pub touch_turn : (d e : E) → Touch m d e → Touch m e d
    touch_turn d e t = record { same = sym t.same; left = t.right; right = t.left }

    -- what stands ahead does not touch
    pub ahead_apart : (d e : E) → ahead m d e ≡ true → Touch m d e → ⊥
    ahead_apart d e h t = let g = gap m r d e h t.same in let u = t.right in omega (arith, ints)

    pub ahead_not : (d e : E) → ahead m d e ≡ true → touch d e ≡ false
    ahead_not d e h = touch_not d e (ahead_apart d e h)

    pub after_not : (d e : E) → ahead m e d ≡ true → touch d e ≡ false
    after_not d e h = touch_not d e (λ t. ahead_apart e d h (touch_turn d e t))

    pub touching_none : (e : E) (xs : List E) → Before m e xs → touching e xs ≡ 0
    touching_none e [] h = refl
    touching_none e (x ∷ xs) h = (λ i. one_if (ahead_not e x h.0 i) + touching_none e xs h.1 i)

    -- either of the two is ahead, or they touch
    pub cases_touch : (d e : E) → (ahead m d e ≡ true) ⊎ ((ahead m e d ≡ true) ⊎ Touch m d e)
    cases_touch d e = ⊎_elim (λ t. inr (inr (touch_from d e t))) (λ f. ⊎_elim (λ h. inl h) (λ h. inr (inl h)) (apart m r d e (λ t. false≢true (sym f ∙ touch_to d e t)))) (cases_Bool (touch d e))
