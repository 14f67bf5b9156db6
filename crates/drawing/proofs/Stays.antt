-- Elements that stay in the field when they are placed.
use Rattle.std.proofs.Common.{◌≡◌, ℕ, zero, suc, ◌<◌, Bool, true, false, ◌&&◌, ◌||◌, ◌⊎◌, List, [], ◌∷◌, length, is_some, Some, None, Option, sym, refl, ap, ◌∙◌, inl, inr, arith}
use Rattle.std.specs.Bool.{MatchBool}
use Rattle.std.proofs.lemmas.Bool.{and_parts, and_right, or_cases, or_right}
use Rattle.std.specs.List.{AllByRecursion, AllWithin, HoldsAt}
use Rattle.std.proofs.lemmas.List.Elements.{All-from_all_within, recursion_from_All}
use Rattle.lattice.specs.declared.placement.Placement.{Placement}
use Rattle.kinds.specs.Model.{KindModel, covers, moved}
use Rattle.kinds.specs.Rules.{Rules}
use Rattle.sheets.specs.Cover.{cover}
use Rattle.drawing.specs.Changes.{stays}

module _ {E A C : Type 0} (m : KindModel E A C) where
  pub all_stay : (p : Placement) (xs : List E) → AllByRecursion (λ x. is_some (m.place p x) ≡ true) xs → true ≡ stays m p xs
  all_stay p [] a = refl
  all_stay p (x ∷ xs) a = all_stay p xs a.1 ∙ ap (λ (b : Bool). b && stays m p xs) (sym a.0)

  pub one_leaves : (p : Placement) (xs : List E) (k : ℕ) → k < length xs → HoldsAt (λ x. is_some (m.place p x) ≡ false) xs k → false ≡ stays m p xs
  one_leaves p [] k l h = absurd (omega arith)
  one_leaves p (x ∷ xs) zero l h = ap (λ (b : Bool). b && stays m p xs) (sym (h x))
  one_leaves p (x ∷ xs) (suc k) l h = sym (ap (λ (b : Bool). is_some (m.place p x) && b) (sym (one_leaves p xs k (omega arith) h)) ∙ and_right (is_some (m.place p x)) false refl)

  -- an answer that is true where all stay, and false where one leaves
  pub stays_told : (p : Placement) (xs : List E) (r : Bool) → MatchBool r (AllWithin (λ x. is_some (m.place p x) ≡ true) xs 0 (length xs)) ((k : ℕ) × (k < length xs) × HoldsAt (λ x. is_some (m.place p x) ≡ false) xs k) → r ≡ stays m p xs
  stays_told p xs true h = all_stay p xs (recursion_from_All _ xs (All-from_all_within (λ x. is_some (m.place p x) ≡ true) xs h))
  stays_told p xs false h = one_leaves p xs h.0 h.1 h.2

  none_not : {o : Option E} → o ≡ None → is_some o ≡ true → ⊥
  none_not {o = o} e h = let z : true ≡ false = sym h ∙ ap is_some e in let w : ◌≡◌ {A = ℕ} 0 1 = cc in omega arith

  module _ (R : Rules m) (p : Placement) where
    pub stays_in : (xs : List E) → stays m p xs ≡ true → (a : A) → cover m xs a ≡ true → m.field (moved m p a) ≡ false → ⊥
    stays_in [] h a c i = let w : ◌≡◌ {A = ℕ} 0 1 = cc in omega arith
    stays_in (x ∷ xs) h a c i = go (and_parts (is_some (m.place p x)) (stays m p xs) h) (λ u k. stays_in xs u a k i) (or_cases (covers m x a) (cover m xs a) c)
      where
        go : (is_some (m.place p x) ≡ true) × (stays m p xs ≡ true) → (stays m p xs ≡ true → cover m xs a ≡ true → ⊥) → (covers m x a ≡ true) ⊎ (cover m xs a ≡ true) → ⊥
        go s w (inl k) = none_not ((R.refused p x).1 (a, k, i)) s.0
        go s w (inr k) = w s.1 k

    pub leaves : (xs : List E) → stays m p xs ≡ false → (a : A) × (cover m xs a ≡ true) × (m.field (moved m p a) ≡ false)
    leaves [] h = let w : ◌≡◌ {A = ℕ} 0 1 = cc in absurd (omega arith)
    leaves (x ∷ xs) h = go (m.place p x) refl (λ z. leaves xs z)
      where
        go : (o : Option E) → m.place p x ≡ o → (stays m p xs ≡ false → (a : A) × (cover m xs a ≡ true) × (m.field (moved m p a) ≡ false)) → (a : A) × (cover m (x ∷ xs) a ≡ true) × (m.field (moved m p a) ≡ false)
        go None e w = let r = (R.refused p x).0 e in (r.0, ap (λ (b : Bool). b || cover m xs r.0) r.1, r.2)
        go (Some y) e w = let r = w (ap (λ (o : Option E). is_some o && stays m p xs) (sym e) ∙ h) in (r.0, or_right (covers m x r.0) (cover m xs r.0) r.1, r.2)
