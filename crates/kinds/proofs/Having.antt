-- That an element covers an atom, taken apart and put together. Only the order of carriers is used, so this serves for
-- showing a kind's rules too.
use Rattle.std.proofs.Common.{◌≡◌, Bool, true, false, ◌&&◌, ◌⊎◌, ℤ, ◌≤ℤ◌, ◌<ℤ◌, Ordering, Less, Equal, Greater, sym, refl, ap, ◌∙◌, subst, inl, inr, ⊎_elim, arith}
use lib.Signed.{lt_z, le_z}
use Rattle.std.specs.Int.{int_max, int_min}
use Rattle.std.specs.Ordering.{is_eq}
use Rattle.std.proofs.lemmas.Bool.{false≢true, and_parts, and_from, or_cases, or_left, or_right}
use Rattle.std.proofs.lemmas.Int.{ints}
use Rattle.kinds.specs.Model.{KindModel, covers}
use Rattle.kinds.specs.Rules.{Ordered, Covers, Touch, Union, Slice}
use Rattle.kinds.proofs.Numbers.{lt_from, le_from, lt_to, le_to, cases_lt_z}

pub same_tests : (a b : Bool) → (a ≡ true → b ≡ true) → (b ≡ true → a ≡ true) → a ≡ b
same_tests true true f g = refl
same_tests true false f g = sym (f refl)
same_tests false true f g = g refl
same_tests false false f g = refl

pub equal_from : (o : Ordering) → is_eq o ≡ true → o ≡ Equal
equal_from Less h = absurd (false≢true h)
equal_from Equal h = refl
equal_from Greater h = absurd (false≢true h)

module _ {E A C : Type 0} (m : KindModel E A C) where
  -- the atom is one of the element's
  pub record Has (e : E) (a : A) : Type 0 where
    pub proper : m.proper a ≡ true
    pub on : m.carrier e ≡ m.on a
    pub from : m.start e ≤ℤ m.at a
    pub to : m.at a <ℤ m.end e

  -- x contains e
  pub record Contains (x e : E) : Type 0 where
    pub on : m.carrier x ≡ m.carrier e
    pub from : m.start x ≤ℤ m.start e
    pub to : m.end e ≤ℤ m.end x

  pub contains_self : (e : E) → Contains e e
  contains_self e = record { on = refl; from = omega (arith, ints); to = omega (arith, ints) }

  pub contains_has : (x e : E) (a : A) → Contains x e → Has e a → Has x a
  contains_has x e a o h = record { proper = h.proper; on = o.on ∙ h.on; from = omega (arith, ints, o.from, h.from); to = omega (arith, ints, o.to, h.to) }

  -- elements of one carrier and one stretch cover the same
  pub covers_alike : (d e : E) → m.carrier d ≡ m.carrier e → m.start d ≡ m.start e → m.end d ≡ m.end e → (a : A) → covers m d a ≡ covers m e a
  unfolding covers
  covers_alike d e p q s a = λ i. m.proper a && (is_eq (m.order (p i) (m.on a)) && (le_z (q i) (m.at a) && lt_z (m.at a) (s i)))

  module _ (ordered : Ordered m.order) where
    pub has_from : (e : E) (a : A) → Covers m e a → Has e a
    unfolding covers
    has_from e a h =
        let p = and_parts (m.proper a) _ h in
        let q = and_parts (is_eq (m.order (m.carrier e) (m.on a))) _ p.1 in
        let s = and_parts (le_z (m.start e) (m.at a)) (lt_z (m.at a) (m.end e)) q.1 in
        record { proper = p.0; on = ordered.same _ _ (equal_from _ q.0); from = le_from _ _ s.0; to = lt_from _ _ s.1 }

    pub has_to : (e : E) (a : A) → Has e a → Covers m e a
    unfolding covers
    has_to e a h =
        let q : m.order (m.carrier e) (m.on a) ≡ Equal = ap (λ c. m.order (m.carrier e) c) (sym h.on) ∙ ordered.self (m.carrier e) in
        and_from _ _ h.proper (and_from _ _ (ap is_eq q) (and_from _ _ (le_to _ _ h.from) (lt_to _ _ h.to)))

    pub contains_covers : (x e : E) → Contains x e → (a : A) → Covers m e a → Covers m x a
    contains_covers x e o a h = has_to x a (contains_has x e a o (has_from e a h))

    -- the union, from its carrier and its stretch
    module _ (d e j : E) (t : Touch m d e) (c : m.carrier j ≡ m.carrier d) (s : m.start j ≡ int_min (m.start d) (m.start e)) (n : m.end j ≡ int_max (m.end d) (m.end e)) where
      parts : (a : A) → Has j a → Has d a ⊎ Has e a
      parts a h =
          let on_d : m.carrier d ≡ m.on a = sym c ∙ h.on in
          let on_e : m.carrier e ≡ m.on a = sym t.same ∙ on_d in
          let p : int_min (m.start d) (m.start e) ≤ℤ m.at a = subst (λ z. z ≤ℤ m.at a) s h.from in
          let q : m.at a <ℤ int_max (m.end d) (m.end e) = subst (λ z. m.at a <ℤ z) n h.to in
          let tl = t.left in
          let tr = t.right in
          ⊎_elim
          (λ l. inr (record { proper = h.proper; on = on_e; from = grind (arith, ints); to = omega (arith, ints) }))
          (λ l. ⊎_elim (λ k. inl (record { proper = h.proper; on = on_d; from = l; to = k })) (λ k. inr (record { proper = h.proper; on = on_e; from = omega (arith, ints); to = grind (arith, ints) })) (cases_lt_z (m.at a) (m.end d)))
          (cases_lt_z (m.at a) (m.start d))

      left : (a : A) → Has d a → Has j a
      left a h =
          let hf = h.from in let ht = h.to in
          let p : int_min (m.start d) (m.start e) ≤ℤ m.at a = grind (arith, ints) in
          let q : m.at a <ℤ int_max (m.end d) (m.end e) = grind (arith, ints) in
          record { proper = h.proper; on = c ∙ h.on; from = subst (λ z. z ≤ℤ m.at a) (sym s) p; to = subst (λ z. m.at a <ℤ z) (sym n) q }

      right : (a : A) → Has e a → Has j a
      right a h =
          let hf = h.from in let ht = h.to in
          let p : int_min (m.start d) (m.start e) ≤ℤ m.at a = grind (arith, ints) in
          let q : m.at a <ℤ int_max (m.end d) (m.end e) = grind (arith, ints) in
          record { proper = h.proper; on = c ∙ t.same ∙ h.on; from = subst (λ z. z ≤ℤ m.at a) (sym s) p; to = subst (λ z. m.at a <ℤ z) (sym n) q }

      pub union_to : Union m d e j
      union_to a = same_tests _ _
          (λ h. ⊎_elim (λ k. or_left _ _ (has_to d a k)) (λ k. or_right _ _ (has_to e a k)) (parts a (has_from j a h)))
          (λ h. ⊎_elim (λ k. has_to j a (left a (has_from d a k))) (λ k. has_to j a (right a (has_from e a k))) (or_cases (covers m d a) (covers m e a) h))

    -- the part, from its carrier and its stretch
    pub slice_to : (e p : E) (from to : ℤ) → m.start e ≤ℤ from → to ≤ℤ m.end e → m.carrier p ≡ m.carrier e → m.start p ≡ from → m.end p ≡ to → Slice m e from to p
    slice_to e p from to low high c s n a = same_tests _ _
        (λ h. let k = has_from p a h in
        let f : from ≤ℤ m.at a = subst (λ z. z ≤ℤ m.at a) s k.from in
        let t : m.at a <ℤ to = subst (λ z. m.at a <ℤ z) n k.to in
        and_from _ _ (has_to e a (record { proper = k.proper; on = sym c ∙ k.on; from = omega (arith, ints); to = omega (arith, ints) })) (and_from _ _ (le_to _ _ f) (lt_to _ _ t)))
        (λ h. let q = and_parts (covers m e a) _ h in
        let w = and_parts (le_z from (m.at a)) (lt_z (m.at a) to) q.1 in
        let k = has_from e a q.0 in
        has_to p a (record { proper = k.proper; on = c ∙ k.on; from = subst (λ z. z ≤ℤ m.at a) (sym s) (le_from _ _ w.0); to = subst (λ z. m.at a <ℤ z) (sym n) (lt_from _ _ w.1) }))
