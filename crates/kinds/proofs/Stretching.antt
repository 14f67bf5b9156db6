-- The carrier and the stretch of a union and of a part.
use Rattle.std.proofs.Common.{◌≡◌, ◌⊎◌, ℤ, negsuc, ◌+ℤ◌, ◌≤ℤ◌, ◌<ℤ◌, sym, ◌∙◌, inl, inr, ⊎_elim, arith}
use lib.Signed.{lt_z, le_z}
use Rattle.std.specs.Int.{int_max, int_min}
use Rattle.std.proofs.lemmas.Bool.{and_parts, and_from, or_cases, or_left, or_right}
use Rattle.std.proofs.lemmas.Int.{ints}
use Rattle.kinds.specs.Model.{KindModel, covers}
use Rattle.kinds.specs.Rules.{Rules, Union, Stretch, Slice}
use Rattle.kinds.proofs.Numbers.{lt_from, le_from, lt_to, le_to}
use Rattle.kinds.proofs.Having.{Has, Contains, has_from, has_to}
use Rattle.kinds.proofs.Standing.{atom, has_atom, at_atom, first, last, has_first, at_first, has_last, at_last, contains_from}

low_end : (z x y : ℤ) → z ≤ℤ x → z ≤ℤ y → (x ≤ℤ z) ⊎ (y ≤ℤ z) → z ≡ int_min x y
low_end z x y p q (inl h) = grind (arith, ints)
low_end z x y p q (inr h) = grind (arith, ints)

high_end : (z x y : ℤ) → x ≤ℤ z → y ≤ℤ z → (z ≤ℤ x) ⊎ (z ≤ℤ y) → z ≡ int_max x y
high_end z x y p q (inl h) = grind (arith, ints)
high_end z x y p q (inr h) = grind (arith, ints)

module _ {E A C : Type 0} (m : KindModel E A C) (r : Rules m) where
  pub union_left : (d e j : E) → Union m d e j → Contains m j d
  union_left d e j u = contains_from m r j d (λ a h. u a ∙ or_left _ _ h)

  pub union_right : (d e j : E) → Union m d e j → Contains m j e
  union_right d e j u = contains_from m r j e (λ a h. u a ∙ or_right _ _ h)

  one_of : (d e j : E) (a : A) → Union m d e j → Has m j a → Has m d a ⊎ Has m e a
  one_of d e j a u h = ⊎_elim (λ k. inl (has_from m r.ordered d a k)) (λ k. inr (has_from m r.ordered e a k)) (or_cases (covers m d a) (covers m e a) (sym (u a) ∙ has_to m r.ordered j a h))

  pub union_carrier : (d e j : E) → Union m d e j → m.carrier j ≡ m.carrier d
  union_carrier d e j u = (union_left d e j u).on

  pub union_start : (d e j : E) → Union m d e j → m.start j ≡ int_min (m.start d) (m.start e)
  union_start d e j u =
      let a = at_first m r j in
      low_end _ _ _ (union_left d e j u).from (union_right d e j u).from
      (⊎_elim (λ h. inl (omega (arith, ints, h.from))) (λ h. inr (omega (arith, ints, h.from))) (one_of d e j (first m r j) u (has_first m r j)))

  pub union_end : (d e j : E) → Union m d e j → m.end j ≡ int_max (m.end d) (m.end e)
  union_end d e j u =
      let a = at_last m r j in
      high_end _ _ _ (union_left d e j u).to (union_right d e j u).to
      (⊎_elim (λ h. inl (omega (arith, ints, h.to))) (λ h. inr (omega (arith, ints, h.to))) (one_of d e j (last m r j) u (has_last m r j)))

  module _ (e p : E) (from to : ℤ) (t : Stretch m e from to) (s : Slice m e from to p) where
    within : (a : A) → Has m p a → Has m e a × (from ≤ℤ m.at a) × (m.at a <ℤ to)
    within a h =
        let w = and_parts (covers m e a) _ (sym (s a) ∙ has_to m r.ordered p a h) in
        let z = and_parts (le_z from (m.at a)) (lt_z (m.at a) to) w.1 in
        (has_from m r.ordered e a w.0, le_from _ _ z.0, lt_from _ _ z.1)

    back : (a : A) → Has m e a → from ≤ℤ m.at a → m.at a <ℤ to → Has m p a
    back a h l u = has_from m r.ordered p a (s a ∙ and_from _ _ (has_to m r.ordered e a h) (and_from _ _ (le_to _ _ l) (lt_to _ _ u)))

    pub slice_carrier : m.carrier p ≡ m.carrier e
    slice_carrier = let h = has_first m r p in h.on ∙ sym (within (first m r p) h).0.on

    pub slice_start : m.start p ≡ from
    slice_start =
        let tl = t.low in let ts = t.some in let th = t.high in
        let h : Has m e (atom m r e from) = has_atom m r e from tl (omega (arith, ints)) in
        let q : m.at (atom m r e from) ≡ from = at_atom m r e from tl (omega (arith, ints)) in
        let b = back (atom m r e from) h (omega (arith, ints)) (omega (arith, ints)) in
        let f = at_first m r p in
        omega (arith, ints, b.from, (within (first m r p) (has_first m r p)).1)

    pub slice_end : m.end p ≡ to
    slice_end =
        let tl = t.low in let ts = t.some in let th = t.high in
        let h : Has m e (atom m r e (to +ℤ negsuc 0)) = has_atom m r e (to +ℤ negsuc 0) (omega (arith, ints)) (omega (arith, ints)) in
        let q : m.at (atom m r e (to +ℤ negsuc 0)) ≡ to +ℤ negsuc 0 = at_atom m r e (to +ℤ negsuc 0) (omega (arith, ints)) (omega (arith, ints)) in
        let b = back (atom m r e (to +ℤ negsuc 0)) h (omega (arith, ints)) (omega (arith, ints)) in
        let f = at_last m r p in
        omega (arith, ints, b.to, (within (last m r p) (has_last m r p)).2)
