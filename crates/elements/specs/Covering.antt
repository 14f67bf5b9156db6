-- What an element covers, by its carrier, its start and its end, in any kind.
use Rattle.std.specs.Prelude.{◌≡◌, Bool, true, false, ◌&&◌, ◌||◌, ℤ, pos, ◌-ℤ◌, ◌≤ℤ◌, ◌<ℤ◌, int_le, int_lt, refl}
use Rattle.std.proofs.Common.{sym, subst, ◌∙◌, arith}
use Rattle.std.proofs.Math.Path.{ap}
use Rattle.std.specs.Int.{int_max, int_min}
use Rattle.std.specs.Ordering.{is_eq}
use Rattle.std.proofs.lemmas.Int.{ints}
use Rattle.std.proofs.lemmas.Bool.{and_parts, and_from}
use Rattle.numbers.proofs.Tested.{lt_test, le_test}
use Rattle.kinds.specs.Model.{KindModel, covers}
use Rattle.kinds.specs.Rules.{Ordered, Covers, Union, Slice}
use Rattle.elements.specs.Orders.{equal_from}

-- ---- of tests and positions alone
both : (a b x y z : Bool) → x ≡ (y || z) → (a && (b && x)) ≡ ((a && (b && y)) || (a && (b && z)))
both true true x y z h = h
both true false x y z h = refl
both false b x y z h = refl

less : (a b x y : Bool) → x ≡ (y && x) → (a && (b && x)) ≡ ((a && (b && y)) && x)
less true true x y h = h
less true false x y h = refl
less false b x y h = refl

overlap : (p s e t f : ℤ) → s ≤ℤ f → t ≤ℤ e → (int_le (int_min s t) p && int_lt p (int_max e f)) ≡ ((int_le s p && int_lt p e) || (int_le t p && int_lt p f))
overlap p s e t f h k = grind (arith, ints)

shorter : (p s e t f : ℤ) → s ≤ℤ t → f ≤ℤ e → (int_le t p && int_lt p f) ≡ ((int_le s p && int_lt p e) && (int_le t p && int_lt p f))
shorter p s e t f h k = grind (arith, ints)

last : (s t : ℤ) → s <ℤ t → (s ≤ℤ (t -ℤ pos 1)) × ((t -ℤ pos 1) <ℤ t)
last s t h = (omega (arith, ints), omega (arith, ints))

past : (s t : ℤ) → (s -ℤ pos 1) <ℤ t → s ≤ℤ t
past s t h = omega (arith, ints)

equal : (s t : ℤ) → s ≤ℤ t → t ≤ℤ s → s ≡ t
equal s t h k = omega (arith, ints)

module _ {E A C : Type 0} (m : KindModel E A C) (o : Ordered m.order) where
  pub record Covered (e : E) (a : A) : Type 0 where
    pub proper : m.proper a ≡ true
    pub on : m.carrier e ≡ m.on a
    pub from : m.start e ≤ℤ m.at a
    pub to : m.at a <ℤ m.end e

  pub covered : (e : E) (a : A) → Covers m e a → Covered e a
  unfolding covers
  covered e a h =
      let p = and_parts (m.proper a) _ h in
      let q = and_parts (is_eq (m.order (m.carrier e) (m.on a))) _ p.1 in
      let r = and_parts (int_le (m.start e) (m.at a)) (int_lt (m.at a) (m.end e)) q.1 in
      record { proper = p.0; on = o.same _ _ (equal_from _ q.0); from = omega (arith, ints, r.0); to = omega (arith, ints, r.1) }

  pub covered_from : (e : E) (a : A) → Covered e a → Covers m e a
  unfolding covers
  covered_from e a c =
      let s : m.order (m.carrier e) (m.on a) ≡ m.order (m.on a) (m.on a) = ap (λ (t : C). m.order t (m.on a)) c.on in
      and_from (m.proper a) _ c.proper (and_from (is_eq (m.order (m.carrier e) (m.on a))) _ (ap is_eq (s ∙ o.self (m.on a)))
      (and_from (int_le (m.start e) (m.at a)) (int_lt (m.at a) (m.end e)) (le_test (m.start e) (m.at a) c.from) (lt_test (m.at a) (m.end e) c.to)))

  -- what reaches from the lower of two starts to the higher of two ends is the union
  pub union_from : (d e j : E) → m.carrier j ≡ m.carrier d → m.carrier d ≡ m.carrier e → m.start j ≡ int_min (m.start d) (m.start e) → m.end j ≡ int_max (m.end d) (m.end e) → m.start d ≤ℤ m.end e → m.start e ≤ℤ m.end d → Union m d e j
  unfolding covers
  union_from d e j c t s f h k a =
      let on = m.on a in
      let p = m.at a in
      (λ i. m.proper a && (is_eq (m.order (c i) on) && (int_le (s i) p && int_lt p (f i))))
      ∙ both (m.proper a) (is_eq (m.order (m.carrier d) on)) _ (int_le (m.start d) p && int_lt p (m.end d)) (int_le (m.start e) p && int_lt p (m.end e)) (overlap p (m.start d) (m.end d) (m.start e) (m.end e) h k)
      ∙ (λ i. covers m d a || (m.proper a && (is_eq (m.order (t i) on) && (int_le (m.start e) p && int_lt p (m.end e)))))

  -- what reaches from one position up to another is the slice
  pub slice_from : (e p : E) (from to : ℤ) → m.carrier p ≡ m.carrier e → m.start p ≡ from → m.end p ≡ to → m.start e ≤ℤ from → to ≤ℤ m.end e → Slice m e from to p
  unfolding covers
  slice_from e p from to c s f h k a =
      let on = m.on a in
      let q = m.at a in
      (λ i. m.proper a && (is_eq (m.order (c i) on) && (int_le (s i) q && int_lt q (f i))))
      ∙ less (m.proper a) (is_eq (m.order (m.carrier e) on)) _ (int_le (m.start e) q && int_lt q (m.end e)) (shorter q (m.start e) (m.end e) from to h k)

  -- where every position of an element has an atom, what it covers tells its carrier, start and end
  module _ (some : (e : E) → m.start e <ℤ m.end e) (whole : (e : E) (q : ℤ) → m.start e ≤ℤ q → q <ℤ m.end e → (a : A) × Covered e a × (m.at a ≡ q)) where
    half : (d e : E) → ((a : A) → covers m d a ≡ covers m e a) → (m.carrier d ≡ m.carrier e) × (m.start e ≤ℤ m.start d) × (m.end d ≤ℤ m.end e)
    half d e h =
        let n = some d in
        let w = whole d (m.start d) (omega (arith, ints)) n in
        let l = last (m.start d) (m.end d) n in
        let z = whole d (m.end d -ℤ pos 1) l.0 l.1 in
        let a = covered e w.0 (sym (h w.0) ∙ covered_from d w.0 w.1) in
        let b = covered e z.0 (sym (h z.0) ∙ covered_from d z.0 z.1) in
        (w.1.on ∙ sym a.on, subst (λ (q : ℤ). m.start e ≤ℤ q) w.2 a.from, past (m.end d) (m.end e) (subst (λ (q : ℤ). q <ℤ m.end e) z.2 b.to))

    pub same_stretch : (d e : E) → ((a : A) → covers m d a ≡ covers m e a) → (m.carrier d ≡ m.carrier e) × (m.start d ≡ m.start e) × (m.end d ≡ m.end e)
    same_stretch d e h =
        let a = half d e h in
        let b = half e d (λ x. sym (h x)) in
        (a.0, equal (m.start d) (m.start e) b.1 a.1, equal (m.end d) (m.end e) a.2 b.2)
