-- Ink over a kind that keeps the rules keeps them.
use Rattle.std.specs.Prelude.{◌≡◌, ℕ, Bool, true, false, ◌&&◌, ◌||◌, ◌↔◌, ℤ, pos, Some, None, Option, int_le, refl}
use Rattle.std.proofs.Common.{ap, sym, ◌∙◌, subst, arith}
use Rattle.std.specs.Int.Signed.{lt_z}
use Rattle.std.specs.Ordering.{is_eq}
use Rattle.std.proofs.lemmas.Bool.{and_parts, and_from}
use Rattle.std.proofs.lemmas.Int.{ints}
use Rattle.lattice.specs.Compare.{ordering}
use Rattle.lattice.specs.declared.placement.Placement.{Placement}
use Rattle.kinds.specs.Model.{KindModel, covers, moved}
use Rattle.kinds.specs.Rules.{Rules, Covers, Touch, Union, Slice}
use Rattle.elements.specs.Inks.{ink_model, inked, with_ink}
use Rattle.elements.specs.declared.ink.Ink.{Ink}
use Rattle.elements.specs.Orders.{ordered_numbers, ordered_then, equal_from, then_equal}

abbrev pub on_ink : {E : Type 0} → ℕ → E → Ink E
on_ink n e = record { ink = n; under = e }

-- ---- of tests alone
front : (p i c z : Bool) → (p && ((i && c) && z)) ≡ (i && (p && (c && z)))
front true true c z = refl
front true false c z = refl
front false true c z = refl
front false false c z = refl

over : (i x y z : Bool) → x ≡ (y || z) → (i && x) ≡ ((i && y) || (i && z))
over true x y z h = h
over false x y z h = refl

within : (i x y z : Bool) → x ≡ (y && z) → (i && x) ≡ ((i && y) && z)
within true x y z h = h
within false x y z h = refl

-- ---- ink alone
abbrev same : ℕ → ℕ → Bool
same n k = is_eq (ordering (pos n) (pos k))

same_self : (n : ℕ) → same n n ≡ true
same_self n = ap is_eq (ordered_numbers.self (pos n))

same_from : (n k : ℕ) → same n k ≡ true → n ≡ k
same_from n k h = let e = ordered_numbers.same (pos n) (pos k) (equal_from _ h) in omega (arith, ints)

module _ {E A C : Type 0} (m : KindModel E A C) where
  -- an element with ink covers what it covers without, with that ink
  pub ink_covers : (e : Ink E) (a : Ink A) → covers (ink_model m) e a ≡ (same e.ink a.ink && covers m e.under a.under)
  unfolding covers
  ink_covers e a =
      let t = then_equal (ordering (pos e.ink) (pos a.ink)) (m.order (m.carrier e.under) (m.on a.under)) in
      let z = int_le (m.start e.under) (m.at a.under) && lt_z (m.at a.under) (m.end e.under) in
      (λ i. m.proper a.under && (t i && z)) ∙ front (m.proper a.under) (same e.ink a.ink) (is_eq (m.order (m.carrier e.under) (m.on a.under))) z

  pub beneath : (e : Ink E) (a : Ink A) → Covers (ink_model m) e a → (e.ink ≡ a.ink) × Covers m e.under a.under
  beneath e a c = let p = and_parts (same e.ink a.ink) _ (sym (ink_covers e a) ∙ c) in (same_from e.ink a.ink p.0, p.1)

  pub above : (n : ℕ) (e : E) (a : A) → Covers m e a → Covers (ink_model m) (on_ink n e) (inked n a)
  above n e a c = ink_covers (on_ink n e) (inked n a) ∙ and_from (same n n) _ (same_self n) c

  pub ink_union : (n : ℕ) (d e j : E) → Union m d e j → Union (ink_model m) (on_ink n d) (on_ink n e) (on_ink n j)
  ink_union n d e j h a =
      let l = ink_covers (on_ink n d) a in
      let r = ink_covers (on_ink n e) a in
      ink_covers (on_ink n j) a ∙ over (same n a.ink) _ _ _ (h a.under) ∙ (λ i. sym l i || sym r i)

  pub ink_slice : (n : ℕ) (e p : E) (from to : ℤ) → Slice m e from to p → Slice (ink_model m) (on_ink n e) from to (on_ink n p)
  ink_slice n e p from to h a =
      let l = ink_covers (on_ink n e) a in
      ink_covers (on_ink n p) a ∙ within (same n a.ink) _ _ _ (h a.under) ∙ (λ i. sym l i && (int_le from (m.at a.under) && lt_z (m.at a.under) to))

  -- elements with ink touch where the inks are equal and the elements touch without
  pub touch_under : (d e : Ink E) → Touch (ink_model m) d e → (d.ink ≡ e.ink) × Touch m d.under e.under
  touch_under d e t = (ap (λ (c : Ink C). c.ink) t.same, record { same = ap (λ (c : Ink C). c.under) t.same; left = t.left; right = t.right })

  pub touch_over : (d e : Ink E) → d.ink ≡ e.ink → Touch m d.under e.under → Touch (ink_model m) d e
  touch_over d e i t = let c = t.same in record { same = λ j. inked (i j) (c j); left = t.left; right = t.right }

  pub union_over : (d e : Ink E) (j : E) → d.ink ≡ e.ink → Union m d.under e.under j → Union (ink_model m) d e (on_ink d.ink j)
  union_over d e j i h = subst (λ (n : ℕ). Union (ink_model m) d (on_ink n e.under) (on_ink d.ink j)) i (ink_union d.ink d.under e.under j h)

  -- ---- placing
  pub data Placing (n : ℕ) (o : Option E) : Type 0 where
    there : (f : E) → o ≡ Some f → with_ink n o ≡ Some (on_ink n f) → Placing n o
    gone : o ≡ None → with_ink n o ≡ None → Placing n o

  placing : (n : ℕ) (o : Option E) → Placing n o
  placing n None = gone refl refl
  placing n (Some f) = there f refl refl

  with_some : (n : ℕ) (o : Option E) (f : Ink E) → with_ink n o ≡ Some f → (o ≡ Some f.under) × (n ≡ f.ink)
  with_some n o f h = elim (placing n o) [ there g p q ↦ let s : on_ink n g ≡ f = cc in (p ∙ ap (λ (e : Ink E). Some e.under) s, ap (λ (e : Ink E). e.ink) s) | gone p q ↦ let z : ◌≡◌ {A = ℕ} 0 1 = cc in absurd (omega arith) ]

  with_none : (n : ℕ) (o : Option E) → with_ink n o ≡ None → o ≡ None
  with_none n o h = elim (placing n o) [ there g p q ↦ let z : ◌≡◌ {A = ℕ} 0 1 = cc in absurd (omega arith) | gone p q ↦ p ]

  module _ (r : Rules m) where
    ink_alike : (d e : Ink E) → ((a : Ink A) → covers (ink_model m) d a ≡ covers (ink_model m) e a) → d ≡ e
    ink_alike d e h =
        let w = r.some d.under in
        let b = beneath e (inked d.ink w.0) (sym (h (inked d.ink w.0)) ∙ above d.ink d.under w.0 w.1) in
        let i = b.0 in
        let u = r.alike d.under e.under (λ a. under_same a (sym i)) in
        λ j. record { ink = sym i j; under = u j } where
          plain : (k : Ink E) (n : ℕ) (a : A) → k.ink ≡ n → covers (ink_model m) k (inked n a) ≡ covers m k.under a
          plain k n a q = ink_covers k (inked n a) ∙ ap (λ (t : Bool). t && covers m k.under a) (ap (λ (t : ℕ). same t n) q ∙ same_self n)

          under_same : (a : A) → d.ink ≡ e.ink → covers m d.under a ≡ covers m e.under a
          under_same a q = sym (plain d e.ink a q) ∙ h (inked e.ink a) ∙ plain e e.ink a refl

    ink_placed : (p : Placement) (e f : Ink E) → (ink_model m).place p e ≡ Some f → (b : Ink A) → Covers (ink_model m) f b ↔ ((a : Ink A) × Covers (ink_model m) e a × (moved (ink_model m) p a ≡ b))
    ink_placed p e f h b =
        let s = with_some e.ink (m.place p e.under) f h in
        let n = s.1 in
        let t = r.placed p e.under f.under s.0 b.under in (
          λ c.
              let k = beneath f b c in
              let i = n ∙ k.0 in
              let w = t.0 k.1 in
              let q = w.2 in
              (inked e.ink w.0, above e.ink e.under w.0 w.1, λ j. inked (i j) (q j)),
          λ w.
              let k = beneath e w.0 w.1 in
              let q = w.2 in
              let c = t.1 (w.0.under, k.1, ap (λ (x : Ink A). x.under) q) in
              let i : f.ink ≡ b.ink = sym n ∙ k.0 ∙ ap (λ (x : Ink A). x.ink) q in
              subst (λ (x : ℕ). Covers (ink_model m) f (inked x b.under)) i (above f.ink f.under b.under c),
        )

    pub ink_rules : Rules (ink_model m)
    ink_rules = record {
      some = λ e. let w = r.some e.under in (inked e.ink w.0, above e.ink e.under w.0 w.1);
      inside = λ e a c. r.inside e.under a.under (beneath e a c).1;
      alike = ink_alike;
      ordered = ordered_then (λ a. pos a.ink) (λ a. a.under) (λ a b h k. let i : a.ink ≡ b.ink = omega (arith, ints) in λ j. record { ink = i j; under = k j }) ordered_numbers r.ordered;
      apart = λ a b h k c t.
          let i = ap (λ (x : Ink C). x.ink) c in
          let u = r.apart a.under b.under h k (ap (λ (x : Ink C). x.under) c) t in
          λ j. record { ink = i j; under = u j };
      atoms = λ a h. r.atoms a.under h;
      low = λ a h. r.low a.under h;
      high = λ a h. r.high a.under h;
      joined = λ d e t.
          let u = touch_under d e t in
          let j = r.joined d.under e.under u.1 in
          (on_ink d.ink j.0, union_over d e j.0 u.0 j.1);
      parted = λ e from to t.
          let p = r.parted e.under from to (record { low = t.low; some = t.some; high = t.high }) in
          (on_ink e.ink p.0, ink_slice e.ink e.under p.0 from to p.1);
      carried = λ s u v a l h. r.carried s u v a.under l h;
      placed = ink_placed;
      refused = λ p e.
          let t = r.refused p e.under in (
            λ h. let w = t.0 (with_none e.ink (m.place p e.under) h) in (inked e.ink w.0, above e.ink e.under w.0 w.1, w.2),
            λ w. ap (with_ink e.ink) (t.1 (w.0.under, (beneath e w.0 w.1).1, w.2)),
          );
      one = λ s u v p q a b l h d e. r.one s u v p q a.under b.under l h (ap (λ (x : Ink A). x.under) d) (ap (λ (x : Ink A). x.under) e);
      near = λ s u v a b l h k e. r.near s u v a.under b.under l h k (ap (λ (x : Ink A). x.under) e);
    }
