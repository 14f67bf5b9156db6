-- The atom of an element at each of its positions, and what bounds an element. All of it follows from the rules.
use Rattle.std.proofs.Common.{◌≡◌, true, ◌&&◌, ◌⊎◌, ℤ, pos, negsuc, ◌+ℤ◌, ◌≤ℤ◌, ◌<ℤ◌, sym, ◌∙◌, inl, inr, arith}
use lib.Signed.{lt_z, le_z}
use Rattle.std.proofs.lemmas.Bool.{and_parts}
use Rattle.std.proofs.lemmas.Int.{ints}
use Rattle.kinds.specs.Model.{KindModel, covers}
use Rattle.kinds.specs.Rules.{Rules, Covers, Stretch, Slice}
use Rattle.kinds.proofs.Numbers.{lt_from, le_from, cases_lt_z}
use Rattle.kinds.proofs.Having.{Has, Contains, has_from, has_to, covers_alike}

module _ {E A C : Type 0} (m : KindModel E A C) (r : Rules m) where
  pub nonempty : (e : E) → m.start e <ℤ m.end e
  nonempty e = let h = has_from m r.ordered e _ (r.some e).1 in omega (arith, ints, h.from, h.to)

  -- an atom of the element that stands at the position
  pub record Stands (e : E) (q : ℤ) : Type 0 where
    pub atom : A
    pub has : Has m e atom
    pub at : m.at atom ≡ q

  unit_stands : (e p : E) (q : ℤ) (a : A) → Slice m e q (q +ℤ pos 1) p → Covers m p a → Stands e q
  unit_stands e p q a s h =
      let w = and_parts (covers m e a) (le_z q (m.at a) && lt_z (m.at a) (q +ℤ pos 1)) (sym (s a) ∙ h) in
      let z = and_parts (le_z q (m.at a)) (lt_z (m.at a) (q +ℤ pos 1)) w.1 in
      let f = le_from q (m.at a) z.0 in
      let u = lt_from (m.at a) (q +ℤ pos 1) z.1 in
      record { atom = a; has = has_from m r.ordered e a w.0; at = omega (arith, ints) }

  unit : (e : E) (q : ℤ) → m.start e ≤ℤ q → q <ℤ m.end e → Stretch m e q (q +ℤ pos 1)
  unit e q low high = record { low = low; some = omega (arith, ints); high = omega (arith, ints) }

  -- the unit part at the position covers an atom, which stands there
  pub stands : (e : E) (q : ℤ) → m.start e ≤ℤ q → q <ℤ m.end e → Stands e q
  stands e q low high =
      let p = r.parted e q (q +ℤ pos 1) (unit e q low high) in
      unit_stands e p.0 q (r.some p.0).0 p.1 (r.some p.0).1

  choose : (e : E) (q : ℤ) → (q <ℤ m.start e) ⊎ (m.start e ≤ℤ q) → (q <ℤ m.end e) ⊎ (m.end e ≤ℤ q) → A
  choose e q (inl l) h = (r.some e).0
  choose e q (inr l) (inl h) = (stands e q l h).atom
  choose e q (inr l) (inr h) = (r.some e).0

  chosen : (e : E) (q : ℤ) (x : (q <ℤ m.start e) ⊎ (m.start e ≤ℤ q)) (y : (q <ℤ m.end e) ⊎ (m.end e ≤ℤ q)) → m.start e ≤ℤ q → q <ℤ m.end e → Has m e (choose e q x y) × (m.at (choose e q x y) ≡ q)
  unfolding choose
  chosen e q (inl l) h low high = absurd (omega (arith, ints))
  chosen e q (inr l) (inl h) low high = ((stands e q l h).has, (stands e q l h).at)
  chosen e q (inr l) (inr h) low high = absurd (omega (arith, ints))

  -- the element's atom at a position, if it has one there; else any of its atoms
  pub atom : E → ℤ → A
  atom e q = choose e q (cases_lt_z q (m.start e)) (cases_lt_z q (m.end e))

  pub has_atom : (e : E) (q : ℤ) → m.start e ≤ℤ q → q <ℤ m.end e → Has m e (atom e q)
  unfolding atom
  has_atom e q low high = (chosen e q (cases_lt_z q (m.start e)) (cases_lt_z q (m.end e)) low high).0

  pub at_atom : (e : E) (q : ℤ) → m.start e ≤ℤ q → q <ℤ m.end e → m.at (atom e q) ≡ q
  unfolding atom
  at_atom e q low high = (chosen e q (cases_lt_z q (m.start e)) (cases_lt_z q (m.end e)) low high).1

  -- the first and the last atom of an element
  abbrev pub first : E → A
  first e = atom e (m.start e)

  abbrev pub last : E → A
  last e = atom e (m.end e +ℤ negsuc 0)

  pub has_first : (e : E) → Has m e (first e)
  has_first e = has_atom e (m.start e) (omega (arith, ints)) (nonempty e)

  pub at_first : (e : E) → m.at (first e) ≡ m.start e
  at_first e = at_atom e (m.start e) (omega (arith, ints)) (nonempty e)

  pub has_last : (e : E) → Has m e (last e)
  has_last e = let n = nonempty e in has_atom e (m.end e +ℤ negsuc 0) (omega (arith, ints)) (omega (arith, ints))

  pub at_last : (e : E) → m.at (last e) ≡ m.end e +ℤ negsuc 0
  at_last e = let n = nonempty e in at_atom e (m.end e +ℤ negsuc 0) (omega (arith, ints)) (omega (arith, ints))

  -- at most one atom stands at a position of a carrier
  pub one_atom : (d e : E) (a b : A) → Has m d a → Has m e b → m.carrier d ≡ m.carrier e → m.at a ≡ m.at b → a ≡ b
  one_atom d e a b h k c p = r.apart a b h.proper k.proper (sym h.on ∙ c ∙ k.on) p

  -- an element is its carrier and its stretch
  pub alike : (d e : E) → m.carrier d ≡ m.carrier e → m.start d ≡ m.start e → m.end d ≡ m.end e → d ≡ e
  alike d e p q s = r.alike d e (covers_alike m d e p q s)

  in_field : (e : E) (a : A) → Has m e a → m.field a ≡ true
  in_field e a h = r.inside e a (has_to m r.ordered e a h)

  pub start_low : (e : E) → negsuc 1999 ≤ℤ m.start e
  start_low e = let p = r.low _ (in_field e _ (has_first e)) in let q = at_first e in omega (arith, ints)

  pub end_high : (e : E) → m.end e ≤ℤ pos 2001
  end_high e = let p = r.high _ (in_field e _ (has_last e)) in let q = at_last e in omega (arith, ints)

  -- what covers all of e's atoms contains e
  pub contains_from : (x e : E) → ((a : A) → Covers m e a → Covers m x a) → Contains m x e
  contains_from x e h =
      let p = has_from m r.ordered x _ (h (first e) (has_to m r.ordered e _ (has_first e))) in
      let q = has_from m r.ordered x _ (h (last e) (has_to m r.ordered e _ (has_last e))) in
      let f = at_first e in
      let l = at_last e in
      record { on = p.on ∙ sym (has_first e).on; from = omega (arith, ints, p.from); to = omega (arith, ints, q.to) }
