-- The rules that every kind keeps. Nothing beyond them is asked of a kind, and nothing else is used of one.
use Rattle.std.specs.Prelude.{◌≡◌, ℕ, ◌<◌, true, false, ◌&&◌, ◌||◌, ◌↔◌, ℤ, pos, negsuc, ◌≤ℤ◌, ◌<ℤ◌, Some, None, int_le, int_lt}
use Rattle.std.specs.declared.cmp.Ordering.TheVariants.{Less, Equal}
use Rattle.std.specs.declared.cmp.Ordering.{Ordering}
use Rattle.std.specs.Ordering.{ordering_reverse}
use Rattle.lattice.specs.declared.placement.Placement.{Placement}
use Rattle.kinds.specs.Model.{KindModel, covers, moved}

-- a total order: `Equal` exactly at equal values, the two directions agree, and `Less` goes on
pub record Ordered {C : Type 0} (compare : C → C → Ordering) : Type 0 where
  pub same : (a b : C) → compare a b ≡ Equal → a ≡ b
  pub self : (a : C) → compare a a ≡ Equal
  pub turn : (a b : C) → compare b a ≡ ordering_reverse (compare a b)
  pub trans : (a b c : C) → compare a b ≡ Less → compare b c ≡ Less → compare a c ≡ Less

module _ {E A C : Type 0} (m : KindModel E A C) where
  -- the atom is one of the element's
  abbrev pub Covers : E → A → Type 0
  Covers e a = covers m e a ≡ true

  -- on the same carrier, overlapping or end to end
  pub record Touch (d e : E) : Type 0 where
    pub same : m.carrier d ≡ m.carrier e
    pub left : m.start d ≤ℤ m.end e
    pub right : m.start e ≤ℤ m.end d

  -- j covers exactly the atoms of d and of e
  abbrev pub Union : E → E → E → Type 0
  Union d e j = (a : A) → covers m j a ≡ (covers m d a || covers m e a)

  -- from `from` up to `to` is a stretch of the element's positions, and not an empty one
  pub record Stretch (e : E) (from to : ℤ) : Type 0 where
    pub low : m.start e ≤ℤ from
    pub some : from <ℤ to
    pub high : to ≤ℤ m.end e

  -- p covers exactly the atoms of e at those positions
  abbrev pub Slice : E → ℤ → ℤ → E → Type 0
  Slice e from to p = (a : A) → covers m p a ≡ (covers m e a && (int_le from (m.at a) && int_lt (m.at a) to))

  pub record Rules : Type 0 where
    -- No element is empty, none leaves the field, and what is covered tells elements apart.
    pub some : (e : E) → (a : A) × Covers e a
    pub inside : (e : E) (a : A) → Covers e a → m.field a ≡ true
    pub alike : (d e : E) → ((a : A) → covers m d a ≡ covers m e a) → d ≡ e
    -- Carriers are totally ordered. No two atoms have the same carrier and the same position.
    -- What lies in the field is an atom, and its position lies from -2000 to 2000.
    pub ordered : Ordered m.order
    pub apart : (a b : A) → m.proper a ≡ true → m.proper b ≡ true → m.on a ≡ m.on b → m.at a ≡ m.at b → a ≡ b
    pub atoms : (a : A) → m.field a ≡ true → m.proper a ≡ true
    pub low : (a : A) → m.field a ≡ true → negsuc 1999 ≤ℤ m.at a
    pub high : (a : A) → m.field a ≡ true → m.at a ≤ℤ pos 2000
    -- Elements that touch have a union, and stretches of elements are elements.
    pub joined : (d e : E) → Touch d e → (j : E) × Union d e j
    pub parted : (e : E) (from to : ℤ) → Stretch e from to → (p : E) × Slice e from to p
    -- Atoms are moved to atoms. Placing an element gives the one that covers just the moved atoms,
    -- and there is none exactly if one of these lies outside the field.
    pub carried : (s : ℕ) (u v : ℤ) (a : A) → s < 8 → m.proper a ≡ true → m.proper (m.image s u v a) ≡ true
    pub placed : (p : Placement) (e f : E) → m.place p e ≡ Some f → (b : A) → Covers f b ↔ ((a : A) × Covers e a × (moved m p a ≡ b))
    pub refused : (p : Placement) (e : E) → (m.place p e ≡ None) ↔ ((a : A) × Covers e a × (m.field (moved m p a) ≡ false))
    -- A turn leaves at most one pair of shifts from one atom to another; within the field neither passes -4000 or 4000.
    pub one : (s : ℕ) (u v p q : ℤ) (a b : A) → s < 8 → m.proper a ≡ true → m.image s u v a ≡ b → m.image s p q a ≡ b → (u ≡ p) × (v ≡ q)
    pub near : (s : ℕ) (u v : ℤ) (a b : A) → s < 8 → m.field a ≡ true → m.field b ≡ true → m.image s u v a ≡ b → (negsuc 3999 ≤ℤ u) × (u ≤ℤ pos 4000) × (negsuc 3999 ≤ℤ v) × (v ≤ℤ pos 4000)
