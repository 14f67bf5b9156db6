-- What a kind of element means: plain data, about which Rules says what holds.
use Rattle.std.specs.Prelude.{ℕ, Bool, ◌&&◌, ℤ, Option, int_le, int_lt}
use Rattle.std.specs.declared.cmp.Ordering.{Ordering}
use Rattle.std.specs.Ordering.{is_eq}
use Rattle.lattice.specs.declared.placement.Placement.{Placement}
use Rattle.lattice.specs.Turns.{index}

-- E are the elements, C the carriers, and the atoms are among the values of A
pub record KindModel (E A C : Type 0) : Type 0 where
  -- of an element: its carrier, and its stretch of positions, from `start` up to `end`, which is no part of it
  pub carrier : E → C
  pub start : E → ℤ
  pub end : E → ℤ
  -- the order of carriers
  pub order : C → C → Ordering
  -- of a value of A: whether it is an atom, on which carrier, at which position, and whether it lies in the field
  pub proper : A → Bool
  pub on : A → C
  pub at : A → ℤ
  pub field : A → Bool
  -- where the turn of a number, then a shift across and up, takes an atom
  pub image : ℕ → ℤ → ℤ → A → A
  -- the element to which a placement takes an element, if it lies in the field
  pub place : Placement → E → Option E

module _ {E A C : Type 0} (m : KindModel E A C) where
  -- what an element covers: the atoms on its carrier whose positions lie between its two ends, the first included
  unfoldable pub covers : E → A → Bool
  covers e a = m.proper a && (is_eq (m.order (m.carrier e) (m.on a)) && (int_le (m.start e) (m.at a) && int_lt (m.at a) (m.end e)))

  -- where a placement takes an atom
  abbrev pub moved : Placement → A → A
  moved p a = m.image (index p.turn) p.across p.up a
