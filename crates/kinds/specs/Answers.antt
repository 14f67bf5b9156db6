-- What the methods of a kind answer, for all arguments. Each answer is determined by what is given: elements by the
-- atoms that they cover, shifts since there is at most one pair.
use Rattle.std.specs.Prelude.{◌≡◌, ℕ, true, ℤ, ◌≤ℤ◌, ◌<ℤ◌, Some, None, Option, ◌≢◌}
use Rattle.kinds.specs.Model.{KindModel}
use Rattle.kinds.specs.Rules.{Covers, Touch, Union, Stretch, Slice}

module _ {E A C : Type 0} (m : KindModel E A C) where
  -- `join`: the union, or none exactly if the two do not touch
  abbrev pub Joins : E → E → Option E → Type 0
  Joins d e None = Touch m d e → ⊥
  Joins d e (Some j) = Touch m d e × Union m d e j

  -- `part`: the stretch, or none exactly if it is no non-empty stretch of the element
  abbrev pub Parts : E → ℤ → ℤ → Option E → Type 0
  Parts e from to None = Stretch m e from to → ⊥
  Parts e from to (Some p) = Stretch m e from to × Slice m e from to p

  -- `atom`: the element's atom at a position, or none exactly if the element has none there
  abbrev pub AtomAt : E → ℤ → Option A → Type 0
  AtomAt e at None = m.start e ≤ℤ at → at <ℤ m.end e → ⊥
  AtomAt e at (Some a) = Covers m e a × (m.at a ≡ at)

  -- `shifts`: the pair that takes one atom of the field to the other under the turn, or none exactly if there is none
  abbrev pub Shifts : ℕ → A → A → Option (ℤ × ℤ) → Type 0
  Shifts s a b None = m.field a ≡ true → m.field b ≡ true → (u v : ℤ) → m.image s u v a ≢ b
  Shifts s a b (Some w) = (m.field a ≡ true) × (m.field b ≡ true) × (m.image s w.0 w.1 a ≡ b)
