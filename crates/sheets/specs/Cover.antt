-- What elements cover together, when a list of them is in canonical form, and how many atoms they have.
use Rattle.std.specs.Prelude.{ℕ, Bool, true, false, not, ◌&&◌, ◌||◌, List, [], ◌∷◌, ◌-ℤ◌, sum_by, int_lt, unsigned_abs}
use Rattle.std.specs.Ordering.{is_lt, is_eq}
use Rattle.kinds.specs.Model.{KindModel, covers}

-- the atoms of one set or the other, and those of the first alone
abbrev pub union : {A : Type 0} → (A → Bool) → (A → Bool) → A → Bool
union s t a = s a || t a

abbrev pub difference : {A : Type 0} → (A → Bool) → (A → Bool) → A → Bool
difference s t a = s a && not (t a)

module _ {E A C : Type 0} (m : KindModel E A C) where
  -- the atom is one of some element's
  abbrev pub cover : List E → A → Bool
  cover [] a = false
  cover (x ∷ xs) a = covers m x a || cover xs a

  -- x stands before y: its carrier is less, or it is the same and x ends before y starts
  unfoldable pub ahead : E → E → Bool
  ahead x y = is_lt (m.order (m.carrier x) (m.carrier y)) || (is_eq (m.order (m.carrier x) (m.carrier y)) && int_lt (m.end x) (m.start y))

  abbrev pub leads : E → List E → Bool
  leads x [] = true
  leads x (y ∷ ys) = ahead x y

  -- each element stands before the next
  abbrev pub canonical : List E → Bool
  canonical [] = true
  canonical (x ∷ xs) = leads x xs && canonical xs

  -- how many atoms an element has, and how many the elements have, one by one
  abbrev pub size : E → ℕ
  size e = unsigned_abs (m.end e -ℤ m.start e)

  abbrev pub sizes : List E → ℕ
  sizes xs = sum_by size xs
