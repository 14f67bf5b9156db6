-- The maximal elements of a set of atoms, and the one list of them.
use Rattle.std.specs.Prelude.{◌≡◌, ℕ, Bool, true, ◌↔◌, List, length}
use Rattle.kinds.specs.Model.{KindModel, covers}
use Rattle.sheets.specs.Cover.{cover, canonical}
use Rattle.sheets.specs.Census.{Belongs}

-- all atoms of the one set are in the other
abbrev pub Part : {A : Type 0} → (A → Bool) → (A → Bool) → Type 0
Part {A} s t = (a : A) → s a ≡ true → t a ≡ true

-- the two sets have the same atoms
abbrev pub Same : {A : Type 0} → (A → Bool) → (A → Bool) → Type 0
Same {A} s t = (a : A) → s a ≡ t a

module _ {E A C : Type 0} (m : KindModel E A C) where
  -- e lies wholly in the set, and every element that does so and contains e is e itself
  pub record Maximal (set : A → Bool) (e : E) : Type 0 where
    pub inside : Part (covers m e) set
    pub most : (f : E) → Part (covers m f) set → Part (covers m e) (covers m f) → f ≡ e

  -- the list is in canonical form and covers exactly the set
  pub record Lists (set : A → Bool) (xs : List E) : Type 0 where
    pub ordered : canonical m xs ≡ true
    pub covering : Same (cover m xs) set

  -- the set has a list, of n elements
  pub record Counts (set : A → Bool) (n : ℕ) : Type 0 where
    pub list : List E
    pub lists : Lists set list
    pub long : length list ≡ n

  -- the list's elements are exactly the maximal elements of the set
  pub record Exactly (set : A → Bool) (xs : List E) : Type 0 where
    pub members : (e : E) → Belongs e xs ↔ Maximal set e

  -- the list of a set is exactly its maximal elements
  abbrev pub ExactlyMaximal : Type 0
  ExactlyMaximal = (set : A → Bool) (xs : List E) → Lists set xs → Exactly set xs

  -- a set has at most one list
  abbrev pub OneList : Type 0
  OneList = (set : A → Bool) (xs ys : List E) → Lists set xs → Lists set ys → xs ≡ ys
