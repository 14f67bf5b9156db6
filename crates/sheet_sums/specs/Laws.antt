-- The laws of sums and differences, of any lists of elements of a kind.
use Rattle.std.specs.Prelude.{◌≡◌, true, List}
use Rattle.kinds.specs.Model.{KindModel}
use Rattle.sheets.specs.Cover.{cover, union, difference, canonical}
use Rattle.sheets.specs.Maximal.{Part, Lists}

module _ {E A C : Type 0} (m : KindModel E A C) where
  -- zs is the list of what xs and ys cover together, and of what xs covers and ys does not
  abbrev pub Sum : List E → List E → List E → Type 0
  Sum xs ys zs = Lists m (union (cover m xs) (cover m ys)) zs

  abbrev pub Difference : List E → List E → List E → Type 0
  Difference xs ys zs = Lists m (difference (cover m xs) (cover m ys)) zs

  -- what any two lists in canonical form cover together has a list, and so has what the first covers alone
  abbrev pub SumsExist : Type 0
  SumsExist = (xs ys : List E) → canonical m xs ≡ true → canonical m ys ≡ true → (zs : List E) × Sum xs ys zs

  abbrev pub DifferencesExist : Type 0
  DifferencesExist = (xs ys : List E) → canonical m xs ≡ true → canonical m ys ≡ true → (zs : List E) × Difference xs ys zs

  abbrev pub SumCommutes : Type 0
  SumCommutes = (xs ys us vs : List E) → Sum xs ys us → Sum ys xs vs → us ≡ vs

  -- (xs + ys) + zs is xs + (ys + zs)
  abbrev pub SumAssociates : Type 0
  SumAssociates = (xs ys zs us vs ws ts : List E) → Sum xs ys us → Sum us zs vs → Sum ys zs ws → Sum xs ws ts → vs ≡ ts

  abbrev pub SumWithItself : Type 0
  SumWithItself = (xs us : List E) → canonical m xs ≡ true → Sum xs xs us → us ≡ xs

  -- (xs - ys) + ys is xs + ys
  abbrev pub DifferenceThenSum : Type 0
  DifferenceThenSum = (xs ys us vs ws : List E) → Difference xs ys us → Sum us ys vs → Sum xs ys ws → vs ≡ ws

  -- xs is part of xs + ys
  abbrev pub PartOfSum : Type 0
  PartOfSum = (xs ys us : List E) → Sum xs ys us → Part (cover m xs) (cover m us)

  -- lists that are part of each other are the same
  abbrev pub PartBothWays : Type 0
  PartBothWays = (xs ys : List E) → canonical m xs ≡ true → canonical m ys ≡ true → Part (cover m xs) (cover m ys) → Part (cover m ys) (cover m xs) → xs ≡ ys
