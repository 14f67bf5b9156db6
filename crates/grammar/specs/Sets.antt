-- Sets of atoms: what a drawing covers, with one set for its marks and one for its cuts.
use Rattle.std.specs.Prelude.{◌≡◌, Bool, false, ◌||◌, List, [], ◌∷◌, Some, None, Option}
use Rattle.lattice.specs.declared.placement.Placement.{Placement}
use Rattle.kinds.specs.Model.{KindModel, covers}

abbrev pub Set : Type 0 → Type 0
Set A = A → Bool

abbrev pub nothing : {A : Type 0} → Set A
nothing a = false

module _ {E A C : Type 0} (m : KindModel E A C) where
  -- the atoms of an element, if there is one
  abbrev pub atoms : Option E → Set A
  atoms None a = false
  atoms (Some e) a = covers m e a

  -- the atoms of a list of elements, each placed
  abbrev pub placed : Placement → List E → Set A
  placed p [] a = false
  placed p (e ∷ es) a = atoms (m.place p e) a || placed p es a

-- two sets, one for each sheet
pub record Sets (AM Ac : Type 0) : Type 0 where
  pub marks : Set AM
  pub cuts : Set Ac

abbrev pub empty : {AM Ac : Type 0} → Sets AM Ac
empty = record { marks = nothing; cuts = nothing }

-- they have the same atoms, sheet by sheet
pub record SameCover {AM Ac : Type 0} (S R : Sets AM Ac) : Type 0 where
  pub marks : (a : AM) → S.marks a ≡ R.marks a
  pub cuts : (a : Ac) → S.cuts a ≡ R.cuts a
