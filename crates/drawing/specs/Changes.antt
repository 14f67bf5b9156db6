-- What changes of one sheet are: a stroke on a sheet and its start copy, and many elements one after the other.
use Rattle.std.specs.Prelude.{◌≡◌, ℕ, ◌+◌, ◌<◌, ◌≤◌, Bool, true, ◌&&◌, List, [], ◌∷◌, length, is_some}
use Rattle.lattice.specs.Refusals.{number}
use Rattle.lattice.specs.declared.placement.Placement.{Placement}
use Rattle.lattice.specs.declared.refusal.Refusal.{Refusal}
use Rattle.kinds.specs.Model.{KindModel, covers}
use Rattle.sheets.specs.Contents.{items, room, Sound, covered, Became}
use Rattle.sheets.specs.Change.{by}
use Rattle.sheets.specs.Maximal.{Same, Lists, Counts}
use Rattle.sheets.specs.declared.sheet.Sheet.{Sheet}

module _ {E A C : Type 0} (m : KindModel E A C) where
  -- a set changed by the atoms of e
  abbrev pub changed : (Bool → Bool → Bool) → E → (A → Bool) → A → Bool
  changed op e set = by op set (covers m e)

  -- every element, placed, stays in the field
  abbrev pub stays : Placement → List E → Bool
  stays p [] = true
  stays p (x ∷ xs) = is_some (m.place p x) && stays p xs

  -- s became t by n changes, each of at most one element more; t covers the set, if there was room for all of them
  pub record Turned (n : ℕ) (set : A → Bool) (s t : Sheet E) : Type 0 where
    pub sound : Sound m s → Sound m t
    pub covers : length (items s) + n ≤ room s → Sound m s → Same (covered m t) set
    pub more : length (items t) ≤ length (items s) + n
    pub room : room t ≡ room s

  -- the sheet s and its start copy t became s' and t' by the same change, if they covered the same
  pub record Both (change : (A → Bool) → A → Bool) (s t s' t' : Sheet E) : Type 0 where
    pub first : Became m (change (covered m s)) s s'
    pub second : room t ≡ room s → Sound m s → Sound m t → covered m s ≡ covered m t → Lists m (change (covered m t)) (items t')
    pub room : room t' ≡ room t

  -- both are as they were, since the change of s would leave more elements than slots
  pub record Neither (change : (A → Bool) → A → Bool) (why : Refusal) (s t s' t' : Sheet E) : Type 0 where
    pub number : number why ≡ 19
    pub first : s' ≡ s
    pub second : t' ≡ t
    pub full : Sound m s → (n : ℕ) × Counts m (change (covered m s)) n × (room s < n)
