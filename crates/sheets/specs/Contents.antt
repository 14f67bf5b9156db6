-- What a sheet holds and covers, when it is sound, and what a change of it is.
use Rattle.std.specs.Prelude.{◌≡◌, ℕ, ◌<◌, ◌≤◌, Bool, true, List, length, take}
use Rattle.lattice.specs.Refusals.{number}
use Rattle.lattice.specs.declared.refusal.Refusal.{Refusal}
use Rattle.kinds.specs.Model.{KindModel}
use Rattle.sheets.specs.Cover.{cover, canonical}
use Rattle.sheets.specs.Maximal.{Counts, Same}
use Rattle.sheets.specs.declared.sheet.Sheet.{Sheet}

-- the counted elements
abbrev pub items : {E : Type 0} → Sheet E → List E
items s = take s.count s.slots.now

-- how many slots there are
abbrev pub room : {E : Type 0} → Sheet E → ℕ
room s = length s.slots.now

module _ {E A C : Type 0} (m : KindModel E A C) where
  -- the elements stand in order, none touches the next, and there are at most 4096 slots
  pub record Sound (s : Sheet E) : Type 0 where
    pub ordered : canonical m (items s) ≡ true
    pub few : room s ≤ 4096

  -- the set that a sheet covers
  abbrev pub covered : Sheet E → A → Bool
  covered s a = cover m (items s) a

  -- s became t, which covers the set
  pub record Became (set : A → Bool) (s t : Sheet E) : Type 0 where
    pub sound : Sound s → Sound t
    pub covers : Sound s → Same (covered t) set
    pub room : room t ≡ room s

  -- s stayed as it was: the list of the set is longer than there are slots
  pub record Refused (set : A → Bool) (s t : Sheet E) (why : Refusal) : Type 0 where
    pub number : number why ≡ 19
    pub same : t ≡ s
    pub full : Sound s → (n : ℕ) × Counts m set n × (room s < n)

  -- s became t, which has the other sheet's elements
  pub record Copied (other s t : Sheet E) : Type 0 where
    pub items : items t ≡ items other
    pub sound : Sound s → Sound other → Sound t
    pub room : room t ≡ room s

-- s stayed as it was: the other sheet has more elements than s has slots
pub record TooMany {E : Type 0} (other s t : Sheet E) (why : Refusal) : Type 0 where
  pub number : number why ≡ 19
  pub same : t ≡ s
  pub full : room s < length (items other)
