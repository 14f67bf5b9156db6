-- A sum on slots, of which the first so many are taken.
use Rattle.std.specs.Prelude.{◌≡◌, ℕ, ◌<◌, ◌≤◌, true, List, length, take}
use Rattle.lattice.specs.Refusals.{number}
use Rattle.lattice.specs.declared.refusal.Refusal.{Refusal}
use Rattle.kinds.specs.Model.{KindModel, covers}
use Rattle.sheets.specs.Cover.{union, cover, canonical}
use Rattle.sheets.specs.Maximal.{Lists, Counts}

module _ {E A C : Type 0} (m : KindModel E A C) where
  -- the first n slots hold the list of what was covered and e
  pub record SlotsBecame (count : ℕ) (e : E) (n : ℕ) (before after : List E) : Type 0 where
    pub within : n ≤ length after
    pub list : canonical m (take count before) ≡ true → length before ≤ 4096 → Lists m (union (cover m (take count before)) (covers m e)) (take n after)

  -- the slots are as they were: the list would be longer than they are
  pub record SlotsStayed (count : ℕ) (e : E) (why : Refusal) (before after : List E) : Type 0 where
    pub number : number why ≡ 19
    pub same : after ≡ before
    pub full : canonical m (take count before) ≡ true → length before ≤ 4096 → (n : ℕ) × Counts m (union (cover m (take count before)) (covers m e)) n × (length before < n)
