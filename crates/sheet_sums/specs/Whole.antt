-- A sheet changed by all elements of another, by sum or by difference.
use Rattle.std.specs.Prelude.{◌≡◌, ℕ, ◌<◌, ◌≤◌, Bool, List, length}
use Rattle.lattice.specs.Refusals.{number}
use Rattle.lattice.specs.declared.refusal.Refusal.{Refusal}
use Rattle.kinds.specs.Model.{KindModel, covers}
use Rattle.sheets.specs.Census.{Belongs}
use Rattle.sheets.specs.Change.{by}
use Rattle.sheets.specs.Maximal.{Counts, Same}
use Rattle.sheets.specs.Contents.{items, room, covered, Sound}
use Rattle.sheets.specs.declared.sheet.Sheet.{Sheet}

module _ {E A C : Type 0} (m : KindModel E A C) where
  -- s became t, which covers the set
  pub record BecameAll (set : A → Bool) (other s t : Sheet E) : Type 0 where
    pub sound : Sound m s → Sound m t
    pub covers : Sound m s → Sound m other → Same (covered m t) set
    pub room : room t ≡ room s

  -- s stayed as it was: the list of the set is longer than there are slots
  pub record RefusedAll (set : A → Bool) (other s t : Sheet E) (why : Refusal) : Type 0 where
    pub number : number why ≡ 19
    pub same : t ≡ s
    pub full : Sound m s → Sound m other → (n : ℕ) × Counts m set n × (room s < n)

  module _ (op : Bool → Bool → Bool) where
    -- the sheet changed by e has no fewer elements
    abbrev pub Gains : Sheet E → E → Type 0
    Gains t e = (n : ℕ) → Counts m (by op (covered m t) (covers m e)) n → length (items t) ≤ n

    -- s became t by some of the elements, so that none of them would shorten the list
    pub record Begun (es : List E) (other s t : Sheet E) : Type 0 where
      pub same : Same (by op (covered m t) (covered m other)) (by op (covered m s) (covered m other))
      pub ready : (e : E) → Belongs e es → Gains t e

    -- none of the other's elements would shorten the list, and the list by all of them fits
    pub record Fits (other s : Sheet E) : Type 0 where
      pub ready : (e : E) → Belongs e (items other) → Gains s e
      pub fits : (n : ℕ) → Counts m (by op (covered m s) (covered m other)) n → n ≤ room s
