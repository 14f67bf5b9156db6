-- A table of elements that all rules share: what its stretches hold, and how the open one grows.
use Rattle.std.specs.Prelude.{◌≡◌, ℕ, ◌+◌, ◌-◌, ◌<◌, ◌≤◌, true, List, length, take, drop}
use Rattle.lattice.specs.Refusals.{number}
use Rattle.lattice.specs.declared.refusal.Refusal.{Refusal}
use Rattle.kinds.specs.Model.{KindModel, covers}
use Rattle.sheets.specs.Cover.{union, cover, canonical}
use Rattle.sheets.specs.Maximal.{Lists, Counts}
use Rattle.rulebook.specs.declared.table.Stretch.{Stretch}
use Rattle.rulebook.specs.declared.table.Table.{Table}

-- the elements of a stretch
abbrev pub stretch_of : {E : Type 0} → List E → Stretch → List E
stretch_of xs s = take (s.to - s.from) (drop s.from xs)

-- those of the open stretch
abbrev pub latest : {E : Type 0} → Table E → List E
latest t = take (t.used - t.from) (drop t.from t.slots.now)

module _ {E A C : Type 0} (m : KindModel E A C) where
  -- the open stretch lies in the table and is in canonical form
  pub record Tidy (t : Table E) : Type 0 where
    pub low : t.from ≤ t.used
    pub high : t.used ≤ length t.slots.now
    pub few : length t.slots.now ≤ 4096
    pub ordered : canonical m (latest t) ≡ true

  -- the open stretch of t became its sum with e, and nothing before it changed
  pub record Grew (e : E) (t u : Table E) : Type 0 where
    pub room : length u.slots.now ≡ length t.slots.now
    pub front : Tidy t → take t.from u.slots.now ≡ take t.from t.slots.now
    pub from : u.from ≡ t.from
    pub tidy : Tidy t → Tidy u
    pub list : Tidy t → Lists m (union (cover m (latest t)) (covers m e)) (latest u)

  -- the table is as it was: behind the earlier stretches there are fewer slots than the sum has elements
  pub record Stayed (e : E) (why : Refusal) (t u : Table E) : Type 0 where
    pub number : number why ≡ 19
    pub same : u ≡ t
    pub full : Tidy t → (n : ℕ) × Counts m (union (cover m (latest t)) (covers m e)) n × (length t.slots.now < t.from + n)
