-- What a rulebook holds, and when its records fit its tables.
use Rattle.std.specs.Prelude.{◌≡◌, ℕ, ◌≤◌, true, List, [], ◌∷◌, map, length, take, Some, None, Option}
use Rattle.kinds.specs.Model.{KindModel}
use Rattle.sheets.specs.Cover.{canonical}
use Rattle.grammar.specs.Numbers.{nth}
use Rattle.grammar.specs.Rules.{Side, Rule}
use Rattle.rulebook.specs.Tables.{stretch_of, Tidy}
use Rattle.rulebook.specs.declared.records.RuleRecord.{RuleRecord}
use Rattle.rulebook.specs.declared.records.SideRecord.{SideRecord}
use Rattle.rulebook.specs.declared.rulebook.Rulebook.{Rulebook}
use Rattle.rulebook.specs.declared.rulebook.SideTables.{SideTables}
use Rattle.rulebook.specs.declared.table.Stretch.{Stretch}
use Rattle.rulebook.specs.declared.table.Table.{Table}

-- the side that a record names
abbrev pub side_of : {EM EC : Type 0} → SideTables EM EC → SideRecord → Side EM EC
side_of t s = record { marks = stretch_of t.marks.slots.now s.marks; cuts = stretch_of t.cuts.slots.now s.cuts }

abbrev pub rule_of : {EM EC : Type 0} → Rulebook EM EC → RuleRecord → Rule EM EC
rule_of b r = record { left = side_of b.left r.left; right = side_of b.right r.right }

-- the records that are kept, and the rules that they are
abbrev pub kept : {EM EC : Type 0} → Rulebook EM EC → List RuleRecord
kept b = take b.count b.records

abbrev pub rules_of : {EM EC : Type 0} → Rulebook EM EC → List (Rule EM EC)
rules_of b = map (rule_of b) (kept b)

-- of the first so many of a list none has number n, or x has
abbrev pub NoNumber : {X : Type 0} → List X → ℕ → ℕ → Type 0
NoNumber xs count n = nth (take count xs) n ≡ None

abbrev pub HasNumber : {X : Type 0} → List X → ℕ → ℕ → X → Type 0
HasNumber xs count n x = nth (take count xs) n ≡ Some x

-- what is found under number r: no rule has it, or the record's rule has
abbrev pub Finds : {EM EC : Type 0} → Rulebook EM EC → ℕ → Option RuleRecord → Type 0
Finds b r None = nth (rules_of b) r ≡ None
Finds b r (Some x) = nth (rules_of b) r ≡ Some (rule_of b x)

-- a rule with empty sides
abbrev pub bare : {EM EC : Type 0} → Rule EM EC
bare = record { left = record { marks = []; cuts = [] }; right = record { marks = []; cuts = [] } }

module _ {E A C : Type 0} (m : KindModel E A C) where
  -- from slot `at` on, the stretches lie one behind the other, each in canonical form, and the last is the table's latest
  abbrev pub Chained : ℕ → List Stretch → Table E → Type 0
  Chained at [] t = (t.from ≡ at) × (t.used ≡ at)
  Chained at (s ∷ []) t = (s.from ≡ at) × (t.from ≡ at) × (s.to ≡ t.used)
  Chained at (s ∷ r ∷ ss) t = (s.from ≡ at) × (at ≤ s.to) × (canonical m (stretch_of t.slots.now s) ≡ true) × Chained s.to (r ∷ ss) t

  pub record KeptTable (ss : List Stretch) (t : Table E) : Type 0 where
    pub tidy : Tidy m t
    pub chained : Chained 0 ss t

module _ {EM AM CM EC Ac CC : Type 0} (M : KindModel EM AM CM) (C : KindModel EC Ac CC) where
  pub record KeptSide (ss : List SideRecord) (t : SideTables EM EC) : Type 0 where
    pub marks : KeptTable M (map (λ (s : SideRecord). s.marks) ss) t.marks
    pub cuts : KeptTable C (map (λ (s : SideRecord). s.cuts) ss) t.cuts

  -- what the calls make: the records' sides lie in the tables as they should
  pub record Kept (b : Rulebook EM EC) : Type 0 where
    pub few : b.count ≤ 32
    pub slots : length b.records ≡ 32
    pub left : KeptSide (map (λ (r : RuleRecord). r.left) (kept b)) b.left
    pub right : KeptSide (map (λ (r : RuleRecord). r.right) (kept b)) b.right
