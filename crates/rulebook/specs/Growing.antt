-- What the calls on a rulebook do.
use Rattle.std.specs.Prelude.{◌≡◌, ℕ, ◌+◌, ◌<◌, ◌⊎◌, List, [], ◌∷◌, ◌++◌, length, sum_by}
use Rattle.lattice.specs.Refusals.{number}
use Rattle.lattice.specs.declared.refusal.Refusal.{Refusal}
use Rattle.kinds.specs.Model.{KindModel, covers}
use Rattle.sheets.specs.Cover.{union, cover}
use Rattle.sheets.specs.Maximal.{Lists, Counts}
use Rattle.grammar.specs.Rules.{Side, Rule}
use Rattle.rulebook.specs.Rulebooks.{rules_of, bare, Kept}
use Rattle.rulebook.specs.Tables.{Grew, Stayed}
use Rattle.rulebook.specs.declared.records.SideRecord.{SideRecord}
use Rattle.rulebook.specs.declared.rulebook.Rulebook.{Rulebook}
use Rattle.rulebook.specs.declared.rulebook.SideTables.{SideTables}
use Rattle.rulebook.specs.declared.stroke.Stroke.{Stroke}
use Rattle.rulebook.specs.declared.stroke.Stroke.TheVariants.{Mark, Cut}

-- the stretches of the latest rule
abbrev pub latest_record : {EM EC : Type 0} → SideTables EM EC → SideRecord
latest_record t = record { marks = record { from = t.marks.from; to = t.marks.used }; cuts = record { from = t.cuts.from; to = t.cuts.used } }

-- the latest stretches were closed, and empty ones begun behind them
pub record Closed {EM EC : Type 0} (t u : SideTables EM EC) : Type 0 where
  pub mark_slots : u.marks.slots ≡ t.marks.slots
  pub cut_slots : u.cuts.slots ≡ t.cuts.slots
  pub marks : (u.marks.from ≡ t.marks.used) × (u.marks.used ≡ t.marks.used)
  pub cuts : (u.cuts.from ≡ t.cuts.used) × (u.cuts.used ≡ t.cuts.used)

module _ {EM AM CM EC Ac CC : Type 0} (M : KindModel EM AM CM) (C : KindModel EC Ac CC) where
  -- the latest stretch for the stroke's kind grew, and the other table is as it was
  abbrev pub SideGrew : Stroke EM EC → SideTables EM EC → SideTables EM EC → Type 0
  SideGrew (Mark e) t u = Grew M e t.marks u.marks × (u.cuts ≡ t.cuts)
  SideGrew (Cut e) t u = (u.marks ≡ t.marks) × Grew C e t.cuts u.cuts

  abbrev pub TableStayed : Stroke EM EC → Refusal → SideTables EM EC → SideTables EM EC → Type 0
  TableStayed (Mark e) why t u = Stayed M e why t.marks u.marks
  TableStayed (Cut e) why t u = Stayed C e why t.cuts u.cuts

  -- s with the stroke's element is t
  abbrev pub Widens : Stroke EM EC → Side EM EC → Side EM EC → Type 0
  Widens (Mark e) s t = Lists M (union (cover M s.marks) (covers M e)) t.marks × (t.cuts ≡ s.cuts)
  Widens (Cut e) s t = (t.marks ≡ s.marks) × Lists C (union (cover C s.cuts) (covers C e)) t.cuts

  -- a rule with empty sides was added
  pub record Added (b c : Rulebook EM EC) : Type 0 where
    pub rules : Kept M C b → rules_of c ≡ rules_of b ++ (bare ∷ [])
    pub kept : Kept M C b → Kept M C c

  -- the rulebook is as it was, and has 32 rules
  pub record NotAdded (why : Refusal) (b c : Rulebook EM EC) : Type 0 where
    pub number : number why ≡ 8
    pub same : c ≡ b
    pub full : Kept M C b → length (rules_of b) ≡ 32

  -- one side of the latest rule grew by the stroke's element, and all else stayed: `read` takes that side of a rule, and
  -- `with` puts another in its place
  pub record LatestGrew (read : Rule EM EC → Side EM EC) (with : Rule EM EC → Side EM EC → Rule EM EC) (stroke : Stroke EM EC) (b c : Rulebook EM EC) : Type 0 where
    pub earlier : List (Rule EM EC)
    pub latest : Rule EM EC
    pub wider : Side EM EC
    pub before : rules_of b ≡ earlier ++ (latest ∷ [])
    pub after : rules_of c ≡ earlier ++ (with latest wider ∷ [])
    pub widens : Widens stroke (read latest) wider

  pub record Grown (read : Rule EM EC → Side EM EC) (with : Rule EM EC → Side EM EC → Rule EM EC) (stroke : Stroke EM EC) (b c : Rulebook EM EC) : Type 0 where
    pub rules : Kept M C b → LatestGrew read with stroke b c
    pub kept : Kept M C b → Kept M C c

  -- with the stroke's element the side's table would have to hold more elements, those of all rules together, than it has slots
  abbrev pub Overflows : (Rule EM EC → Side EM EC) → SideTables EM EC → Stroke EM EC → List (Rule EM EC) → Rule EM EC → Type 0
  Overflows read t (Mark e) earlier latest =
      (n : ℕ) × Counts M (union (cover M (read latest).marks) (covers M e)) n × (length t.marks.slots.now < sum_by (λ r. length (read r).marks) earlier + n)
  Overflows read t (Cut e) earlier latest =
      (n : ℕ) × Counts C (union (cover C (read latest).cuts) (covers C e)) n × (length t.cuts.slots.now < sum_by (λ r. length (read r).cuts) earlier + n)

  pub record Full (read : Rule EM EC → Side EM EC) (t : SideTables EM EC) (stroke : Stroke EM EC) (b : Rulebook EM EC) : Type 0 where
    pub earlier : List (Rule EM EC)
    pub latest : Rule EM EC
    pub before : rules_of b ≡ earlier ++ (latest ∷ [])
    pub overflows : Overflows read t stroke earlier latest

  -- the rulebook is as it was: there is no rule, or no room
  pub record NotGrown (read : Rule EM EC → Side EM EC) (t : SideTables EM EC) (stroke : Stroke EM EC) (why : Refusal) (b c : Rulebook EM EC) : Type 0 where
    pub same : c ≡ b
    pub cause : Kept M C b → ((number why ≡ 9) × (rules_of b ≡ [])) ⊎ ((number why ≡ 19) × Full read t stroke b)

abbrev pub left_side : {EM EC : Type 0} → Rule EM EC → Side EM EC
left_side r = r.left

abbrev pub right_side : {EM EC : Type 0} → Rule EM EC → Side EM EC
right_side r = r.right

abbrev pub with_left : {EM EC : Type 0} → Rule EM EC → Side EM EC → Rule EM EC
with_left r s = record { left = s; right = r.right }

abbrev pub with_right : {EM EC : Type 0} → Rule EM EC → Side EM EC → Rule EM EC
with_right r s = record { left = r.left; right = s }
