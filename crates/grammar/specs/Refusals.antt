-- The refusals of the calls on a drawing, as a table of rows in the order of checking.
use Rattle.std.specs.Prelude.{◌≡◌, ℕ, ◌+◌, ◌<◌, ◌≤◌, true, false, ◌⊎◌, List, [], ◌∷◌, length, Some, None}
use Rattle.lattice.specs.declared.placement.Placement.{Placement}
use Rattle.kinds.specs.Model.{KindModel, moved}
use Rattle.sheets.specs.Cover.{cover}
use Rattle.sheets.specs.Maximal.{Lists}
use Rattle.grammar.specs.Calls.{Stroke, Call, stroke, pick, undo, count, next, list}
use Rattle.grammar.specs.Numbers.{nth, ordinal}
use Rattle.grammar.specs.Places.{Listed}
use Rattle.grammar.specs.Record.{stroked}
use Rattle.grammar.specs.Rules.{Side, Rule, side, Filled}
use Rattle.grammar.specs.State.{Setting, State, covered}

-- a row: its number, and when it is given
pub record Row : Type 1 where
  pub number : ℕ
  pub given : Type 0

abbrev pub row : ℕ → Type 0 → Row
row n if = record { number = n; given = if }

-- the table refuses by n: that row is given, and no row above it
abbrev pub Refuses : List Row → ℕ → Type 0
Refuses [] n = ⊥
Refuses (x ∷ xs) n = (x.given × (n ≡ x.number)) ⊎ ((x.given → ⊥) × Refuses xs n)

-- no row is given
abbrev pub Passes : List Row → Type 0
Passes [] = Unit {0}
Passes (x ∷ xs) = (x.given → ⊥) × Passes xs

module _ {EM AM CM EC Ac CC : Type 0} (M : KindModel EM AM CM) (C : KindModel EC Ac CC) where
  -- 11: a step is recorded
  abbrev pub Stepped : State EM EC → Type 0
  Stepped d = 0 < length d.steps

  -- 12: no step is recorded
  abbrev pub Stepless : State EM EC → Type 0
  Stepless d = length d.steps ≡ 0

  -- 13: there is no rule r
  abbrev pub NoRule : Setting EM EC → ℕ → Type 0
  NoRule t r = nth t.rules r ≡ None

  -- 14: the left side of rule r is empty
  abbrev pub EmptyLeft : Setting EM EC → ℕ → Type 0
  EmptyLeft t r = (rule : Rule EM EC) × (nth t.rules r ≡ Some rule) × (Filled M C (side M C rule.left) → ⊥)

  -- 15: the list of rule r has no number k
  abbrev pub NoPlace : Setting EM EC → State EM EC → ℕ → ℕ → Type 0
  NoPlace t d r k = (l : Listed M C t.rules (covered M C d) r) × (nth l.places k ≡ None)

  -- the placed side leaves the field
  abbrev pub Leaves : Placement → Side EM EC → Type 0
  Leaves p s =
      ((a : AM) × (cover M s.marks a ≡ true) × (M.field (moved M p a) ≡ false))
      ⊎ ((a : Ac) × (cover C s.cuts a ≡ true) × (C.field (moved C p a) ≡ false))

  -- 16: at place k of rule r its right side leaves the field
  abbrev pub LeavesField : Setting EM EC → State EM EC → ℕ → ℕ → Type 0
  LeavesField t d r k = (l : Listed M C t.rules (covered M C d) r) × (p : Placement) × (nth l.places k ≡ Some p) × Leaves p l.rule.right

  -- 17: the step table is full
  abbrev pub StepsFull : Setting EM EC → State EM EC → Type 0
  StepsFull t d = t.step_slots ≤ length d.steps

  -- 18: on some sheet the elements now, with those of both sides of rule r, exceed the slots
  abbrev pub NoRoom : Setting EM EC → State EM EC → ℕ → Type 0
  NoRoom t d r =
      (rule : Rule EM EC) × (nth t.rules r ≡ Some rule)
      × ((t.mark_slots < length d.marks + length rule.left.marks + length rule.right.marks)
      ⊎ (t.cut_slots < length d.cuts + length rule.left.cuts + length rule.right.cuts))

  -- 19: the stroke would leave more elements than slots
  abbrev pub SheetFull : Setting EM EC → State EM EC → Stroke EM EC → Type 0
  SheetFull t d s =
      ((es : List EM) × Lists M (stroked M C (covered M C d) s).marks es × (t.mark_slots < length es))
      ⊎ ((es : List EC) × Lists C (stroked M C (covered M C d) s).cuts es × (t.cut_slots < length es))

  -- 20: the places of rule r do not fit into the buffer
  abbrev pub BufferFull : Setting EM EC → State EM EC → ℕ → List Placement → Type 0
  BufferFull t d r buffer = (l : Listed M C t.rules (covered M C d) r) × (length buffer < length l.places)

  abbrev pub table : Setting EM EC → State EM EC → Call EM EC → List Row
  table t d (stroke s) = row 11 (Stepped d) ∷ row 19 (SheetFull t d s) ∷ []
  table t d (pick r k) =
      row 13 (NoRule t (ordinal r)) ∷ row 14 (EmptyLeft t (ordinal r)) ∷ row 15 (NoPlace t d (ordinal r) (ordinal k))
      ∷ row 16 (LeavesField t d (ordinal r) (ordinal k)) ∷ row 17 (StepsFull t d) ∷ row 18 (NoRoom t d (ordinal r)) ∷ []
  table t d undo = row 12 (Stepless d) ∷ []
  table t d (count r) = row 13 (NoRule t (ordinal r)) ∷ row 14 (EmptyLeft t (ordinal r)) ∷ []
  table t d (next r x) = row 13 (NoRule t (ordinal r)) ∷ row 14 (EmptyLeft t (ordinal r)) ∷ []
  table t d (list r buffer) = row 13 (NoRule t (ordinal r)) ∷ row 14 (EmptyLeft t (ordinal r)) ∷ row 20 (BufferFull t d (ordinal r) buffer) ∷ []
