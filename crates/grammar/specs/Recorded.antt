-- What a drawing covers follows from its record, and calls are refused as the table says.
use Rattle.std.specs.Prelude.{◌≡◌, ℕ, true, false, ◌↔◌, List, map, Some}
use Rattle.lattice.specs.declared.placement.Placement.{Placement}
use Rattle.kinds.specs.Model.{KindModel, moved}
use Rattle.sheets.specs.Cover.{cover}
use Rattle.grammar.specs.Calls.{Call, Answer, refused, is_refused, Event, seen}
use Rattle.grammar.specs.Moves.{Moves}
use Rattle.grammar.specs.Numbers.{nth}
use Rattle.grammar.specs.Record.{Step, Record, blank, drawn, sets, Fed}
use Rattle.grammar.specs.Refusals.{Refuses, Passes, table}
use Rattle.grammar.specs.Rules.{Side, Rule}
use Rattle.grammar.specs.Sets.{placed, empty}
use Rattle.grammar.specs.State.{Setting, State, Holds}

module _ {EM AM CM EC Ac CC : Type 0} (M : KindModel EM AM CM) (C : KindModel EC Ac CC) where
  -- the side, placed, covers exactly the images of its atoms
  pub record Lands (p : Placement) (s : Side EM EC) : Type 0 where
    pub marks : (b : AM) → (placed M p s.marks b ≡ true) ↔ ((a : AM) × (cover M s.marks a ≡ true) × (moved M p a ≡ b))
    pub cuts : (b : Ac) → (placed C p s.cuts b ≡ true) ↔ ((a : Ac) × (cover C s.cuts a ≡ true) × (moved C p a ≡ b))

  -- the record of the history es that led to d, and the refusals of the next call
  pub record Recorded (t : Setting EM EC) (es : List (Event EM EC)) (d : State EM EC) : Type 0 where
    -- what was seen, and nothing else, gives one record
    pub kept : Record EM EC
    pub fed : Fed M C t.rules blank (map seen es) kept
    pub sole : (b : Record EM EC) → Fed M C t.rules blank (map seen es) b → b ≡ kept
    -- d covers the sets of the record, and has its steps
    pub holds : Holds M C d (sets M C t.rules kept) (drawn M C empty kept.strokes) kept.steps
    -- no other drawing does, so that the table of refusals, read on d, is read on the record
    pub settles : (e : State EM EC) → Holds M C e (sets M C t.rules kept) (drawn M C empty kept.strokes) kept.steps → e ≡ d
    -- each step stays in the field: what it takes off and puts on are the images of its rule's sides
    pub lands : (i : ℕ) (x : Step) (rule : Rule EM EC) → nth kept.steps i ≡ Some x → nth t.rules x.rule ≡ Some rule → Lands x.at rule.left × Lands x.at rule.right
    -- a call is refused exactly as the table says, and then changes nothing
    pub refuses : (c : Call EM EC) (a : Answer) (d' : State EM EC) → Moves M C t d c a d' → (n : ℕ) → (a ≡ refused n) ↔ Refuses (table M C t d c) n
    pub passes : (c : Call EM EC) (a : Answer) (d' : State EM EC) → Moves M C t d c a d' → (is_refused a ≡ false) ↔ Passes (table M C t d c)
    pub unchanged : (c : Call EM EC) (a : Answer) (d' : State EM EC) → Moves M C t d c a d' → is_refused a ≡ true → d' ≡ d
