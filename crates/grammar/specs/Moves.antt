-- What each call does to a drawing and answers; histories: calls with their answers, from a drawing begun on empty sheets.
use Rattle.std.specs.Prelude.{◌≡◌, List, [], ◌∷◌, ◌++◌, length, drop, Some, Option}
use Rattle.lattice.specs.declared.placement.Placement.{Placement}
use Rattle.kinds.specs.Model.{KindModel}
use Rattle.grammar.specs.Calls.{Call, stroke, pick, undo, count, next, list, Answer, refused, done, counted, next_is, listed, Event}
use Rattle.grammar.specs.Numbers.{nth, ordinal}
use Rattle.grammar.specs.Places.{Listed, First}
use Rattle.grammar.specs.Record.{Step, stroked, replaced, stepped}
use Rattle.grammar.specs.Refusals.{Refuses, Passes, table}
use Rattle.grammar.specs.State.{Setting, State, begun, covered, started, Holds}

-- what is answered to `count`, `next` and `list` by the list of places
abbrev pub Tells : {EM EC : Type 0} → List Placement → Call EM EC → Answer → Type 0
Tells ps (stroke s) a = ⊥
Tells ps (pick r k) a = ⊥
Tells ps undo a = ⊥
Tells ps (count r) a = a ≡ counted (length ps)
Tells ps (next r t) a = (o : Option Placement) × (a ≡ next_is o) × First ps t o
Tells ps (list r buffer) a = a ≡ listed (length ps) (ps ++ drop (length ps) buffer)

module _ {EM AM CM EC Ac CC : Type 0} (M : KindModel EM AM CM) (C : KindModel EC Ac CC) where
  -- what an accepted call answers, and how the drawing d becomes d'
  abbrev pub Does : Setting EM EC → State EM EC → Call EM EC → Answer → State EM EC → Type 0
  Does t d (stroke s) a d' = (a ≡ done) × Holds M C d' (stroked M C (covered M C d) s) (stroked M C (started M C d) s) d.steps
  Does t d (pick r k) a d' =
      (a ≡ done)
      × (l : Listed M C t.rules (covered M C d) (ordinal r)) × (p : Placement) × (nth l.places (ordinal k) ≡ Some p)
      × Holds M C d' (replaced M C p l.rule (covered M C d)) (started M C d) (d.steps ++ record { rule = ordinal r; at = p } ∷ [])
  Does t d undo a d' =
      (a ≡ done)
      × (older : List Step) × (x : Step) × (d.steps ≡ older ++ x ∷ [])
      × Holds M C d' (stepped M C t.rules (started M C d) older) (started M C d) older
  Does t d (count r) a d' = (l : Listed M C t.rules (covered M C d) (ordinal r)) × Tells {EM = EM} {EC = EC} l.places (count r) a × (d' ≡ d)
  Does t d (next r x) a d' = (l : Listed M C t.rules (covered M C d) (ordinal r)) × Tells {EM = EM} {EC = EC} l.places (next r x) a × (d' ≡ d)
  Does t d (list r b) a d' = (l : Listed M C t.rules (covered M C d) (ordinal r)) × Tells {EM = EM} {EC = EC} l.places (list r b) a × (d' ≡ d)

  -- no row of the table is given, and the call is carried out
  abbrev pub Accepts : Setting EM EC → State EM EC → Call EM EC → Answer → State EM EC → Type 0
  Accepts t d c a d' = Passes (table M C t d c) × Does t d c a d'

  -- one call: refused by the table with nothing changed, or carried out
  abbrev pub Moves : Setting EM EC → State EM EC → Call EM EC → Answer → State EM EC → Type 0
  Moves t d c (refused n) d' = Refuses (table M C t d c) n × (d' ≡ d)
  Moves t d c done d' = Accepts t d c done d'
  Moves t d c (counted n) d' = Accepts t d c (counted n) d'
  Moves t d c (next_is o) d' = Accepts t d c (next_is o) d'
  Moves t d c (listed n b) d' = Accepts t d c (listed n b) d'

  -- calls with their answers, first to last, take d to d'
  abbrev pub Runs : Setting EM EC → State EM EC → List (Event EM EC) → State EM EC → Type 0
  Runs t d [] d' = d' ≡ d
  Runs t d (e ∷ es) d' = (m : State EM EC) × Moves t d e.call e.answer m × Runs t m es d'

  abbrev pub History : Setting EM EC → List (Event EM EC) → State EM EC → Type 0
  History t es d = Runs t begun es d
