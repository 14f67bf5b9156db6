-- How a drawing in memory is read as sheets of lists, what its history is, and what a call has to do with it.
use Rattle.std.specs.Prelude.{◌≡◌, ℕ, ◌≤◌, List, [], ◌∷◌, ◌++◌, map, length, take, Ok, Err, Result}
use Rattle.lattice.specs.Refusals.{number}
use Rattle.lattice.specs.declared.refusal.Refusal.{Refusal}
use Rattle.kinds.specs.Model.{KindModel}
use Rattle.sheets.specs.Contents.{items, room}
use Rattle.grammar.specs.Calls.{Stroke as Struck, Call, stroke, draw_mark, rub_mark, draw_cut, rub_cut, Answer, refused, Event}
use Rattle.grammar.specs.Moves.{History}
use Rattle.grammar.specs.Numbers.{ordinal}
use Rattle.grammar.specs.Record.{Step}
use Rattle.grammar.specs.State.{Setting, State}
use Rattle.rulebook.specs.Rulebooks.{rules_of}
use Rattle.rulebook.specs.declared.stroke.Stroke.{Stroke}
use Rattle.rulebook.specs.declared.stroke.Stroke.TheVariants.{Mark, Cut}
use Rattle.drawing.specs.declared.drawing.Drawing.{Drawing}
use Rattle.drawing.specs.declared.records.StepRecord.{StepRecord}

abbrev pub step_of : StepRecord → Step
step_of x = record { rule = ordinal x.rule; at = x.at }

-- the steps that are recorded
abbrev pub taken : {EM EC : Type 0} → Drawing EM EC → List StepRecord
taken d = take d.step_count d.steps.now

abbrev pub state : {EM EC : Type 0} → Drawing EM EC → State EM EC
state d = record { marks = items d.marks; cuts = items d.cuts; start_marks = items d.start_marks; start_cuts = items d.start_cuts; steps = map step_of (taken d) }

abbrev pub setting : {EM EC : Type 0} → Drawing EM EC → Setting EM EC
setting d = record { rules = rules_of d.book.now; mark_slots = room d.marks; cut_slots = room d.cuts; step_slots = length d.steps.now }

-- tables of these lengths can be drawn on: marks, cuts, their start copies, and steps
pub record Tables (marks cuts start_marks start_cuts steps : ℕ) : Type 0 where
  pub few_marks : marks ≤ 4096
  pub few_cuts : cuts ≤ 4096
  pub marks_again : start_marks ≡ marks
  pub cuts_again : start_cuts ≡ cuts
  pub few_steps : steps ≤ 1024

-- the answer that a result is
abbrev pub answer : {V : Type 0} → Result V Refusal → (V → Answer) → Answer
answer r f = elim r [ Ok v ↦ f v | Err e ↦ refused (number e) ]

-- the strokes that draw and rub out an element, and the calls
abbrev pub drawn : {EM EC : Type 0} → Stroke EM EC → Struck EM EC
drawn (Mark e) = draw_mark e
drawn (Cut e) = draw_cut e

abbrev pub rubbed : {EM EC : Type 0} → Stroke EM EC → Struck EM EC
rubbed (Mark e) = rub_mark e
rubbed (Cut e) = rub_cut e

abbrev pub drawing_call : {EM EC : Type 0} → Stroke EM EC → Call EM EC
drawing_call x = stroke (drawn x)

abbrev pub rubbing_call : {EM EC : Type 0} → Stroke EM EC → Call EM EC
rubbing_call x = stroke (rubbed x)

module _ {EM AM CM EC Ac CC : Type 0} (M : KindModel EM AM CM) (C : KindModel EC Ac CC) where
  -- under these rules and table sizes these calls with these answers made the drawing, on tables that can be drawn on
  unfoldable pub Lived : Setting EM EC → List (Event EM EC) → Drawing EM EC → Type 0
  Lived t es d = (setting d ≡ t) × History M C t es (state d) × Tables (room d.marks) (room d.cuts) (room d.start_marks) (room d.start_cuts) (length d.steps.now)

  -- the call takes whatever made d to what made d', with the answer, under the same rules and table sizes
  abbrev pub Goes : Drawing EM EC → Call EM EC → Answer → Drawing EM EC → Type 0
  Goes d c a d' = (t : Setting EM EC) (es : List (Event EM EC)) → Lived t es d → Lived t (es ++ record { call = c; answer = a } ∷ []) d'
