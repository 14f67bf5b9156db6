-- What the parts of a step do to a drawing in memory, and what making the steps again does.
use Rattle.std.specs.Prelude.{◌≡◌, ℕ, ◌+◌, ◌≤◌, map, length, take, Some}
use Rattle.lattice.specs.declared.placement.Placement.{Placement}
use Rattle.kinds.specs.Model.{KindModel}
use Rattle.sheets.specs.Contents.{items, room, Sound, covered as covered_by}
use Rattle.sheets.specs.Cover.{union, difference}
use Rattle.sheets.specs.Maximal.{Lists}
use Rattle.sheets.specs.declared.sheet.Sheet.{Sheet}
use Rattle.grammar.specs.Again.{Room, Roomy}
use Rattle.grammar.specs.Numbers.{nth}
use Rattle.grammar.specs.Places.{Listed}
use Rattle.grammar.specs.Record.{replaced_by, stepped}
use Rattle.grammar.specs.Rules.{Rule}
use Rattle.grammar.specs.Sets.{placed, Sets}
use Rattle.grammar.specs.State.{covered}
use Rattle.rulebook.specs.Rulebooks.{rule_of}
use Rattle.rulebook.specs.declared.records.RuleRecord.{RuleRecord}
use Rattle.drawing.specs.Changes.{Turned}
use Rattle.drawing.specs.View.{step_of, state, setting}
use Rattle.drawing.specs.declared.drawing.Drawing.{Drawing}
use Rattle.drawing.specs.declared.records.StepRecord.{StepRecord}

-- on both sheets the elements now, with those of both sides, do not exceed the slots
pub record Fits {EM EC : Type 0} (d : Drawing EM EC) (x : RuleRecord) : Type 0 where
  pub marks : length (items d.marks) + (length (rule_of d.book.now x).left.marks + length (rule_of d.book.now x).right.marks) ≤ room d.marks
  pub cuts : length (items d.cuts) + (length (rule_of d.book.now x).left.cuts + length (rule_of d.book.now x).right.cuts) ≤ room d.cuts

-- the drawing d with other sheets
abbrev pub with_sheets : {EM EC : Type 0} → Drawing EM EC → Sheet EM → Sheet EC → Drawing EM EC
with_sheets d s t = record { book = d.book; marks = s; cuts = t; start_marks = d.start_marks; start_cuts = d.start_cuts; steps = d.steps; step_count = d.step_count }

module _ {EM AM CM EC Ac CC : Type 0} (M : KindModel EM AM CM) (C : KindModel EC Ac CC) where
  -- the placed left side was taken off both sheets and the placed right side put on, if there was room
  pub record Stepped (x : RuleRecord) (p : Placement) (d d' : Drawing EM EC) : Type 0 where
    pub marks : Turned M (length (rule_of d.book.now x).left.marks + length (rule_of d.book.now x).right.marks) (union (difference (covered_by M d.marks) (placed M p (rule_of d.book.now x).left.marks)) (placed M p (rule_of d.book.now x).right.marks)) d.marks d'.marks
    pub cuts : Turned C (length (rule_of d.book.now x).left.cuts + length (rule_of d.book.now x).right.cuts) (union (difference (covered_by C d.cuts) (placed C p (rule_of d.book.now x).left.cuts)) (placed C p (rule_of d.book.now x).right.cuts)) d.cuts d'.cuts
    pub rest : d' ≡ with_sheets d d'.marks d'.cuts

  -- p has number k among the places of rule r
  abbrev pub Listing : Drawing EM EC → ℕ → ℕ → Placement → Type 0
  Listing d r k p = (l : Listed M C (setting d).rules (covered M C (state d)) r) × (nth l.places k ≡ Some p)

  -- both sheets are the lists of the sets
  pub record Shows (S : Sets AM Ac) (d : Drawing EM EC) : Type 0 where
    pub marks : Lists M S.marks (items d.marks)
    pub cuts : Lists C S.cuts (items d.cuts)

  -- nothing but the two sheets changed, and not their slots
  pub record Sheets (d d' : Drawing EM EC) : Type 0 where
    pub rest : d' ≡ with_sheets d d'.marks d'.cuts
    pub marks : room d'.marks ≡ room d.marks
    pub cuts : room d'.cuts ≡ room d.cuts
    pub sound_marks : Sound M d.marks → Sound M d'.marks
    pub sound_cuts : Sound C d.cuts → Sound C d'.cuts

  -- the step y was made, if there was room
  pub record Redone (y : StepRecord) (d d' : Drawing EM EC) : Type 0 where
    pub sheets : Sheets d d'
    pub shows : Sound M d.marks → Sound C d.cuts → ((rule : Rule EM EC) → nth (setting d).rules (step_of y).rule ≡ Some rule → Room M C (setting d) (covered M C (state d)) rule)
        → Shows (replaced_by M C y.at (nth (setting d).rules (step_of y).rule) (covered M C (state d))) d'

  -- the first n steps were made, if there was room for each
  pub record Replayed (n : ℕ) (d d' : Drawing EM EC) : Type 0 where
    pub sheets : Sheets d d'
    pub shows : Sound M d.marks → Sound C d.cuts → Roomy M C (setting d) (covered M C (state d)) (map step_of (take n d.steps.now))
        → Shows (stepped M C (setting d).rules (covered M C (state d)) (map step_of (take n d.steps.now))) d'
