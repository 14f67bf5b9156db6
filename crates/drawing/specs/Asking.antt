-- What is shown to a search of a drawing's places.
use Rattle.std.specs.Prelude.{◌≡◌, ℕ, ◌⊎◌, Some}
use Rattle.lattice.specs.Refusals.{number}
use Rattle.lattice.specs.declared.refusal.Refusal.{Refusal}
use Rattle.kinds.specs.Model.{KindModel}
use Rattle.sheets.specs.Contents.{items}
use Rattle.grammar.specs.Numbers.{nth}
use Rattle.grammar.specs.Refusals.{NoRule, EmptyLeft}
use Rattle.grammar.specs.Rules.{Rule, side, Filled}
use Rattle.rulebook.specs.Rulebooks.{rule_of}
use Rattle.rulebook.specs.declared.records.RuleRecord.{RuleRecord}
use Rattle.search.specs.declared.scene.Scene.{Scene}
use Rattle.drawing.specs.View.{setting}
use Rattle.drawing.specs.declared.drawing.Drawing.{Drawing}

-- the left side of the rule, and the sheets
pub record ShowsRule {EM EC : Type 0} (d : Drawing EM EC) (rule : Rule EM EC) (s : Scene EM EC) : Type 0 where
  pub left_marks : s.left_marks.now ≡ rule.left.marks
  pub left_cuts : s.left_cuts.now ≡ rule.left.cuts
  pub marks : s.marks.now ≡ items d.marks
  pub cuts : s.cuts.now ≡ items d.cuts

abbrev pub Shown : {EM EC : Type 0} → Drawing EM EC → RuleRecord → Scene EM EC → Type 0
Shown d x s = ShowsRule d (rule_of d.book.now x) s

module _ {EM AM CM EC Ac CC : Type 0} (M : KindModel EM AM CM) (C : KindModel EC Ac CC) where
  -- rule r, whose left side is not empty, is shown
  pub record Seeks (d : Drawing EM EC) (r : ℕ) (s : Scene EM EC) : Type 0 where
    pub rule : Rule EM EC
    pub named : nth (setting d).rules r ≡ Some rule
    pub filled : Filled M C (side M C rule.left)
    pub shows : ShowsRule d rule s

  -- there is no rule r, or its left side is empty
  abbrev pub Barred : Drawing EM EC → ℕ → Refusal → Type 0
  Barred d r why = ((number why ≡ 13) × NoRule M C (setting d) r) ⊎ ((number why ≡ 14) × EmptyLeft M C (setting d) r)
