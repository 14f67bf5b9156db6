-- The room that a step had is there when the step is made again from the start copies.
use Rattle.std.specs.Prelude.{◌≡◌, ◌+◌, ◌≤◌, List, ◌∷◌, ◌++◌, length, Some}
use Rattle.kinds.specs.Model.{KindModel}
use Rattle.sheets.specs.Maximal.{Lists}
use Rattle.grammar.specs.Calls.{Event}
use Rattle.grammar.specs.Moves.{History}
use Rattle.grammar.specs.Numbers.{nth}
use Rattle.grammar.specs.Record.{Step, stepped}
use Rattle.grammar.specs.Rules.{Rule}
use Rattle.grammar.specs.Sets.{Sets}
use Rattle.grammar.specs.State.{Setting, State, started}

module _ {EM AM CM EC Ac CC : Type 0} (M : KindModel EM AM CM) (C : KindModel EC Ac CC) where
  -- on sheets that cover S the slots suffice for the elements there and those of both sides of the rule
  pub record Room (t : Setting EM EC) (S : Sets AM Ac) (rule : Rule EM EC) : Type 0 where
    pub marks : (es : List EM) → Lists M S.marks es → length es + length rule.left.marks + length rule.right.marks ≤ t.mark_slots
    pub cuts : (es : List EC) → Lists C S.cuts es → length es + length rule.left.cuts + length rule.right.cuts ≤ t.cut_slots

  -- there is room for each of the steps, made from S one after the other
  abbrev pub Roomy : Setting EM EC → Sets AM Ac → List Step → Type 0
  Roomy t S xs =
      (older newer : List Step) (x : Step) (rule : Rule EM EC) → xs ≡ older ++ x ∷ newer → nth t.rules x.rule ≡ Some rule
      → Room t (stepped M C t.rules S older) rule

  abbrev pub Again : Setting EM EC → State EM EC → Type 0
  Again t d = Roomy t (started M C d) d.steps

  abbrev pub StepsCanBeMadeAgain : Type 0
  StepsCanBeMadeAgain = (t : Setting EM EC) (es : List (Event EM EC)) (d : State EM EC) → History M C t es d → Again t d
