-- What holds of any two drawings in memory, whatever calls made them: places and their numbers follow from what is covered,
-- and that follows from the calls and their refusals.
use Rattle.std.specs.Prelude.{◌≡◌, Bool, true, List, Decides}
use Rattle.kinds.specs.Model.{KindModel}
use Rattle.sheets.specs.Maximal.{ExactlyMaximal, OneList}
use Rattle.grammar.specs.Again.{Again}
use Rattle.grammar.specs.Calls.{Event}
use Rattle.grammar.specs.Numbering.{PlacesNumbered, SameNumbers}
use Rattle.grammar.specs.Recorded.{Recorded}
use Rattle.grammar.specs.Rules.{Alike}
use Rattle.grammar.specs.Sets.{SameCover}
use Rattle.grammar.specs.State.{Setting, covered}
use Rattle.drawing.specs.View.{state, setting, Lived}
use Rattle.drawing.specs.declared.drawing.Drawing.{Drawing}

module _ {EM AM CM EC Ac CC : Type 0} (M : KindModel EM AM CM) (C : KindModel EC Ac CC) where
  -- one drawing, made by the calls es
  pub record OneDrawing (es : List (Event EM EC)) (d : Drawing EM EC) : Type 0 where
    -- Each placement that puts a rule's left side on what is covered has one number, and nothing else has any. Later
    -- placements have greater numbers, and the calls that ask for places answer by these numbers.
    pub places : PlacesNumbered M C (setting d) (state d)
    -- what is covered is what the plain record of the calls covers, and calls are refused exactly as the table says
    pub recorded : Recorded M C (setting d) es (state d)
    -- the steps find their room when they are made again from the start copies
    pub again : Again M C (setting d) (state d)

  -- two drawings, made by the calls es and fs; `same` tells whether they cover the same
  pub record TwoDrawings (same : Bool) (es fs : List (Event EM EC)) (d e : Drawing EM EC) : Type 0 where
    pub first : OneDrawing es d
    pub second : OneDrawing fs e
    pub tells : Decides same (SameCover (covered M C (state d)) (covered M C (state e)))
    -- then they have the same sheets, places, numbers and answers, if the rules' sides cover the same, rule for rule
    pub agree : same ≡ true → Alike M C (setting d).rules (setting e).rules → SameNumbers M C (setting d) (setting e) (state d) (state e)

  pub record PlacesFollowCover (same : Bool) (d e : Drawing EM EC) : Type 0 where
    -- a sheet is exactly the maximal elements of what it covers, and there is one such list
    pub marks_are_maximal : ExactlyMaximal M
    pub cuts_are_maximal : ExactlyMaximal C
    pub one_list_of_marks : OneList M
    pub one_list_of_cuts : OneList C
    pub whatever_led_there : (t u : Setting EM EC) (es fs : List (Event EM EC)) → Lived M C t es d → Lived M C u fs e → TwoDrawings same es fs d e
