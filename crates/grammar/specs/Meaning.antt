-- The main statement: places and their numbers follow from what a drawing covers, and that follows from its record.
-- It speaks of any two kinds, any rules and table sizes, and any histories.
use Rattle.std.specs.Prelude.{List}
use Rattle.kinds.specs.Model.{KindModel}
use Rattle.sheets.specs.Maximal.{ExactlyMaximal, OneList}
use Rattle.grammar.specs.Calls.{Event}
use Rattle.grammar.specs.Moves.{History}
use Rattle.grammar.specs.Numbering.{PlacesNumbered, SameNumbers}
use Rattle.grammar.specs.Recorded.{Recorded}
use Rattle.grammar.specs.Rules.{Alike}
use Rattle.grammar.specs.Sets.{SameCover}
use Rattle.grammar.specs.State.{Setting, State, covered}

module _ {EM AM CM EC Ac CC : Type 0} (M : KindModel EM AM CM) (C : KindModel EC Ac CC) where
  pub record Meaning : Type 0 where
    -- a sheet in order is exactly the maximal elements of what it covers, and there is one such list
    pub marks_are_maximal : ExactlyMaximal M
    pub cuts_are_maximal : ExactlyMaximal C
    pub one_list_of_marks : OneList M
    pub one_list_of_cuts : OneList C
    -- After any history the places of each rule are numbered: a place has one number and no other, what is no place has
    -- none, later placements have greater numbers, and the calls that ask for places answer by these numbers.
    pub every_place_has_one_number : (t : Setting EM EC) (es : List (Event EM EC)) (d : State EM EC) → History M C t es d → PlacesNumbered M C t d
    -- Two drawings that cover the same, under rules whose sides cover the same, have the same sheets, numbers and answers,
    -- whatever led there.
    pub same_cover_same_numbers : (t u : Setting EM EC) (es fs : List (Event EM EC)) (d e : State EM EC) → History M C t es d → History M C u fs e → Alike M C t.rules u.rules → SameCover (covered M C d) (covered M C e) → SameNumbers M C t u d e
    -- What a drawing covers is what its record covers, and calls are refused exactly as the table says.
    pub covered_as_recorded : (t : Setting EM EC) (es : List (Event EM EC)) (d : State EM EC) → History M C t es d → Recorded M C t es d
