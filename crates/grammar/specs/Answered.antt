-- Nothing above is said of nothing: every call has an answer, and one only; what is listed and recorded is determined.
use Rattle.std.specs.Prelude.{◌≡◌, ℕ, List, map}
use Rattle.lattice.specs.declared.placement.Placement.{Placement}
use Rattle.kinds.specs.Model.{KindModel}
use Rattle.grammar.specs.Calls.{Call, Answer, Event, Seen, seen}
use Rattle.grammar.specs.Moves.{Moves, History}
use Rattle.grammar.specs.Places.{Numbered, Listed}
use Rattle.grammar.specs.Record.{Record, Fed}
use Rattle.grammar.specs.Rules.{Rule}
use Rattle.grammar.specs.Sets.{Sets, SameCover}
use Rattle.grammar.specs.State.{Setting, State, covered}

module _ {EM AM CM EC Ac CC : Type 0} (M : KindModel EM AM CM) (C : KindModel EC Ac CC) where
  -- whatever is called, there is an answer and a drawing that it leads to, and no other
  pub record Answered (t : Setting EM EC) (d : State EM EC) : Type 0 where
    pub some : (c : Call EM EC) → (a : Answer) × (d' : State EM EC) × Moves M C t d c a d'
    pub one : (c : Call EM EC) (a b : Answer) (d' e' : State EM EC) → Moves M C t d c a d' → Moves M C t d c b e' → (a ≡ b) × (d' ≡ e')

  abbrev pub EveryCallHasOneAnswer : Type 0
  EveryCallHasOneAnswer = (t : Setting EM EC) (es : List (Event EM EC)) (d : State EM EC) → History M C t es d → Answered t d

  pub record Determined : Type 0 where
    -- a left side has one list of places on the sets
    pub one_list_of_places : (L S : Sets AM Ac) (ps qs : List Placement) → Numbered M C L S ps → Numbered M C L S qs → ps ≡ qs
    -- drawings that cover the same have the same lists
    pub same_cover_same_places : (rules : List (Rule EM EC)) (d e : State EM EC) → SameCover (covered M C d) (covered M C e) → (r : ℕ) (l : Listed M C rules (covered M C d) r) (k : Listed M C rules (covered M C e) r) → l.places ≡ k.places
    -- the record depends on the calls and the refusals alone, and so does the drawing
    pub one_record : (rules : List (Rule EM EC)) (b m n : Record EM EC) (xs : List (Seen EM EC)) → Fed M C rules b xs m → Fed M C rules b xs n → m ≡ n
    pub same_calls_same_drawing : (t u : Setting EM EC) → t.rules ≡ u.rules → (es fs : List (Event EM EC)) (d e : State EM EC) → History M C t es d → History M C u fs e → map seen es ≡ map seen fs → d ≡ e
