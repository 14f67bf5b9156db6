-- A history goes on by one more call.
use Rattle.std.proofs.Common.{List, [], ◌∷◌, ◌++◌, refl, subst}
use Rattle.kinds.specs.Model.{KindModel}
use Rattle.grammar.specs.Calls.{Call, Answer, Event}
use Rattle.grammar.specs.Moves.{Moves, Runs, History}
use Rattle.grammar.specs.State.{Setting, State, begun}

module _ {EM AM CM EC Ac CC : Type 0} (M : KindModel EM AM CM) (C : KindModel EC Ac CC) (t : Setting EM EC) where
  pub runs_more : (es : List (Event EM EC)) (d m : State EM EC) (c : Call EM EC) (a : Answer) (d' : State EM EC) → Runs M C t d es m → Moves M C t m c a d' → Runs M C t d (es ++ record { call = c; answer = a } ∷ []) d'
  runs_more [] d m c a d' h k = (d', subst (λ (x : State EM EC). Moves M C t x c a d') h k, refl)
  runs_more (e ∷ es) d m c a d' h k = (h.0, h.1, runs_more es h.0 m c a d' h.2 k)

  pub history_more : (es : List (Event EM EC)) (d : State EM EC) (c : Call EM EC) (a : Answer) (d' : State EM EC) → History M C t es d → Moves M C t d c a d' → History M C t (es ++ record { call = c; answer = a } ∷ []) d'
  history_more es d c a d' h k = runs_more es begun d c a d' h k
