-- A drawing in memory follows a worked history, call by call.
use Rattle.std.proofs.Common.{◌≡◌, List, [], ◌∷◌, ◌++◌, length, sym, refl, ap, subst, arith}
use Rattle.kinds.specs.Model.{KindModel}
use Rattle.kinds.specs.Rules.{Rules}
use Rattle.grammar.specs.Calls.{Call, Event}
use Rattle.grammar.specs.Moves.{Moves, Runs, History}
use Rattle.grammar.specs.State.{Setting, State, begun}
use Rattle.grammar.proofs.Answering.{one_way}
use Rattle.drawing.specs.View.{state, Lived}
use Rattle.drawing.specs.declared.drawing.Drawing.{Drawing}

abbrev pub calls : {EM EC : Type 0} → List (Event EM EC) → List (Call EM EC)
calls [] = []
calls (e ∷ es) = e.call ∷ calls es

module _ {EM AM CM EC Ac CC : Type 0} (M : KindModel EM AM CM) (C : KindModel EC Ac CC) (RM : Rules M) (RC : Rules C) (t : Setting EM EC) where
  -- the same calls from one drawing have the same answers and lead to one drawing; the worked history may go on
  same_run : (es fs gs : List (Event EM EC)) (b d e : State EM EC) → Runs M C t b es d → Runs M C t b (fs ++ gs) e → calls es ≡ calls fs → (es ≡ fs) × Runs M C t d gs e
  same_run [] [] gs b d e h k q = (refl, subst (λ (x : State EM EC). Runs M C t x gs e) (sym h) k)
  same_run [] (f ∷ fs) gs b d e h k q = let z : 0 ≡ length (calls (f ∷ fs)) = ap length q in absurd (omega arith)
  same_run (x ∷ es) [] gs b d e h k q = let z : length (calls (x ∷ es)) ≡ 0 = ap length q in absurd (omega arith)
  same_run (x ∷ es) (f ∷ fs) gs b d e h k q =
      let c : x.call ≡ f.call = cc in
      let r : calls es ≡ calls fs = cc in
      let w = one_way M C RM RC t b f.call x.answer f.answer h.0 k.0 (subst (λ (y : Call EM EC). Moves M C t b y x.answer h.0) c h.1) k.1 in
      let a = w.0 in
      let z = same_run es fs gs k.0 d e (subst (λ (y : State EM EC). Runs M C t y es d) w.1 h.2) k.2 r in
      let y = z.0 in
      ((λ i. record { call = c i; answer = a i } ∷ y i), z.1)

  pub same_answers : (es fs gs : List (Event EM EC)) (d : Drawing EM EC) (e : State EM EC) → Lived M C t es d → History M C t (fs ++ gs) e → calls es ≡ calls fs → es ≡ fs
  unfolding Lived
  same_answers es fs gs d e h k q = (same_run es fs gs begun (state d) e h.1 k q).0

  pub same_end : (es fs : List (Event EM EC)) (d : Drawing EM EC) (e : State EM EC) → Lived M C t es d → History M C t (fs ++ []) e → calls es ≡ calls fs → state d ≡ e
  unfolding Lived
  same_end es fs d e h k q = sym (same_run es fs [] begun (state d) e h.1 k q).1
