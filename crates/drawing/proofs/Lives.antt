-- What the history of a drawing in memory says of it, and what a call has to show.
use Rattle.std.proofs.Common.{◌≡◌, ℕ, ◌≤◌, List, [], ◌∷◌, map, length, sym, refl, ap, ◌∙◌, subst}
use Rattle.kinds.specs.Model.{KindModel}
use Rattle.kinds.specs.Rules.{Rules}
use Rattle.sheets.specs.Contents.{items, room, Sound}
use Rattle.grammar.specs.Again.{Again}
use Rattle.grammar.specs.Calls.{Call, Answer, Event}
use Rattle.grammar.specs.Moves.{Moves, History}
use Rattle.grammar.specs.Record.{blank, stepped}
use Rattle.grammar.specs.State.{Setting, begun, covered, started}
use Rattle.grammar.proofs.Histories.{history_more}
use Rattle.grammar.proofs.Record.{runs, at_first}
use Rattle.grammar.proofs.Rooms.{now_is, room_again}
use Rattle.drawing.specs.View.{step_of, taken, state, setting, Tables, Lived, Goes}
use Rattle.drawing.specs.declared.drawing.Drawing.{Drawing}

pub length_map : {X Y : Type 0} (f : X → Y) (xs : List X) → length (map f xs) ≡ length xs
length_map f [] = refl
length_map f (x ∷ xs) = ap (λ (n : ℕ). Prim.Native.Nat.suc n) (length_map f xs)

module _ {EM AM CM EC Ac CC : Type 0} (M : KindModel EM AM CM) (C : KindModel EC Ac CC) where
  pub record Alive (d : Drawing EM EC) : Type 0 where
    pub marks : Sound M d.marks
    pub cuts : Sound C d.cuts
    pub start_marks : Sound M d.start_marks
    pub start_cuts : Sound C d.start_cuts
    pub mark_rooms : room d.start_marks ≡ room d.marks
    pub cut_rooms : room d.start_cuts ≡ room d.cuts
    -- the sets are those of the start copies and the steps
    pub now : covered M C (state d) ≡ stepped M C (setting d).rules (started M C (state d)) (state d).steps
    pub again : Again M C (setting d) (state d)

  -- the history under the drawing's own rules and table sizes
  pub history : (t : Setting EM EC) (es : List (Event EM EC)) (d : Drawing EM EC) → Lived M C t es d → History M C (setting d) es (state d)
  unfolding Lived
  history t es d h = subst (λ (u : Setting EM EC). History M C u es (state d)) (sym h.0) h.1

  module _ (RM : Rules M) (RC : Rules C) where
    pub alive : (t : Setting EM EC) (es : List (Event EM EC)) (d : Drawing EM EC) → Lived M C t es d → Alive d
    unfolding Lived
    alive u es d h =
        let past = history u es d h in
        let b = runs M C (setting d) es blank begun (state d) (at_first M C (setting d)) past in
        let k = b.2 in
        let t = h.2 in
        record {
          marks = record { ordered = k.marks.ordered; few = t.few_marks };
          cuts = record { ordered = k.cuts.ordered; few = t.few_cuts };
          start_marks = record { ordered = k.start_marks.ordered; few = subst (λ (n : ℕ). n ≤ 4096) (sym t.marks_again) t.few_marks };
          start_cuts = record { ordered = k.start_cuts.ordered; few = subst (λ (n : ℕ). n ≤ 4096) (sym t.cuts_again) t.few_cuts };
          mark_rooms = t.marks_again;
          cut_rooms = t.cuts_again;
          now = now_is M C RM RC (setting d) b.0 (state d) k;
          again = room_again M C RM RC (setting d) es (state d) past;
        }

    -- what a call has to show
    pub goes_by : (d d' : Drawing EM EC) (c : Call EM EC) (a : Answer) → setting d' ≡ setting d → room d'.start_marks ≡ room d.start_marks → room d'.start_cuts ≡ room d.start_cuts
        → (Alive d → Moves M C (setting d) (state d) c a (state d')) → Goes M C d c a d'
    unfolding Lived
    goes_by d d' c a e f g m u es h = (
      e ∙ h.0,
      history_more M C u es (state d) c a (state d') h.1 (subst (λ (t : Setting EM EC). Moves M C t (state d) c a (state d')) h.0 (m (alive u es d h))),
      record {
        few_marks = subst (λ (t : Setting EM EC). t.mark_slots ≤ 4096) (sym e) h.2.few_marks;
        few_cuts = subst (λ (t : Setting EM EC). t.cut_slots ≤ 4096) (sym e) h.2.few_cuts;
        marks_again = f ∙ h.2.marks_again ∙ sym (ap (λ (t : Setting EM EC). t.mark_slots) e);
        cuts_again = g ∙ h.2.cuts_again ∙ sym (ap (λ (t : Setting EM EC). t.cut_slots) e);
        few_steps = subst (λ (t : Setting EM EC). t.step_slots ≤ 1024) (sym e) h.2.few_steps;
      },
    )

    -- a call that changes nothing
    pub stays_by : (d : Drawing EM EC) (c : Call EM EC) (a : Answer) → (Alive d → Moves M C (setting d) (state d) c a (state d)) → Goes M C d c a d
    stays_by d c a m = goes_by d d c a refl refl refl m

    pub begun_lived : (d : Drawing EM EC) → taken d ≡ [] → items d.marks ≡ [] → items d.cuts ≡ [] → items d.start_marks ≡ [] → items d.start_cuts ≡ [] → Tables (room d.marks) (room d.cuts) (room d.start_marks) (room d.start_cuts) (length d.steps.now) → Lived M C (setting d) [] d
    unfolding Lived
    begun_lived d s m c sm sc t = (refl, (λ i. record { marks = m i; cuts = c i; start_marks = sm i; start_cuts = sc i; steps = map step_of (s i) }), t)
