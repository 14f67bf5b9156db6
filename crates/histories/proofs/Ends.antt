-- How the histories end: as the worked cases do.
use Rattle.std.proofs.Common.{◌≡◌, ℕ, zero, suc, List, [], ◌∷◌, pos, Result, sym, ap, subst}
use Rattle.std.proofs.lemmas.Bool.{false≢true}
use Rattle.lattice.specs.Refusals.{number}
use Rattle.lattice.specs.declared.refusal.Refusal.{Refusal}
use Rattle.kinds.specs.Rules.{Rules}
use Rattle.elements.specs.InkRules.{ink_rules}
use Rattle.elements.specs.PointRules.{point_rules}
use Rattle.elements.specs.Points.{point_model}
use Rattle.segments.specs.SegmentRules.{segment_rules}
use Rattle.segments.specs.Segments.{segment_model}
use Rattle.grammar.specs.Calls.{Answer, is_refused, stroke, draw_mark, draw_cut, pick, undo, done, refused}
use Rattle.grammar.specs.State.{Setting}
use Rattle.cases.proofs.Worked.{worked}
use Rattle.cases.specs.Cases.{two, move_on, step_right}
use Rattle.cases.specs.Figures.{Mark, Cut, Told, marks, cuts, marked, drew, picked, not_picked, undid, setting}
use Rattle.drawing.specs.View.{answer, Lived}
use Rattle.drawing.specs.declared.drawing.Drawing.{Drawing}
use Rattle.histories.specs.Outcomes.{edge, Undone, StaysInField}
use Rattle.histories.proofs.Follow.{same_answers, same_end}

mark_rules : Rules marks
mark_rules = ink_rules point_model point_rules

cut_rules : Rules cuts
cut_rules = ink_rules segment_model segment_rules

abbrev last_answer : List Told → Answer
last_answer [] = done
last_answer (e ∷ []) = e.answer
last_answer (e ∷ f ∷ es) = last_answer (f ∷ es)

not_done : (why : Refusal) → refused (number why) ≡ done → ⊥
not_done why e = false≢true (sym (ap is_refused e))

abbrev moving : Setting Mark Cut
moving = setting (move_on ∷ []) 3

module _ (cut : Cut) (e : cut ≡ two) where
  abbrev drew_it : Told
  drew_it = record { call = stroke (draw_cut cut); answer = done }

  pub draw_done : (d : Drawing Mark Cut) (why : Refusal) → Lived marks cuts moving (record { call = stroke (draw_cut cut); answer = refused (number why) } ∷ []) d → ⊥
  draw_done d why h =
      not_done why (ap last_answer (same_answers marks cuts mark_rules cut_rules moving (record { call = stroke (draw_cut cut); answer = refused (number why) } ∷ []) (drew two ∷ []) (picked (pos 1) ∷ undid ∷ []) d _ h (worked segment_rules).a_pick_is_undone (λ i. stroke (draw_cut (e i)) ∷ [])))

  pub pick_done : (d : Drawing Mark Cut) (why : Refusal) → Lived marks cuts moving (drew_it ∷ record { call = pick (pos 1) (pos 1); answer = refused (number why) } ∷ []) d → ⊥
  pick_done d why h =
      not_done why (ap last_answer (same_answers marks cuts mark_rules cut_rules moving (drew_it ∷ record { call = pick (pos 1) (pos 1); answer = refused (number why) } ∷ []) (drew two ∷ picked (pos 1) ∷ []) (undid ∷ []) d _ h (worked segment_rules).a_pick_is_undone (λ i. stroke (draw_cut (e i)) ∷ pick (pos 1) (pos 1) ∷ [])))

  pub undone : (d : Drawing Mark Cut) (r : Result (Unit {0}) Refusal) → Lived marks cuts moving (drew_it ∷ picked (pos 1) ∷ record { call = undo; answer = answer r (λ _. done) } ∷ []) d → Undone r d
  undone d r h =
      let es : List Told = drew_it ∷ picked (pos 1) ∷ record { call = undo; answer = answer r (λ _. done) } ∷ [] in
      let fs : List Told = drew two ∷ picked (pos 1) ∷ undid ∷ [] in
      let q : es ≡ fs = same_answers marks cuts mark_rules cut_rules moving es fs [] d _ h (worked segment_rules).a_pick_is_undone (λ i. stroke (draw_cut (e i)) ∷ pick (pos 1) (pos 1) ∷ undo ∷ []) in
      record {
        accepted = ap last_answer q;
        stands = same_end marks cuts mark_rules cut_rules moving es fs d _ h (worked segment_rules).a_pick_is_undone (λ i. stroke (draw_cut (e i)) ∷ pick (pos 1) (pos 1) ∷ undo ∷ []);
        lived = subst (λ (xs : List Told). Lived marks cuts moving xs d) q h;
      }

abbrev answer_at : ℕ → List Told → Answer
answer_at n [] = done
answer_at zero (e ∷ es) = e.answer
answer_at (suc n) (e ∷ es) = answer_at n es

abbrev stepping : Setting Mark Cut
stepping = setting (step_right ∷ []) 3

pub stays_in_field : (m : Mark) (e : m ≡ edge) (d : Drawing Mark Cut) (r s t : Result (Unit {0}) Refusal)
    → Lived marks cuts stepping (record { call = stroke (draw_mark m); answer = answer r (λ _. done) } ∷ record { call = pick (pos 1) (pos 1); answer = answer s (λ _. done) } ∷ record { call = pick (pos 1) (pos 3); answer = answer t (λ _. done) } ∷ []) d
    → StaysInField r s t d
stays_in_field m e d r s t h =
    let es : List Told = record { call = stroke (draw_mark m); answer = answer r (λ _. done) } ∷ record { call = pick (pos 1) (pos 1); answer = answer s (λ _. done) } ∷ record { call = pick (pos 1) (pos 3); answer = answer t (λ _. done) } ∷ [] in
    let fs : List Told = marked edge ∷ not_picked (pos 1) 16 ∷ picked (pos 3) ∷ [] in
    let q : es ≡ fs = same_answers marks cuts mark_rules cut_rules stepping es fs [] d _ h (worked segment_rules).a_mark_stays_in_the_field (λ i. stroke (draw_mark (e i)) ∷ pick (pos 1) (pos 1) ∷ pick (pos 1) (pos 3) ∷ []) in
    record {
      drawn_so = ap (answer_at 0) q;
      refused_so = ap (answer_at 1) q;
      accepted_so = ap (answer_at 2) q;
      stands = same_end marks cuts mark_rules cut_rules stepping es fs d _ h (worked segment_rules).a_mark_stays_in_the_field (λ i. stroke (draw_mark (e i)) ∷ pick (pos 1) (pos 1) ∷ pick (pos 1) (pos 3) ∷ []);
      lived = subst (λ (xs : List Told). Lived marks cuts stepping xs d) q h;
    }
