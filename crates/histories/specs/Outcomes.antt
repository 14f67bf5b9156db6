-- How the histories end.
use Rattle.std.specs.Prelude.{◌≡◌, [], ◌∷◌, pos, Result, refl}
use Rattle.lattice.specs.declared.refusal.Refusal.{Refusal}
use Rattle.grammar.specs.Calls.{refused, done}
use Rattle.drawing.specs.View.{state, answer, Lived}
use Rattle.drawing.specs.declared.drawing.Drawing.{Drawing}
use Rattle.cases.specs.Cases.{two, move_on, step_right}
use Rattle.cases.specs.Figures.{Mark, Cut, marks, cuts, mark, place, marked, drew, picked, not_picked, undid, setting as setting_of, of_marks, of_cuts, fresh, stepped_once}

-- every call was accepted, and the drawing is as before the step: a cut of two
pub record Undone (r : Result (Unit {0}) Refusal) (d : Drawing Mark Cut) : Type 0 where
  pub accepted : answer r (λ _. done) ≡ done
  pub stands : state d ≡ fresh (of_cuts (two ∷ []))
  pub lived : Lived marks cuts (setting_of (move_on ∷ []) 3) (drew two ∷ picked (pos 1) ∷ undid ∷ []) d

-- the mark at (2000, 0)
abbrev pub edge : Mark
edge = mark (pos 2000) (pos 0) refl

-- the stroke and the last pick were accepted, the first was refused by 16, and the mark stands at (1999, 0)
pub record StaysInField (drawn outwards inwards : Result (Unit {0}) Refusal) (d : Drawing Mark Cut) : Type 0 where
  pub drawn_so : answer drawn (λ _. done) ≡ done
  pub refused_so : answer outwards (λ _. done) ≡ refused 16
  pub accepted_so : answer inwards (λ _. done) ≡ done
  pub stands : state d ≡ stepped_once (of_marks (edge ∷ [])) (of_marks (mark (pos 1999) (pos 0) refl ∷ [])) (place 2 (pos 2000) (pos 0) refl refl refl)
  pub lived : Lived marks cuts (setting_of (step_right ∷ []) 3) (marked edge ∷ not_picked (pos 1) 16 ∷ picked (pos 3) ∷ []) d
