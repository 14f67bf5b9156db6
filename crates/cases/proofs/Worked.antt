-- The worked cases, each by tests that compute.
use Rattle.std.proofs.Common.{◌≡◌, Bool, true, ◌&&◌, List, [], ◌∷◌, ◌++◌, map, pos, negsuc, refl, inl, arith}
use Rattle.std.proofs.lemmas.Bool.{and_parts}
use Rattle.lattice.specs.declared.placement.Placement.{Placement}
use Rattle.numbers.specs.Gcd.{gcd}
use Rattle.lattice.specs.Turns.{across, upward}
use Rattle.kinds.specs.Model.{covers}
use Rattle.kinds.specs.Rules.{Rules}
use Rattle.elements.specs.Inks.{inked}
use Rattle.elements.specs.Points.{point_model}
use Rattle.segments.specs.Edges.{edge, between}
use Rattle.segments.specs.Segments.{segment_model}
use Rattle.sheets.specs.Cover.{ahead}
use Rattle.grammar.specs.Calls.{Stroke, draw_mark, draw_cut, rub_cut, stroke, pick, done}
use Rattle.grammar.specs.Moves.{Moves, Runs, History}
use Rattle.grammar.specs.Places.{Numbered}
use Rattle.grammar.specs.Rules.{side}
use Rattle.grammar.specs.State.{Setting, State, begun}
use Rattle.cases.specs.Cases.{unit, two, three, five, second, third, rest, move_on, stay, erase, step_right, here, small, large, overlaid, along_two, Cases}
use Rattle.cases.specs.Figures.{Mark, Cut, marks, cuts, mark, place, Told, marked, drew, rubbed, picked, not_picked, counts, undid, setting, of_marks, of_cuts, rule, fresh, stepped_once}
use Rattle.cases.proofs.Computing.{computed_point, computed_segment, computed_ink}
use Rattle.cases.proofs.Moving.{strokes, stroke_done, undo_done, count_done, pick_leaves, pick_no_room, pick_done}
use Rattle.cases.proofs.Placing.{Computed, numbers_from}
use Rattle.cases.proofs.Tests.{before}

module _ (r : Rules segment_model) where
  abbrev kM : Computed marks
  unfolding computed_ink computed_point
  kM = computed_ink point_model computed_point

  abbrev kC : Computed cuts
  unfolding computed_ink computed_segment
  kC = computed_ink segment_model (computed_segment r)

  -- one stroke, from one drawing to the next
  by_stroke : (t : Setting Mark Cut) (d e : State Mark Cut) (s : Stroke Mark Cut) → d.steps ≡ [] → e.steps ≡ [] → strokes marks cuts kM kC t d s e ≡ true → Moves marks cuts t d (stroke s) done e
  by_stroke t d e s = stroke_done marks cuts kM kC t d s e

  two_cuts_become_one : History marks cuts (setting [] 3) (drew two ∷ drew rest ∷ []) (fresh (of_cuts (five ∷ [])))
  unfolding covers ahead gcd across upward computed_ink computed_point computed_segment
  two_cuts_become_one = (
    fresh (of_cuts (two ∷ [])),
    by_stroke (setting [] 3) begun (fresh (of_cuts (two ∷ []))) (draw_cut two) refl refl refl,
    (fresh (of_cuts (five ∷ [])), by_stroke (setting [] 3) (fresh (of_cuts (two ∷ []))) (fresh (of_cuts (five ∷ []))) (draw_cut rest) refl refl refl, refl),
  )

  two_cuts_are_left : History marks cuts (setting [] 3) (drew two ∷ drew rest ∷ rubbed second ∷ []) (fresh (of_cuts (unit ∷ rest ∷ [])))
  unfolding covers ahead gcd across upward computed_ink computed_point computed_segment
  two_cuts_are_left = (
    fresh (of_cuts (two ∷ [])),
    by_stroke (setting [] 3) begun (fresh (of_cuts (two ∷ []))) (draw_cut two) refl refl refl,
    (
      fresh (of_cuts (five ∷ [])),
      by_stroke (setting [] 3) (fresh (of_cuts (two ∷ []))) (fresh (of_cuts (five ∷ []))) (draw_cut rest) refl refl refl,
      (fresh (of_cuts (unit ∷ rest ∷ [])), by_stroke (setting [] 3) (fresh (of_cuts (five ∷ []))) (fresh (of_cuts (unit ∷ rest ∷ []))) (rub_cut second) refl refl refl, refl),
    ),
  )

  -- the pick of case two
  moved_on : Moves marks cuts (setting (move_on ∷ []) 3) (fresh (of_cuts (two ∷ []))) (pick (pos 1) (pos 1)) done (stepped_once (of_cuts (two ∷ [])) (of_cuts (second ∷ [])) here)
  unfolding covers ahead gcd across upward computed_ink computed_point computed_segment
  moved_on = pick_done marks cuts kM kC (setting (move_on ∷ []) 3) (fresh (of_cuts (two ∷ []))) (pos 1) (pos 1) move_on refl along_two refl here refl (stepped_once (of_cuts (two ∷ [])) (of_cuts (second ∷ [])) here) refl refl refl refl refl

  a_pick_leaves_the_second : History marks cuts (setting (move_on ∷ []) 3) (drew two ∷ picked (pos 1) ∷ []) (stepped_once (of_cuts (two ∷ [])) (of_cuts (second ∷ [])) here)
  unfolding covers ahead gcd across upward computed_ink computed_point computed_segment
  a_pick_leaves_the_second = (
    fresh (of_cuts (two ∷ [])),
    by_stroke (setting (move_on ∷ []) 3) begun (fresh (of_cuts (two ∷ []))) (draw_cut two) refl refl refl,
    (stepped_once (of_cuts (two ∷ [])) (of_cuts (second ∷ [])) here, moved_on, refl),
  )

  a_pick_is_undone : History marks cuts (setting (move_on ∷ []) 3) (drew two ∷ picked (pos 1) ∷ undid ∷ []) (fresh (of_cuts (two ∷ [])))
  unfolding covers ahead gcd across upward computed_ink computed_point computed_segment
  a_pick_is_undone = (
    fresh (of_cuts (two ∷ [])),
    by_stroke (setting (move_on ∷ []) 3) begun (fresh (of_cuts (two ∷ []))) (draw_cut two) refl refl refl,
    (
      stepped_once (of_cuts (two ∷ [])) (of_cuts (second ∷ [])) here,
      moved_on,
      (fresh (of_cuts (two ∷ [])), undo_done marks cuts kM kC (setting (move_on ∷ []) 3) (stepped_once (of_cuts (two ∷ [])) (of_cuts (second ∷ [])) here) [] (record { rule = 1; at = here }) (fresh (of_cuts (two ∷ []))) refl refl refl, refl),
    ),
  )

  eight_places : Numbered marks cuts (side marks cuts (of_cuts (unit ∷ []))) (side marks cuts (of_cuts (two ∷ []))) along_two
  unfolding covers gcd across upward computed_ink computed_segment
  eight_places = (numbers_from marks cuts kM kC (of_cuts (unit ∷ [])) (of_cuts (two ∷ [])) along_two refl).numbered

  an_emergent_square : Numbered marks cuts (side marks cuts (of_cuts small)) (side marks cuts (of_cuts large)) overlaid
  unfolding covers gcd across upward computed_ink computed_segment
  an_emergent_square = (numbers_from marks cuts kM kC (of_cuts small) (of_cuts large) overlaid refl).numbered

  -- cuts drawn one after the other, each behind those before
  abbrev drawing_out : Setting Mark Cut → List Cut → List Cut → Bool
  drawing_out t before [] = true
  drawing_out t before (c ∷ cs) = strokes marks cuts kM kC t (fresh (of_cuts before)) (draw_cut c) (fresh (of_cuts (before ++ c ∷ []))) && drawing_out t (before ++ c ∷ []) cs

  abbrev drawn_out : List Cut → List Cut → List Cut
  drawn_out before [] = before
  drawn_out before (c ∷ cs) = drawn_out (before ++ c ∷ []) cs

  drawn_all : (t : Setting Mark Cut) (before cs : List Cut) (es : List Told) (d : State Mark Cut) → drawing_out t before cs ≡ true → Runs marks cuts t (fresh (of_cuts (drawn_out before cs))) es d → Runs marks cuts t (fresh (of_cuts before)) (map drew cs ++ es) d
  drawn_all t before [] es d h k = k
  drawn_all t before (c ∷ cs) es d h k =
      let x = and_parts (strokes marks cuts kM kC t (fresh (of_cuts before)) (draw_cut c) (fresh (of_cuts (before ++ c ∷ [])))) (drawing_out t (before ++ c ∷ []) cs) h in
      (fresh (of_cuts (before ++ c ∷ [])), by_stroke t (fresh (of_cuts before)) (fresh (of_cuts (before ++ c ∷ []))) (draw_cut c) refl refl x.0, drawn_all t (before ++ c ∷ []) cs es d x.1 k)

  the_squares_are_drawn : History marks cuts (setting (rule (of_cuts small) (of_cuts []) ∷ []) 8) (map drew large ++ counts 8 ∷ []) (fresh (of_cuts large))
  unfolding covers ahead gcd across upward computed_ink computed_point computed_segment
  the_squares_are_drawn =
      drawn_all (setting (rule (of_cuts small) (of_cuts []) ∷ []) 8) [] large (counts 8 ∷ []) (fresh (of_cuts large)) refl
      (fresh (of_cuts large), count_done marks cuts kM kC (setting (rule (of_cuts small) (of_cuts []) ∷ []) 8) (fresh (of_cuts large)) (pos 1) (rule (of_cuts small) (of_cuts [])) refl overlaid refl, refl)

  -- the places of a unit cut on itself, and on a cut of three
  on_itself : List Placement
  on_itself = place 0 (pos 0) (pos 0) refl refl refl ∷ place 2 (pos 1) (pos 0) refl refl refl ∷ place 4 (pos 1) (pos 0) refl refl refl ∷ place 6 (pos 0) (pos 0) refl refl refl ∷ []

  a_step_that_changes_nothing : History marks cuts (setting (stay ∷ []) 3) (drew unit ∷ picked (pos 1) ∷ []) (stepped_once (of_cuts (unit ∷ [])) (of_cuts (unit ∷ [])) here)
  unfolding covers ahead gcd across upward computed_ink computed_point computed_segment on_itself
  a_step_that_changes_nothing = (
    fresh (of_cuts (unit ∷ [])),
    by_stroke (setting (stay ∷ []) 3) begun (fresh (of_cuts (unit ∷ []))) (draw_cut unit) refl refl refl,
    (
      stepped_once (of_cuts (unit ∷ [])) (of_cuts (unit ∷ [])) here,
      pick_done marks cuts kM kC (setting (stay ∷ []) 3) (fresh (of_cuts (unit ∷ []))) (pos 1) (pos 1) stay refl on_itself refl here refl (stepped_once (of_cuts (unit ∷ [])) (of_cuts (unit ∷ [])) here) refl refl refl refl refl,
      refl,
    ),
  )

  along_three : List Placement
  along_three =
      place 0 (pos 0) (pos 0) refl refl refl ∷ place 0 (pos 1) (pos 0) refl refl refl ∷ place 0 (pos 2) (pos 0) refl refl refl ∷ place 2 (pos 1) (pos 0) refl refl refl
      ∷ place 2 (pos 2) (pos 0) refl refl refl ∷ place 2 (pos 3) (pos 0) refl refl refl ∷ place 4 (pos 1) (pos 0) refl refl refl ∷ place 4 (pos 2) (pos 0) refl refl refl
      ∷ place 4 (pos 3) (pos 0) refl refl refl ∷ place 6 (pos 0) (pos 0) refl refl refl ∷ place 6 (pos 1) (pos 0) refl refl refl ∷ place 6 (pos 2) (pos 0) refl refl refl ∷ []

  the_middle_is_erased : History marks cuts (setting (erase ∷ []) 2) (drew three ∷ picked (pos 2) ∷ []) (stepped_once (of_cuts (three ∷ [])) (of_cuts (unit ∷ third ∷ [])) (place 0 (pos 1) (pos 0) refl refl refl))
  unfolding covers ahead gcd across upward computed_ink computed_point computed_segment along_three
  the_middle_is_erased = (
    fresh (of_cuts (three ∷ [])),
    by_stroke (setting (erase ∷ []) 2) begun (fresh (of_cuts (three ∷ []))) (draw_cut three) refl refl refl,
    (
      stepped_once (of_cuts (three ∷ [])) (of_cuts (unit ∷ third ∷ [])) (place 0 (pos 1) (pos 0) refl refl refl),
      pick_done marks cuts kM kC (setting (erase ∷ []) 2) (fresh (of_cuts (three ∷ []))) (pos 1) (pos 2) erase refl along_three refl (place 0 (pos 1) (pos 0) refl refl refl) refl (stepped_once (of_cuts (three ∷ [])) (of_cuts (unit ∷ third ∷ [])) (place 0 (pos 1) (pos 0) refl refl refl)) refl refl refl refl refl,
      refl,
    ),
  )

  there_is_no_room : History marks cuts (setting (erase ∷ []) 1) (drew three ∷ not_picked (pos 2) 18 ∷ []) (fresh (of_cuts (three ∷ [])))
  unfolding covers ahead gcd across upward computed_ink computed_point computed_segment along_three
  there_is_no_room = (
    fresh (of_cuts (three ∷ [])),
    by_stroke (setting (erase ∷ []) 1) begun (fresh (of_cuts (three ∷ []))) (draw_cut three) refl refl refl,
    (
      fresh (of_cuts (three ∷ [])),
      pick_no_room marks cuts kM kC (setting (erase ∷ []) 1) (fresh (of_cuts (three ∷ []))) (pos 1) (pos 2) erase refl along_three refl (place 0 (pos 1) (pos 0) refl refl refl) refl refl refl (omega arith),
      refl,
    ),
  )

  -- the mark at the edge of the field, and its places
  abbrev edge_mark : Mark
  edge_mark = mark (pos 2000) (pos 0) refl

  on_the_mark : List Placement
  on_the_mark =
      place 0 (pos 2000) (pos 0) refl refl refl ∷ place 1 (pos 2000) (pos 0) refl refl refl ∷ place 2 (pos 2000) (pos 0) refl refl refl ∷ place 3 (pos 2000) (pos 0) refl refl refl
      ∷ place 4 (pos 2000) (pos 0) refl refl refl ∷ place 5 (pos 2000) (pos 0) refl refl refl ∷ place 6 (pos 2000) (pos 0) refl refl refl ∷ place 7 (pos 2000) (pos 0) refl refl refl ∷ []

  a_mark_stays_in_the_field : History marks cuts (setting (step_right ∷ []) 3) (marked edge_mark ∷ not_picked (pos 1) 16 ∷ picked (pos 3) ∷ []) (stepped_once (of_marks (edge_mark ∷ [])) (of_marks (mark (pos 1999) (pos 0) refl ∷ [])) (place 2 (pos 2000) (pos 0) refl refl refl))
  unfolding covers ahead gcd across upward computed_ink computed_point computed_segment on_the_mark
  a_mark_stays_in_the_field = (
    fresh (of_marks (edge_mark ∷ [])),
    by_stroke (setting (step_right ∷ []) 3) begun (fresh (of_marks (edge_mark ∷ []))) (draw_mark edge_mark) refl refl refl,
    (
      fresh (of_marks (edge_mark ∷ [])),
      pick_leaves marks cuts kM kC (setting (step_right ∷ []) 3) (fresh (of_marks (edge_mark ∷ []))) (pos 1) (pos 1) step_right refl on_the_mark refl (place 0 (pos 2000) (pos 0) refl refl refl) refl (inl (inked 1 (record { x = pos 1; y = pos 0 }), refl, refl)),
      (
        stepped_once (of_marks (edge_mark ∷ [])) (of_marks (mark (pos 1999) (pos 0) refl ∷ [])) (place 2 (pos 2000) (pos 0) refl refl refl),
        pick_done marks cuts kM kC (setting (step_right ∷ []) 3) (fresh (of_marks (edge_mark ∷ []))) (pos 1) (pos 3) step_right refl on_the_mark refl (place 2 (pos 2000) (pos 0) refl refl refl) refl (stepped_once (of_marks (edge_mark ∷ [])) (of_marks (mark (pos 1999) (pos 0) refl ∷ [])) (place 2 (pos 2000) (pos 0) refl refl refl)) refl refl refl refl refl,
        refl,
      ),
    ),
  )

  a_slanted_edge : (between (negsuc 2) (negsuc 0) (negsuc 0) (pos 0) ≡ edge (negsuc 2) (negsuc 0) (pos 2) (pos 1))
      × (segment_model.on (edge (negsuc 2) (negsuc 0) (pos 2) (pos 1)) ≡ (pos 2, pos 1, pos 1))
      × (segment_model.at (edge (negsuc 2) (negsuc 0) (pos 2) (pos 1)) ≡ negsuc 1)
  a_slanted_edge = (refl, refl, refl)

  pub worked : Cases
  worked = record {
    two_cuts_become_one = two_cuts_become_one;
    a_pick_is_undone = a_pick_is_undone;
    a_pick_leaves_the_second = a_pick_leaves_the_second;
    two_cuts_are_left = two_cuts_are_left;
    a_slanted_edge = a_slanted_edge;
    a_mark_stays_in_the_field = a_mark_stays_in_the_field;
    an_emergent_square = an_emergent_square;
    the_squares_are_drawn = the_squares_are_drawn;
    eight_places = eight_places;
    a_step_that_changes_nothing = a_step_that_changes_nothing;
    the_middle_is_erased = the_middle_is_erased;
    there_is_no_room = there_is_no_room;
  }
