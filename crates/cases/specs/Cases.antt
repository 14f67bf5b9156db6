-- The nine worked cases, each a history of calls with the drawing that it leads to, or a list of places.
use Rattle.std.specs.Prelude.{◌≡◌, List, [], ◌∷◌, ◌++◌, map, pos, negsuc, refl}
use Rattle.lattice.specs.declared.placement.Placement.{Placement}
use Rattle.numbers.specs.Gcd.{gcd}
use Rattle.segments.specs.Edges.{edge, between}
use Rattle.segments.specs.Segments.{segment_model}
use Rattle.grammar.specs.Moves.{History}
use Rattle.grammar.specs.Places.{Numbered}
use Rattle.grammar.specs.Rules.{Rule, side}
use Rattle.cases.specs.Figures.{Mark, Cut, marks, cuts, mark, level, upright, place, marked, drew, rubbed, picked, not_picked, counts, undid, setting, of_marks, of_cuts, rule, fresh, stepped_once}

abbrev pub unit : Cut
unfolding gcd
unit = level (pos 0) (pos 0) (pos 1) refl

abbrev pub two : Cut
unfolding gcd
two = level (pos 0) (pos 0) (pos 2) refl

abbrev pub three : Cut
unfolding gcd
three = level (pos 0) (pos 0) (pos 3) refl

abbrev pub five : Cut
unfolding gcd
five = level (pos 0) (pos 0) (pos 5) refl

-- from (1, 0) to (2, 0), from (2, 0) to (3, 0), from (2, 0) to (5, 0)
abbrev pub second : Cut
unfolding gcd
second = level (pos 1) (pos 0) (pos 1) refl

abbrev pub third : Cut
unfolding gcd
third = level (pos 2) (pos 0) (pos 1) refl

abbrev pub rest : Cut
unfolding gcd
rest = level (pos 2) (pos 0) (pos 3) refl

abbrev pub move_on : Rule Mark Cut
move_on = rule (of_cuts (unit ∷ [])) (of_cuts (second ∷ []))

abbrev pub stay : Rule Mark Cut
stay = rule (of_cuts (unit ∷ [])) (of_cuts (unit ∷ []))

abbrev pub erase : Rule Mark Cut
erase = rule (of_cuts (unit ∷ [])) (of_cuts [])

-- a mark goes one to the right
abbrev pub step_right : Rule Mark Cut
step_right = rule (of_marks (mark (pos 0) (pos 0) refl ∷ [])) (of_marks (mark (pos 1) (pos 0) refl ∷ []))

abbrev pub here : Placement
here = place 0 (pos 0) (pos 0) refl refl refl

-- the outline of the square from (0, 0) to (1, 1), in sheet order
abbrev pub small : List Cut
unfolding gcd
small = upright (pos 1) (pos 0) (pos 1) refl ∷ upright (pos 0) (pos 0) (pos 1) refl ∷ level (pos 0) (pos 0) (pos 1) refl ∷ level (pos 0) (pos 1) (pos 1) refl ∷ []

-- the outlines of the squares from (0, 0) to (2, 2) and from (1, 1) to (3, 3), in sheet order
abbrev pub large : List Cut
unfolding gcd
large =
    upright (pos 3) (pos 1) (pos 2) refl ∷ upright (pos 2) (pos 0) (pos 2) refl ∷ upright (pos 1) (pos 1) (pos 2) refl ∷ upright (pos 0) (pos 0) (pos 2) refl
    ∷ level (pos 0) (pos 0) (pos 2) refl ∷ level (pos 1) (pos 1) (pos 2) refl ∷ level (pos 0) (pos 2) (pos 2) refl ∷ level (pos 1) (pos 3) (pos 2) refl ∷ []

abbrev pub overlaid : List Placement
overlaid =
    place 0 (pos 1) (pos 1) refl refl refl ∷ place 1 (pos 2) (pos 1) refl refl refl ∷ place 2 (pos 2) (pos 2) refl refl refl ∷ place 3 (pos 1) (pos 2) refl refl refl
    ∷ place 4 (pos 2) (pos 1) refl refl refl ∷ place 5 (pos 2) (pos 2) refl refl refl ∷ place 6 (pos 1) (pos 2) refl refl refl ∷ place 7 (pos 1) (pos 1) refl refl refl ∷ []

abbrev pub along_two : List Placement
along_two =
    place 0 (pos 0) (pos 0) refl refl refl ∷ place 0 (pos 1) (pos 0) refl refl refl ∷ place 2 (pos 1) (pos 0) refl refl refl ∷ place 2 (pos 2) (pos 0) refl refl refl
    ∷ place 4 (pos 1) (pos 0) refl refl refl ∷ place 4 (pos 2) (pos 0) refl refl refl ∷ place 6 (pos 0) (pos 0) refl refl refl ∷ place 6 (pos 1) (pos 0) refl refl refl ∷ []

pub record Cases : Type 0 where
  -- two cuts that touch are one
  pub two_cuts_become_one : History marks cuts (setting [] 3) (drew two ∷ drew rest ∷ []) (fresh (of_cuts (five ∷ [])))
  -- a rule moves its figure on, and undo brings it back
  pub a_pick_is_undone : History marks cuts (setting (move_on ∷ []) 3) (drew two ∷ picked (pos 1) ∷ undid ∷ []) (fresh (of_cuts (two ∷ [])))
  pub a_pick_leaves_the_second : History marks cuts (setting (move_on ∷ []) 3) (drew two ∷ picked (pos 1) ∷ []) (stepped_once (of_cuts (two ∷ [])) (of_cuts (second ∷ [])) here)
  -- what is rubbed out of the middle leaves both sides
  pub two_cuts_are_left : History marks cuts (setting [] 3) (drew two ∷ drew rest ∷ rubbed second ∷ []) (fresh (of_cuts (unit ∷ rest ∷ [])))
  -- the edge from (-3, -1) to (-1, 0)
  pub a_slanted_edge : (between (negsuc 2) (negsuc 0) (negsuc 0) (pos 0) ≡ edge (negsuc 2) (negsuc 0) (pos 2) (pos 1))
      × (segment_model.on (edge (negsuc 2) (negsuc 0) (pos 2) (pos 1)) ≡ (pos 2, pos 1, pos 1))
      × (segment_model.at (edge (negsuc 2) (negsuc 0) (pos 2) (pos 1)) ≡ negsuc 1)
  -- at the edge of the field a right side may leave it in one place and not in another
  pub a_mark_stays_in_the_field : History marks cuts (setting (step_right ∷ []) 3) (marked (mark (pos 2000) (pos 0) refl) ∷ not_picked (pos 1) 16 ∷ picked (pos 3) ∷ []) (stepped_once (of_marks (mark (pos 2000) (pos 0) refl ∷ [])) (of_marks (mark (pos 1999) (pos 0) refl ∷ [])) (place 2 (pos 2000) (pos 0) refl refl refl))
  -- where two outlines overlap a small square emerges, and each turn has one place there
  pub an_emergent_square : Numbered marks cuts (side marks cuts (of_cuts small)) (side marks cuts (of_cuts large)) overlaid
  pub the_squares_are_drawn : History marks cuts (setting (rule (of_cuts small) (of_cuts []) ∷ []) 8) (map drew large ++ counts 8 ∷ []) (fresh (of_cuts large))
  -- all places of a unit cut on a cut of two
  pub eight_places : Numbered marks cuts (side marks cuts (of_cuts (unit ∷ []))) (side marks cuts (of_cuts (two ∷ []))) along_two
  -- a rule that puts back what it takes off records its step
  pub a_step_that_changes_nothing : History marks cuts (setting (stay ∷ []) 3) (drew unit ∷ picked (pos 1) ∷ []) (stepped_once (of_cuts (unit ∷ [])) (of_cuts (unit ∷ [])) here)
  -- the middle of three is taken out with two slots, and not with one
  pub the_middle_is_erased : History marks cuts (setting (erase ∷ []) 2) (drew three ∷ picked (pos 2) ∷ []) (stepped_once (of_cuts (three ∷ [])) (of_cuts (unit ∷ third ∷ [])) (place 0 (pos 1) (pos 0) refl refl refl))
  pub there_is_no_room : History marks cuts (setting (erase ∷ []) 1) (drew three ∷ not_picked (pos 2) 18 ∷ []) (fresh (of_cuts (three ∷ [])))
