-- Marks and cuts of ink 1 by their coordinates, and placements by their numbers.
use Rattle.std.specs.Prelude.{◌≡◌, ℕ, true, T, List, [], ◌∷◌, ℤ, pos, is_some, Some, None, Option, nat_lt}
use Rattle.std.proofs.Common.{sym, subst}
use Rattle.lattice.specs.declared.placement.Placement.{Placement}
use Rattle.lattice.specs.Turns.{turn_at}
use Rattle.lattice.specs.Field.{shifting}
use Rattle.kinds.specs.Model.{KindModel}
use Rattle.elements.specs.declared.point.Point.{Point}
use Rattle.elements.specs.declared.point.LatticePoint.{LatticePoint}
use Rattle.elements.specs.declared.ink.Ink.{Ink}
use Rattle.elements.specs.Points.{point_model, point}
use Rattle.elements.specs.Inks.{ink_model}
use Rattle.segments.specs.declared.segment.Segment.{Segment}
use Rattle.segments.specs.declared.segment.Edge.{Edge}
use Rattle.segments.specs.Segments.{segment_model, segment}
use Rattle.grammar.specs.Rules.{Side, Rule}
use Rattle.grammar.specs.Calls.{Event, stroke, draw_mark, draw_cut, rub_cut, pick, undo, count, refused, done, counted}
use Rattle.grammar.specs.State.{Setting, State}

-- an inked point, and an inked segment
abbrev pub Mark : Type 0
Mark = Ink Point

abbrev pub Cut : Type 0
Cut = Ink Segment

abbrev pub marks : KindModel Mark (Ink LatticePoint) (Ink (ℤ × ℤ))
marks = ink_model point_model

abbrev pub cuts : KindModel Cut (Ink Edge) (Ink (ℤ × ℤ × ℤ))
cuts = ink_model segment_model

-- what is there
abbrev pub the : {X : Type 0} (o : Option X) → is_some o ≡ true → X
the None h = absurd (subst T (sym h) tt)
the (Some x) h = x

abbrev pub mark : (x y : ℤ) → is_some (point x y) ≡ true → Mark
mark x y h = record { ink = 1; under = the (point x y) h }

-- the cut from (x, y) on, of n unit edges, each going dx across and dy up
abbrev pub cut : (x y dx dy n : ℤ) → is_some (segment x y dx dy n) ≡ true → Cut
cut x y dx dy n h = record { ink = 1; under = the (segment x y dx dy n) h }

-- the cut from (x, y) to (x + n, y), and from (x, y) to (x, y + n)
abbrev pub level : (x y n : ℤ) → is_some (segment x y (pos 1) (pos 0) n) ≡ true → Cut
level x y n h = cut x y (pos 1) (pos 0) n h

abbrev pub upright : (x y n : ℤ) → is_some (segment x y (pos 0) (pos 1) n) ≡ true → Cut
upright x y n h = cut x y (pos 0) (pos 1) n h

abbrev pub place : (s : ℕ) (u v : ℤ) → nat_lt s 8 ≡ true → shifting u ≡ true → shifting v ≡ true → Placement
place s u v h k l = record { turn = turn_at s; across = u; up = v; sideways = k; upwards = l }

-- calls with their answers
abbrev pub Told : Type 0
Told = Event Mark Cut

abbrev pub marked : Mark → Told
marked e = record { call = stroke (draw_mark e); answer = done }

abbrev pub drew : Cut → Told
drew e = record { call = stroke (draw_cut e); answer = done }

abbrev pub rubbed : Cut → Told
rubbed e = record { call = stroke (rub_cut e); answer = done }

abbrev pub picked : ℤ → Told
picked k = record { call = pick (pos 1) k; answer = done }

abbrev pub not_picked : ℤ → ℕ → Told
not_picked k n = record { call = pick (pos 1) k; answer = refused n }

-- rule 1 has n places
abbrev pub counts : ℕ → Told
counts n = record { call = count (pos 1); answer = counted n }

abbrev pub undid : Told
undid = record { call = undo; answer = done }

-- one rule or none, n slots in each sheet, and four in the table of steps
abbrev pub setting : List (Rule Mark Cut) → ℕ → Setting Mark Cut
setting rules n = record { rules = rules; mark_slots = n; cut_slots = n; step_slots = 4 }

abbrev pub of_marks : List Mark → Side Mark Cut
of_marks ms = record { marks = ms; cuts = [] }

abbrev pub of_cuts : List Cut → Side Mark Cut
of_cuts cs = record { marks = []; cuts = cs }

abbrev pub rule : Side Mark Cut → Side Mark Cut → Rule Mark Cut
rule left right = record { left = left; right = right }

-- a drawing with no step, and one that stands as s after rule 1 was applied at p, where it began as b
abbrev pub fresh : Side Mark Cut → State Mark Cut
fresh s = record { marks = s.marks; cuts = s.cuts; start_marks = s.marks; start_cuts = s.cuts; steps = [] }

abbrev pub stepped_once : Side Mark Cut → Side Mark Cut → Placement → State Mark Cut
stepped_once b s p = record { marks = s.marks; cuts = s.cuts; start_marks = b.marks; start_cuts = b.cuts; steps = record { rule = 1; at = p } ∷ [] }
