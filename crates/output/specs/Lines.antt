-- A drawing as text: marks, then cuts, each a line, a cut with its lower end first.
use Rattle.std.specs.Prelude.{ℕ, List, [], ◌∷◌, ◌++◌, codes, decimal}
use Rattle.std.specs.List.{flat_map}
use Rattle.lattice.specs.Refusals.{number}
use Rattle.notation.specs.declared.refused.Refused.{Refused}
use Rattle.elements.specs.declared.ink.Ink.{Ink}
use Rattle.elements.specs.declared.point.Point.{Point}
use Rattle.segments.specs.declared.segment.Segment.{Segment}
use Rattle.commands.specs.Texts.{mark_text, cut_text}

abbrev pub mark_line : Ink Point → List ℕ
mark_line m = mark_text m ++ (10 ∷ [])

abbrev pub cut_line : Ink Segment → List ℕ
cut_line c = cut_text c ++ (10 ∷ [])

abbrev pub lines : {E : Type 0} → (E → List ℕ) → List E → List ℕ
lines line xs = flat_map line xs

abbrev pub drawing_text : List (Ink Point) → List (Ink Segment) → List ℕ
drawing_text marks cuts = lines mark_line marks ++ lines cut_line cuts

-- `refused N line L`, with its byte 10
abbrev pub refusal_line : Refused → List ℕ
refusal_line r = codes "refused" ++ ((32 ∷ decimal (number r.refusal)) ++ (codes " line" ++ ((32 ∷ decimal r.line) ++ (10 ∷ []))))
