-- Commands as text.
use Rattle.std.specs.Prelude.{ℕ, List, [], ◌∷◌, pos, codes}
use Rattle.elements.specs.declared.ink.Ink.{Ink}
use Rattle.elements.specs.declared.point.Point.{Point}
use Rattle.segments.specs.Segments.{upper_x, upper_y}
use Rattle.segments.specs.declared.segment.Segment.{Segment}
use Rattle.notation.specs.Commands.{command}
use Rattle.commands.specs.declared.Pick.{Pick}

-- `mark I X Y`
abbrev pub mark_text : Ink Point → List ℕ
mark_text m = command (codes "mark") (pos m.ink ∷ m.under.x ∷ m.under.y ∷ [])

-- `cut I X1 Y1 X2 Y2`, the lower end first
abbrev pub cut_text : Ink Segment → List ℕ
cut_text c = command (codes "cut") (pos c.ink ∷ c.under.x ∷ c.under.y ∷ upper_x c.under ∷ upper_y c.under ∷ [])

-- and the upper end first
abbrev pub cut_text_back : Ink Segment → List ℕ
cut_text_back c = command (codes "cut") (pos c.ink ∷ upper_x c.under ∷ upper_y c.under ∷ c.under.x ∷ c.under.y ∷ [])

-- `pick R K`
abbrev pub pick_text : Pick → List ℕ
pick_text p = command (codes "pick") (p.rule ∷ p.place ∷ [])
