-- A segment inked twice is an element of this kind.
use Rattle.std.specs.Prelude.{ℤ}
use Rattle.kinds.specs.Model.{KindModel}
use Rattle.elements.specs.Inks.{ink_model}
use Rattle.elements.specs.declared.ink.Ink.{Ink}
use Rattle.segments.specs.Segments.{segment_model}
use Rattle.segments.specs.declared.segment.Edge.{Edge}
use Rattle.segments.specs.declared.segment.Segment.{Segment}

abbrev pub twice_inked : KindModel (Ink (Ink Segment)) (Ink (Ink Edge)) (Ink (Ink (ℤ × ℤ × ℤ)))
twice_inked = ink_model (ink_model segment_model)
