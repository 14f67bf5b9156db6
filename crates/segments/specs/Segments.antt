-- Segments as a kind: the unit edges of a segment follow each other on one line.
use Rattle.std.specs.Prelude.{◌≡◌, ℕ, Bool, true, false, cond, ◌&&◌, ◌⊎◌, ℤ, pos, ◌+ℤ◌, ◌-ℤ◌, ◌*ℤ◌, neg_ℤ, Some, Ok, Err, MatchBool, Option, Result, ◌≢◌, int_lt, unsigned_abs}
use Rattle.lattice.specs.Field.{ranged}
use Rattle.lattice.specs.Refusals.{number}
use Rattle.lattice.specs.Turns.{index, across, upward}
use Rattle.lattice.specs.Valid.{tested}
use Rattle.lattice.specs.declared.refusal.Refusal.{Refusal}
use Rattle.numbers.specs.Gcd.{gcd}
use Rattle.kinds.specs.Model.{KindModel}
use Rattle.segments.specs.Directions.{forward, direction}
use Rattle.segments.specs.Edges.{edge, line, line_order, edge_position, edge_proper, edge_field, edge_image}
use Rattle.segments.specs.declared.segment.Edge.{Edge}
use Rattle.segments.specs.declared.segment.Segment.{Segment}

-- the lowest unit edge of a segment
abbrev pub first : Segment → Edge
first e = edge e.x e.y e.dx e.dy

-- the upper end, across and up
abbrev pub upper_x : Segment → ℤ
upper_x e = e.x +ℤ e.edges *ℤ e.dx

abbrev pub upper_y : Segment → ℤ
upper_y e = e.y +ℤ e.edges *ℤ e.dy

-- the segment of these numbers, if they are those of one
abbrev pub segment : ℤ → ℤ → ℤ → ℤ → ℤ → Option Segment
segment x y dx dy n =
    tested (direction dx dy) (λ proper. tested (int_lt (pos 0) n) (λ some.
    tested (ranged x) (λ left. tested (ranged y) (λ low.
    tested (ranged (x +ℤ n *ℤ dx)) (λ right. tested (ranged (y +ℤ n *ℤ dy)) (λ high.
    Some (record { x = x; y = y; dx = dx; dy = dy; edges = n; proper = proper; some = some; left = left; low = low; right = right; high = high })))))))

-- where a turn, then a shift across and up, takes a segment: its lower end is the image of the lower end,
-- or of the upper end where the turn makes the direction go backward
abbrev pub segment_image : ℕ → ℤ → ℤ → Segment → Option Segment
segment_image s u v e =
    cond (forward (across s e.dx e.dy) (upward s e.dx e.dy))
    (segment (across s e.x e.y +ℤ u) (upward s e.x e.y +ℤ v) (across s e.dx e.dy) (upward s e.dx e.dy) e.edges)
    (segment (across s (upper_x e) (upper_y e) +ℤ u) (upward s (upper_x e) (upper_y e) +ℤ v) (neg_ℤ (across s e.dx e.dy)) (neg_ℤ (upward s e.dx e.dy)) e.edges)

abbrev pub segment_model : KindModel Segment Edge (ℤ × ℤ × ℤ)
segment_model = record {
  carrier = λ e. line (first e);
  start = λ e. edge_position (first e);
  end = λ e. edge_position (first e) +ℤ e.edges;
  order = line_order;
  proper = edge_proper;
  on = line;
  at = edge_position;
  field = edge_field;
  image = edge_image;
  place = λ p e. segment_image (index p.turn) p.across p.up e;
}

-- all four coordinates lie in the field
abbrev pub all_ranged : ℤ → ℤ → ℤ → ℤ → Bool
all_ranged x y p q = (ranged x && ranged y) && (ranged p && ranged q)

-- e goes from its lower end (x, y) to its upper end (p, q)
pub record Spans (x y p q : ℤ) (e : Segment) : Type 0 where
  pub left : e.x ≡ x
  pub low : e.y ≡ y
  pub right : upper_x e ≡ p
  pub high : upper_y e ≡ q
  pub edges : e.edges ≡ pos (gcd (unsigned_abs (p -ℤ x)) (unsigned_abs (q -ℤ y)))

-- what two ends, in either order, give: the segment between them, or the refusal 6 exactly if a coordinate lies
-- outside the field, or else the refusal 7 exactly if the ends are equal
abbrev pub SegmentMade : ℤ → ℤ → ℤ → ℤ → Result Segment Refusal → Type 0
SegmentMade x y p q (Ok e) = (all_ranged x y p q ≡ true) × (x ≡ p → y ≢ q) × MatchBool (forward (p -ℤ x) (q -ℤ y)) (Spans x y p q e) (Spans p q x y e)
SegmentMade x y p q (Err f) = ((number f ≡ 6) × (all_ranged x y p q ≡ false)) ⊎ ((number f ≡ 7) × (all_ranged x y p q ≡ true) × (x ≡ p) × (y ≡ q))
