-- Unit edges: each has a lower end and a direction.
use Rattle.std.specs.Prelude.{ℕ, Bool, cond, ◌&&◌, ℤ, pos, ◌+ℤ◌, ◌-ℤ◌, ◌*ℤ◌, neg_ℤ, int_lt}
use Rattle.std.specs.declared.cmp.Ordering.{Ordering}
use Rattle.std.specs.Int.{int_div_euclid}
use Rattle.std.specs.Ordering.{ordering_then}
use Rattle.lattice.specs.Compare.{ordering}
use Rattle.lattice.specs.Field.{ranged}
use Rattle.lattice.specs.Turns.{across, upward}
use Rattle.segments.specs.Directions.{forward, direction}
use Rattle.segments.specs.declared.segment.Edge.{Edge}

abbrev pub edge : ℤ → ℤ → ℤ → ℤ → Edge
edge x y dx dy = record { x = x; y = y; dx = dx; dy = dy }

-- the edge k edges further on
abbrev pub along : Edge → ℤ → Edge
along a k = edge (a.x +ℤ k *ℤ a.dx) (a.y +ℤ k *ℤ a.dy) a.dx a.dy

-- the line on which an edge lies: its direction, and the same number for all points (x, y) of the line
abbrev pub line : Edge → ℤ × ℤ × ℤ
line a = (a.dx, a.dy, a.dx *ℤ a.y -ℤ a.dy *ℤ a.x)

-- left to right
abbrev pub line_order : ℤ × ℤ × ℤ → ℤ × ℤ × ℤ → Ordering
line_order a b = ordering_then (ordering a.0 b.0) (ordering_then (ordering a.1 b.1) (ordering a.2 b.2))

-- the position of an edge on its line: the quotient of x by dx, rounded down, and on an upright line y
abbrev pub position : ℤ → ℤ → ℤ → ℤ
position x y dx = cond (int_lt (pos 0) dx) (int_div_euclid x dx) y

abbrev pub edge_position : Edge → ℤ
edge_position a = position a.x a.y a.dx

abbrev pub edge_proper : Edge → Bool
edge_proper a = direction a.dx a.dy

-- both ends lie in the field
abbrev pub ends_lie : Edge → Bool
ends_lie a = (ranged a.x && ranged a.y) && (ranged (a.x +ℤ a.dx) && ranged (a.y +ℤ a.dy))

abbrev pub edge_field : Edge → Bool
edge_field a = ends_lie a && edge_proper a

-- the edge with an end and the way to its other end
abbrev pub oriented : ℤ → ℤ → ℤ → ℤ → Edge
oriented x y tx ty = cond (forward tx ty) (edge x y tx ty) (edge (x +ℤ tx) (y +ℤ ty) (neg_ℤ tx) (neg_ℤ ty))

-- the edge between two ends, in either order
abbrev pub between : ℤ → ℤ → ℤ → ℤ → Edge
between x y p q = cond (forward (p -ℤ x) (q -ℤ y)) (edge x y (p -ℤ x) (q -ℤ y)) (edge p q (x -ℤ p) (y -ℤ q))

-- where a turn, then a shift across and up, takes an edge: between the images of its ends
abbrev pub edge_image : ℕ → ℤ → ℤ → Edge → Edge
edge_image s u v a =
    between (across s a.x a.y +ℤ u) (upward s a.x a.y +ℤ v) (across s (a.x +ℤ a.dx) (a.y +ℤ a.dy) +ℤ u) (upward s (a.x +ℤ a.dx) (a.y +ℤ a.dy) +ℤ v)
