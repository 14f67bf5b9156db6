-- Points as a kind. Each point is the only atom of its carrier, the pair of its coordinates, and stands there at 0.
use Rattle.std.specs.Prelude.{◌≡◌, true, false, ◌&&◌, ℤ, pos, ◌+ℤ◌, Some, Ok, Err, Option, Result}
use Rattle.std.specs.declared.cmp.Ordering.{Ordering}
use Rattle.std.specs.Ordering.{ordering_then}
use Rattle.lattice.specs.Compare.{ordering}
use Rattle.lattice.specs.Field.{ranged}
use Rattle.lattice.specs.Refusals.{number}
use Rattle.lattice.specs.Turns.{index, across, upward}
use Rattle.lattice.specs.Valid.{tested}
use Rattle.lattice.specs.declared.refusal.Refusal.{Refusal}
use Rattle.kinds.specs.Model.{KindModel}
use Rattle.elements.specs.declared.point.Point.{Point}
use Rattle.elements.specs.declared.point.LatticePoint.{LatticePoint}

-- the point with these coordinates, if they lie in the field
abbrev pub point : ℤ → ℤ → Option Point
point x y = tested (ranged x) (λ wide. tested (ranged y) (λ tall. Some (record { x = x; y = y; wide = wide; tall = tall })))

-- left to right: by the first coordinate, then by the second
abbrev pub pair_order : ℤ × ℤ → ℤ × ℤ → Ordering
pair_order a b = ordering_then (ordering a.0 b.0) (ordering a.1 b.1)

abbrev pub point_model : KindModel Point LatticePoint (ℤ × ℤ)
point_model = record {
  carrier = λ e. (e.x, e.y);
  start = λ e. pos 0;
  end = λ e. pos 1;
  order = pair_order;
  proper = λ a. true;
  on = λ a. (a.x, a.y);
  at = λ a. pos 0;
  field = λ a. ranged a.x && ranged a.y;
  image = λ s u v a. record { x = across s a.x a.y +ℤ u; y = upward s a.x a.y +ℤ v };
  place = λ p e. point (across (index p.turn) e.x e.y +ℤ p.across) (upward (index p.turn) e.x e.y +ℤ p.up);
}

-- what two numbers give: their point, or the refusal 6 exactly if one of them lies outside the field
abbrev pub PointMade : ℤ → ℤ → Result Point Refusal → Type 0
PointMade x y (Ok e) = ((ranged x && ranged y) ≡ true) × (e.x ≡ x) × (e.y ≡ y)
PointMade x y (Err f) = ((ranged x && ranged y) ≡ false) × (number f ≡ 6)
