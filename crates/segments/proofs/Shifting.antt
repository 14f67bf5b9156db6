-- Turned edges, and shifts from one edge to another.
use Rattle.std.proofs.Common.{◌≡◌, ℕ, ◌<◌, ◌≤◌, Bool, true, false, cond, ℤ, pos, ◌+ℤ◌, ◌-ℤ◌, neg_ℤ, nat_abs, Some, None, sym, refl, ap, ◌∙◌, subst, arith}
use lib.IntN.{+ℤ_idr}
use Rattle.std.proofs.lemmas.Int.{ints}
use Rattle.std.proofs.lemmas.Bool.{and_parts, and_from, both_ways}
use Rattle.numbers.specs.Gcd.{gcd}
use Rattle.lattice.specs.Field.{ranged}
use Rattle.lattice.specs.Turns.{across, upward}
use Rattle.lattice.proofs.Bounds.{ranged_size}
use Rattle.lattice.proofs.Turning.{across_plus, upward_plus, ranged_turned, turned_sizes}
use Rattle.kinds.specs.Answers.{Shifts}
use Rattle.segments.specs.Directions.{forward}
use Rattle.segments.specs.Edges.{edge, oriented, edge_image, ends_lie, edge_field}
use Rattle.segments.specs.Segments.{segment_model}
use Rattle.segments.specs.declared.segment.Edge.{Edge}
use Rattle.segments.specs.DirectionsLemmas.{gcd_neg, gcd_of, gcd_turned, direction_from}
use Rattle.segments.specs.Images.{ends_of, image_is, image_shift}
use Rattle.segments.proofs.Sizes.{size_way}

-- the image under a turn alone
pub turned_is : (s : ℕ) (a : Edge) → s < 8 → oriented (across s a.x a.y) (upward s a.x a.y) (across s a.dx a.dy) (upward s a.dx a.dy) ≡ edge_image s (pos 0) (pos 0) a
turned_is s a l =
    let x = +ℤ_idr (across s a.x a.y) in
    let y = +ℤ_idr (upward s a.x a.y) in
    (λ i. oriented (sym x i) (sym y i) (across s a.dx a.dy) (upward s a.dx a.dy)) ∙ sym (image_is s (pos 0) (pos 0) a l)

-- how large the numbers of a turned edge of the field get
pub record Sizes (s : ℕ) (a : Edge) : Type 0 where
  pub x : nat_abs (across s a.x a.y) ≤ 4000
  pub y : nat_abs (upward s a.x a.y) ≤ 4000
  pub dx : nat_abs (across s a.dx a.dy) ≤ 4000
  pub dy : nat_abs (upward s a.dx a.dy) ≤ 4000
  pub left : ranged (edge_image s (pos 0) (pos 0) a).x ≡ true
  pub low : ranged (edge_image s (pos 0) (pos 0) a).y ≡ true

more : (z : ℤ) → nat_abs z ≤ 2000 → nat_abs z ≤ 4000
more z h = omega arith

lower : (x y tx ty : ℤ) → ranged x ≡ true → ranged y ≡ true → ranged (x +ℤ tx) ≡ true → ranged (y +ℤ ty) ≡ true → (ranged (oriented x y tx ty).x ≡ true) × (ranged (oriented x y tx ty).y ≡ true)
lower x y tx ty a b c d = go (forward tx ty) where
  go : (f : Bool) → (ranged (cond f (edge x y tx ty) (edge (x +ℤ tx) (y +ℤ ty) (neg_ℤ tx) (neg_ℤ ty))).x ≡ true) × (ranged (cond f (edge x y tx ty) (edge (x +ℤ tx) (y +ℤ ty) (neg_ℤ tx) (neg_ℤ ty))).y ≡ true)
  go true = (a, b)
  go false = (c, d)

pub sizes : (s : ℕ) (a : Edge) → s < 8 → ends_lie a ≡ true → Sizes s a
sizes s a l h =
    let e = ends_of a h in
    let p = turned_sizes 2000 a.x a.y (ranged_size a.x e.left) (ranged_size a.y e.low) s l in
    let q = turned_sizes 4000 a.dx a.dy (size_way a.x a.dx e.left e.right) (size_way a.y a.dy e.low e.high) s l in
    let f = ranged_turned a.x a.y e.left e.low s l in
    let g = ranged_turned (a.x +ℤ a.dx) (a.y +ℤ a.dy) e.right e.high s l in
    let w = lower (across s a.x a.y) (upward s a.x a.y) (across s a.dx a.dy) (upward s a.dx a.dy) f.0 f.1 (ap ranged (sym (across_plus a.x a.y a.dx a.dy s l)) ∙ g.0) (ap ranged (sym (upward_plus a.x a.y a.dx a.dy s l)) ∙ g.1) in
    record { x = more (across s a.x a.y) p.0; y = more (upward s a.x a.y) p.1; dx = q.0; dy = q.1; left = subst (λ (z : Edge). ranged z.x ≡ true) (turned_is s a l) w.0; low = subst (λ (z : Edge). ranged z.y ≡ true) (turned_is s a l) w.1 }

-- ---- shifts
pub not_forward : (s : ℕ) (a b : Edge) → forward a.dx a.dy ≡ false → Shifts segment_model s a b None
not_forward s a b h f g u v e = both_ways _ h (and_parts (forward a.dx a.dy) _ (and_parts (ends_lie a) _ f).1).0

pub not_across : (s : ℕ) (a b : Edge) → s < 8 → ((edge_image s (pos 0) (pos 0) a).dx ≡ b.dx → ⊥) → Shifts segment_model s a b None
not_across s a b l h f g u v e = h (ap (λ (z : Edge). z.dx) (sym (image_shift s u v a l) ∙ e))

pub not_up : (s : ℕ) (a b : Edge) → s < 8 → ((edge_image s (pos 0) (pos 0) a).dy ≡ b.dy → ⊥) → Shifts segment_model s a b None
not_up s a b l h f g u v e = h (ap (λ (z : Edge). z.dy) (sym (image_shift s u v a l) ∙ e))

again : (p q u : ℤ) → u ≡ p -ℤ q → q +ℤ u ≡ p
again p q u h = omega (arith, ints)

oriented_gcd : (x y tx ty : ℤ) → gcd (nat_abs (oriented x y tx ty).dx) (nat_abs (oriented x y tx ty).dy) ≡ gcd (nat_abs tx) (nat_abs ty)
oriented_gcd x y tx ty = go (forward tx ty) where
  go : (f : Bool) → gcd (nat_abs (cond f (edge x y tx ty) (edge (x +ℤ tx) (y +ℤ ty) (neg_ℤ tx) (neg_ℤ ty))).dx) (nat_abs (cond f (edge x y tx ty) (edge (x +ℤ tx) (y +ℤ ty) (neg_ℤ tx) (neg_ℤ ty))).dy) ≡ gcd (nat_abs tx) (nat_abs ty)
  go true = refl
  go false = gcd_neg tx ty

-- the turned edge has the direction of the other edge: then the first is a unit edge too, and one pair takes it there
pub shift_by : (s : ℕ) (a b : Edge) (u v : ℤ) → s < 8 → ends_lie a ≡ true → forward a.dx a.dy ≡ true → (edge_image s (pos 0) (pos 0) a).dx ≡ b.dx → (edge_image s (pos 0) (pos 0) a).dy ≡ b.dy → edge_field b ≡ true → u ≡ b.x -ℤ (edge_image s (pos 0) (pos 0) a).x → v ≡ b.y -ℤ (edge_image s (pos 0) (pos 0) a).y → Shifts segment_model s a b (Some (u, v))
shift_by s a b u v l h f p q g d e =
    let o = turned_is s a l in
    let x = again b.x (edge_image s (pos 0) (pos 0) a).x u d in
    let y = again b.y (edge_image s (pos 0) (pos 0) a).y v e in
    let k : gcd (nat_abs a.dx) (nat_abs a.dy) ≡ 1 = sym (gcd_turned a.dx a.dy s l) ∙ sym (oriented_gcd (across s a.x a.y) (upward s a.x a.y) (across s a.dx a.dy) (upward s a.dx a.dy)) ∙ ap (λ (z : Edge). gcd (nat_abs z.dx) (nat_abs z.dy)) o ∙ (λ i. gcd (nat_abs (p i)) (nat_abs (q i))) ∙ gcd_of b.dx b.dy (and_parts (ends_lie b) _ g).1 in
    (and_from (ends_lie a) _ h (direction_from a.dx a.dy f k), g, image_shift s u v a l ∙ (λ i. edge (x i) (y i) (p i) (q i)))
