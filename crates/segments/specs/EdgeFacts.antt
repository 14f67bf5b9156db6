-- Unit edges, their lines, and the edges of a segment.
use Rattle.std.specs.Prelude.{◌≡◌, true, ◌&&◌, ℤ, pos, ◌+ℤ◌, ◌-ℤ◌, ◌*ℤ◌, neg_ℤ, ◌≤ℤ◌, ◌<ℤ◌, int_lt}
use Rattle.std.proofs.Common.{sym, ap, ◌∙◌, ⊎_elim, arith}
use Rattle.std.proofs.Math.IntN.{*ℤ_comm}
use Rattle.std.specs.Int.{int_div_euclid}
use Rattle.std.proofs.lemmas.Int.{ints, by_lt_z}
use Rattle.std.proofs.lemmas.Bool.{and_from, cond-true, cond-false}
use Rattle.numbers.proofs.Ring.{plus_times, times_plus, times_neg, times_times, times_upto, times_same}
use Rattle.numbers.proofs.Floors.{floor_more, floor_near, coprime_small}
use Rattle.numbers.proofs.Tested.{lt_test, not_lt_test}
use Rattle.lattice.specs.Field.{ranged}
use Rattle.lattice.proofs.Bounds.{ranged_parts, ranged_from}
use Rattle.segments.specs.Directions.{direction}
use Rattle.segments.specs.Edges.{edge, along, line, edge_position, edge_proper, ends_lie, edge_field}
use Rattle.segments.specs.Segments.{first}
use Rattle.segments.specs.declared.segment.Edge.{Edge}
use Rattle.segments.specs.declared.segment.Segment.{Segment}
use Rattle.segments.specs.DirectionsLemmas.{direction_cases, gcd_of}

-- the position, by the direction
pub at_slanted : (x y dx dy : ℤ) → pos 0 <ℤ dx → edge_position (edge x y dx dy) ≡ int_div_euclid x dx
at_slanted x y dx dy h = cond-true (int_lt (pos 0) dx) (int_div_euclid x dx) y (lt_test (pos 0) dx h)

pub at_upright : (x y dx dy : ℤ) → dx ≡ pos 0 → edge_position (edge x y dx dy) ≡ y
at_upright x y dx dy h = cond-false (int_lt (pos 0) dx) (int_div_euclid x dx) y (not_lt_test (pos 0) dx (omega (arith, ints)))

-- dx · (k dy) is dy · (k dx)
cross : (dx dy k : ℤ) → dx *ℤ (k *ℤ dy) ≡ dy *ℤ (k *ℤ dx)
cross dx dy k = sym (times_times dx k dy) ∙ ap (λ (z : ℤ). z *ℤ dy) (*ℤ_comm dx k) ∙ *ℤ_comm (k *ℤ dx) dy

-- an edge further on lies on the same carrier
pub along_c : (x y dx dy k : ℤ) → dx *ℤ (y +ℤ k *ℤ dy) -ℤ dy *ℤ (x +ℤ k *ℤ dx) ≡ dx *ℤ y -ℤ dy *ℤ x
along_c x y dx dy k =
    let p = times_plus dx y (k *ℤ dy) in
    let q = times_plus dy x (k *ℤ dx) in
    let r = cross dx dy k in
    omega (arith, ints)

pub along_on : (a : Edge) (k : ℤ) → line (along a k) ≡ line a
along_on a k = λ i. (a.dx, a.dy, along_c a.x a.y a.dx a.dy k i)

-- k positions further on
pub along_at : (a : Edge) (k : ℤ) → edge_proper a ≡ true → edge_position (along a k) ≡ edge_position a +ℤ k
along_at a k h =
    ⊎_elim (λ p. at_slanted _ _ a.dx a.dy p ∙ floor_more a.x a.dx k p ∙ ap (λ (z : ℤ). z +ℤ k) (sym (at_slanted a.x a.y a.dx a.dy p)))
    (λ q.
    let d : k *ℤ a.dy ≡ k = ap (λ (z : ℤ). k *ℤ z) q.1 ∙ omega (arith, ints) in
    at_upright _ _ a.dx a.dy q.0 ∙ ap (λ (z : ℤ). a.y +ℤ z) d ∙ ap (λ (z : ℤ). z +ℤ k) (sym (at_upright a.x a.y a.dx a.dy q.0)))
    (direction_cases a.dx a.dy h)

across_sum : (a b c d : ℤ) → a -ℤ b ≡ c -ℤ d → a -ℤ c ≡ b -ℤ d
across_sum a b c d h = omega (arith, ints)

same_left : (a b c d : ℤ) → a -ℤ b ≡ c -ℤ d → b ≡ d → a ≡ c
same_left a b c d h k = omega (arith, ints)

from_upright : (x y p q : ℤ) → pos 0 *ℤ y -ℤ pos 1 *ℤ x ≡ pos 0 *ℤ q -ℤ pos 1 *ℤ p → x ≡ p
from_upright x y p q h = omega (arith, ints)

times_less : (d a b : ℤ) → d *ℤ (a -ℤ b) ≡ d *ℤ a -ℤ d *ℤ b
times_less d a b = times_plus d a (neg_ℤ b) ∙ ap (λ (z : ℤ). d *ℤ a +ℤ z) (times_neg d b)

-- one edge at a position of a carrier
one_edge : (x y p q dx dy : ℤ) → direction dx dy ≡ true → dx *ℤ y -ℤ dy *ℤ x ≡ dx *ℤ q -ℤ dy *ℤ p → edge_position (edge x y dx dy) ≡ edge_position (edge p q dx dy) → (x ≡ p) × (y ≡ q)
one_edge x y p q dx dy h c e = ⊎_elim slanted upright (direction_cases dx dy h) where
  slanted : pos 0 <ℤ dx → (x ≡ p) × (y ≡ q)
  slanted d =
      let n = floor_near x p dx d (sym (at_slanted x y dx dy d) ∙ e ∙ at_slanted p q dx dy d) in
      let w : dx *ℤ (y -ℤ q) ≡ dy *ℤ (x -ℤ p) = times_less dx y q ∙ across_sum (dx *ℤ y) (dy *ℤ x) (dx *ℤ q) (dy *ℤ p) c ∙ sym (times_less dy x p) in
      let z : x -ℤ p ≡ pos 0 = coprime_small dx dy (x -ℤ p) (y -ℤ q) (gcd_of dx dy h) w n in
      let f : x ≡ p = omega (arith, ints) in
      let g : dy *ℤ x ≡ dy *ℤ p = ap (λ (t : ℤ). dy *ℤ t) f in
      let i : y *ℤ dx ≡ q *ℤ dx = *ℤ_comm y dx ∙ same_left (dx *ℤ y) (dy *ℤ x) (dx *ℤ q) (dy *ℤ p) c g ∙ *ℤ_comm dx q in
      (f, times_same y q dx d i)

  upright : (dx ≡ pos 0) × (dy ≡ pos 1) → (x ≡ p) × (y ≡ q)
  upright d =
      let l = d.0 in
      let r = d.1 in
      let w : pos 0 *ℤ y -ℤ pos 1 *ℤ x ≡ pos 0 *ℤ q -ℤ pos 1 *ℤ p = (λ i. sym l i *ℤ y -ℤ sym r i *ℤ x) ∙ c ∙ (λ i. l i *ℤ q -ℤ r i *ℤ p) in
      (from_upright x y p q w, sym (at_upright x y dx dy l) ∙ e ∙ at_upright p q dx dy l)

pub edge_apart : (a b : Edge) → edge_proper a ≡ true → line a ≡ line b → edge_position a ≡ edge_position b → a ≡ b
edge_apart a b h t e =
    let dx = ap (λ (z : ℤ × ℤ × ℤ). z.0) t in
    let dy = ap (λ (z : ℤ × ℤ × ℤ). z.1) t in
    let c = ap (λ (z : ℤ × ℤ × ℤ). z.2) t in
    let f : a.dx *ℤ a.y -ℤ a.dy *ℤ a.x ≡ a.dx *ℤ b.y -ℤ a.dy *ℤ b.x = c ∙ (λ i. sym dx i *ℤ b.y -ℤ sym dy i *ℤ b.x) in
    let g : edge_position a ≡ edge_position (edge b.x b.y a.dx a.dy) = e ∙ (λ i. edge_position (edge b.x b.y (sym dx i) (sym dy i))) in
    let o = one_edge a.x a.y b.x b.y a.dx a.dy h f g in
    let ox = o.0 in
    let oy = o.1 in
    λ i. record { x = ox i; y = oy i; dx = dx i; dy = dy i }

-- ---- the edges of a segment
-- a number between two of the field
pub ranged_along : (x d k n : ℤ) → pos 0 ≤ℤ k → k ≤ℤ n → ranged x ≡ true → ranged (x +ℤ n *ℤ d) ≡ true → ranged (x +ℤ k *ℤ d) ≡ true
ranged_along x d k n h l a b =
    let p = ranged_parts x a in
    let q = ranged_parts (x +ℤ n *ℤ d) b in
    let z : pos 0 *ℤ d ≡ pos 0 = omega (arith, ints) in
    by_lt_z d (pos 0) (λ o.
    let s = times_upto (pos 0) k (neg_ℤ d) (omega (arith, ints)) h in
    let t = times_upto k n (neg_ℤ d) (omega (arith, ints)) l in
    let w = times_neg k d in
    let y = times_neg n d in
    let v = times_neg (pos 0) d in
    ranged_from (x +ℤ k *ℤ d) (omega (arith, ints)) (omega (arith, ints)))
    (λ o.
    let s = times_upto (pos 0) k d o h in
    let t = times_upto k n d o l in
    ranged_from (x +ℤ k *ℤ d) (omega (arith, ints)) (omega (arith, ints)))

one_more : (x d k : ℤ) → x +ℤ (k +ℤ pos 1) *ℤ d ≡ (x +ℤ k *ℤ d) +ℤ d
one_more x d k = let p = plus_times k (pos 1) d in omega (arith, ints)

pub field_parts : (a : Edge) → edge_proper a ≡ true → ranged a.x ≡ true → ranged a.y ≡ true → ranged (a.x +ℤ a.dx) ≡ true → ranged (a.y +ℤ a.dy) ≡ true → edge_field a ≡ true
field_parts a h x y p q = and_from (ends_lie a) _ (and_from (ranged a.x && ranged a.y) _ (and_from (ranged a.x) _ x y) (and_from (ranged (a.x +ℤ a.dx)) _ p q)) h

pub along_field : (e : Segment) (k : ℤ) → pos 0 ≤ℤ k → k <ℤ e.edges → edge_field (along (first e) k) ≡ true
along_field e k h l =
    let m : k ≤ℤ e.edges = omega (arith, ints) in
    let n : (k +ℤ pos 1) ≤ℤ e.edges = omega (arith, ints) in
    let o : pos 0 ≤ℤ (k +ℤ pos 1) = omega (arith, ints) in
    field_parts (along (first e) k) e.proper
    (ranged_along e.x e.dx k e.edges h m e.left e.right)
    (ranged_along e.y e.dy k e.edges h m e.low e.high)
    (ap ranged (sym (one_more e.x e.dx k)) ∙ ranged_along e.x e.dx (k +ℤ pos 1) e.edges o n e.left e.right)
    (ap ranged (sym (one_more e.y e.dy k)) ∙ ranged_along e.y e.dy (k +ℤ pos 1) e.edges o n e.low e.high)
