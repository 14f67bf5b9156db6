-- Positions of the field: from -2000 to 2000.
use Rattle.std.specs.Prelude.{◌≡◌, ◌≤◌, true, ℤ, pos, negsuc, ◌+ℤ◌, ◌-ℤ◌, ◌*ℤ◌, ◌≤ℤ◌, ◌<ℤ◌, int_lt, unsigned_abs}
use Rattle.std.proofs.Common.{sym, subst, ⊎_elim, arith}
use Rattle.std.specs.Int.{int_div_euclid}
use Rattle.std.proofs.lemmas.Int.{ints, by_lt_z}
use Rattle.std.proofs.lemmas.Bool.{and_parts}
use Rattle.numbers.proofs.Ring.{plus_times, times_upto}
use Rattle.numbers.proofs.Floors.{split}
use Rattle.lattice.proofs.Bounds.{ranged_parts}
use Rattle.segments.specs.Edges.{edge, along, edge_position, ends_lie, edge_field}
use Rattle.segments.specs.Segments.{first}
use Rattle.segments.specs.declared.segment.Edge.{Edge}
use Rattle.segments.specs.declared.segment.Segment.{Segment}
use Rattle.segments.specs.DirectionsLemmas.{direction_cases}
use Rattle.segments.specs.EdgeFacts.{at_slanted, at_upright, along_at, along_field}
use Rattle.segments.specs.Images.{edge_ends}

-- a quotient lies where the number lies
floor_low : (x d : ℤ) → pos 0 <ℤ d → negsuc 1999 ≤ℤ x → negsuc 1999 ≤ℤ int_div_euclid x d
floor_low x d h l = by_lt_z (int_div_euclid x d) (negsuc 1999) (λ k.
    let s = split x d h in
    let i = s.is in
    let hi = s.high in
    let m = times_upto (int_div_euclid x d +ℤ pos 1) (negsuc 1999) d (omega (arith, ints)) (omega (arith, ints)) in
    let p = plus_times (int_div_euclid x d) (pos 1) d in
    absurd (sums (int_div_euclid x d *ℤ d) _ d s.rest x i hi p m h l)) (λ k. k) where
      sums : (a b d r x : ℤ) → x ≡ a +ℤ r → r <ℤ d → b ≡ a +ℤ pos 1 *ℤ d → b ≤ℤ (negsuc 1999 *ℤ d) → pos 0 <ℤ d → negsuc 1999 ≤ℤ x → ⊥
      sums a b d r x e f g h k l = omega (arith, ints)

floor_high : (x d : ℤ) → pos 0 <ℤ d → x ≤ℤ pos 2000 → int_div_euclid x d ≤ℤ pos 2000
floor_high x d h l = by_lt_z (pos 2000) (int_div_euclid x d) (λ k.
    let s = split x d h in
    let i = s.is in
    let lo = s.low in
    let m = times_upto (pos 2001) (int_div_euclid x d) d (omega (arith, ints)) (omega (arith, ints)) in
    absurd (sums (int_div_euclid x d *ℤ d) d s.rest x i lo m h l)) (λ k. k) where
      sums : (a d r x : ℤ) → x ≡ a +ℤ r → pos 0 ≤ℤ r → (pos 2001 *ℤ d) ≤ℤ a → pos 0 <ℤ d → x ≤ℤ pos 2000 → ⊥
      sums a d r x e f h k l = omega (arith, ints)

pub at_low : (a : Edge) → edge_field a ≡ true → negsuc 1999 ≤ℤ edge_position a
at_low a h =
    let e = edge_ends a h in
    ⊎_elim (λ p. subst (λ (z : ℤ). negsuc 1999 ≤ℤ z) (sym (at_slanted a.x a.y a.dx a.dy p)) (floor_low a.x a.dx p (ranged_parts a.x e.left).0))
    (λ q. subst (λ (z : ℤ). negsuc 1999 ≤ℤ z) (sym (at_upright a.x a.y a.dx a.dy q.0)) (ranged_parts a.y e.low).0)
    (direction_cases a.dx a.dy (and_parts (ends_lie a) _ h).1)

pub at_high : (a : Edge) → edge_field a ≡ true → edge_position a ≤ℤ pos 2000
at_high a h =
    let e = edge_ends a h in
    ⊎_elim (λ p. subst (λ (z : ℤ). z ≤ℤ pos 2000) (sym (at_slanted a.x a.y a.dx a.dy p)) (floor_high a.x a.dx p (ranged_parts a.x e.left).1))
    (λ q. subst (λ (z : ℤ). z ≤ℤ pos 2000) (sym (at_upright a.x a.y a.dx a.dy q.0)) (ranged_parts a.y e.low).1)
    (direction_cases a.dx a.dy (and_parts (ends_lie a) _ h).1)

-- ---- the positions of a segment
step_none : (x d : ℤ) → x +ℤ pos 0 *ℤ d ≡ x
step_none x d = omega (arith, ints)

first_none : (e : Segment) → along (first e) (pos 0) ≡ first e
first_none e = let p = step_none e.x e.dx in let q = step_none e.y e.dy in λ i. edge (p i) (q i) e.dx e.dy

first_field : (e : Segment) → edge_field (first e) ≡ true
first_field e = subst (λ (a : Edge). edge_field a ≡ true) (first_none e) (along_field e (pos 0) (record { le = tt }) (omega (arith, ints, e.some)))

pub start_low : (e : Segment) → negsuc 1999 ≤ℤ edge_position (first e)
start_low e = at_low (first e) (first_field e)

pub start_high : (e : Segment) → edge_position (first e) ≤ℤ pos 2000
start_high e = at_high (first e) (first_field e)

pub end_high : (e : Segment) → (edge_position (first e) +ℤ e.edges) ≤ℤ pos 2001
end_high e =
    let s : pos 0 <ℤ e.edges = omega (arith, ints, e.some) in
    let h = at_high (along (first e) (e.edges -ℤ pos 1)) (along_field e (e.edges -ℤ pos 1) (omega (arith, ints)) (omega (arith, ints))) in
    let a = along_at (first e) (e.edges -ℤ pos 1) e.proper in
    sums (edge_position (along (first e) (e.edges -ℤ pos 1))) (edge_position (first e)) e.edges h a where
      sums : (p q n : ℤ) → p ≤ℤ pos 2000 → p ≡ q +ℤ (n -ℤ pos 1) → (q +ℤ n) ≤ℤ pos 2001
      sums p q n h a = omega (arith, ints)

pub size_edges : (e : Segment) → unsigned_abs e.edges ≤ 10000
size_edges e = sums (edge_position (first e)) e.edges (start_low e) (end_high e) e.some where
  sums : (s n : ℤ) → negsuc 1999 ≤ℤ s → (s +ℤ n) ≤ℤ pos 2001 → int_lt (pos 0) n ≡ true → unsigned_abs n ≤ 10000
  sums s n h k l = omega (arith, ints)
