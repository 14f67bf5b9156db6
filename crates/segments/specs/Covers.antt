-- The unit edges that a segment covers.
use Rattle.std.specs.Prelude.{◌≡◌, ℤ, pos, ◌+ℤ◌, ◌-ℤ◌, ◌≤ℤ◌, ◌<ℤ◌}
use Rattle.std.proofs.Common.{sym, ◌∙◌, arith}
use Rattle.std.proofs.lemmas.Int.{ints}
use Rattle.kinds.specs.Rules.{Ordered, Covers}
use Rattle.elements.specs.Orders.{ordered_numbers, ordered_then}
use Rattle.elements.specs.PointRules.{pairs}
use Rattle.elements.specs.Covering.{Covered, covered, covered_from}
use Rattle.segments.specs.Edges.{along, line_order, edge_position}
use Rattle.segments.specs.Segments.{first, segment_model}
use Rattle.segments.specs.declared.segment.Edge.{Edge}
use Rattle.segments.specs.declared.segment.Segment.{Segment}
use Rattle.segments.specs.EdgeFacts.{along_at, along_on, edge_apart}

pub lines : Ordered line_order
lines = ordered_then (λ (a : ℤ × ℤ × ℤ). a.0) (λ (a : ℤ × ℤ × ℤ). (a.1, a.2)) (λ a b h k. λ i. (h i, (k i).0, (k i).1)) ordered_numbers pairs

pub along_within : (e : Segment) (k : ℤ) → pos 0 ≤ℤ k → k <ℤ e.edges → Covered segment_model lines e (along (first e) k)
along_within e k h l =
    let a = along_at (first e) k e.proper in
    record { proper = e.proper; on = sym (along_on (first e) k); from = omega (arith, ints); to = omega (arith, ints) }

pub along_covered : (e : Segment) (k : ℤ) → pos 0 ≤ℤ k → k <ℤ e.edges → Covers segment_model e (along (first e) k)
along_covered e k h l = covered_from segment_model lines e (along (first e) k) (along_within e k h l)

-- and it covers no other
pub record Kth (e : Segment) (a : Edge) : Type 0 where
  pub k : ℤ
  pub low : pos 0 ≤ℤ k
  pub high : k <ℤ e.edges
  pub is : a ≡ along (first e) k

pub covered_along : (e : Segment) (a : Edge) → Covers segment_model e a → Kth e a
covered_along e a h =
    let c = covered segment_model lines e a h in
    let k : ℤ = edge_position a -ℤ edge_position (first e) in
    let p : edge_position a ≡ edge_position (along (first e) k) = omega (arith, ints, along_at (first e) k e.proper) in
    record { k = k; low = omega (arith, ints, c.from); high = omega (arith, ints, c.to); is = edge_apart a (along (first e) k) c.proper (sym c.on ∙ sym (along_on (first e) k)) p }

-- every position has one
pub whole : (e : Segment) (q : ℤ) → edge_position (first e) ≤ℤ q → q <ℤ (edge_position (first e) +ℤ e.edges) → (a : Edge) × Covered segment_model lines e a × (edge_position a ≡ q)
whole e q h k =
    let n : pos 0 ≤ℤ (q -ℤ edge_position (first e)) = omega (arith, ints) in
    let m : (q -ℤ edge_position (first e)) <ℤ e.edges = omega (arith, ints) in
    (along (first e) (q -ℤ edge_position (first e)), along_within e (q -ℤ edge_position (first e)) n m, along_at (first e) (q -ℤ edge_position (first e)) e.proper ∙ omega (arith, ints))
