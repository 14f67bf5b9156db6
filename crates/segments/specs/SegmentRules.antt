-- Segments keep the rules.
use Rattle.std.specs.Prelude.{◌≡◌, ℕ, ◌<◌, Bool, true, false, cond, ℤ, pos, negsuc, ◌+ℤ◌, neg_ℤ, ◌≤ℤ◌, ◌<ℤ◌, Some, None, Option, int_lt, refl}
use Rattle.std.proofs.Common.{sym, ap, ◌∙◌, arith}
use Rattle.std.proofs.lemmas.Int.{ints}
use Rattle.std.proofs.lemmas.Bool.{and_parts, both_ways}
use Rattle.lattice.specs.Turns.{index, across, upward}
use Rattle.lattice.specs.declared.placement.Placement.{Placement}
use Rattle.lattice.proofs.Bounds.{shift_within}
use Rattle.lattice.proofs.Turning.{ranged_turned, below_eight}
use Rattle.kinds.specs.Model.{covers}
use Rattle.kinds.specs.Rules.{Rules, Covers}
use Rattle.elements.specs.Covering.{same_stretch}
use Rattle.segments.specs.Directions.{forward}
use Rattle.segments.specs.Edges.{edge, along, edge_position, edge_proper, ends_lie, edge_field, edge_image}
use Rattle.segments.specs.Segments.{first, segment_model}
use Rattle.segments.specs.declared.segment.Edge.{Edge}
use Rattle.segments.specs.declared.segment.Segment.{Segment}
use Rattle.segments.specs.Covers.{lines, whole, along_covered, covered_along}
use Rattle.segments.specs.DirectionsLemmas.{gcd_of, gcd_turned}
use Rattle.segments.specs.EdgeFacts.{edge_apart, along_field}
use Rattle.segments.specs.Fitting.{same_segment}
use Rattle.segments.specs.Images.{image_is, edge_ends, oriented_ends, oriented_proper}
use Rattle.segments.specs.Placing.{image_placed, image_refused}
use Rattle.segments.specs.Positions.{at_low, at_high}
use Rattle.segments.specs.Stretches.{joined, parted}

some_edge : (e : Segment) → edge_position (first e) <ℤ (edge_position (first e) +ℤ e.edges)
some_edge e = go (edge_position (first e)) e.edges e.some where
  go : (s n : ℤ) → int_lt (pos 0) n ≡ true → s <ℤ (s +ℤ n)
  go s n h = omega (arith, ints)

same_count : (a b n m : ℤ) → a ≡ b → a +ℤ n ≡ b +ℤ m → n ≡ m
same_count a b n m h k = omega (arith, ints)

alike : (d e : Segment) → ((a : Edge) → covers segment_model d a ≡ covers segment_model e a) → d ≡ e
alike d e h =
    let t = same_stretch segment_model lines some_edge whole d e h in
    let f = edge_apart (first d) (first e) d.proper t.0 t.1 in
    same_segment d e (ap (λ (a : Edge). a.x) f) (ap (λ (a : Edge). a.y) f) (ap (λ (a : Edge). a.dx) f) (ap (λ (a : Edge). a.dy) f) (same_count _ _ d.edges e.edges t.1 t.2)

inside : (e : Segment) (a : Edge) → Covers segment_model e a → edge_field a ≡ true
inside e a c = let t = covered_along e a c in ap edge_field t.is ∙ along_field e t.k t.low t.high

one_pair : (s : ℕ) (u v p q : ℤ) (a : Edge) → s < 8 → edge_image s u v a ≡ edge_image s p q a → (u ≡ p) × (v ≡ q)
one_pair s u v p q a l e = go (forward (across s a.dx a.dy) (upward s a.dx a.dy)) _ _ _ _ (sym (image_is s u v a l) ∙ e ∙ image_is s p q a l) where
  go : (b : Bool) (x y tx ty : ℤ) → cond b (edge (x +ℤ u) (y +ℤ v) tx ty) (edge ((x +ℤ u) +ℤ tx) ((y +ℤ v) +ℤ ty) (neg_ℤ tx) (neg_ℤ ty)) ≡ cond b (edge (x +ℤ p) (y +ℤ q) tx ty) (edge ((x +ℤ p) +ℤ tx) ((y +ℤ q) +ℤ ty) (neg_ℤ tx) (neg_ℤ ty)) → (u ≡ p) × (v ≡ q)
  go true x y tx ty h = let i = ap (λ (z : Edge). z.x) h in let j = ap (λ (z : Edge). z.y) h in (omega (arith, ints), omega (arith, ints))
  go false x y tx ty h = let i = ap (λ (z : Edge). z.x) h in let j = ap (λ (z : Edge). z.y) h in (omega (arith, ints), omega (arith, ints))

near_pair : (s : ℕ) (u v : ℤ) (a : Edge) → s < 8 → edge_field a ≡ true → edge_field (edge_image s u v a) ≡ true → (negsuc 3999 ≤ℤ u) × (u ≤ℤ pos 4000) × (negsuc 3999 ≤ℤ v) × (v ≤ℤ pos 4000)
near_pair s u v a l h k =
    let e = edge_ends a h in
    let r = ranged_turned a.x a.y e.left e.low s l in
    let f = oriented_ends (across s a.x a.y +ℤ u) (upward s a.x a.y +ℤ v) (across s a.dx a.dy) (upward s a.dx a.dy) (ap edge_field (sym (image_is s u v a l)) ∙ k) in
    let x = shift_within (across s a.x a.y) u r.0 f.left in
    let y = shift_within (upward s a.x a.y) v r.1 f.low in
    (x.0, x.1, y.0, y.1)

-- a placement to nowhere takes an edge out of the field, and none else does
nowhere : (p : Placement) (e : Segment) (a : Edge) → Covers segment_model e a → edge_field (edge_image (index p.turn) p.across p.up a) ≡ false → segment_model.place p e ≡ None
nowhere p e a c h = go (segment_model.place p e) refl where
  go : (o : Option Segment) → segment_model.place p e ≡ o → o ≡ None
  go None q = refl
  go (Some r) q = absurd (both_ways _ h (inside r _ ((image_placed e (index p.turn) p.across p.up (below_eight p.turn) r q (edge_image (index p.turn) p.across p.up a)).1 (a, c, refl))))

pub segment_rules : Rules segment_model
segment_rules = record {
  some = λ e. (along (first e) (pos 0), along_covered e (pos 0) (record { le = tt }) (omega (arith, ints, e.some)));
  inside = inside;
  alike = alike;
  ordered = lines;
  apart = λ a b h k c t. edge_apart a b h c t;
  atoms = λ a h. (and_parts (ends_lie a) _ h).1;
  low = at_low;
  high = at_high;
  joined = joined;
  parted = parted;
  carried = λ s u v a l h. ap edge_proper (image_is s u v a l) ∙ oriented_proper (across s a.x a.y +ℤ u) (upward s a.x a.y +ℤ v) (across s a.dx a.dy) (upward s a.dx a.dy) (gcd_turned a.dx a.dy s l ∙ gcd_of a.dx a.dy h);
  placed = λ p e f h. image_placed e (index p.turn) p.across p.up (below_eight p.turn) f h;
  refused = λ p e. (image_refused e (index p.turn) p.across p.up (below_eight p.turn), λ w. nowhere p e w.0 w.1 w.2);
  one = λ s u v p q a b l h d e. one_pair s u v p q a l (d ∙ sym e);
  near = λ s u v a b l h k e. near_pair s u v a l h (ap edge_field e ∙ k);
}
