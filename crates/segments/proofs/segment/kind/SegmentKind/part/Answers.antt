use Rattle.std.proofs.Common.{◌≡◌, ℤ, pos, negsuc, ◌+ℤ◌, ◌-ℤ◌, ◌*ℤ◌, ◌≤ℤ◌, ◌<ℤ◌, sym, ap, ◌∙◌, subst, arith, w32, SFits, to_z, of_z, rules}
use lib.Signed.{lt_z}
use Rattle.std.proofs.lemmas.Int.{ints, to_z-of_z}
use Rattle.lattice.specs.Field.{ranged}
use Rattle.kinds.specs.Rules.{Stretch}
use Rattle.segments.specs.Directions.{direction}
use Rattle.segments.specs.Edges.{edge, along}
use Rattle.segments.specs.Segments.{first, segment_model}
use Rattle.segments.specs.declared.segment.Edge.{Edge}
use Rattle.segments.specs.declared.segment.Segment.{Segment}
use Rattle.segments.specs.Positions.{start_low, end_high}
use Rattle.segments.specs.Stretches.{starting, ending, cut, part_by}
use Rattle.segments.proofs.segment.kind.SegmentKind.part.Goals as goal

fits : (s from to : ℤ) → negsuc 1999 ≤ℤ s → s ≤ℤ from → from <ℤ to → to ≤ℤ pos 2001 → SFits w32 (to -ℤ from)
fits s from to h k l m = omega (arith, ints)

through : (a b n : ℤ) → a <ℤ b → b ≤ℤ n → a ≤ℤ n
through a b n h k = omega (arith, ints)

upto : (a b c : ℤ) → a ≤ℤ b → b ≤ℤ c → a ≤ℤ c
upto a b c h k = omega (arith, ints)

width : (e : Segment) (from to : ℤ) → Stretch segment_model e from to → SFits w32 (to -ℤ from)
width e from to t = fits (starting e) from to (start_low e) t.low t.some (upto to (ending e) (pos 2001) t.high (end_high e))

pub offset-requires : goal.offset-requires
offset-requires c =
    let e = c.args.self in
    let ff : SFits w32 c.args.from = search rules in
    let ft : SFits w32 c.args.to = search rules in
    let t : Stretch segment_model c.args.self c.args.from c.args.to = simp to_z-of_z at (c.has_stretch.ensures.0 c.if-not-has_stretch.false) in
    let F = to_z-of_z w32 c.args.from ff in
    record { low = subst (λ (z : ℤ). starting e ≤ℤ z) (sym F) t.low; high = subst (λ (z : ℤ). z ≤ℤ ending e) (sym F) (through c.args.from c.args.to (ending e) t.some t.high) }

pub overflow_sub-result : goal.overflow_sub-result
overflow_sub-result c =
    let e = c.args.self in
    let ff : SFits w32 c.args.from = search rules in
    let ft : SFits w32 c.args.to = search rules in
    let t : Stretch segment_model c.args.self c.args.from c.args.to = simp to_z-of_z at (c.has_stretch.ensures.0 c.if-not-has_stretch.false) in
    simp to_z-of_z (width e c.args.from c.args.to t)

pub invariant_of-result : goal.invariant_of-result
invariant_of-result c =
    let e = c.args.self in
    let s = starting e in
    let from = c.args.from in
    let to = c.args.to in
    let ff : SFits w32 c.args.from = search rules in
    let ft : SFits w32 c.args.to = search rules in
    let fo : SFits w32 c.offset.result = search rules in
    let fx : SFits w32 c.nth-edge.result.x = search rules in
    let fy : SFits w32 c.nth-edge.result.y = search rules in
    let fdx : SFits w32 c.nth-edge.result.dx = search rules in
    let fdy : SFits w32 c.nth-edge.result.dy = search rules in
    let t : Stretch segment_model c.args.self c.args.from c.args.to = simp to_z-of_z at (c.has_stretch.ensures.0 c.if-not-has_stretch.false) in
    let F = to_z-of_z w32 c.args.from ff in
    let V : to_z w32 (of_z w32 c.offset.result) ≡ from -ℤ s = to_z-of_z w32 c.offset.result fo ∙ c.offset.ensures.value ∙ (λ i. F i -ℤ s) in
    let A : c.nth-edge.result ≡ along (first e) (from -ℤ s) = c.nth-edge.ensures ∙ ap (along (first e)) V in
    let X = to_z-of_z w32 c.nth-edge.result.x fx ∙ ap (λ (a : Edge). a.x) A in
    let Y = to_z-of_z w32 c.nth-edge.result.y fy ∙ ap (λ (a : Edge). a.y) A in
    let DX = to_z-of_z w32 c.nth-edge.result.dx fdx ∙ ap (λ (a : Edge). a.dx) A in
    let DY = to_z-of_z w32 c.nth-edge.result.dy fdy ∙ ap (λ (a : Edge). a.dy) A in
    let N : to_z w32 (of_z w32 (to_z w32 (of_z w32 c.args.to) -ℤ to_z w32 (of_z w32 c.args.from))) ≡ to -ℤ from = ap (λ (z : ℤ). to_z w32 (of_z w32 z)) (λ i. to_z-of_z w32 c.args.to ft i -ℤ F i) ∙ to_z-of_z w32 (to -ℤ from) (width e from to t) in
    let k = cut e from to t in
    record {
      proper = (λ i. direction (DX i) (DY i)) ∙ e.proper;
      some = ap (lt_z (pos 0)) N ∙ k.some;
      left = ap ranged X ∙ k.from_x;
      low = ap ranged Y ∙ k.from_y;
      right = (λ i. ranged (X i +ℤ N i *ℤ DX i)) ∙ k.to_x;
      high = (λ i. ranged (Y i +ℤ N i *ℤ DY i)) ∙ k.to_y;
    }

pub returns : goal.returns
returns c =
    let e = c.args.self in
    let s = starting e in
    let from = c.args.from in
    let to = c.args.to in
    let ff : SFits w32 c.args.from = search rules in
    let ft : SFits w32 c.args.to = search rules in
    let fo : SFits w32 c.offset.result = search rules in
    let fx : SFits w32 c.nth-edge.result.x = search rules in
    let fy : SFits w32 c.nth-edge.result.y = search rules in
    let fdx : SFits w32 c.nth-edge.result.dx = search rules in
    let fdy : SFits w32 c.nth-edge.result.dy = search rules in
    let t : Stretch segment_model c.args.self c.args.from c.args.to = simp to_z-of_z at (c.has_stretch.ensures.0 c.if-not-has_stretch.false) in
    let F = to_z-of_z w32 c.args.from ff in
    let V : to_z w32 (of_z w32 c.offset.result) ≡ from -ℤ s = to_z-of_z w32 c.offset.result fo ∙ c.offset.ensures.value ∙ (λ i. F i -ℤ s) in
    let A : c.nth-edge.result ≡ along (first e) (from -ℤ s) = c.nth-edge.ensures ∙ ap (along (first e)) V in
    let X = to_z-of_z w32 c.nth-edge.result.x fx ∙ ap (λ (a : Edge). a.x) A in
    let Y = to_z-of_z w32 c.nth-edge.result.y fy ∙ ap (λ (a : Edge). a.y) A in
    let DX = to_z-of_z w32 c.nth-edge.result.dx fdx ∙ ap (λ (a : Edge). a.dx) A in
    let DY = to_z-of_z w32 c.nth-edge.result.dy fdy ∙ ap (λ (a : Edge). a.dy) A in
    let N : to_z w32 (of_z w32 (to_z w32 (of_z w32 c.args.to) -ℤ to_z w32 (of_z w32 c.args.from))) ≡ to -ℤ from = ap (λ (z : ℤ). to_z w32 (of_z w32 z)) (λ i. to_z-of_z w32 c.args.to ft i -ℤ F i) ∙ to_z-of_z w32 (to -ℤ from) (width e from to t) in
    (t, part_by e _ from to t (λ i. edge (X i) (Y i) (DX i) (DY i)) N)
