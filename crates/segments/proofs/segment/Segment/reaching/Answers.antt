use Rattle.std.proofs.Common.{◌≡◌, ℤ, pos, negsuc, ◌+ℤ◌, ◌-ℤ◌, ◌*ℤ◌, ◌≤ℤ◌, ◌<ℤ◌, ap, ◌∙◌, arith, w32, SFits, to_z, of_z, rules}
use lib.Signed.{lt_z}
use Rattle.std.proofs.lemmas.Int.{ints, to_z-of_z}
use Rattle.numbers.proofs.Tested.{lt_test}
use Rattle.lattice.specs.Field.{ranged}
use Rattle.segments.specs.Directions.{direction}
use Rattle.segments.specs.Edges.{edge, edge_position}
use Rattle.segments.specs.Segments.{first}
use Rattle.segments.specs.Positions.{start_low}
use Rattle.segments.proofs.segment.Segment.reaching.Goals as goal

fits : (s t : ℤ) → negsuc 1999 ≤ℤ s → s <ℤ t → t ≤ℤ pos 2001 → SFits w32 (t -ℤ s)
fits s t h k l = omega (arith, ints)

above : (s t : ℤ) → s <ℤ t → pos 0 <ℤ (t -ℤ s)
above s t h = omega (arith, ints)

there : (s t : ℤ) → s +ℤ (t -ℤ s) ≡ t
there s t = omega (arith, ints)

pub invariant_of-result : goal.invariant_of-result
invariant_of-result c =
    let e = c.args.self in
    let fx : SFits w32 c.args.self.x = search rules in
    let fy : SFits w32 c.args.self.y = search rules in
    let fdx : SFits w32 c.args.self.dx = search rules in
    let fdy : SFits w32 c.args.self.dy = search rules in
    let ft : SFits w32 c.args.to = search rules in
    let fb : SFits w32 c.begins.result = search rules in
    let X = to_z-of_z w32 e.x fx in
    let Y = to_z-of_z w32 e.y fy in
    let DX = to_z-of_z w32 e.dx fdx in
    let DY = to_z-of_z w32 e.dy fdy in
    let fn : SFits w32 (c.args.to -ℤ edge_position (first e)) = fits (edge_position (first e)) c.args.to (start_low e) c.requires.some c.requires.small in
    let N : to_z w32 (of_z w32 (to_z w32 (of_z w32 c.args.to) -ℤ to_z w32 (of_z w32 c.begins.result))) ≡ c.args.to -ℤ edge_position (first e) = ap (λ (z : ℤ). to_z w32 (of_z w32 z)) (λ i. to_z-of_z w32 c.args.to ft i -ℤ (to_z-of_z w32 c.begins.result fb ∙ c.begins.ensures.value) i) ∙ to_z-of_z w32 (c.args.to -ℤ edge_position (first e)) fn in
    record {
      proper = (λ i. direction (DX i) (DY i)) ∙ e.proper;
      some = ap (lt_z (pos 0)) N ∙ lt_test (pos 0) (c.args.to -ℤ edge_position (first e)) (above (edge_position (first e)) c.args.to c.requires.some);
      left = ap ranged X ∙ e.left;
      low = ap ranged Y ∙ e.low;
      right = (λ i. ranged (X i +ℤ N i *ℤ DX i)) ∙ c.requires.right;
      high = (λ i. ranged (Y i +ℤ N i *ℤ DY i)) ∙ c.requires.high;
    }

pub returns : goal.returns
returns c =
    let e = c.args.self in
    let fx : SFits w32 c.args.self.x = search rules in
    let fy : SFits w32 c.args.self.y = search rules in
    let fdx : SFits w32 c.args.self.dx = search rules in
    let fdy : SFits w32 c.args.self.dy = search rules in
    let ft : SFits w32 c.args.to = search rules in
    let fb : SFits w32 c.begins.result = search rules in
    let X = to_z-of_z w32 e.x fx in
    let Y = to_z-of_z w32 e.y fy in
    let DX = to_z-of_z w32 e.dx fdx in
    let DY = to_z-of_z w32 e.dy fdy in
    let fn : SFits w32 (c.args.to -ℤ edge_position (first e)) = fits (edge_position (first e)) c.args.to (start_low e) c.requires.some c.requires.small in
    let N : to_z w32 (of_z w32 (to_z w32 (of_z w32 c.args.to) -ℤ to_z w32 (of_z w32 c.begins.result))) ≡ c.args.to -ℤ edge_position (first e) = ap (λ (z : ℤ). to_z w32 (of_z w32 z)) (λ i. to_z-of_z w32 c.args.to ft i -ℤ (to_z-of_z w32 c.begins.result fb ∙ c.begins.ensures.value) i) ∙ to_z-of_z w32 (c.args.to -ℤ edge_position (first e)) fn in
    record { first = λ i. edge (X i) (Y i) (DX i) (DY i); end = (λ i. edge_position (edge (X i) (Y i) (DX i) (DY i)) +ℤ N i) ∙ there (edge_position (first e)) c.args.to }
