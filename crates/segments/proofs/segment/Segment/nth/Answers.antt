use Rattle.std.proofs.Common.{◌+ℤ◌, ◌*ℤ◌, ap, ◌∙◌, w32, SFits, rules}
use Rattle.std.proofs.lemmas.Int.{to_z-of_z}
use Rattle.lattice.specs.Field.{ranged}
use Rattle.segments.specs.Edges.{edge}
use Rattle.segments.specs.EdgeFacts.{ranged_along}
use Rattle.segments.proofs.segment.Segment.nth.Goals as goal

pub advanced-requires : goal.advanced-requires
advanced-requires c =
    let e = c.args.self.now in
    let fx : SFits w32 c.args.self.now.x = search rules in
    let fdx : SFits w32 c.args.self.now.dx = search rules in
    let fk : SFits w32 c.args.k = search rules in
    let X = to_z-of_z w32 e.x fx in
    let DX = to_z-of_z w32 e.dx fdx in
    let K = to_z-of_z w32 c.args.k fk in
    record { from = ap ranged X ∙ e.left; to = (λ i. ranged (X i +ℤ K i *ℤ DX i)) ∙ ranged_along e.x e.dx c.args.k e.edges c.requires.low c.requires.high e.left e.right }

pub advanced-requires-2 : goal.advanced-requires-2
advanced-requires-2 c =
    let e = c.args.self.now in
    let fy : SFits w32 c.args.self.now.y = search rules in
    let fdy : SFits w32 c.args.self.now.dy = search rules in
    let fk : SFits w32 c.args.k = search rules in
    let Y = to_z-of_z w32 e.y fy in
    let DY = to_z-of_z w32 e.dy fdy in
    let K = to_z-of_z w32 c.args.k fk in
    record { from = ap ranged Y ∙ e.low; to = (λ i. ranged (Y i +ℤ K i *ℤ DY i)) ∙ ranged_along e.y e.dy c.args.k e.edges c.requires.low c.requires.high e.low e.high }

pub returns : goal.returns
returns c =
    let e = c.args.self.now in
    let fx : SFits w32 c.args.self.now.x = search rules in
    let fy : SFits w32 c.args.self.now.y = search rules in
    let fdx : SFits w32 c.args.self.now.dx = search rules in
    let fdy : SFits w32 c.args.self.now.dy = search rules in
    let fk : SFits w32 c.args.k = search rules in
    let X = to_z-of_z w32 e.x fx in
    let Y = to_z-of_z w32 e.y fy in
    let DX = to_z-of_z w32 e.dx fdx in
    let DY = to_z-of_z w32 e.dy fdy in
    let K = to_z-of_z w32 c.args.k fk in
    let fa : SFits w32 c.advanced.result = search rules in
    let fb : SFits w32 c.advanced-2.result = search rules in
    let A = to_z-of_z w32 c.advanced.result fa ∙ c.advanced.ensures ∙ (λ i. X i +ℤ K i *ℤ DX i) in
    let B = to_z-of_z w32 c.advanced-2.result fb ∙ c.advanced-2.ensures ∙ (λ i. Y i +ℤ K i *ℤ DY i) in
    λ i. edge (A i) (B i) (DX i) (DY i)
