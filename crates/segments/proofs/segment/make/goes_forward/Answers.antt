use Rattle.std.proofs.Common.{◌-ℤ◌, ◌∙◌, arith, w32, w64, SFits, rules}
use Rattle.std.proofs.lemmas.Int.{ints, to_z-of_z}
use Rattle.segments.specs.Directions.{forward}
use Rattle.segments.proofs.segment.make.goes_forward.Goals as goal

pub returns : goal.returns
returns c =
    let fx : SFits w32 c.x.result = search rules in
    let fp : SFits w32 c.x-2.result = search rules in
    let fy : SFits w32 c.y.result = search rules in
    let fq : SFits w32 c.y-2.result = search rules in
    let a : SFits w64 c.from.result = search rules in
    let b : SFits w64 c.from-2.result = search rules in
    let d : SFits w64 c.from-3.result = search rules in
    let e : SFits w64 c.from-4.result = search rules in
    let P = simp to_z-of_z at c.from.ensures in
    let X = simp to_z-of_z at c.from-2.ensures in
    let Q = simp to_z-of_z at c.from-3.ensures in
    let Y = simp to_z-of_z at c.from-4.ensures in
    let f : SFits w64 (c.from.result -ℤ c.from-2.result) = omega (arith, ints) in
    let g : SFits w64 (c.from-3.result -ℤ c.from-4.result) = omega (arith, ints) in
    simp to_z-of_z at c.forward.ensures ∙ (λ i. forward ((P ∙ c.x.ensures) i -ℤ (X ∙ c.x-2.ensures) i) ((Q ∙ c.y.ensures) i -ℤ (Y ∙ c.y-2.ensures) i))
