use Rattle.std.proofs.Common.{◌≤◌, ℤ, ◌-ℤ◌, ◌*ℤ◌, nat_abs, ap, ◌∙◌, arith, w32, SFits, rules}
use Rattle.std.proofs.lemmas.Int.{ints, to_z-of_z}
use Rattle.lattice.proofs.Bounds.{ranged_size}
use Rattle.segments.proofs.segment.Segment.constant.Goals as goal

fits : (a b : ℤ) → nat_abs a ≤ 100000000 → nat_abs b ≤ 100000000 → SFits w32 (a -ℤ b)
fits a b h k = omega (arith, ints)

pub product-requires-2 : goal.product-requires-2
product-requires-2 c =
    let f : SFits w32 c.step_y.result = search rules in
    let g : SFits w32 c.args.self.now.x = search rules in
    let p = ranged_size c.args.self.now.x c.args.self.now.left in
    let q = c.step_y.ensures.size in
    simp to_z-of_z (record { a = omega arith; b = omega arith })

pub overflow_sub-result : goal.overflow_sub-result
overflow_sub-result c =
    let fp : SFits w32 c.product.result = search rules in
    let fq : SFits w32 c.product-2.result = search rules in
    simp to_z-of_z (fits c.product.result c.product-2.result c.product.ensures.size c.product-2.ensures.size)

pub returns : goal.returns
returns c =
    let fx : SFits w32 c.args.self.now.x = search rules in
    let fy : SFits w32 c.args.self.now.y = search rules in
    let fu : SFits w32 c.step_x.result = search rules in
    let fv : SFits w32 c.step_y.result = search rules in
    let fp : SFits w32 c.product.result = search rules in
    let fq : SFits w32 c.product-2.result = search rules in
    let a = c.product.ensures.size in
    let b = c.product-2.ensures.size in
    let fr : SFits w32 (c.product.result -ℤ c.product-2.result) = fits c.product.result c.product-2.result a b in
    let p = simp to_z-of_z at c.product.ensures.value ∙ ap (λ (z : ℤ). z *ℤ c.args.self.now.y) c.step_x.ensures.value in
    let q = simp to_z-of_z at c.product-2.ensures.value ∙ ap (λ (z : ℤ). z *ℤ c.args.self.now.x) c.step_y.ensures.value in
    simp to_z-of_z (λ i. p i -ℤ q i)
