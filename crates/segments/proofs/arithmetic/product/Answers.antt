use Rattle.std.proofs.Common.{◌*ℤ◌, refl, arith, w32, SFits, rules}
use Rattle.std.proofs.lemmas.Int.{ints, to_z-of_z}
use Rattle.segments.proofs.Sizes.{size_product}
use Rattle.segments.proofs.arithmetic.product.Goals as goal

pub overflow_mul-result : goal.overflow_mul-result
overflow_mul-result c =
    let fa : SFits w32 c.args.a = search rules in
    let fb : SFits w32 c.args.b = search rules in
    let s = size_product c.args.a c.args.b 10000 10000 c.requires.a c.requires.b in
    let f : SFits w32 (c.args.a *ℤ c.args.b) = omega (arith, ints) in
    simp to_z-of_z f

pub returns : goal.returns
returns c =
    let fa : SFits w32 c.args.a = search rules in
    let fb : SFits w32 c.args.b = search rules in
    let s = size_product c.args.a c.args.b 10000 10000 c.requires.a c.requires.b in
    let f : SFits w32 (c.args.a *ℤ c.args.b) = omega (arith, ints) in
    simp to_z-of_z (record { value = refl; size = s })
