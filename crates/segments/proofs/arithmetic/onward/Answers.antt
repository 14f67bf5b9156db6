use Rattle.std.proofs.Common.{◌≤◌, ℤ, ◌+ℤ◌, ◌*ℤ◌, nat_abs, refl, arith, w64, SFits, rules}
use Rattle.std.proofs.lemmas.Int.{ints, to_z-of_z}
use Rattle.lattice.proofs.Bounds.{ranged_size}
use Rattle.segments.proofs.Sizes.{size_product}
use Rattle.segments.proofs.arithmetic.onward.Goals as goal

small : (z : ℤ) → nat_abs z ≤ 40000000 → SFits w64 z
small z h = omega (arith, ints)

sums : (z w : ℤ) → nat_abs z ≤ 2000 → nat_abs w ≤ 40000000 → SFits w64 (z +ℤ w)
sums z w h k = omega (arith, ints)

pub overflow_mul-result : goal.overflow_mul-result
overflow_mul-result c =
    let fd : SFits w64 c.args.d = search rules in
    let fn : SFits w64 c.args.n = search rules in
    simp to_z-of_z (small (c.args.n *ℤ c.args.d) (size_product c.args.n c.args.d 10000 4000 c.requires.steps c.requires.step))

pub overflow_add-result : goal.overflow_add-result
overflow_add-result c =
    let fz : SFits w64 c.args.z = search rules in
    let fd : SFits w64 c.args.d = search rules in
    let fn : SFits w64 c.args.n = search rules in
    let p = size_product c.args.n c.args.d 10000 4000 c.requires.steps c.requires.step in
    let fp = small (c.args.n *ℤ c.args.d) p in
    simp to_z-of_z (sums c.args.z (c.args.n *ℤ c.args.d) (ranged_size c.args.z c.requires.from) p)

pub returns : goal.returns
returns c =
    let fz : SFits w64 c.args.z = search rules in
    let fd : SFits w64 c.args.d = search rules in
    let fn : SFits w64 c.args.n = search rules in
    let p = size_product c.args.n c.args.d 10000 4000 c.requires.steps c.requires.step in
    let fp : SFits w64 (c.args.n *ℤ c.args.d) = small (c.args.n *ℤ c.args.d) p in
    let fs : SFits w64 (c.args.z +ℤ c.args.n *ℤ c.args.d) = sums c.args.z (c.args.n *ℤ c.args.d) (ranged_size c.args.z c.requires.from) p in
    simp to_z-of_z refl
