use Rattle.std.proofs.Common.{◌+ℤ◌, ◌*ℤ◌, refl, arith, w32, SFits, rules}
use Rattle.std.proofs.lemmas.Int.{ints, to_z-of_z}
use Rattle.lattice.proofs.Bounds.{ranged_parts}
use Rattle.segments.proofs.Sizes.{size_way}
use Rattle.segments.proofs.arithmetic.advanced.Goals as goal

pub overflow_add-result : goal.overflow_add-result
overflow_add-result c =
    let fz : SFits w32 c.args.z = search rules in
    let fd : SFits w32 c.args.d = search rules in
    let fk : SFits w32 c.args.k = search rules in
    let s = size_way c.args.z (c.args.k *ℤ c.args.d) c.requires.from c.requires.to in
    let f : SFits w32 (c.args.k *ℤ c.args.d) = omega (arith, ints) in
    let h = ranged_parts (c.args.z +ℤ c.args.k *ℤ c.args.d) c.requires.to in
    let g : SFits w32 (c.args.z +ℤ c.args.k *ℤ c.args.d) = omega (arith, ints) in
    simp to_z-of_z g

pub returns : goal.returns
returns c =
    let fz : SFits w32 c.args.z = search rules in
    let fd : SFits w32 c.args.d = search rules in
    let fk : SFits w32 c.args.k = search rules in
    let s = size_way c.args.z (c.args.k *ℤ c.args.d) c.requires.from c.requires.to in
    let f : SFits w32 (c.args.k *ℤ c.args.d) = omega (arith, ints) in
    let h = ranged_parts (c.args.z +ℤ c.args.k *ℤ c.args.d) c.requires.to in
    let g : SFits w32 (c.args.z +ℤ c.args.k *ℤ c.args.d) = omega (arith, ints) in
    simp to_z-of_z refl

pub overflow_mul-result : goal.overflow_mul-result
overflow_mul-result c =
    let fd : SFits w32 c.args.d = search rules in
    let fk : SFits w32 c.args.k = search rules in
    let s = size_way c.args.z (c.args.k *ℤ c.args.d) c.requires.from c.requires.to in
    let f : SFits w32 (c.args.k *ℤ c.args.d) = omega (arith, ints) in
    simp to_z-of_z f
