use Rattle.std.proofs.Common.{◌≤◌, ℤ, ◌+ℤ◌, nat_abs, arith, w32, w64, SFits, rules}
use Rattle.std.proofs.lemmas.Int.{ints, to_z-of_z}
use Rattle.lattice.proofs.Turning.{turned_sizes, below_eight}
use Rattle.lattice.specs.Turns.{index}
use Rattle.lattice.proofs.Bounds.{shifting_parts}
use Rattle.lattice.proofs.placement.Placement.moved.Goals as goal

sizes : (x y : ℤ) → SFits w32 x → SFits w32 y → (nat_abs x ≤ 2147483648) × (nat_abs y ≤ 2147483648)
sizes x y f g = (omega (arith, ints), omega (arith, ints))

pub overflow_add-result : goal.overflow_add-result
overflow_add-result c =
    let fx : SFits w32 c.args.x = search rules in
    let fy : SFits w32 c.args.y = search rules in
    let fa : SFits w32 c.args.self.across = search rules in
    let p = simp to_z-of_z at c.turned-x.ensures.across in
    let e = simp to_z-of_z at c.from.ensures in
    let n = sizes c.args.x c.args.y fx fy in
    let t = turned_sizes 2147483648 c.args.x c.args.y n.0 n.1 (index c.args.self.turn) (below_eight c.args.self.turn) in
    let s = shifting_parts c.args.self.across c.args.self.sideways in
    omega (arith, ints)

pub overflow_add-result-2 : goal.overflow_add-result-2
overflow_add-result-2 c =
    let fx : SFits w32 c.args.x = search rules in
    let fy : SFits w32 c.args.y = search rules in
    let fa : SFits w32 c.args.self.up = search rules in
    let p = simp to_z-of_z at c.turned-x.ensures.upward in
    let e = simp to_z-of_z at c.from-2.ensures in
    let n = sizes c.args.x c.args.y fx fy in
    let t = turned_sizes 2147483648 c.args.x c.args.y n.0 n.1 (index c.args.self.turn) (below_eight c.args.self.turn) in
    let s = shifting_parts c.args.self.up c.args.self.upwards in
    omega (arith, ints)

pub returns : goal.returns
returns c =
    let fx : SFits w32 c.args.x = search rules in
    let fy : SFits w32 c.args.y = search rules in
    let fa : SFits w32 c.args.self.across = search rules in
    let fu : SFits w32 c.args.self.up = search rules in
    let gx : SFits w64 c.turned-x.result.0 = search rules in
    let gy : SFits w64 c.turned-x.result.1 = search rules in
    let ga : SFits w64 c.from.result = search rules in
    let gu : SFits w64 c.from-2.result = search rules in
    let p = simp to_z-of_z at c.turned-x.ensures.across in
    let q = simp to_z-of_z at c.turned-x.ensures.upward in
    let d = simp to_z-of_z at c.from.ensures in
    let e = simp to_z-of_z at c.from-2.ensures in
    let n = sizes c.args.x c.args.y fx fy in
    let t = turned_sizes 2147483648 c.args.x c.args.y n.0 n.1 (index c.args.self.turn) (below_eight c.args.self.turn) in
    let s = shifting_parts c.args.self.across c.args.self.sideways in
    let r = shifting_parts c.args.self.up c.args.self.upwards in
    let hx : SFits w64 (c.turned-x.result.0 +ℤ c.from.result) = omega (arith, ints) in
    let hy : SFits w64 (c.turned-x.result.1 +ℤ c.from-2.result) = omega (arith, ints) in
    simp to_z-of_z (record { across = λ i. p i +ℤ d i; up = λ i. q i +ℤ e i })
