use Rattle.std.proofs.Common.{arith, w32, SFits, rules}
use Rattle.std.proofs.lemmas.Int.{ints, to_z-of_z}
use Rattle.elements.specs.PointRules.{own}
use Rattle.elements.proofs.point.kind.PointKind.atom.Goals as goal

pub returns-then-at-eq0 : goal.returns-then-at-eq0
returns-then-at-eq0 c =
    let fx : SFits w32 c.args.self.now.x = search rules in
    let fy : SFits w32 c.args.self.now.y = search rules in
    simp to_z-of_z (own c.args.self.now, omega (arith, ints))
