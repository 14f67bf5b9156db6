use Rattle.std.proofs.Common.{Decides, subst, w32, SFits, rules}
use Rattle.std.proofs.lemmas.Int.{to_z-of_z}
use Rattle.lattice.specs.Order.{Triple, Before, read}
use Rattle.lattice.proofs.placement.Placement.after.Goals as goal

pub returns : goal.returns
returns c =
    let ft : SFits w32 c.args.turn = search rules in
    let fa : SFits w32 c.args.across = search rules in
    let fu : SFits w32 c.args.up = search rules in
    let b = simp to_z-of_z at c.before-2.ensures in
    subst (λ (t : Triple). Decides c.before-2.result (Before (read c.args.turn c.args.across c.args.up) t)) c.numbers.ensures b
