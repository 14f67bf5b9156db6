use Rattle.std.proofs.Common.{refl, w32, SFits, rules}
use Rattle.std.proofs.lemmas.Int.{to_z-of_z}
use Rattle.segments.proofs.Sizes.{size_dx}
use Rattle.segments.proofs.segment.Segment.step_x.Goals as goal

pub returns : goal.returns
returns c =
    let f : SFits w32 c.args.self.now.dx = search rules in
    simp to_z-of_z (record { value = refl; size = size_dx c.args.self.now })
