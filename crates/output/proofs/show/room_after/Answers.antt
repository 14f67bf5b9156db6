use Rattle.std.proofs.Common.{arith}
use Rattle.std.proofs.lemmas.Grind.{common_steps}
use Rattle.std.proofs.lemmas.List.Folds.{length-flat_map-take}
use Rattle.output.proofs.show.room_after.Goals as goal

pub returns-in_err-left : goal.returns-in_err-left
returns-in_err-left g c =
    let fits = length-flat_map-take g.T.Inscribed.line c.args.xs.now c.loop-x.x-index c.x-item.result c.loop-x-test.true in
    grind (arith, common_steps)
