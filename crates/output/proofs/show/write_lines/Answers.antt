use Rattle.std.proofs.Common.{arith}
use Rattle.std.proofs.lemmas.Grind.{common_steps}
use Rattle.std.proofs.lemmas.List.Folds.{length-flat_map-take}
use Rattle.output.proofs.Writing.{wrote_then}
use Rattle.output.proofs.show.write_lines.Goals as goal

pub write-at-requires : goal.write-at-requires
write-at-requires g c =
    let fits = length-flat_map-take g.T.Inscribed.line c.args.xs.now c.loop-x.x-index c.x-item.result c.loop-x-test.true in
    grind arith

pub loop-x-preserved : goal.loop-x-preserved
loop-x-preserved g c =
    let fits = length-flat_map-take g.T.Inscribed.line c.args.xs.now c.loop-x.x-index c.x-item.result c.loop-x-test.true in
    grind (arith, common_steps, wrote_then)
