use Rattle.std.proofs.Common.{arith}
use Rattle.sheets.specs.Contents.{covered}
use Rattle.sheets.specs.Change.{by}
use Rattle.drawing.proofs.Turns.{changed_more, turned_all}
use Rattle.drawing.proofs.replaced.change_all_placed.Goals as goal

pub loop-x-preserved : goal.loop-x-preserved
loop-x-preserved g c =
    changed_more g.K.Kind.model g.W.Change.op g.met.W.Change.laws c.args.p c.args.xs.now c.loop-x.x-index c.x-item.result c.loop-x-test.true c.x-item.is c.args.sheet.now c.loop-x.sheet c.change_placed.new.sheet c.loop-x.invariant c.change_placed.ensures

pub returns : goal.returns
returns g c =
    turned_all g.K.Kind.model (by g.W.Change.op (covered g.K.Kind.model c.args.sheet.now)) c.args.p c.args.xs.now c.loop-x.x-index c.args.sheet.now c.loop-x.sheet (omega arith) c.loop-x.invariant
