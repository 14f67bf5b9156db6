use Rattle.std.proofs.Common.{◌∙◌}
use Rattle.kinds.specs.Model.{covers}
use Rattle.sheets.specs.Contents.{covered}
use Rattle.sheets.specs.Change.{by}
use Rattle.sheet_sums.proofs.Operations.{steps}
use Rattle.sheet_sums.proofs.Carried.{kept_sound, kept_room, each_more}
use Rattle.sheet_sums.proofs.whole.change_each.Goals as goal

pub loop-e-preserved : goal.loop-e-preserved
loop-e-preserved g c =
    let m = g.K.Kind.model in
    let r = g.met.K.Kind.rules in
    let op = g.C.Change.op in
    let law = steps m r op g.met.C.Change.laws in
    let t = c.loop-e.sheet in
    let u = c.change.new.sheet in
    let x = c.e-item.result in
    let set = by op (covered m t) (covers m x) in
    let w = c.change.ensures.cases in
    let inv = c.loop-e.invariant in (
      λ s. kept_sound m r set t u c.change.result w (inv.0 s),
      kept_room m r set t u c.change.result w ∙ inv.1,
      λ s so f. each_more m r op law c.elements-e-items.result.now c.loop-e.e-index x c.args.other.now c.args.sheet.now t u c.change.result c.loop-e-test.true c.e-item.is c.elements-e-items.ensures.value s so (inv.0 s) inv.1 f (inv.2 s so f) w,
      c.change.ensures.lender ∙ inv.3,
    )
