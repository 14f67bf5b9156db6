use Rattle.std.proofs.Common.{to_z-of_z}
use Rattle.std.proofs.lemmas.Result.{err_from_is_err_and}
use Rattle.drawing.proofs.Asked.{seeks_named, barred_named, count_done, count_barred}
use Rattle.drawing.proofs.drawing.Drawing.count.Goals as goal

pub returns : goal.returns
returns g c =
    count_done g.M.Kind.model g.C.Kind.model g.met.M.Kind.rules g.met.C.Kind.rules c.args.self.now c.args.rule c.in_ok-scene.scene (seeks_named g.M.Kind.model g.C.Kind.model g.met.M.Kind.rules g.met.C.Kind.rules c.args.self.now _ c.args.rule c.in_ok-scene.scene (to_z-of_z c.ranges.rule) c.in_ok-scene.ensures)
    c.count.result c.count.ensures

pub returns-in_err-scene : goal.returns-in_err-scene
returns-in_err-scene g c =
    let p = err_from_is_err_and c.from_residual.result c.from_residual.ensures.1 in
    rw (p.1, p.2) (count_barred g.M.Kind.model g.C.Kind.model g.met.M.Kind.rules g.met.C.Kind.rules c.args.self.now c.args.rule c.in_err-scene.field-0.0 (barred_named g.M.Kind.model g.C.Kind.model g.met.M.Kind.rules g.met.C.Kind.rules c.args.self.now _ c.args.rule c.in_err-scene.field-0.0 (to_z-of_z c.ranges.rule) c.in_err-scene.ensures))
