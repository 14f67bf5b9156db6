use Rattle.std.proofs.Common.{to_z-of_z}
use Rattle.search.specs.Steps.{bound}
use Rattle.std.proofs.lemmas.Result.{err_from_is_err_and}
use Rattle.drawing.proofs.Asked.{seeks_named, barred_named, next_done, next_barred}
use Rattle.drawing.proofs.drawing.Drawing.next.Goals as goal

pub returns : goal.returns
returns g c =
    next_done g.M.Kind.model g.C.Kind.model g.met.M.Kind.rules g.met.C.Kind.rules c.args.self.now c.args.rule c.in_ok-scene.scene (seeks_named g.M.Kind.model g.C.Kind.model g.met.M.Kind.rules g.met.C.Kind.rules c.args.self.now _ c.args.rule c.in_ok-scene.scene (to_z-of_z c.ranges.rule) c.in_ok-scene.ensures)
    (bound c.args.after) c.next.result c.next.ensures.least

pub returns-in_err-scene : goal.returns-in_err-scene
returns-in_err-scene g c =
    let p = err_from_is_err_and c.from_residual.result c.from_residual.ensures.1 in
    rw (p.1, p.2) (next_barred g.M.Kind.model g.C.Kind.model g.met.M.Kind.rules g.met.C.Kind.rules c.args.self.now c.args.rule (bound c.args.after) c.in_err-scene.field-0.0 (barred_named g.M.Kind.model g.C.Kind.model g.met.M.Kind.rules g.met.C.Kind.rules c.args.self.now _ c.args.rule c.in_err-scene.field-0.0 (to_z-of_z c.ranges.rule) c.in_err-scene.ensures))
