use Rattle.std.proofs.Common.{to_z-of_z}
use Rattle.std.proofs.lemmas.Result.{err_from_is_err_and}
use Rattle.drawing.proofs.Asked.{seeks_named, barred_named, place_told, pick_barred}
use Rattle.drawing.proofs.drawing.Drawing.place.Goals as goal

pub returns : goal.returns
returns g c =
    let M = g.M.Kind.model in
    let C = g.C.Kind.model in
    let RM = g.met.M.Kind.rules in
    let RC = g.met.C.Kind.rules in
    place_told M C RM RC c.args.self.now c.args.rule c.in_ok-scene.scene (seeks_named M C RM RC c.args.self.now _ c.args.rule c.in_ok-scene.scene (to_z-of_z c.ranges.rule) c.in_ok-scene.ensures)
    c.args.number _ (to_z-of_z c.ranges.number) c.place.result c.ok_or.result c.place.ensures c.ok_or.ensures.value

pub returns-in_err-scene : goal.returns-in_err-scene
returns-in_err-scene g c =
    let p = err_from_is_err_and c.from_residual.result c.from_residual.ensures.1 in
    rw (p.1, p.2) (pick_barred g.M.Kind.model g.C.Kind.model g.met.M.Kind.rules g.met.C.Kind.rules c.args.self.now c.args.rule c.args.number c.in_err-scene.field-0.0 (barred_named g.M.Kind.model g.C.Kind.model g.met.M.Kind.rules g.met.C.Kind.rules c.args.self.now _ c.args.rule c.in_err-scene.field-0.0 (to_z-of_z c.ranges.rule) c.in_err-scene.ensures))
