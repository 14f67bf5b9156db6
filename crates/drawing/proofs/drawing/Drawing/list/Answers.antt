use Rattle.std.proofs.Common.{refl, to_z-of_z}
use Rattle.std.proofs.lemmas.Result.{err_from_is_err_and}
use Rattle.drawing.proofs.Asked.{seeks_named, barred_named, list_goes, list_barred}
use Rattle.drawing.proofs.drawing.Drawing.list.Goals as goal

pub returns : goal.returns
returns g c = record {
  goes = list_goes g.M.Kind.model g.C.Kind.model g.met.M.Kind.rules g.met.C.Kind.rules c.args.self.now c.args.rule c.in_ok-scene.scene (seeks_named g.M.Kind.model g.C.Kind.model g.met.M.Kind.rules g.met.C.Kind.rules c.args.self.now _ c.args.rule c.in_ok-scene.scene (to_z-of_z c.ranges.rule) c.in_ok-scene.ensures)
      c.list.result c.args.out.now c.list.new.out c.list.ensures.answer;
  kept = c.list.ensures.kept;
}

pub returns-in_err-scene : goal.returns-in_err-scene
returns-in_err-scene g c =
    let p = err_from_is_err_and c.from_residual.result c.from_residual.ensures.1 in
    rw (p.1, p.2) (record { goes = list_barred g.M.Kind.model g.C.Kind.model g.met.M.Kind.rules g.met.C.Kind.rules c.args.self.now c.args.rule c.args.out.now c.in_err-scene.field-0.0 (barred_named g.M.Kind.model g.C.Kind.model g.met.M.Kind.rules g.met.C.Kind.rules c.args.self.now _ c.args.rule c.in_err-scene.field-0.0 (to_z-of_z c.ranges.rule) c.in_err-scene.ensures); kept = refl })
