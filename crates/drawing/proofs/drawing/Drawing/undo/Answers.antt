use Rattle.std.proofs.Common.{refl, arith}
use Rattle.drawing.proofs.Undoes.{undo_none, undo_done, copied_items, copied_room}
use Rattle.drawing.proofs.drawing.Drawing.undo.Goals as goal

pub returns-then-n-eq0 : goal.returns-then-n-eq0
returns-then-n-eq0 g c = record {
  goes = undo_none g.M.Kind.model g.C.Kind.model g.met.M.Kind.rules g.met.C.Kind.rules c.args.self.now (omega (arith, c.recorded-n.ensures.value));
  kept = refl;
}

pub returns : goal.returns
returns g c =
    let d = c.args.self.now in
    record {
      goes = undo_done g.M.Kind.model g.C.Kind.model g.met.M.Kind.rules g.met.C.Kind.rules d _ c.replay.new.self c.recorded-n.result c.recorded-n.ensures.value (λ h. omega arith)
          refl refl refl refl refl
          (copied_room g.M.Kind.model c.copy_from.result d.start_marks d.marks c.copy_from.new.self c.copy_from.ensures.cases) (copied_room g.C.Kind.model c.copy_from-2.result d.start_cuts d.cuts c.copy_from-2.new.self c.copy_from-2.ensures.cases)
          (copied_items g.M.Kind.model c.copy_from.result d.start_marks d.marks c.copy_from.new.self c.copy_from.ensures.cases) (copied_items g.C.Kind.model c.copy_from-2.result d.start_cuts d.cuts c.copy_from-2.new.self c.copy_from-2.ensures.cases)
          c.replay.ensures;
      kept = tt;
    }
