use Rattle.std.proofs.Common.{◌<◌, length, refl, subst, arith}
use Rattle.rulebook.specs.declared.stroke.Stroke.{Stroke as Element}
use Rattle.drawing.specs.Changes.{changed}
use Rattle.drawing.specs.Strikes.{Strikes}
use Rattle.drawing.specs.View.{taken}
use Rattle.drawing.proofs.Strokes.{stroke_early, mark_goes, mark_kept, cut_goes, cut_kept}
use Rattle.drawing.proofs.drawing.Drawing.strike.Goals as goal

pub returns-then-recorded-gt0 : goal.returns-then-recorded-gt0
returns-then-recorded-gt0 g c = record {
  goes = λ st on. stroke_early g.M.Kind.model g.C.Kind.model g.met.M.Kind.rules g.met.C.Kind.rules c.args.self.now st (omega (arith, c.recorded.ensures.value, c.if-recorded-gt0.true));
  kept = refl;
}

pub returns-in-Mark : goal.returns-in-Mark
returns-in-Mark g c =
    let M = g.M.Kind.model in
    let C = g.C.Kind.model in
    let d = c.args.self.now in
    let n : 0 < length (taken d) → ⊥ = λ h. omega (arith, c.recorded.ensures.value, c.if-recorded-gt0.false) in
    let F = changed M g.W.Change.op c.in-Mark.e in
    record {
      goes = λ st on. mark_goes M C g.met.M.Kind.rules g.met.C.Kind.rules d st n F (subst (λ (x : Element g.row.M.Denot g.row.C.Denot). Strikes M C g.W.Change.op x st) c.in-Mark.is on) c.change_both.result c.change_both.new.sheet c.change_both.new.start c.change_both.ensures;
      kept = mark_kept M C g.met.M.Kind.rules g.met.C.Kind.rules d F c.change_both.result c.change_both.new.sheet c.change_both.new.start c.change_both.ensures;
    }

pub returns-in-Cut : goal.returns-in-Cut
returns-in-Cut g c =
    let M = g.M.Kind.model in
    let C = g.C.Kind.model in
    let d = c.args.self.now in
    let n : 0 < length (taken d) → ⊥ = λ h. omega (arith, c.recorded.ensures.value, c.if-recorded-gt0.false) in
    let F = changed C g.W.Change.op c.in-Cut.e in
    record {
      goes = λ st on. cut_goes M C g.met.M.Kind.rules g.met.C.Kind.rules d st n F (subst (λ (x : Element g.row.M.Denot g.row.C.Denot). Strikes M C g.W.Change.op x st) c.in-Cut.is on) c.change_both-in-Cut.result c.change_both-in-Cut.new.sheet c.change_both-in-Cut.new.start c.change_both-in-Cut.ensures;
      kept = cut_kept M C g.met.M.Kind.rules g.met.C.Kind.rules d F c.change_both-in-Cut.result c.change_both-in-Cut.new.sheet c.change_both-in-Cut.new.start c.change_both-in-Cut.ensures;
    }
