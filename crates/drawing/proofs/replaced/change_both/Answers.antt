use Rattle.std.proofs.lemmas.Result.{err_from_is_err_and}
use Rattle.drawing.specs.Changes.{changed}
use Rattle.drawing.proofs.Strokes.{both, neither}
use Rattle.drawing.proofs.replaced.change_both.Goals as goal

pub returns-in_err-change : goal.returns-in_err-change
returns-in_err-change g c =
    let m = g.K.Kind.model in
    let p = err_from_is_err_and c.from_residual.result c.from_residual.ensures.1 in
    rw (p.1, p.2) (neither m g.met.K.Kind.rules (changed m g.W.Change.op c.args.e) _ c.args.sheet.now c.args.start.now c.change.new.sheet c.in_err-change.ensures.cases)

pub returns : goal.returns
returns g c =
    let m = g.K.Kind.model in
    both m g.met.K.Kind.rules (changed m g.W.Change.op c.args.e) c.change-2.result c.args.sheet.now c.args.start.now c.change.new.sheet c.change-2.new.sheet c.in_ok-change.ensures.cases c.change-2.ensures.cases
