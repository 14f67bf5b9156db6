use Rattle.std.proofs.lemmas.Result.{err_from_is_err_and}
use Rattle.parsing.proofs.Stroking.{mark_fault, cut_fault}
use Rattle.parsing.proofs.strokes.read_stroke.Goals as goal

pub returns-in_err-read_mark : goal.returns-in_err-read_mark
returns-in_err-read_mark c =
    let p = err_from_is_err_and c.from_residual.result c.from_residual.ensures.1 in
    rw (p.1, p.2) (mark_fault _ _ _ c.in-Some.ensures c.in_err-read_mark.ensures)

pub returns-in_err-read_cut : goal.returns-in_err-read_cut
returns-in_err-read_cut c =
    let p = err_from_is_err_and c.from_residual-in_err-read_cut.result c.from_residual-in_err-read_cut.ensures.1 in
    rw (p.1, p.2) (cut_fault _ _ _ c.in-Some-after_cut.ensures c.in_err-read_cut.ensures)
