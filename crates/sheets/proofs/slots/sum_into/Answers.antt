use Rattle.std.proofs.Common.{rules}
use Rattle.std.proofs.lemmas.Result.{err_from_is_err_and}
use Rattle.sheets.proofs.Slotted.{slots_stayed}
use Rattle.sheets.proofs.slots.sum_into.Goals as goal

pub returns-in_err-add : goal.returns-in_err-add
returns-in_err-add g c =
    let p = err_from_is_err_and c.from_residual.result c.from_residual.ensures.1 in
    rw (p.1, p.2) (slots_stayed g.K.Kind.model _ _ _ c.add.new.self _ (search rules) c.in_err-add.ensures.cases)
