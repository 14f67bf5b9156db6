use Rattle.std.proofs.lemmas.Result.{err_from_is_err_and}
use Rattle.rulebook.proofs.Tabled.{sum_stayed}
use Rattle.std.proofs.Common.{refl}
use Rattle.rulebook.proofs.table.Table.sum.Goals as goal

pub returns-in_err-n-clause-cases : goal.returns-in_err-n-clause-cases
returns-in_err-n-clause-cases g c =
    let p = err_from_is_err_and c.from_residual.result c.from_residual.ensures.1 in
    rw (p.1, p.2) (sum_stayed g.K.Kind.model _ _ _ _ c.min-from.result c.saturating_sub-count.result c.sum_into.new.slots c.min-from.ensures c.saturating_sub-count.ensures c.in_err-n.ensures refl)
