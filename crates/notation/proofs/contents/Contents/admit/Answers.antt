use Rattle.std.proofs.Common.{rules}
use Rattle.notation.proofs.contents.Contents.admit.Goals as goal

-- clause by clause, so that a wrong step is refused by the clause that it breaks
pub returns-in-Rules-Steps : goal.returns-in-Rules-Steps
returns-in-Rules-Steps c = record { may = search rules; entries = λ _. search rules; proper = search rules }
