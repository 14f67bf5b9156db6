use Rattle.grammar.proofs.Settling.{determined}
use Rattle.grammar.proofs.determined.Goals as goal

pub returns : goal.returns
returns g c = determined g.M.Kind.model g.C.Kind.model g.met.M.Kind.rules g.met.C.Kind.rules
