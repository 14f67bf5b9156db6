use Rattle.grammar.proofs.Answering.{every_call_has_one_answer}
use Rattle.grammar.proofs.every_call_has_one_answer.Goals as goal

pub returns : goal.returns
returns g c = every_call_has_one_answer g.M.Kind.model g.C.Kind.model g.met.M.Kind.rules g.met.C.Kind.rules
