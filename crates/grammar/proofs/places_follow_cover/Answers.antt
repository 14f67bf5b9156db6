use Rattle.grammar.proofs.Settling.{meaning}
use Rattle.grammar.proofs.places_follow_cover.Goals as goal

pub returns : goal.returns
returns g c = meaning g.M.Kind.model g.C.Kind.model g.met.M.Kind.rules g.met.C.Kind.rules
