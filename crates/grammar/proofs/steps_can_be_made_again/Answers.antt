use Rattle.grammar.proofs.Rooms.{room_again}
use Rattle.grammar.proofs.steps_can_be_made_again.Goals as goal

pub returns : goal.returns
returns g c = room_again g.M.Kind.model g.C.Kind.model g.met.M.Kind.rules g.met.C.Kind.rules
