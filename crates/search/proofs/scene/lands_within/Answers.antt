use Rattle.std.proofs.Common.{Some, None, false, refl}
use Rattle.search.proofs.Onto.{one_told}
use Rattle.search.proofs.scene.lands_within.Goals as goal

pub returns-in-Some : goal.returns-in-Some
returns-in-Some g c = one_told g.K.Kind.model g.met.K.Kind.rules c.args.drawn.now c.args.p c.args.e.now (Some c.in-Some.f) c.lies_within.result c.in-Some.ensures c.lies_within.ensures

pub returns-in-None : goal.returns-in-None
returns-in-None g c = one_told g.K.Kind.model g.met.K.Kind.rules c.args.drawn.now c.args.p c.args.e.now None false c.in-None.ensures refl
