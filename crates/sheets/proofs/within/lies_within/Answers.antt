use Rattle.std.proofs.Common.{rules}
use Rattle.sheets.proofs.Contained.{at_place}
use Rattle.sheets.proofs.within.lies_within.Goals as goal

pub returns : goal.returns
returns g c = λ h. at_place g.K.Kind.model g.met.K.Kind.rules c.args.xs.now c.args.e.now c.place_of.result h (c.place_of.ensures.parted h) c.get.result c.is_some_and.result c.get.ensures.lookup (search rules)
