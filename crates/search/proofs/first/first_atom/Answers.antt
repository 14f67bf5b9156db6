-- The first atom of the first element, or there is no element.
use Rattle.std.proofs.Common.{arith}
use Rattle.std.proofs.lemmas.Int.{ints}
use Rattle.search.proofs.Searched.{first_found}
use Rattle.search.proofs.first.first_atom.Goals as goal

pub returns : goal.returns
returns g c =
    let i = c.in_ok-e.ensures in
    first_found g.K.Kind.model g.met.K.Kind.rules c.args.xs.now c.in_ok-e.e.now c.atom.result _ i.item.3.0 i.item.1 (omega (arith, ints, c.start.ensures)) c.atom.ensures
