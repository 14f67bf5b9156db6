-- Each place stands higher than the one before, and no place stands above them all.
use Rattle.std.proofs.Common.{refl, subst, arith}
use Rattle.lattice.specs.Order.{Triple, triple, Before}
use Rattle.search.specs.Walks.{reached}
use Rattle.search.proofs.Ranks.{rank_high, stepped}
use Rattle.search.proofs.Walking.{boxed_reached}
use Rattle.search.proofs.places.PlacesIterator.next.Goals as goal

pub returns-clause-goes : goal.returns-clause-goes
returns-clause-goes g c =
    let t = reached c.args.self.now.last in
    let p = c.in_ok-p.p in
    let b = boxed_reached c.args.self.now.last in
    let w = subst (λ (z : Triple). Before z (triple p)) c.reached.ensures c.in_ok-p.ensures.later in
    let s = stepped t (triple p) p b w refl in
    let a = s.1 in
    let h = rank_high t b in
    record { on = λ f. (tt, tt, omega arith); keeps = tt; rests = λ f. tt }
