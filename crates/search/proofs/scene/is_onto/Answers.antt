use Rattle.std.proofs.Common.{rules, tests}
use Rattle.std.proofs.lemmas.Iterator.{cases_from_all, YieldsList-from_slice}
use Rattle.search.proofs.Onto.{On, onto_told}
use Rattle.search.proofs.scene.is_onto.Goals as goal

pub returns : goal.returns
returns g c =
    let m = g.K.Kind.model in
    let r = g.met.K.Kind.rules in
    let d = c.args.drawn.now in
    let p = c.args.p in
    λ s. onto_told m r d p c.args.left.now c.all.result
    (cases_from_all _ _ _ (On m r d p) (λ x. On m r d p x → ⊥) c.all.ensures.ran (YieldsList-from_slice _ c.iter.ensures.rest) (λ x q k. search (rules, tests)) (λ x q k. search (rules, tests)))
