use Rattle.std.proofs.Common.{◌≡◌, true, false, is_some, rules, tests}
use Rattle.std.proofs.lemmas.Iterator.{cases_from_all, YieldsList-from_slice}
use Rattle.drawing.proofs.Stays.{stays_told}
use Rattle.drawing.proofs.replaced.all_stay.Goals as goal

pub returns : goal.returns
returns g c =
    let m = g.K.Kind.model in
    let p = c.args.p in
    stays_told m p c.args.xs.now c.all.result
    (cases_from_all _ _ _ (λ x. is_some (m.place p x) ≡ true) (λ x. is_some (m.place p x) ≡ false) c.all.ensures.ran (YieldsList-from_slice _ c.iter.ensures.rest) (λ x q k. search (rules, tests)) (λ x q k. search (rules, tests)))
