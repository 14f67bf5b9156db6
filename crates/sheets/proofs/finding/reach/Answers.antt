use Rattle.std.proofs.Common.{MatchOption, ◌<◌, length, subst, rules, tests}
use Rattle.std.specs.List.{AllByRecursion, AllWithin, HoldsAt, between}
use Rattle.std.proofs.lemmas.List.Elements.{All-from_all_within, recursion_from_All}
use Rattle.std.proofs.lemmas.Iterator.{IsFirst-from_position, YieldsList-from_slice}
use Rattle.std.proofs.option.Match.{if_some}
use Rattle.kinds.specs.Rules.{Touch}
use Rattle.sheets.proofs.Order.{all_first}
use Rattle.sheets.proofs.Spliced.{first_of}
use Rattle.sheets.proofs.finding.reach.Goals as goal

pub returns-in-Some-clause-all : goal.returns-in-Some-clause-all
returns-in-Some-clause-all g c =
    let Touched = Touch g.K.Kind.model c.args.e.now in
    let first = if_some _ _ _ c.in-Some.is (IsFirst-from_position _ _ _ (λ x. Touched x → ⊥) Touched c.position.ensures.ran (YieldsList-from_slice _ c.iter.ensures.rest) (λ x q k. search (rules, tests)) (λ x q k. search (rules, tests))) in
    subst (AllByRecursion Touched) (first_of c.args.xs.now c.args.from c.in-Some.more (search rules)) (all_first Touched _ c.in-Some.more first.2)

pub returns-in-None-clause-all : goal.returns-in-None-clause-all
returns-in-None-clause-all g c =
    let Touched = Touch g.K.Kind.model c.args.e.now in
    let all = between c.args.from (length c.args.xs.now) c.args.xs.now in
    let none : AllWithin Touched all 0 (length all) = subst (λ o. MatchOption o (AllWithin Touched all 0 (length all)) (λ i. (i < length all) × HoldsAt (λ x. Touched x → ⊥) all i × AllWithin Touched all 0 i)) c.in-None.is (IsFirst-from_position _ _ _ (λ x. Touched x → ⊥) Touched c.position.ensures.ran (YieldsList-from_slice _ c.iter.ensures.rest) (λ x q k. search (rules, tests)) (λ x q k. search (rules, tests))) in
    recursion_from_All Touched _ (All-from_all_within Touched _ none)
