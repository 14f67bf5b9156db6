use Rattle.std.proofs.Common.{◌≡◌, ℕ, ◌+◌, ◌<◌, List, [], ◌∷◌, ◌++◌, length, get_or, take, take_all, sym, ap, ◌∙◌, subst, arith, drop, ◌-◌}
use Rattle.std.proofs.lemmas.List.{take_more, length-take, length-drop}
use Rattle.kinds.specs.Model.{KindModel}
use Rattle.kinds.specs.Rules.{Rules, Touch, Union}
use Rattle.sheets.specs.Finding.{Whole}
use Rattle.sheets.proofs.Joined.{whole_more}
use Rattle.sheets.proofs.Spliced.{first_of}
use Rattle.sheets.proofs.finding.gather.Goals as goal

step : {E A C : Type 0} (m : KindModel E A C) (r : Rules m) (xs : List E) (i : ℕ) (e w x j : E) → i < length xs → x ≡ get_or xs i x → Whole m e (take i xs) w → Touch m w x × Union m w x j → Whole m e (take (i + 1) xs) j
step m r xs i e w x j l is k t =
    let more : take (i + 1) xs ≡ take i xs ++ x ∷ [] = take_more xs i x l ∙ ap (λ y. take i xs ++ y ∷ []) (sym is) in
    subst (λ ys. Whole m e ys j) (sym more) (whole_more m r e (take i xs) w x j k t.0 t.1)

pub returns-in-None-clause-whole : goal.returns-in-None-clause-whole
returns-in-None-clause-whole g c =
    subst (λ ys. Whole g.K.Kind.model c.args.e ys c.loop-more.whole) (first_of c.args.xs.now c.args.from c.loop-more.more (let l = c.loop-more-test.true in omega (arith, length-take (length c.args.xs.now - c.args.from) (drop c.args.from c.args.xs.now), length-drop c.args.from c.args.xs.now))) c.loop-more.invariant

pub loop-more-preserved : goal.loop-more-preserved
loop-more-preserved g c = step g.K.Kind.model g.met.K.Kind.rules _ _ _ c.loop-more.whole c.x-item.result _ c.loop-more-test.true c.x-item.is c.loop-more.invariant c.in-Some.ensures

pub returns-clause-whole : goal.returns-clause-whole
returns-clause-whole g c = subst (λ ys. Whole g.K.Kind.model c.args.e ys c.loop-more.whole) (take_all _ _ c.loop-more-test.false) c.loop-more.invariant
