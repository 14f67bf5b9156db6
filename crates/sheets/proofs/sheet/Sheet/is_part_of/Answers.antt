use Rattle.std.proofs.Common.{rules, tests}
use Rattle.std.proofs.lemmas.Iterator.{cases_from_all, YieldsList-from_slice}
use Rattle.sheets.specs.Contents.{covered}
use Rattle.sheets.proofs.Inclusion.{Inside, part_decides_all}
use Rattle.sheets.proofs.sheet.Sheet.is_part_of.Goals as goal

pub returns : goal.returns
returns g c =
    let m = g.K.Kind.model in
    let r = g.met.K.Kind.rules in
    let set = covered m c.args.other.now in
    λ s. part_decides_all m r set c.elements.result.now _ c.all.result c.elements.ensures.value
    (cases_from_all _ _ _ (Inside m r set) (λ x. Inside m r set x → ⊥) c.all.ensures.ran (YieldsList-from_slice _ c.iter.ensures.rest) (λ x q k. search (rules, tests)) (λ x q k. search (rules, tests)))
