use Rattle.std.proofs.Common.{◌≡◌, ◌+◌, sym, ap, ◌∙◌, arith, to_z-of_z}
use Rattle.grammar.specs.Numbers.{nth, ordinal}
use Rattle.grammar.proofs.Numbers.{nth_zero}
use Rattle.search.proofs.Walking.{given_none, skipped}
use Rattle.search.proofs.scene.Scene.place.Goals as goal

pub returns-in_err-before : goal.returns-in_err-before
returns-in_err-before g c = λ ps h.
    let e = c.ordinal.ensures ∙ ap ordinal (to_z-of_z c.ranges.k) in
    let n = c.in_err-before.ensures in
    let z : ordinal c.args.k ≡ 0 = omega (arith, e, n) in
    c.from_residual.ensures ∙ sym (ap (nth ps) z ∙ nth_zero ps)

pub returns : goal.returns
returns g c = λ ps h.
    let e = c.ordinal.ensures ∙ ap ordinal (to_z-of_z c.ranges.k) in
    let b = c.in_ok-before.ensures in
    let d = given_none g.M.Kind.model g.C.Kind.model c.args.self.now ps h c.places.result c.places.ensures.scene c.places.ensures.first in
    let k : c.in_ok-before.before + 1 ≡ ordinal c.args.k = omega (arith, e, b) in
    skipped g.M.Kind.model g.C.Kind.model c.args.self.now ps h c.places.result _ c.in_ok-before.before c.nth.result d c.nth.ensures.ran ∙ ap (nth ps) k
