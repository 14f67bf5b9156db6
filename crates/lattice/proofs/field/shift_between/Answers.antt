use Rattle.std.proofs.Common.{◌≡◌, true, sym, ap, ◌∙◌, arith, w32, w64, SFits, rules}
use Rattle.std.proofs.lemmas.Int.{ints, to_z-of_z}
use Rattle.std.proofs.lemmas.Bool.{and_from}
use Rattle.lattice.specs.Field.{ranged}
use Rattle.lattice.proofs.Bounds.{ranged_parts}
use Rattle.lattice.proofs.field.shift_between.Goals as goal

pub returns-then-in_field-2 : goal.returns-then-in_field-2
returns-then-in_field-2 c =
    let ft : SFits w32 c.args.to = search rules in
    let ff : SFits w64 c.args.from = search rules in
    let fr : SFits w64 c.from-to.result = search rules in
    let e : c.from-to.result ≡ c.args.to = simp to_z-of_z at c.from-to.ensures in
    let p : ranged c.args.from ≡ true = sym (simp to_z-of_z at c.in_field.ensures) ∙ c.if-in_field.true in
    let q : ranged c.args.to ≡ true = ap ranged (sym e) ∙ sym (simp to_z-of_z at c.in_field-then-in_field.ensures) ∙ c.if-in_field-2.true in
    let a = ranged_parts c.args.from p in
    let b = ranged_parts c.args.to q in
    (and_from (ranged c.args.from) (ranged c.args.to) p q, omega (arith, ints))
