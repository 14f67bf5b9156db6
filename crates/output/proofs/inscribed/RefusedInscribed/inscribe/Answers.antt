use Rattle.std.proofs.Common.{rules, arith, length, ap, SFits, w64}
use Rattle.std.proofs.lemmas.Int.{to_z-of_z}
use Rattle.output.proofs.Spacing.{wide_length, longer}
use Rattle.output.proofs.inscribed.RefusedInscribed.inscribe.Goals as goal

pub field-requires : goal.field-requires
field-requires c =
    let fits : SFits w64 c.from.result = search rules in
    simp to_z-of_z (omega (arith, wide_length c.from.result fits, ap length c.end.ensures))

pub put-requires : goal.put-requires
put-requires c =
    let fits : SFits w64 c.from.result = search rules in
    let l = longer c.from.result _ _ fits (simp to_z-of_z at c.field.ensures) in
    omega (arith, l, ap length c.end.ensures)

pub field-requires-2 : goal.field-requires-2
field-requires-2 c =
    let fits : SFits w64 c.from.result = search rules in
    let l = longer c.from.result _ _ fits (simp to_z-of_z at c.field.ensures) in
    let fits-2 : SFits w64 c.from-2.result = search rules in
    simp to_z-of_z (omega (arith, l, ap length c.end.ensures, ap length c.put.ensures, wide_length c.from-2.result fits-2))

pub put-requires-2 : goal.put-requires-2
put-requires-2 c =
    let fits : SFits w64 c.from.result = search rules in
    let l = longer c.from.result _ _ fits (simp to_z-of_z at c.field.ensures) in
    let fits-2 : SFits w64 c.from-2.result = search rules in
    let l-2 = longer c.from-2.result _ _ fits-2 (simp to_z-of_z at c.field-2.ensures) in
    omega (arith, l, l-2, ap length c.end.ensures, ap length c.put.ensures)
