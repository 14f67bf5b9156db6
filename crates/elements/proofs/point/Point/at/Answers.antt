use Rattle.std.proofs.Common.{sym, ◌∙◌, arith, w64, SFits, rules}
use Rattle.std.proofs.lemmas.Int.{ints, to_z-of_z}
use Rattle.std.proofs.lemmas.Bool.{and_left, and_right}
use Rattle.lattice.specs.Field.{ranged}
use Rattle.lattice.proofs.Bounds.{ranged_parts}
use Rattle.elements.specs.PointRules.{point_is, point_none}
use Rattle.elements.proofs.point.Point.at.Goals.{else-in_field-via-then-in_field+else-in_field-2, else-in_field-via-else-in_field}
use Rattle.elements.proofs.point.Point.at.Goals as goal

pub returns-then-in_field-2 : goal.returns-then-in_field-2
returns-then-in_field-2 c =
    let fx : SFits w64 c.args.x = search rules in
    let fy : SFits w64 c.args.y = search rules in
    let ex = simp to_z-of_z at c.in_field.ensures in
    let ey = simp to_z-of_z at c.in_field-then-in_field.ensures in
    let bx = ranged_parts c.args.x (sym ex ∙ c.if-in_field.true) in
    let by = ranged_parts c.args.y (sym ey ∙ c.if-in_field-2.true) in
    point_is _ c.args.x c.args.y (omega (arith, ints)) (omega (arith, ints))

pub returns-else-in_field : goal.returns-else-in_field
returns-else-in_field c =
    let fx : SFits w64 c.args.x = search rules in
    let fy : SFits w64 c.args.y = search rules in
    elim c.else-in_field.branch [
      | else-in_field-via-then-in_field+else-in_field-2 w ↦ sym (point_none c.args.x c.args.y (and_right (ranged c.args.x) (ranged c.args.y) (sym (simp to_z-of_z at w.in_field-then-in_field.ensures) ∙ w.if-in_field-2.false)))
      | else-in_field-via-else-in_field w ↦ sym (point_none c.args.x c.args.y (and_left (ranged c.args.x) (ranged c.args.y) (sym (simp to_z-of_z at c.in_field.ensures) ∙ w.if-in_field.false)))
    ]
