use Rattle.std.proofs.lemmas.Result.{err_from_is_err_and}
use Rattle.std.proofs.lemmas.Int.{to_z-of_z}
use Rattle.parsing.proofs.Making.{cut_refused, cut_made}
use Rattle.parsing.proofs.strokes.cut.Goals as goal

pub returns-in_err-new-2 : goal.returns-in_err-new-2
returns-in_err-new-2 c =
    let fi = c.ranges.ink in
    let f1 = c.ranges.x1 in
    let f2 = c.ranges.y1 in
    let f3 = c.ranges.x2 in
    let f4 = c.ranges.y2 in
    let p = err_from_is_err_and c.from_residual-in_err-new-2.result c.from_residual-in_err-new-2.ensures.1 in
    let made = simp to_z-of_z at c.in_err-new-2.ensures in
    let ink = simp to_z-of_z at c.in_ok-new.ensures in
    rw (p.1, p.2) (cut_refused c.args.ink c.args.x1 c.args.y1 c.args.x2 c.args.y2 _ ink.0 made)

pub returns : goal.returns
returns c =
    let fi = c.ranges.ink in
    let f1 = c.ranges.x1 in
    let f2 = c.ranges.y1 in
    let f3 = c.ranges.x2 in
    let f4 = c.ranges.y2 in
    let made = simp to_z-of_z at c.in_ok-new-2.ensures in
    let inked = simp to_z-of_z at c.new-3.ensures in
    let ink = simp to_z-of_z at c.in_ok-new.ensures in
    cut_made c.args.ink c.args.x1 c.args.y1 c.args.x2 c.args.y2 c.in_ok-new-2.field-0 _ ink.0 made inked
