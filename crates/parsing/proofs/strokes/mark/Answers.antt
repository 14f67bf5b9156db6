use Rattle.std.proofs.lemmas.Int.{to_z-of_z}
use Rattle.parsing.proofs.Making.{mark_made}
use Rattle.parsing.proofs.strokes.mark.Goals as goal

-- by the lemma of what the ink makes, so that an ink that is none is refused by this
pub returns : goal.returns
returns c =
    let fi = c.ranges.ink in
    let f1 = c.ranges.x in
    let f2 = c.ranges.y in
    let made = simp to_z-of_z at c.in_ok-new.ensures in
    let inked = simp to_z-of_z at c.new-2.ensures in
    mark_made c.args.ink c.args.x c.args.y c.in_ok-new.field-0 _ made inked
