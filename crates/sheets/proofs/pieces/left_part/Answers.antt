use Rattle.std.proofs.Common.{◌∙◌, w32, SFits, rules}
use Rattle.std.specs.Int.{int_min}
use Rattle.std.proofs.lemmas.Int.{to_z-of_z}
use Rattle.sheets.proofs.Sides.{left_is, part_at}
use Rattle.sheets.proofs.pieces.left_part.Goals as goal

pub returns : goal.returns
returns g c =
    let m = g.K.Kind.model in
    let r = g.met.K.Kind.rules in
    let s : SFits w32 c.start.result = search rules in
    let n : SFits w32 c.end.result = search rules in
    let o : SFits w32 c.start-2.result = search rules in
    let t : SFits w32 c.min.result = search rules in
    let from = to_z-of_z w32 _ s ∙ c.start.ensures in
    let to = to_z-of_z w32 _ t ∙ c.min.ensures.value ∙ (λ i. int_min ((to_z-of_z w32 _ n ∙ c.end.ensures) i) ((to_z-of_z w32 _ o ∙ c.start-2.ensures) i)) in
    left_is m r c.args.e.now c.args.x c.part.result (part_at m r c.args.x c.part.result _ _ _ _ from to c.part.ensures)
