use Rattle.std.proofs.Common.{◌∙◌, w32, SFits, rules}
use Rattle.std.specs.Int.{int_max}
use Rattle.std.proofs.lemmas.Int.{to_z-of_z}
use Rattle.sheets.proofs.Sides.{right_is, part_at}
use Rattle.sheets.proofs.pieces.right_part.Goals as goal

pub returns : goal.returns
returns g c =
    let m = g.K.Kind.model in
    let r = g.met.K.Kind.rules in
    let s : SFits w32 c.start.result = search rules in
    let n : SFits w32 c.end.result = search rules in
    let f : SFits w32 c.max.result = search rules in
    let t : SFits w32 c.end-2.result = search rules in
    let from = to_z-of_z w32 _ f ∙ c.max.ensures.value ∙ (λ i. int_max ((to_z-of_z w32 _ s ∙ c.start.ensures) i) ((to_z-of_z w32 _ n ∙ c.end.ensures) i)) in
    let to = to_z-of_z w32 _ t ∙ c.end-2.ensures in
    right_is m r c.args.e.now c.args.x c.part.result (part_at m r c.args.x c.part.result _ _ _ _ from to c.part.ensures)
