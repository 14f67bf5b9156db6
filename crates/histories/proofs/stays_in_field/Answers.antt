use Rattle.std.proofs.Common.{[]}
use Rattle.histories.proofs.Ends.{stays_in_field}
use Rattle.histories.proofs.stays_in_field.Goals as goal

pub returns : goal.returns
returns c =
    λ h e. stays_in_field c.args.mark e c.pick-inwards.new.self c.draw-drawn.result c.pick-outwards.result c.pick-inwards.result
    (c.pick-inwards.ensures.goes _ _ (c.pick-outwards.ensures.goes _ _ (c.draw-drawn.ensures.goes _ [] h)))
