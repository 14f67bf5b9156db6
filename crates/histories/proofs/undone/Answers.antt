use Rattle.std.proofs.Common.{[]}
use Rattle.histories.proofs.Ends.{draw_done, pick_done, undone}
use Rattle.histories.proofs.undone.Goals as goal

pub returns-in_err-draw : goal.returns-in_err-draw
returns-in_err-draw c = λ h e. absurd (draw_done c.args.cut e c.draw.new.self _ (c.in_err-draw.ensures.goes _ [] h))

pub returns-in_err-pick : goal.returns-in_err-pick
returns-in_err-pick c = λ h e. absurd (pick_done c.args.cut e c.pick.new.self _ (c.in_err-pick.ensures.goes _ _ (c.in_ok-draw.ensures.goes _ [] h)))

pub returns : goal.returns
returns c = λ h e. undone c.args.cut e c.undo.new.self c.undo.result (c.undo.ensures.goes _ _ (c.in_ok-pick.ensures.goes _ _ (c.in_ok-draw.ensures.goes _ [] h)))
