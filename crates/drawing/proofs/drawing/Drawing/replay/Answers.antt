use Rattle.std.proofs.Common.{refl, arith}
use Rattle.drawing.proofs.Undoes.{replayed_none, replayed_more}
use Rattle.drawing.proofs.drawing.Drawing.replay.Goals as goal

pub loop-i-init : goal.loop-i-init
loop-i-init g c = replayed_none g.M.Kind.model g.C.Kind.model g.met.M.Kind.rules g.met.C.Kind.rules c.args.self.now

pub loop-i-preserved : goal.loop-i-preserved
loop-i-preserved g c = replayed_more g.M.Kind.model g.C.Kind.model g.met.M.Kind.rules g.met.C.Kind.rules c.args.self.now c.loop-i.self c.again.new.self c.loop-i.i _ _ (omega (arith, c.requires)) refl c.loop-i.invariant c.again.ensures
