use Rattle.std.proofs.Common.{to_z-of_z}
use Rattle.drawing.proofs.Picks.{pick_goes}
use Rattle.drawing.proofs.drawing.Drawing.pick.Goals as goal

pub returns : goal.returns
returns g c = record {
  goes = pick_goes g.M.Kind.model g.C.Kind.model g.met.M.Kind.rules g.met.C.Kind.rules c.args.self.now c.apply.new.self _ c.in_ok-p.p _ c.args.rule _ c.args.number (to_z-of_z c.ranges.rule) (to_z-of_z c.ranges.number) c.in_ok-p.ensures c.apply.ensures.goes;
  kept = c.apply.ensures.kept;
}
