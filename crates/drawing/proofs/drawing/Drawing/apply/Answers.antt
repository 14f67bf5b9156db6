use Rattle.std.proofs.Common.{to_z-of_z}
use Rattle.drawing.proofs.Asked.{found_by}
use Rattle.drawing.proofs.Picks.{pick_named}
use Rattle.drawing.proofs.drawing.Drawing.apply.Goals as goal

pub returns-clause-goes : goal.returns-clause-goes
returns-clause-goes g c =
    let M = g.M.Kind.model in
    let C = g.C.Kind.model in
    let RM = g.met.M.Kind.rules in
    let RC = g.met.C.Kind.rules in
    let f = found_by M C RM RC c.args.self.now _ c.find.result c.in_ok-found.found c.in_ok-found.ensures.value c.find.ensures in
    pick_named M C RM RC c.args.self.now c.apply_found.new.self _ c.in_ok-found.found c.args.p _ c.args.rule (to_z-of_z c.ranges.rule) c.apply_found.ensures.goes f
