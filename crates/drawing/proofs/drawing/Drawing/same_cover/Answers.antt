use Rattle.drawing.proofs.Truths.{follows_not, follows_then}
use Rattle.drawing.proofs.drawing.Drawing.same_cover.Goals as goal

pub returns-else-same : goal.returns-else-same
returns-else-same g c = rw c.if-same.false (follows_not g.M.Kind.model g.C.Kind.model g.met.M.Kind.rules g.met.C.Kind.rules c.args.self.now c.args.other.now c.same.result c.if-same.false c.same.ensures.list)

pub returns-then-same : goal.returns-then-same
returns-then-same g c = follows_then g.M.Kind.model g.C.Kind.model g.met.M.Kind.rules g.met.C.Kind.rules c.args.self.now c.args.other.now c.same.result c.same-then-same.result c.if-same.true c.same.ensures.list c.same-then-same.ensures.list
