use Rattle.std.proofs.Common.{◌∙◌, w32, SFits, rules}
use Rattle.std.proofs.lemmas.Int.{to_z-of_z}
use Rattle.element_trials.proofs.Edge.{worked}
use Rattle.element_trials.proofs.worked.worked_edge.Goals as goal

pub returns : goal.returns
returns c =
    let fi : SFits w32 c.from.result = search rules in
    let fo : SFits w32 c.from-2.result = search rules in
    let e = c.in-Ok.ensures in
    let o = simp to_z-of_z at c.in-Ok-new.ensures in
    let t = simp to_z-of_z at c.in-Ok-new-2.ensures in
    worked c.args.inner c.args.outer c.in-Ok-new-2.twice c.in-Ok-new.once c.in-Ok.edge (t.1 ∙ c.from-2.ensures) t.2 (o.1 ∙ c.from.ensures) o.2 e.2
