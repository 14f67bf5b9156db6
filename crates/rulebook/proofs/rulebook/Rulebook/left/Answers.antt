use Rattle.std.proofs.Common.{get_or, refl, rules}
use Rattle.rulebook.proofs.Ruling.{left_half, latest_grows, blank}
use Rattle.rulebook.proofs.rulebook.Rulebook.left.Goals as goal

pub returns : goal.returns
returns g c =
    let b = c.args.self.now in
    let at = c.in_ok-at.ensures in
    latest_grows g.M.Kind.model g.C.Kind.model (left_half g.M.Kind.model g.C.Kind.model) c.args.stroke c.grow.result b _ c.in_ok-at.at (get_or b.records c.in_ok-at.at blank) _ blank at.0 at.1 refl (search rules) refl refl refl refl c.grow.ensures
