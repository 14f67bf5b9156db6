use Rattle.elements.specs.InkRules.{touch_over, union_over}
use Rattle.elements.proofs.ink.kind.InkKind.join.Goals as goal

pub returns : goal.returns
returns g c =
    let e = c.in_ok-under.ensures in
    (touch_over g.K.Kind.model c.args.self c.args.other c.if-self-other.false e.0, union_over g.K.Kind.model c.args.self c.args.other c.in_ok-under.under c.if-self-other.false e.1)
