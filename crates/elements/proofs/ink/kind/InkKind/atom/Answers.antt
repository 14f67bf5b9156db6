use Rattle.std.proofs.Common.{w32, SFits, rules}
use Rattle.std.proofs.lemmas.Int.{to_z-of_z}
use Rattle.elements.specs.InkRules.{above}
use Rattle.elements.proofs.ink.kind.InkKind.atom.Goals as goal

pub returns : goal.returns
returns g c =
    let f : SFits w32 c.args.at = search rules in
    let e = simp to_z-of_z at c.in_ok-under.ensures in
    (above g.K.Kind.model c.args.self.now.ink c.args.self.now.under c.in_ok-under.under e.0, e.1)
