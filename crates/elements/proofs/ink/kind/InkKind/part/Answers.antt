use Rattle.std.proofs.Common.{w32, SFits, rules}
use Rattle.std.proofs.lemmas.Int.{to_z-of_z}
use Rattle.elements.specs.InkRules.{ink_slice}
use Rattle.elements.proofs.ink.kind.InkKind.part.Goals as goal

pub returns : goal.returns
returns g c =
    let ff : SFits w32 c.args.from = search rules in
    let ft : SFits w32 c.args.to = search rules in
    let e = simp to_z-of_z at c.in_ok-under.ensures in
    (record { low = e.0.low; some = e.0.some; high = e.0.high }, ink_slice g.K.Kind.model c.args.self.ink c.args.self.under c.in_ok-under.under c.args.from c.args.to e.1)
