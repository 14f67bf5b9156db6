use Rattle.std.proofs.Common.{ap, ◌∙◌, to_z-of_z}
use Rattle.grammar.specs.Numbers.{ordinal}
use Rattle.rulebook.proofs.Numbering.{found}
use Rattle.rulebook.proofs.rulebook.Rulebook.find.Goals as goal

pub returns : goal.returns
returns g c =
    found c.args.self.now (ordinal c.args.r) c.ordinal.result c.record_at.result (c.ordinal.ensures ∙ ap ordinal (to_z-of_z c.ranges.r)) c.record_at.ensures
