use Rattle.std.proofs.Common.{arith}
use Rattle.std.proofs.lemmas.List.{drop_all}
use Rattle.output.proofs.line.Line.clear.Goals as goal

pub returns : goal.returns
returns c = drop_all 64 c.self.inside.bytes (omega (arith, c.self.told))
