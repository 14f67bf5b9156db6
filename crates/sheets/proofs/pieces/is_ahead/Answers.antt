use Rattle.std.proofs.Common.{rules}
use Rattle.sheets.specs.Cover.{ahead}
use Rattle.sheets.proofs.pieces.is_ahead.Goals as goal

pub returns-in-Less : goal.returns-in-Less
unfolding ahead
returns-in-Less g c = search rules

pub returns-in-Equal : goal.returns-in-Equal
unfolding ahead
returns-in-Equal g c = search rules

pub returns-in-Greater : goal.returns-in-Greater
unfolding ahead
returns-in-Greater g c = search rules
