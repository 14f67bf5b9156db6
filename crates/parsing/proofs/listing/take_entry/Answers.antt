use Rattle.std.proofs.Common.{rules}
use Rattle.parsing.proofs.listing.take_entry.Goals as goal

-- that a byte 10 ends the line stands for itself, so that a line without it is refused by this
pub returns-then-admit : goal.returns-then-admit
returns-then-admit c = (search rules, c.in_ok-entry.entry, search rules, search rules, search rules)
