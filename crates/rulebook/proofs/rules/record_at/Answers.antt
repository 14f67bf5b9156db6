use Rattle.std.proofs.Common.{arith}
use Rattle.rulebook.proofs.Numbering.{none_past, some_at}
use Rattle.rulebook.proofs.rules.record_at.Goals as goal

pub returns-then-n-count : goal.returns-then-n-count
returns-then-n-count c = let l = c.if-n-count.true in none_past c.args.all.now c.args.count c.args.n (omega arith)

pub returns : goal.returns
returns c = some_at c.args.all.now c.args.count c.args.n c.in_ok-checked_sub.field-0 c.get.result c.copied.result c.in_ok-checked_sub.ensures.0 c.in_ok-checked_sub.ensures.1 c.if-n-count.false c.get.ensures.lookup.3 c.copied.ensures
