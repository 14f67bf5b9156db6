use Rattle.std.proofs.Common.{◌-◌, drop, sym, ap, ◌∙◌}
use lib.Seq.{paste}
use Rattle.sheets.proofs.Spliced.{in_place}
use Rattle.sheets.proofs.moved.move_to.Goals as goal

pub returns-else-dest-from : goal.returns-else-dest-from
returns-else-dest-from g c =
    let xs = c.args.slots.now in
    in_place xs c.args.from (c.args.to - c.args.from) ∙ ap (λ k. paste xs k (drop c.args.from xs) (c.args.to - c.args.from)) (sym c.if-dest-from.false)
