use Rattle.std.proofs.Common.{codes, sym, subst, rules}
use Rattle.std.proofs.lemmas.Bool.{true≢false}
use Rattle.reading.specs.Fields.{After}
use Rattle.parsing.proofs.Stroking.{pick_told}
use Rattle.parsing.proofs.strokes.read_step.Goals as goal

pub returns : goal.returns
returns c =
    let opens = subst (After (codes "pick ") c.args.line.now) c.in_ok-rest.ensures.ok_part c.after_pick.ensures in
    pick_told _ _ _ _ opens (λ u. true≢false (sym (c.if-is_undo.ensures.1 u))) c.read_pick.ensures (search rules)
