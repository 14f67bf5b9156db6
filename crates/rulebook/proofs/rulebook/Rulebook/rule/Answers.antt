use Rattle.std.proofs.Common.{refl, rules}
use Rattle.rulebook.proofs.Ruling.{added, no_more_rules}
use Rattle.rulebook.proofs.rulebook.Rulebook.rule.Goals as goal

pub returns-then-n-ge-MOST_RULES : goal.returns-then-n-ge-MOST_RULES
returns-then-n-ge-MOST_RULES g c = record {
  number = refl;
  same = refl;
  full = no_more_rules g.M.Kind.model g.C.Kind.model c.args.self.now c.if-n-ge-MOST_RULES.true;
}

pub returns : goal.returns
returns g c =
    added g.M.Kind.model g.C.Kind.model c.args.self.now _ _ record {
      within = search rules;
      few = search rules;
      is = refl;
      count = refl;
      left = c.record-left.ensures;
      right = c.record-right.ensures;
      left_closed = c.close.ensures;
      right_closed = c.close-2.ensures;
    }
