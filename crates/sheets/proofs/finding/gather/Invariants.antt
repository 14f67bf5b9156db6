use Rattle.std.proofs.Common.{take}
use Rattle.sheets.specs.Finding.{Whole}
use Rattle.sheets.proofs.finding.gather.Given as goal

abbrev pub invariant-loop-more : goal.invariant-loop-more
invariant-loop-more g l = Whole g.K.Kind.model l.initial.whole (take l.more l.x-items) l.whole
