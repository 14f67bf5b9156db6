use Rattle.std.proofs.Common.{take}
use Rattle.grammar.specs.Sets.{placed}
use Rattle.sheets.specs.Contents.{covered}
use Rattle.sheets.specs.Change.{by}
use Rattle.drawing.specs.Changes.{Turned}
use Rattle.drawing.proofs.replaced.change_all_placed.Given as goal

abbrev pub invariant-loop-x : goal.invariant-loop-x
invariant-loop-x g l =
    let m = g.K.Kind.model in
    Turned m l.x-index (by g.W.Change.op (covered m l.initial.sheet) (placed m l.p (take l.x-index l.xs))) l.initial.sheet l.sheet
