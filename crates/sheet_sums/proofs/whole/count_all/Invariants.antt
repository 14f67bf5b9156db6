use Rattle.std.proofs.Common.{◌+◌, ◌≤◌, length, take}
use Rattle.sheets.specs.Cover.{cover}
use Rattle.sheets.specs.Maximal.{Counts}
use Rattle.sheets.specs.Contents.{items, covered, Sound}
use Rattle.sheets.specs.Change.{by}
use Rattle.sheet_sums.proofs.whole.count_all.Given as goal

abbrev pub invariant-loop-e : goal.invariant-loop-e
invariant-loop-e g l =
    (l.count ≤ length (items l.sheet) + l.e-index)
    × (Sound g.K.Kind.model l.sheet → Sound g.K.Kind.model l.other → Counts g.K.Kind.model (by g.C.Change.op (covered g.K.Kind.model l.sheet) (cover g.K.Kind.model (take l.e-index l.e-items))) l.count)
