use Rattle.std.proofs.Common.{◌≡◌, take}
use Rattle.sheets.specs.Cover.{cover}
use Rattle.sheets.specs.Contents.{room, covered, Sound}
use Rattle.sheets.specs.Maximal.{Same}
use Rattle.sheets.specs.Change.{by}
use Rattle.sheet_sums.specs.Whole.{Fits}
use Rattle.sheet_sums.proofs.whole.change_each.Given as goal

abbrev pub invariant-loop-e : goal.invariant-loop-e
invariant-loop-e g l =
    (Sound g.K.Kind.model l.initial.sheet → Sound g.K.Kind.model l.sheet)
    × (room l.sheet ≡ room l.initial.sheet)
    × (Sound g.K.Kind.model l.initial.sheet → Sound g.K.Kind.model l.other → Fits g.K.Kind.model g.C.Change.op l.other l.initial.sheet → Same (covered g.K.Kind.model l.sheet) (by g.C.Change.op (covered g.K.Kind.model l.initial.sheet) (cover g.K.Kind.model (take l.e-index l.e-items))))
    × (l.sheet.slots.ghost_name ≡ l.initial.sheet.slots.ghost_name)
