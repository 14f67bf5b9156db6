use Rattle.std.proofs.Common.{◌≡◌, take}
use Rattle.sheets.specs.Contents.{room, Sound}
use Rattle.sheet_sums.specs.Whole.{Begun}
use Rattle.sheet_sums.proofs.whole.change_unlengthened.Given as goal

abbrev pub invariant-loop-e : goal.invariant-loop-e
invariant-loop-e g l =
    (Sound g.K.Kind.model l.initial.sheet → Sound g.K.Kind.model l.sheet)
    × (room l.sheet ≡ room l.initial.sheet)
    × (Sound g.K.Kind.model l.initial.sheet → Sound g.K.Kind.model l.other → Begun g.K.Kind.model g.C.Change.op (take l.e-index l.e-items) l.other l.initial.sheet l.sheet)
    × (l.sheet.slots.ghost_name ≡ l.initial.sheet.slots.ghost_name)
