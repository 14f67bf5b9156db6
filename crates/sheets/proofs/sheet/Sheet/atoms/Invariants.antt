use Rattle.std.proofs.Common.{◌≡◌, ◌-◌, ◌^◌, min, take}
use Rattle.sheets.specs.Cover.{sizes}
use Rattle.sheets.proofs.sheet.Sheet.atoms.Given as goal

abbrev pub invariant-loop-e : goal.invariant-loop-e
invariant-loop-e g l = l.sum ≡ min (sizes g.K.Kind.model (take l.e-index l.e-items)) (2 ^ 64 - 1)
