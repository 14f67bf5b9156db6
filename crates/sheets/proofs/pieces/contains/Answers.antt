use Rattle.std.proofs.Common.{rules}
use Rattle.sheets.proofs.Sides.{part_decides}
use Rattle.sheets.proofs.pieces.contains.Goals as goal
use Rattle.sheets.proofs.pieces.contains.Goals.{then-is_eq, else-is_eq}

pub returns-then-start : goal.returns-then-start
returns-then-start g c = part_decides g.K.Kind.model g.met.K.Kind.rules c.args.x.now c.args.e.now _ (elim c.if-is_eq.branch [ then-is_eq w ↦ search rules | else-is_eq w ↦ search rules ])

pub returns-else-start : goal.returns-else-start
returns-else-start g c = part_decides g.K.Kind.model g.met.K.Kind.rules c.args.x.now c.args.e.now _ (elim c.if-is_eq.branch [ then-is_eq w ↦ search rules | else-is_eq w ↦ search rules ])
