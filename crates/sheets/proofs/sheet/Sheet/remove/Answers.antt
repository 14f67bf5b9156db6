use Rattle.sheets.specs.Cover.{difference}
use Rattle.sheets.proofs.Added.{settled}
use Rattle.sheets.proofs.sheet.Sheet.remove.Goals as goal

pub returns-clause-cases : goal.returns-clause-cases
returns-clause-cases g c = settled g.K.Kind.model g.met.K.Kind.rules difference c.args.e _ c.difference.result c.args.self.now c.elements.ensures.value c.difference.ensures c.put.new.self c.put.result c.put.ensures.cases
