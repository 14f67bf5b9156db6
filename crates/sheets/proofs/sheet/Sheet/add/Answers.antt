use Rattle.sheets.specs.Cover.{union}
use Rattle.sheets.proofs.Added.{settled}
use Rattle.sheets.proofs.sheet.Sheet.add.Goals as goal

pub returns-clause-cases : goal.returns-clause-cases
returns-clause-cases g c = settled g.K.Kind.model g.met.K.Kind.rules union c.args.e _ c.sum.result c.args.self.now c.elements.ensures.value c.sum.ensures c.put.new.self c.put.result c.put.ensures.cases
