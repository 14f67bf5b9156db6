use Rattle.sheets.specs.Cover.{union}
use Rattle.sheets.proofs.Added.{counted}
use Rattle.sheets.proofs.sheet.Sheet.count_with.Goals as goal

pub returns-clause-exact : goal.returns-clause-exact
returns-clause-exact g c = counted g.K.Kind.model g.met.K.Kind.rules union c.args.e.now _ c.sum.result c.args.self.now c.elements-xs.ensures.value c.sum.ensures c.count.result c.count.ensures
