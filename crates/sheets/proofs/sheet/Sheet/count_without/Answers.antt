use Rattle.sheets.specs.Cover.{difference}
use Rattle.sheets.proofs.Added.{counted}
use Rattle.sheets.proofs.sheet.Sheet.count_without.Goals as goal

pub returns-clause-exact : goal.returns-clause-exact
returns-clause-exact g c = counted g.K.Kind.model g.met.K.Kind.rules difference c.args.e.now _ c.difference.result c.args.self.now c.elements-xs.ensures.value c.difference.ensures c.count.result c.count.ensures
