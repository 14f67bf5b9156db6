use Rattle.sheets.proofs.Unique.{exactly_maximal, one_list}
use Rattle.sheet_sums.proofs.laws.one_list.Goals as goal

pub returns : goal.returns
returns g c = record { maximal = exactly_maximal g.K.Kind.model g.met.K.Kind.rules; one = one_list g.K.Kind.model g.met.K.Kind.rules }
