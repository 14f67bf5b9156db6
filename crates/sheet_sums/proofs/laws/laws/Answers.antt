use Rattle.sheet_sums.proofs.Lawful.{sums_exist, differences_exist, sum_commutes, sum_associates, sum_with_itself, difference_then_sum, part_of_sum, part_both_ways}
use Rattle.sheet_sums.proofs.laws.laws.Goals as goal

pub returns : goal.returns
returns g c =
    let m = g.K.Kind.model in
    let r = g.met.K.Kind.rules in
    record {
      sums = sums_exist m r;
      differences = differences_exist m r;
      commutes = sum_commutes m r;
      associates = sum_associates m r;
      idempotent = sum_with_itself m r;
      back = difference_then_sum m r;
      part = part_of_sum m r;
      both = part_both_ways m r;
    }
