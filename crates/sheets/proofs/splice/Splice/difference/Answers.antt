use Rattle.std.proofs.Common.{◌<◌, [], arith}
use Rattle.sheets.specs.Finding.{listed}
use Rattle.sheets.proofs.Removed.{Reached, Cut, cut_none, cut_some, removed_canonical, removed_cover, few_listed}
use Rattle.sheets.proofs.splice.Splice.difference.Goals as goal

pub returns-then-from-to : goal.returns-then-from-to
returns-then-from-to g c =
    let m = g.K.Kind.model in
    let r = g.met.K.Kind.rules in
    let xs = c.args.xs.now in
    let e = c.args.e.now in
    let from = c.place_of-from.result in
    let to = c.reach-to.result in
    let f : Reached m r xs e from to = record { low = c.reach-to.ensures.low; high = c.reach-to.ensures.high; parted = c.place_of-from.ensures.parted; touch = c.reach-to.ensures.all; ends = c.reach-to.ensures.ends } in
    let cut : Cut m r xs e from to [] = cut_none m r xs e from to c.if-from-to.true f in
    record {
      low = f.low;
      high = f.high;
      few = omega arith;
      lists = λ h. record { ordered = removed_canonical m r xs e from to f [] h (cut.rest h); covering = removed_cover m r xs e from to f [] h (cut.rest h) };
    }

pub returns : goal.returns
returns g c =
    let m = g.K.Kind.model in
    let r = g.met.K.Kind.rules in
    let xs = c.args.xs.now in
    let e = c.args.e.now in
    let from = c.place_of-from.result in
    let to = c.reach-to.result in
    let lo = c.left_part-left.result in
    let ro = c.right_part-right.result in
    let ps = listed lo ro in
    let less : from < to = omega (arith, c.reach-to.ensures.low, c.if-from-to.false) in
    let f : Reached m r xs e from to = record { low = c.reach-to.ensures.low; high = c.reach-to.ensures.high; parted = c.place_of-from.ensures.parted; touch = c.reach-to.ensures.all; ends = c.reach-to.ensures.ends } in
    let cut : Cut m r xs e from to ps = cut_some m r xs e c.index-xs-from.result c.index-xs-to.result from to lo ro less f.high c.index-xs-from.is c.index-xs-to.is c.left_part-left.ensures c.right_part-right.ensures f in
    record {
      low = f.low;
      high = f.high;
      few = omega (arith, few_listed m lo ro);
      lists = λ h. record { ordered = removed_canonical m r xs e from to f ps h (cut.rest h); covering = removed_cover m r xs e from to f ps h (cut.rest h) };
    }
