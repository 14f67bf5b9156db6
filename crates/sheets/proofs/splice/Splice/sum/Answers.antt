use Rattle.std.proofs.Common.{arith}
use Rattle.sheets.proofs.Added.{Gathered, added_canonical, added_cover}
use Rattle.sheets.proofs.splice.Splice.sum.Goals as goal

pub returns : goal.returns
returns g c =
    let m = g.K.Kind.model in
    let r = g.met.K.Kind.rules in
    let xs = c.args.xs.now in
    let e = c.args.e.now in
    let w = c.gather-whole.result.0 in
    let from = c.place_of-from.result in
    let to = c.gather-whole.result.1 in
    let f : Gathered m r xs e w from to = record { low = c.gather-whole.ensures.low; high = c.gather-whole.ensures.high; parted = c.place_of-from.ensures.parted; whole = c.gather-whole.ensures.whole; ends = c.gather-whole.ensures.ends } in
    record {
      low = f.low;
      high = f.high;
      few = omega arith;
      lists = λ h. record { ordered = added_canonical m r xs e w from to f h; covering = added_cover m r xs e w from to f };
    }
