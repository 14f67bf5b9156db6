use Rattle.std.proofs.Common.{◌≤◌, ◌∙◌, arith}
use Rattle.sheets.specs.Contents.{room}
use Rattle.sheet_sums.proofs.Operations.{steps}
use Rattle.sheet_sums.proofs.Carried.{fits_after}
use Rattle.sheet_sums.proofs.whole.change_all.Goals as goal

pub returns-clause-cases : goal.returns-clause-cases
returns-clause-cases g c =
    let m = g.K.Kind.model in
    let r = g.met.K.Kind.rules in
    let op = g.C.Change.op in
    let law = steps m r op g.met.C.Change.laws in
    let s = c.args.sheet.now in
    let o = c.args.other.now in
    let t = c.change_unlengthened.new.sheet in
    let first = c.change_unlengthened.ensures in
    let last = c.change_each.ensures in
    record {
      sound = λ h. last.sound (first.sound h);
      covers = λ h k a.
          let begun = first.begun h k in
          let fits : c.count_all.result ≤ room s = omega arith in
          last.covers (first.sound h) k (fits_after m r op law o s t c.count_all.result h k begun first.room (c.count_all.ensures h k) fits) a ∙ begun.same a;
      room = last.room ∙ first.room;
    }
