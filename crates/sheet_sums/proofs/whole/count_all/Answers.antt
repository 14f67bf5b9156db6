use Rattle.std.proofs.Common.{◌≡◌, ◌+◌, ◌-◌, length, ap, ◌∙◌, arith}
use Rattle.std.proofs.lemmas.List.{length-take}
use Rattle.sheets.specs.Cover.{canonical}
use Rattle.sheets.specs.Contents.{items}
use Rattle.sheet_sums.proofs.Operations.{steps}
use Rattle.sheet_sums.proofs.Carried.{counted_more}
use Rattle.sheet_sums.proofs.whole.count_all.Goals as goal

pub loop-e-preserved : goal.loop-e-preserved
loop-e-preserved g c =
    let m = g.K.Kind.model in
    let r = g.met.K.Kind.rules in
    let op = g.C.Change.op in
    let law = steps m r op g.met.C.Change.laws in
    let s = c.args.sheet.now in
    let es = c.elements-e-items.result.now in
    let low = c.loop-e.invariant.0 in
    let few = c.count.ensures.few in
    let sum = c.saturating_add.ensures in
    let less = c.saturating_sub-count.ensures in
    let n = c.count-before.ensures in (
      omega arith,
      λ h k.
          let hf = h.few in
          let kf = k.few in
          let value = ap length c.elements-e-items.ensures.value in
          let i = c.loop-e-test.true in
          let a = length-take s.count s.slots.now in
          let b = length-take c.args.other.now.count c.args.other.now.slots.now in
          let all : c.saturating_add.result ≡ c.loop-e.count + c.count.result = omega arith in
          let next : c.saturating_sub-count.result ≡ c.loop-e.count + c.count.result - length (items s) = omega arith in
          counted_more m r op law es c.loop-e.e-index c.e-item.result i c.e-item.is (items s) c.loop-e.count c.count.result _ h.ordered (ap (canonical m) c.elements-e-items.ensures.value ∙ k.ordered) (c.loop-e.invariant.1 h k) (c.count.ensures.exact h) next,
    )
