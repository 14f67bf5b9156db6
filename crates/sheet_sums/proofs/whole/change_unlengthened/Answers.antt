use Rattle.std.proofs.Common.{◌≡◌, ◌+◌, take, sym, ◌∙◌, subst, arith}
use Rattle.kinds.specs.Model.{covers}
use Rattle.sheets.specs.Contents.{room, covered, Sound}
use Rattle.sheets.specs.declared.sheet.Sheet.{Sheet}
use Rattle.sheets.specs.Change.{by}
use Rattle.sheet_sums.specs.Whole.{Begun}
use Rattle.sheet_sums.proofs.Operations.{steps}
use Rattle.sheet_sums.proofs.Carried.{counts_one, kept_sound, kept_room, begun_left, begun_more}
use Rattle.sheet_sums.proofs.whole.change_unlengthened.Goals as goal
use Rattle.sheet_sums.proofs.whole.change_unlengthened.Goals.{then-count, else-count}

pub loop-e-preserved : goal.loop-e-preserved
loop-e-preserved g c =
    let m = g.K.Kind.model in
    let r = g.met.K.Kind.rules in
    let op = g.C.Change.op in
    let law = steps m r op g.met.C.Change.laws in
    let s = c.args.sheet.now in
    let o = c.args.other.now in
    let es = c.elements-e-items.result.now in
    let i = c.loop-e.e-index in
    let x = c.e-item.result in
    let t = c.loop-e.sheet in
    let inv = c.loop-e.invariant in
    let Next : Sheet g.row.K.Denot → Type 0 = λ u. (Sound m s → Sound m u) × (room u ≡ room s) × (Sound m s → Sound m o → Begun m op (take (i + 1) es) o s u) × (u.slots.ghost_name ≡ s.slots.ghost_name) in
    elim c.if-count.branch [
      | then-count w ↦ subst Next (sym w.sheet-is) (
        λ h. kept_sound m r (by op (covered m t) (covers m x)) t w.change.new.sheet w.change.result w.change.ensures.cases (inv.0 h),
        kept_room m r (by op (covered m t) (covers m x)) t w.change.new.sheet w.change.result w.change.ensures.cases ∙ inv.1,
        λ h k. begun_more m r op law es i x c.loop-e-test.true c.e-item.is o s t w.change.new.sheet w.change.result _ c.elements-e-items.ensures.value k (inv.0 h) (inv.2 h k) (c.count.ensures.exact (inv.0 h)) (omega (arith, w.if-count.true, c.count-in-loop-e.ensures)) w.change.ensures.cases,
        w.change.ensures.lender ∙ inv.3,
      )
      | else-count w ↦ subst Next (sym w.sheet-is) (
        inv.0,
        inv.1,
        λ h k. begun_left m r op law es i x c.loop-e-test.true c.e-item.is o s t (inv.2 h k) (λ n d. let e = counts_one m r _ n _ d (c.count.ensures.exact (inv.0 h)) in omega (arith, w.if-count.false, c.count-in-loop-e.ensures)),
        inv.3,
      )
    ]
