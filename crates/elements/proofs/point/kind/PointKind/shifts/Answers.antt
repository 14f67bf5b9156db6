use Rattle.std.proofs.Common.{◌≡◌, true, false, ◌&&◌, ℤ, ◌-ℤ◌, sym, ap, ◌∙◌, subst, inl, inr, w32, w64, SFits, rules}
use Rattle.std.proofs.lemmas.Int.{to_z-of_z}
use Rattle.lattice.specs.Field.{ranged}
use Rattle.lattice.specs.Turns.{index, across, upward}
use Rattle.lattice.proofs.Turning.{below_eight}
use Rattle.kinds.specs.Answers.{Shifts}
use Rattle.elements.specs.Points.{point_model}
use Rattle.elements.specs.PointRules.{no_shift, shift_by}
use Rattle.elements.proofs.point.kind.PointKind.shifts.Goals as goal

pub returns-in_err-across : goal.returns-in_err-across
returns-in_err-across c =
    let s = (index c.args.turn) in
    let a = c.args.from in
    let b = c.args.to in
    let fx : SFits w32 c.args.from.x = search rules in
    let fy : SFits w32 c.args.from.y = search rules in
    let ft : SFits w32 c.args.to.x = search rules in
    let fr : SFits w64 c.turned-x.result.0 = search rules in
    let x = simp to_z-of_z at c.turned-x.ensures.across in
    let e = simp to_z-of_z at c.in_err-across.ensures in
    let h : (ranged (across s a.x a.y) && ranged b.x) ≡ false = ap (λ (z : ℤ). ranged z && ranged b.x) (sym x) ∙ e in
    subst (Shifts point_model s a b) (sym c.from_residual.ensures) (no_shift s a b (below_eight c.args.turn) (inl h))

pub returns-in_err-up : goal.returns-in_err-up
returns-in_err-up c =
    let s = (index c.args.turn) in
    let a = c.args.from in
    let b = c.args.to in
    let fx : SFits w32 c.args.from.x = search rules in
    let fy : SFits w32 c.args.from.y = search rules in
    let ft : SFits w32 c.args.to.y = search rules in
    let fr : SFits w64 c.turned-x.result.1 = search rules in
    let y = simp to_z-of_z at c.turned-x.ensures.upward in
    let e = simp to_z-of_z at c.in_err-up.ensures in
    let h : (ranged (upward s a.x a.y) && ranged b.y) ≡ false = ap (λ (z : ℤ). ranged z && ranged b.y) (sym y) ∙ e in
    subst (Shifts point_model s a b) (sym c.from_residual-in_err-up.ensures) (no_shift s a b (below_eight c.args.turn) (inr h))

pub returns : goal.returns
returns c =
    let s = (index c.args.turn) in
    let a = c.args.from in
    let b = c.args.to in
    let fx : SFits w32 c.args.from.x = search rules in
    let fy : SFits w32 c.args.from.y = search rules in
    let gx : SFits w32 c.args.to.x = search rules in
    let gy : SFits w32 c.args.to.y = search rules in
    let fr : SFits w64 c.turned-x.result.0 = search rules in
    let fs : SFits w64 c.turned-x.result.1 = search rules in
    let fu : SFits w32 c.in_ok-across.across = search rules in
    let fv : SFits w32 c.in_ok-up.up = search rules in
    let x = simp to_z-of_z at c.turned-x.ensures.across in
    let y = simp to_z-of_z at c.turned-x.ensures.upward in
    let d = simp to_z-of_z at c.in_ok-across.ensures in
    let e = simp to_z-of_z at c.in_ok-up.ensures in
    let h : (ranged (across s a.x a.y) && ranged b.x) ≡ true = ap (λ (z : ℤ). ranged z && ranged b.x) (sym x) ∙ d.0 in
    let k : (ranged (upward s a.x a.y) && ranged b.y) ≡ true = ap (λ (z : ℤ). ranged z && ranged b.y) (sym y) ∙ e.0 in
    simp to_z-of_z (shift_by s a b c.in_ok-across.across c.in_ok-up.up (below_eight c.args.turn) h k (d.1 ∙ ap (λ (z : ℤ). b.x -ℤ z) x) (e.1 ∙ ap (λ (z : ℤ). b.y -ℤ z) y))
