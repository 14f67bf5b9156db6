use Rattle.std.proofs.Common.{◌≤◌, ℤ, nat_abs, sym, ap, ◌∙◌, subst, w32, w64, SFits, rules}
use Rattle.std.proofs.lemmas.Int.{to_z-of_z}
use Rattle.lattice.specs.Field.{ranged}
use Rattle.lattice.proofs.Turning.{below_eight}
use Rattle.segments.specs.Edges.{oriented}
use Rattle.segments.specs.declared.segment.Edge.{Edge}
use Rattle.segments.proofs.Shifting.{turned_is, sizes}
use Rattle.segments.proofs.segment.Edge.turned.Goals as goal
use Rattle.lattice.specs.Turns.{index}

pub oriented-requires : goal.oriented-requires
oriented-requires c =
    let fx : SFits w32 c.args.self.x = search rules in
    let fy : SFits w32 c.args.self.y = search rules in
    let fp : SFits w32 c.args.self.dx = search rules in
    let fq : SFits w32 c.args.self.dy = search rules in
    let gx : SFits w64 c.turned-x.result.0 = search rules in
    let gy : SFits w64 c.turned-x.result.1 = search rules in
    let gp : SFits w64 c.turned-dx.result.0 = search rules in
    let gq : SFits w64 c.turned-dx.result.1 = search rules in
    let x = simp to_z-of_z at c.turned-x.ensures.across in
    let y = simp to_z-of_z at c.turned-x.ensures.upward in
    let p = simp to_z-of_z at c.turned-dx.ensures.across in
    let q = simp to_z-of_z at c.turned-dx.ensures.upward in
    let s = sizes (index c.args.turn) c.args.self (below_eight c.args.turn) c.requires in
    record {
      x = subst (λ (z : ℤ). nat_abs z ≤ 4000) (sym (to_z-of_z w64 c.turned-x.result.0 gx ∙ x)) s.x;
      y = subst (λ (z : ℤ). nat_abs z ≤ 4000) (sym (to_z-of_z w64 c.turned-x.result.1 gy ∙ y)) s.y;
      dx = subst (λ (z : ℤ). nat_abs z ≤ 4000) (sym (to_z-of_z w64 c.turned-dx.result.0 gp ∙ p)) s.dx;
      dy = subst (λ (z : ℤ). nat_abs z ≤ 4000) (sym (to_z-of_z w64 c.turned-dx.result.1 gq ∙ q)) s.dy;
    }

pub returns : goal.returns
returns c =
    let fx : SFits w32 c.args.self.x = search rules in
    let fy : SFits w32 c.args.self.y = search rules in
    let fp : SFits w32 c.args.self.dx = search rules in
    let fq : SFits w32 c.args.self.dy = search rules in
    let gx : SFits w64 c.turned-x.result.0 = search rules in
    let gy : SFits w64 c.turned-x.result.1 = search rules in
    let gp : SFits w64 c.turned-dx.result.0 = search rules in
    let gq : SFits w64 c.turned-dx.result.1 = search rules in
    let x = simp to_z-of_z at c.turned-x.ensures.across in
    let y = simp to_z-of_z at c.turned-x.ensures.upward in
    let p = simp to_z-of_z at c.turned-dx.ensures.across in
    let q = simp to_z-of_z at c.turned-dx.ensures.upward in
    let s = sizes (index c.args.turn) c.args.self (below_eight c.args.turn) c.requires in
    let o = simp to_z-of_z at c.oriented.ensures in
    let e = o ∙ (λ i. oriented (x i) (y i) (p i) (q i)) ∙ turned_is (index c.args.turn) c.args.self (below_eight c.args.turn) in
    record { value = e; left = ap (λ (a : Edge). ranged a.x) e ∙ s.left; low = ap (λ (a : Edge). ranged a.y) e ∙ s.low }
