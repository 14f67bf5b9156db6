use Rattle.std.proofs.Common.{◌≡◌, Bool, true, ◌&&◌, ◌+ℤ◌, sym, ap, ◌∙◌, w32, w64, SFits, rules}
use Rattle.std.proofs.lemmas.Int.{to_z-of_z}
use Rattle.lattice.specs.Field.{ranged}
use Rattle.segments.proofs.segment.Edge.ends_lie.Goals as goal

pub returns : goal.returns
returns c =
    let fx : SFits w32 c.args.self.x = search rules in
    let fy : SFits w32 c.args.self.y = search rules in
    let fp : SFits w32 c.args.self.dx = search rules in
    let fq : SFits w32 c.args.self.dy = search rules in
    let gx : SFits w64 c.from.result = search rules in
    let gy : SFits w64 c.from-2.result = search rules in
    let gp : SFits w64 c.sum.result = search rules in
    let gq : SFits w64 c.sum-2.result = search rules in
    let x = simp to_z-of_z at c.from.ensures in
    let y = simp to_z-of_z at c.from-2.ensures in
    let p = simp to_z-of_z at c.sum.ensures in
    let q = simp to_z-of_z at c.sum-2.ensures in
    let a : (ranged c.args.self.x && ranged c.args.self.y) ≡ true = (λ i. ranged (sym x i) && ranged (sym y i)) ∙ sym (simp to_z-of_z at c.both_inside.ensures) ∙ c.if-not-both_inside.false in
    let b : c.both_inside-2.result ≡ (ranged (c.args.self.x +ℤ c.args.self.dx) && ranged (c.args.self.y +ℤ c.args.self.dy)) = simp to_z-of_z at c.both_inside-2.ensures ∙ (λ i. ranged (p i) && ranged (q i)) in
    b ∙ ap (λ (t : Bool). t && (ranged (c.args.self.x +ℤ c.args.self.dx) && ranged (c.args.self.y +ℤ c.args.self.dy))) (sym a)
