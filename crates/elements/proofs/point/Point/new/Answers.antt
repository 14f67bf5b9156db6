use Rattle.std.proofs.Common.{◌≡◌, ℤ, Some, None, Option, sym, refl, subst, ◌∙◌, w32, w64, SFits, rules}
use Rattle.std.proofs.lemmas.Int.{to_z-of_z}
use Rattle.std.specs.Option.{ok_or}
use Rattle.lattice.specs.declared.refusal.Refusal.TheVariants.{OutOfRange}
use Rattle.elements.specs.Points.{point, PointMade}
use Rattle.elements.specs.PointRules.{point_made, point_refused}
use Rattle.elements.specs.declared.point.Point.{Point}
use Rattle.elements.proofs.point.Point.new.Goals as goal

made : (x y : ℤ) (r : Option Point) → r ≡ point x y → PointMade x y (ok_or r OutOfRange)
made x y (Some p) e = point_made x y p (sym e)
made x y None e = (point_refused x y (sym e), refl)

pub returns : goal.returns
returns c =
    let fx : SFits w32 c.args.x = search rules in
    let fy : SFits w32 c.args.y = search rules in
    let gx : SFits w64 c.from.result = search rules in
    let gy : SFits w64 c.from-2.result = search rules in
    let ex = simp to_z-of_z at c.from.ensures in
    let ey = simp to_z-of_z at c.from-2.ensures in
    let e : c.at.result ≡ point c.args.x c.args.y = simp to_z-of_z at c.at.ensures ∙ (λ i. point (ex i) (ey i)) in
    subst (PointMade c.args.x c.args.y) (sym c.ok_or.ensures.value) (made c.args.x c.args.y c.at.result e)
