use Rattle.std.proofs.Common.{◌≡◌, ℤ, pos, negsuc, ◌≤ℤ◌, sym, ◌∙◌, subst, w32, SFits, to_z, of_z, rules}
use Rattle.std.proofs.lemmas.Int.{to_z-of_z}
use Rattle.segments.specs.Edges.{position, edge_position}
use Rattle.segments.specs.Segments.{first}
use Rattle.segments.specs.Positions.{start_low, start_high}
use Rattle.segments.proofs.segment.Segment.begins.Goals as goal

pub returns : goal.returns
returns c =
    let e = c.args.self.now in
    let fx : SFits w32 c.args.self.now.x = search rules in
    let fy : SFits w32 c.args.self.now.y = search rules in
    let fd : SFits w32 c.args.self.now.dx = search rules in
    let fr : SFits w32 c.position.result = search rules in
    let v : to_z w32 (of_z w32 c.position.result) ≡ edge_position (first c.args.self.now) = to_z-of_z w32 c.position.result fr ∙ c.position.ensures ∙ (λ i. position (to_z-of_z w32 e.x fx i) (to_z-of_z w32 e.y fy i) (to_z-of_z w32 e.dx fd i)) in
    record { value = v; low = subst (λ (z : ℤ). negsuc 1999 ≤ℤ z) (sym v) (start_low e); high = subst (λ (z : ℤ). z ≤ℤ pos 2000) (sym v) (start_high e) }
