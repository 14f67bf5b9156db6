use Rattle.std.proofs.Common.{◌≡◌, ◌≤◌, true, false, ℤ, pos, ◌+ℤ◌, ◌-ℤ◌, neg_ℤ, nat_abs, sym, ◌∙◌, arith, w64, SFits, rules}
use Rattle.std.proofs.lemmas.Int.{ints, to_z-of_z}
use Rattle.std.proofs.lemmas.Bool.{cond-true, cond-false}
use Rattle.segments.specs.Directions.{forward}
use Rattle.segments.specs.Edges.{edge}
use Rattle.segments.proofs.segment.images.oriented.Goals as goal

fits : (a b : ℤ) → nat_abs a ≤ 4000 → nat_abs b ≤ 4000 → SFits w64 (a +ℤ b)
fits a b h k = omega (arith, ints)

fits_back : (a : ℤ) → nat_abs a ≤ 4000 → SFits w64 (pos 0 -ℤ a)
fits_back a h = omega (arith, ints)

size : (a b : ℤ) → nat_abs a ≤ 4000 → nat_abs b ≤ 4000 → nat_abs (a +ℤ b) ≤ 10000
size a b h k = omega (arith, ints)

size_back : (a : ℤ) → nat_abs a ≤ 4000 → nat_abs (pos 0 -ℤ a) ≤ 10000
size_back a h = omega (arith, ints)

back : (a : ℤ) → pos 0 -ℤ a ≡ neg_ℤ a
back a = omega (arith, ints)

pub edge-requires-else-forward : goal.edge-requires-else-forward
edge-requires-else-forward c =
    let fx : SFits w64 c.args.x = search rules in
    let fy : SFits w64 c.args.y = search rules in
    let fp : SFits w64 c.args.dx = search rules in
    let fq : SFits w64 c.args.dy = search rules in
    let gx : SFits w64 (c.args.x +ℤ c.args.dx) = fits c.args.x c.args.dx c.requires.x c.requires.dx in
    let gy : SFits w64 (c.args.y +ℤ c.args.dy) = fits c.args.y c.args.dy c.requires.y c.requires.dy in
    let gp : SFits w64 (pos 0 -ℤ c.args.dx) = fits_back c.args.dx c.requires.dx in
    let gq : SFits w64 (pos 0 -ℤ c.args.dy) = fits_back c.args.dy c.requires.dy in
    simp to_z-of_z (record { x = size c.args.x c.args.dx c.requires.x c.requires.dx; y = size c.args.y c.args.dy c.requires.y c.requires.dy; dx = size_back c.args.dx c.requires.dx; dy = size_back c.args.dy c.requires.dy })

pub returns-then-forward : goal.returns-then-forward
returns-then-forward c =
    let fx : SFits w64 c.args.x = search rules in
    let fy : SFits w64 c.args.y = search rules in
    let fp : SFits w64 c.args.dx = search rules in
    let fq : SFits w64 c.args.dy = search rules in
    let f : forward c.args.dx c.args.dy ≡ true = sym (simp to_z-of_z at c.forward.ensures) ∙ c.if-forward.true in
    simp to_z-of_z at c.edge.ensures ∙ sym (cond-true (forward c.args.dx c.args.dy) _ _ f)

pub returns-else-forward : goal.returns-else-forward
returns-else-forward c =
    let fx : SFits w64 c.args.x = search rules in
    let fy : SFits w64 c.args.y = search rules in
    let fp : SFits w64 c.args.dx = search rules in
    let fq : SFits w64 c.args.dy = search rules in
    let gx : SFits w64 (c.args.x +ℤ c.args.dx) = fits c.args.x c.args.dx c.requires.x c.requires.dx in
    let gy : SFits w64 (c.args.y +ℤ c.args.dy) = fits c.args.y c.args.dy c.requires.y c.requires.dy in
    let gp : SFits w64 (pos 0 -ℤ c.args.dx) = fits_back c.args.dx c.requires.dx in
    let gq : SFits w64 (pos 0 -ℤ c.args.dy) = fits_back c.args.dy c.requires.dy in
    let f : forward c.args.dx c.args.dy ≡ false = sym (simp to_z-of_z at c.forward.ensures) ∙ c.if-forward.false in
    let p = back c.args.dx in
    let q = back c.args.dy in
    simp to_z-of_z at c.edge-else-forward.ensures ∙ (λ i. edge (c.args.x +ℤ c.args.dx) (c.args.y +ℤ c.args.dy) (p i) (q i)) ∙ sym (cond-false (forward c.args.dx c.args.dy) _ _ f)
