use Rattle.std.proofs.Common.{◌≡◌, ℤ, pos, ◌*ℤ◌, ap, ◌∙◌, arith, w32, SFits, to_z, of_z, rules}
use lib.Signed.{quot_z}
use Rattle.std.proofs.lemmas.Int.{ints, to_z-of_z, to_z_pos}
use Rattle.segments.proofs.Spanning.{quot_exact, quot_size}
use Rattle.segments.proofs.arithmetic.shared.Goals as goal

pub returns : goal.returns
returns c =
    let fz : SFits w32 c.args.z = search rules in
    let e : to_z w32 c.args.n ≡ pos c.args.n = to_z_pos w32 c.args.n (omega arith) in
    let s = quot_size c.args.z c.args.n in
    let f : SFits w32 (quot_z c.args.z (pos c.args.n)) = omega (arith, ints) in
    ap (λ (z : ℤ). pos c.args.n *ℤ to_z w32 (of_z w32 z)) (λ i. quot_z (to_z-of_z w32 c.args.z fz i) (e i)) ∙ ap (λ (z : ℤ). pos c.args.n *ℤ z) (to_z-of_z w32 _ f) ∙ quot_exact c.args.z c.args.n c.requires.divides
