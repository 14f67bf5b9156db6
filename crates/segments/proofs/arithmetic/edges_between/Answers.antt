use Rattle.std.proofs.Common.{◌≡◌, ℕ, ◌<◌, ◌≤◌, nat_abs, sym, ◌∙◌, subst, w32, SFits, rules}
use Prim.Native.Nat.{◌∣◌}
use Rattle.std.proofs.lemmas.Int.{to_z-of_z}
use Rattle.numbers.specs.Gcd.{gcd}
use Rattle.numbers.proofs.Gcds.{gcd_left, gcd_right}
use Rattle.segments.proofs.Spanning.{gcd_some, gcd_small}
use Rattle.segments.proofs.arithmetic.edges_between.Goals as goal

pub returns : goal.returns
returns c =
    let fw : SFits w32 c.args.w = search rules in
    let fh : SFits w32 c.args.h = search rules in
    let a = simp to_z-of_z at c.unsigned_abs.ensures.value in
    let b = simp to_z-of_z at c.unsigned_abs-2.ensures.value in
    let e : c.gcd.result ≡ gcd (nat_abs c.args.w) (nat_abs c.args.h) = c.gcd.ensures.value ∙ (λ i. gcd (a i) (b i)) in
    record {
      value = e;
      some = subst (λ (n : ℕ). 0 < n) (sym e) (gcd_some c.args.w c.args.h c.requires.up);
      small = subst (λ (n : ℕ). n ≤ 4000) (sym e) (gcd_small c.args.w c.args.h c.requires.up c.requires.wide c.requires.tall);
      across = subst (λ (n : ℕ). n ∣ nat_abs c.args.w) (sym e) (gcd_left (nat_abs c.args.w) (nat_abs c.args.h));
      upward = subst (λ (n : ℕ). n ∣ nat_abs c.args.h) (sym e) (gcd_right (nat_abs c.args.w) (nat_abs c.args.h));
    }
