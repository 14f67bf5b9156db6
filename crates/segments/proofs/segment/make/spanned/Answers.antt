use Rattle.std.proofs.Common.{◌≡◌, true, ◌&&◌, pos, ◌+ℤ◌, ◌-ℤ◌, ◌*ℤ◌, nat_abs, int_lt, ap, ◌∙◌, arith, w32, SFits, to_z, rules}
use Rattle.std.proofs.lemmas.Int.{to_z-of_z, to_z_pos}
use Rattle.std.proofs.lemmas.Bool.{and_from}
use Rattle.numbers.specs.Gcd.{gcd}
use Rattle.lattice.specs.Field.{ranged}
use Rattle.segments.specs.Directions.{direction}
use Rattle.segments.specs.Segments.{all_ranged}
use Rattle.segments.proofs.Spanning.{spanned}
use Rattle.segments.proofs.segment.make.spanned.Goals as goal

pub invariant_of-result : goal.invariant_of-result
invariant_of-result c =
    let f1 : SFits w32 c.x.result = search rules in
    let f2 : SFits w32 c.x-2.result = search rules in
    let f3 : SFits w32 c.y.result = search rules in
    let f4 : SFits w32 c.y-2.result = search rules in
    let f5 : SFits w32 c.x-3.result = search rules in
    let f6 : SFits w32 c.y-3.result = search rules in
    let fw : SFits w32 c.gap-w.result = search rules in
    let fh : SFits w32 c.gap-h.result = search rules in
    let fdx : SFits w32 c.shared-dx.result = search rules in
    let fdy : SFits w32 c.shared-dy.result = search rules in
    let n = c.edges_between-n.result in
    let N : to_z w32 c.edges_between-n.result ≡ pos c.edges_between-n.result = to_z_pos w32 c.edges_between-n.result (omega (arith, c.edges_between-n.ensures.small)) in
    let W : c.gap-w.result ≡ c.args.to.x -ℤ c.args.from.x = simp to_z-of_z at c.gap-w.ensures.value ∙ (λ i. c.x.ensures i -ℤ c.x-2.ensures i) in
    let G : c.gap-h.result ≡ c.args.to.y -ℤ c.args.from.y = simp to_z-of_z at c.gap-h.ensures.value ∙ (λ i. c.y.ensures i -ℤ c.y-2.ensures i) in
    let ex = simp to_z-of_z at c.shared-dx.ensures ∙ W in
    let ey = simp to_z-of_z at c.shared-dy.ensures ∙ G in
    let g : n ≡ gcd (nat_abs (c.args.to.x -ℤ c.args.from.x)) (nat_abs (c.args.to.y -ℤ c.args.from.y)) = simp to_z-of_z at c.edges_between-n.ensures.value ∙ (λ i. gcd (nat_abs (W i)) (nat_abs (G i))) in
    let all : all_ranged c.args.from.x c.args.from.y c.args.to.x c.args.to.y ≡ true = and_from (ranged c.args.from.x && ranged c.args.from.y) _ (and_from (ranged c.args.from.x) _ c.args.from.wide c.args.from.tall) (and_from (ranged c.args.to.x) _ c.args.to.wide c.args.to.tall) in
    let s = spanned c.args.from.x c.args.from.y c.args.to.x c.args.to.y c.shared-dx.result c.shared-dy.result n all c.requires c.edges_between-n.ensures.some g ex ey in
    let t = s.passes in
    let X = to_z-of_z w32 c.x-3.result f5 ∙ c.x-3.ensures in
    let Y = to_z-of_z w32 c.y-3.result f6 ∙ c.y-3.ensures in
    let DX = to_z-of_z w32 c.shared-dx.result fdx in
    let DY = to_z-of_z w32 c.shared-dy.result fdy in
    record {
      proper = (λ i. direction (DX i) (DY i)) ∙ t.proper;
      some = (λ i. int_lt (pos 0) (N i)) ∙ t.some;
      left = (λ i. ranged (X i)) ∙ t.left;
      low = (λ i. ranged (Y i)) ∙ t.low;
      right = (λ i. ranged (X i +ℤ N i *ℤ DX i)) ∙ t.right;
      high = (λ i. ranged (Y i +ℤ N i *ℤ DY i)) ∙ t.high;
    }

pub returns : goal.returns
returns c =
    let f1 : SFits w32 c.x.result = search rules in
    let f2 : SFits w32 c.x-2.result = search rules in
    let f3 : SFits w32 c.y.result = search rules in
    let f4 : SFits w32 c.y-2.result = search rules in
    let f5 : SFits w32 c.x-3.result = search rules in
    let f6 : SFits w32 c.y-3.result = search rules in
    let fw : SFits w32 c.gap-w.result = search rules in
    let fh : SFits w32 c.gap-h.result = search rules in
    let fdx : SFits w32 c.shared-dx.result = search rules in
    let fdy : SFits w32 c.shared-dy.result = search rules in
    let n = c.edges_between-n.result in
    let N : to_z w32 c.edges_between-n.result ≡ pos c.edges_between-n.result = to_z_pos w32 c.edges_between-n.result (omega (arith, c.edges_between-n.ensures.small)) in
    let W : c.gap-w.result ≡ c.args.to.x -ℤ c.args.from.x = simp to_z-of_z at c.gap-w.ensures.value ∙ (λ i. c.x.ensures i -ℤ c.x-2.ensures i) in
    let G : c.gap-h.result ≡ c.args.to.y -ℤ c.args.from.y = simp to_z-of_z at c.gap-h.ensures.value ∙ (λ i. c.y.ensures i -ℤ c.y-2.ensures i) in
    let ex = simp to_z-of_z at c.shared-dx.ensures ∙ W in
    let ey = simp to_z-of_z at c.shared-dy.ensures ∙ G in
    let g : n ≡ gcd (nat_abs (c.args.to.x -ℤ c.args.from.x)) (nat_abs (c.args.to.y -ℤ c.args.from.y)) = simp to_z-of_z at c.edges_between-n.ensures.value ∙ (λ i. gcd (nat_abs (W i)) (nat_abs (G i))) in
    let all : all_ranged c.args.from.x c.args.from.y c.args.to.x c.args.to.y ≡ true = and_from (ranged c.args.from.x && ranged c.args.from.y) _ (and_from (ranged c.args.from.x) _ c.args.from.wide c.args.from.tall) (and_from (ranged c.args.to.x) _ c.args.to.wide c.args.to.tall) in
    let s = spanned c.args.from.x c.args.from.y c.args.to.x c.args.to.y c.shared-dx.result c.shared-dy.result n all c.requires c.edges_between-n.ensures.some g ex ey in
    let X = to_z-of_z w32 c.x-3.result f5 ∙ c.x-3.ensures in
    let Y = to_z-of_z w32 c.y-3.result f6 ∙ c.y-3.ensures in
    let DX = to_z-of_z w32 c.shared-dx.result fdx in
    let DY = to_z-of_z w32 c.shared-dy.result fdy in
    record { left = X; low = Y; right = (λ i. X i +ℤ N i *ℤ DX i) ∙ s.right; high = (λ i. Y i +ℤ N i *ℤ DY i) ∙ s.high; edges = N ∙ ap pos g }
