use Rattle.std.proofs.Common.{◌≡◌, ◌≤◌, true, false, ℤ, pos, ◌+ℤ◌, ◌-ℤ◌, neg_ℤ, nat_abs, sym, ap, ◌∙◌, subst, arith, w32, w64, SFits, to_z, of_z, rules}
use Rattle.std.proofs.lemmas.Int.{ints, to_z-of_z}
use Rattle.std.proofs.lemmas.Bool.{cond-true, cond-false}
use Rattle.lattice.specs.Turns.{index, across, upward}
use Rattle.lattice.specs.declared.turn.Turn.{Turn}
use Rattle.lattice.proofs.Turning.{below_eight, turned_sizes}
use Rattle.segments.specs.Directions.{forward, direction}
use Rattle.segments.specs.Segments.{segment}
use Rattle.segments.specs.Placing.{turned_direction, back_direction}
use Rattle.segments.specs.Positions.{size_edges}
use Rattle.segments.proofs.Sizes.{size_dx, size_dy}
use Rattle.segments.proofs.segment.kind.SegmentKind.place.Goals as goal

back_fits : (a r : ℤ) → nat_abs a ≤ 4000 → r ≡ a → SFits w64 (pos 0 -ℤ r)
back_fits a r h e = omega (arith, ints)

back : (a r : ℤ) → r ≡ a → pos 0 -ℤ r ≡ neg_ℤ a
back a r e = omega (arith, ints)

size_back : (a : ℤ) → nat_abs a ≤ 4000 → nat_abs (neg_ℤ a) ≤ 4000
size_back a h = omega (arith, ints)

pub fitted-requires : goal.fitted-requires
fitted-requires c =
    let e = c.args.self in
    let s = (index c.args.p.turn) in
    let l = below_eight c.args.p.turn in
    let fdx : SFits w32 c.args.self.dx = search rules in
    let fdy : SFits w32 c.args.self.dy = search rules in
    let g0 : SFits w64 c.turned-dx.result.0 = search rules in
    let g1 : SFits w64 c.turned-dx.result.1 = search rules in
    let P : to_z w64 (of_z w64 c.turned-dx.result.0) ≡ across s e.dx e.dy = to_z-of_z w64 c.turned-dx.result.0 g0 ∙ simp to_z-of_z at c.turned-dx.ensures.across ∙ ap (λ (t : Turn). across (index t) e.dx e.dy) c.turn.ensures in
    let Q : to_z w64 (of_z w64 c.turned-dx.result.1) ≡ upward s e.dx e.dy = to_z-of_z w64 c.turned-dx.result.1 g1 ∙ simp to_z-of_z at c.turned-dx.ensures.upward ∙ ap (λ (t : Turn). upward (index t) e.dx e.dy) c.turn.ensures in
    let z = turned_sizes 4000 e.dx e.dy (size_dx e) (size_dy e) s l in
    let fn : SFits w32 c.args.self.edges = search rules in
    let gn : SFits w64 c.from-edges.result = search rules in
    let N : to_z w64 (of_z w64 c.from-edges.result) ≡ e.edges = to_z-of_z w64 c.from-edges.result gn ∙ simp to_z-of_z at c.from-edges.ensures in
    let f : forward (across s e.dx e.dy) (upward s e.dx e.dy) ≡ true = (λ i. forward (sym P i) (sym Q i)) ∙ sym c.forward.ensures ∙ c.if-forward.true in
    record {
      way = (λ i. direction (P i) (Q i)) ∙ turned_direction e s l f;
      wide = subst (λ (t : ℤ). nat_abs t ≤ 4000) (sym P) z.0;
      tall = subst (λ (t : ℤ). nat_abs t ≤ 4000) (sym Q) z.1;
      long = subst (λ (t : ℤ). nat_abs t ≤ 10000) (sym N) (size_edges e);
    }

pub overflow_sub-dx : goal.overflow_sub-dx
overflow_sub-dx c =
    let e = c.args.self in
    let s = (index c.args.p.turn) in
    let l = below_eight c.args.p.turn in
    let fdx : SFits w32 c.args.self.dx = search rules in
    let fdy : SFits w32 c.args.self.dy = search rules in
    let g0 : SFits w64 c.turned-dx.result.0 = search rules in
    let g1 : SFits w64 c.turned-dx.result.1 = search rules in
    let P : to_z w64 (of_z w64 c.turned-dx.result.0) ≡ across s e.dx e.dy = to_z-of_z w64 c.turned-dx.result.0 g0 ∙ simp to_z-of_z at c.turned-dx.ensures.across ∙ ap (λ (t : Turn). across (index t) e.dx e.dy) c.turn.ensures in
    let Q : to_z w64 (of_z w64 c.turned-dx.result.1) ≡ upward s e.dx e.dy = to_z-of_z w64 c.turned-dx.result.1 g1 ∙ simp to_z-of_z at c.turned-dx.ensures.upward ∙ ap (λ (t : Turn). upward (index t) e.dx e.dy) c.turn.ensures in
    let z = turned_sizes 4000 e.dx e.dy (size_dx e) (size_dy e) s l in
    back_fits (across s e.dx e.dy) _ z.0 P

pub overflow_sub-dy : goal.overflow_sub-dy
overflow_sub-dy c =
    let e = c.args.self in
    let s = (index c.args.p.turn) in
    let l = below_eight c.args.p.turn in
    let fdx : SFits w32 c.args.self.dx = search rules in
    let fdy : SFits w32 c.args.self.dy = search rules in
    let g0 : SFits w64 c.turned-dx.result.0 = search rules in
    let g1 : SFits w64 c.turned-dx.result.1 = search rules in
    let P : to_z w64 (of_z w64 c.turned-dx.result.0) ≡ across s e.dx e.dy = to_z-of_z w64 c.turned-dx.result.0 g0 ∙ simp to_z-of_z at c.turned-dx.ensures.across ∙ ap (λ (t : Turn). across (index t) e.dx e.dy) c.turn.ensures in
    let Q : to_z w64 (of_z w64 c.turned-dx.result.1) ≡ upward s e.dx e.dy = to_z-of_z w64 c.turned-dx.result.1 g1 ∙ simp to_z-of_z at c.turned-dx.ensures.upward ∙ ap (λ (t : Turn). upward (index t) e.dx e.dy) c.turn.ensures in
    let z = turned_sizes 4000 e.dx e.dy (size_dx e) (size_dy e) s l in
    back_fits (upward s e.dx e.dy) _ z.1 Q

pub fitted-requires-else-forward : goal.fitted-requires-else-forward
fitted-requires-else-forward c =
    let e = c.args.self in
    let s = (index c.args.p.turn) in
    let l = below_eight c.args.p.turn in
    let fdx : SFits w32 c.args.self.dx = search rules in
    let fdy : SFits w32 c.args.self.dy = search rules in
    let g0 : SFits w64 c.turned-dx.result.0 = search rules in
    let g1 : SFits w64 c.turned-dx.result.1 = search rules in
    let P : to_z w64 (of_z w64 c.turned-dx.result.0) ≡ across s e.dx e.dy = to_z-of_z w64 c.turned-dx.result.0 g0 ∙ simp to_z-of_z at c.turned-dx.ensures.across ∙ ap (λ (t : Turn). across (index t) e.dx e.dy) c.turn.ensures in
    let Q : to_z w64 (of_z w64 c.turned-dx.result.1) ≡ upward s e.dx e.dy = to_z-of_z w64 c.turned-dx.result.1 g1 ∙ simp to_z-of_z at c.turned-dx.ensures.upward ∙ ap (λ (t : Turn). upward (index t) e.dx e.dy) c.turn.ensures in
    let z = turned_sizes 4000 e.dx e.dy (size_dx e) (size_dy e) s l in
    let fn : SFits w32 c.args.self.edges = search rules in
    let gn : SFits w64 c.from-edges.result = search rules in
    let N : to_z w64 (of_z w64 c.from-edges.result) ≡ e.edges = to_z-of_z w64 c.from-edges.result gn ∙ simp to_z-of_z at c.from-edges.ensures in
    let f : forward (across s e.dx e.dy) (upward s e.dx e.dy) ≡ false = (λ i. forward (sym P i) (sym Q i)) ∙ sym c.forward.ensures ∙ c.if-forward.false in
    let NP : to_z w64 (of_z w64 (pos 0 -ℤ to_z w64 (of_z w64 c.turned-dx.result.0))) ≡ neg_ℤ (across s e.dx e.dy) = to_z-of_z w64 _ (back_fits (across s e.dx e.dy) _ z.0 P) ∙ back (across s e.dx e.dy) _ P in
    let NQ : to_z w64 (of_z w64 (pos 0 -ℤ to_z w64 (of_z w64 c.turned-dx.result.1))) ≡ neg_ℤ (upward s e.dx e.dy) = to_z-of_z w64 _ (back_fits (upward s e.dx e.dy) _ z.1 Q) ∙ back (upward s e.dx e.dy) _ Q in
    record {
      way = (λ i. direction (NP i) (NQ i)) ∙ back_direction e s l f;
      wide = subst (λ (t : ℤ). nat_abs t ≤ 4000) (sym NP) (size_back (across s e.dx e.dy) z.0);
      tall = subst (λ (t : ℤ). nat_abs t ≤ 4000) (sym NQ) (size_back (upward s e.dx e.dy) z.1);
      long = subst (λ (t : ℤ). nat_abs t ≤ 10000) (sym N) (size_edges e);
    }

pub returns-then-forward : goal.returns-then-forward
returns-then-forward c =
    let e = c.args.self in
    let s = (index c.args.p.turn) in
    let l = below_eight c.args.p.turn in
    let fdx : SFits w32 c.args.self.dx = search rules in
    let fdy : SFits w32 c.args.self.dy = search rules in
    let g0 : SFits w64 c.turned-dx.result.0 = search rules in
    let g1 : SFits w64 c.turned-dx.result.1 = search rules in
    let P : to_z w64 (of_z w64 c.turned-dx.result.0) ≡ across s e.dx e.dy = to_z-of_z w64 c.turned-dx.result.0 g0 ∙ simp to_z-of_z at c.turned-dx.ensures.across ∙ ap (λ (t : Turn). across (index t) e.dx e.dy) c.turn.ensures in
    let Q : to_z w64 (of_z w64 c.turned-dx.result.1) ≡ upward s e.dx e.dy = to_z-of_z w64 c.turned-dx.result.1 g1 ∙ simp to_z-of_z at c.turned-dx.ensures.upward ∙ ap (λ (t : Turn). upward (index t) e.dx e.dy) c.turn.ensures in
    let z = turned_sizes 4000 e.dx e.dy (size_dx e) (size_dy e) s l in
    let fn : SFits w32 c.args.self.edges = search rules in
    let gn : SFits w64 c.from-edges.result = search rules in
    let N : to_z w64 (of_z w64 c.from-edges.result) ≡ e.edges = to_z-of_z w64 c.from-edges.result gn ∙ simp to_z-of_z at c.from-edges.ensures in
    let f : forward (across s e.dx e.dy) (upward s e.dx e.dy) ≡ true = (λ i. forward (sym P i) (sym Q i)) ∙ sym c.forward.ensures ∙ c.if-forward.true in
    let fx : SFits w32 c.args.self.x = search rules in
    let fy : SFits w32 c.args.self.y = search rules in
    let gx : SFits w64 c.moved-x.result.0 = search rules in
    let gy : SFits w64 c.moved-x.result.1 = search rules in
    let X = to_z-of_z w64 c.moved-x.result.0 gx ∙ simp to_z-of_z at c.moved-x.ensures.across in
    let Y = to_z-of_z w64 c.moved-x.result.1 gy ∙ simp to_z-of_z at c.moved-x.ensures.up in
    c.fitted.ensures ∙ (λ i. segment (X i) (Y i) (P i) (Q i) (N i)) ∙ sym (cond-true (forward (across s e.dx e.dy) (upward s e.dx e.dy)) _ _ f)

pub returns-else-forward : goal.returns-else-forward
returns-else-forward c =
    let e = c.args.self in
    let s = (index c.args.p.turn) in
    let l = below_eight c.args.p.turn in
    let fdx : SFits w32 c.args.self.dx = search rules in
    let fdy : SFits w32 c.args.self.dy = search rules in
    let g0 : SFits w64 c.turned-dx.result.0 = search rules in
    let g1 : SFits w64 c.turned-dx.result.1 = search rules in
    let P : to_z w64 (of_z w64 c.turned-dx.result.0) ≡ across s e.dx e.dy = to_z-of_z w64 c.turned-dx.result.0 g0 ∙ simp to_z-of_z at c.turned-dx.ensures.across ∙ ap (λ (t : Turn). across (index t) e.dx e.dy) c.turn.ensures in
    let Q : to_z w64 (of_z w64 c.turned-dx.result.1) ≡ upward s e.dx e.dy = to_z-of_z w64 c.turned-dx.result.1 g1 ∙ simp to_z-of_z at c.turned-dx.ensures.upward ∙ ap (λ (t : Turn). upward (index t) e.dx e.dy) c.turn.ensures in
    let z = turned_sizes 4000 e.dx e.dy (size_dx e) (size_dy e) s l in
    let fn : SFits w32 c.args.self.edges = search rules in
    let gn : SFits w64 c.from-edges.result = search rules in
    let N : to_z w64 (of_z w64 c.from-edges.result) ≡ e.edges = to_z-of_z w64 c.from-edges.result gn ∙ simp to_z-of_z at c.from-edges.ensures in
    let f : forward (across s e.dx e.dy) (upward s e.dx e.dy) ≡ false = (λ i. forward (sym P i) (sym Q i)) ∙ sym c.forward.ensures ∙ c.if-forward.false in
    let NP : to_z w64 (of_z w64 (pos 0 -ℤ to_z w64 (of_z w64 c.turned-dx.result.0))) ≡ neg_ℤ (across s e.dx e.dy) = to_z-of_z w64 _ (back_fits (across s e.dx e.dy) _ z.0 P) ∙ back (across s e.dx e.dy) _ P in
    let NQ : to_z w64 (of_z w64 (pos 0 -ℤ to_z w64 (of_z w64 c.turned-dx.result.1))) ≡ neg_ℤ (upward s e.dx e.dy) = to_z-of_z w64 _ (back_fits (upward s e.dx e.dy) _ z.1 Q) ∙ back (upward s e.dx e.dy) _ Q in
    let fx : SFits w32 c.upper-upper_x.result.0 = search rules in
    let fy : SFits w32 c.upper-upper_x.result.1 = search rules in
    let gx : SFits w64 c.moved-x-else-forward.result.0 = search rules in
    let gy : SFits w64 c.moved-x-else-forward.result.1 = search rules in
    let U = c.upper-upper_x.ensures.across in
    let V = c.upper-upper_x.ensures.up in
    let X = to_z-of_z w64 c.moved-x-else-forward.result.0 gx ∙ simp to_z-of_z at c.moved-x-else-forward.ensures.across ∙ (λ i. across s (U i) (V i) +ℤ c.args.p.across) in
    let Y = to_z-of_z w64 c.moved-x-else-forward.result.1 gy ∙ simp to_z-of_z at c.moved-x-else-forward.ensures.up ∙ (λ i. upward s (U i) (V i) +ℤ c.args.p.up) in
    c.fitted-else-forward.ensures ∙ (λ i. segment (X i) (Y i) (NP i) (NQ i) (N i)) ∙ sym (cond-false (forward (across s e.dx e.dy) (upward s e.dx e.dy)) _ _ f)
