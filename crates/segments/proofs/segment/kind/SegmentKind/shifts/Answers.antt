use Rattle.std.proofs.Common.{◌≡◌, true, false, ℤ, ◌-ℤ◌, sym, ap, ◌∙◌, arith, w32, w64, SFits, to_z, of_z, rules}
use Rattle.std.proofs.lemmas.Int.{ints, to_z-of_z}
use Rattle.lattice.specs.Field.{ranged}
use Rattle.lattice.proofs.Bounds.{ranged_parts}
use Rattle.lattice.proofs.Turning.{below_eight}
use Rattle.segments.specs.Directions.{forward}
use Rattle.segments.specs.Edges.{edge_field, ends_lie}
use Rattle.segments.specs.declared.segment.Edge.{Edge}
use Rattle.segments.specs.Images.{edge_ends}
use Rattle.segments.proofs.Shifting.{not_forward, not_across, not_up, shift_by}
use Rattle.segments.proofs.segment.kind.SegmentKind.shifts.Goals as goal
use Rattle.lattice.specs.Turns.{index}

fits : (a b : ℤ) → ranged a ≡ true → ranged b ≡ true → SFits w32 (a -ℤ b)
fits a b h k = let p = ranged_parts a h in let q = ranged_parts b k in omega (arith, ints)

same_bits : (a b : ℤ) → SFits w32 a → SFits w32 b → of_z w32 a ≡ of_z w32 b → a ≡ b
same_bits a b f g h = omega (arith, ints)

pub returns-then-not-forward : goal.returns-then-not-forward
returns-then-not-forward c =
    let fx : SFits w32 c.args.from.dx = search rules in
    let fy : SFits w32 c.args.from.dy = search rules in
    let gx : SFits w64 c.from.result = search rules in
    let gy : SFits w64 c.from-2.result = search rules in
    let X = to_z-of_z w64 c.from.result gx ∙ simp to_z-of_z at c.from.ensures in
    let Y = to_z-of_z w64 c.from-2.result gy ∙ simp to_z-of_z at c.from-2.ensures in
    let f : forward c.args.from.dx c.args.from.dy ≡ false = (λ i. forward (sym X i) (sym Y i)) ∙ sym c.forward.ensures ∙ c.if-not-forward.true in
    not_forward (index c.args.turn) c.args.from c.args.to f

pub returns-then-image-to : goal.returns-then-image-to
returns-then-image-to c = not_across (index c.args.turn) c.args.from c.args.to (below_eight c.args.turn) (λ h. c.if-image-to.true (ap (of_z w32) (ap (λ (a : Edge). a.dx) c.turned-image.ensures.value ∙ h)))

pub returns-then-image-to-2 : goal.returns-then-image-to-2
returns-then-image-to-2 c = not_up (index c.args.turn) c.args.from c.args.to (below_eight c.args.turn) (λ h. c.if-image-to-2.true (ap (of_z w32) (ap (λ (a : Edge). a.dy) c.turned-image.ensures.value ∙ h)))

pub overflow_sub-result : goal.overflow_sub-result
overflow_sub-result c =
    let g : edge_field c.args.to ≡ true = sym c.lies.ensures ∙ c.if-not-lies.false in
    let t = edge_ends c.args.to g in
    let fa : SFits w32 c.args.to.x = search rules in
    let fb : SFits w32 c.turned-image.result.x = search rules in
    simp to_z-of_z (fits c.args.to.x c.turned-image.result.x t.left c.turned-image.ensures.left)

pub overflow_sub-result-2 : goal.overflow_sub-result-2
overflow_sub-result-2 c =
    let g : edge_field c.args.to ≡ true = sym c.lies.ensures ∙ c.if-not-lies.false in
    let t = edge_ends c.args.to g in
    let fa : SFits w32 c.args.to.x = search rules in
    let fb : SFits w32 c.turned-image.result.x = search rules in
    let fc : SFits w32 c.args.to.y = search rules in
    let fd : SFits w32 c.turned-image.result.y = search rules in
    simp to_z-of_z (fits c.args.to.y c.turned-image.result.y t.low c.turned-image.ensures.low)

pub returns : goal.returns
returns c =
    let fx : SFits w32 c.args.from.dx = search rules in
    let fy : SFits w32 c.args.from.dy = search rules in
    let gx : SFits w64 c.from.result = search rules in
    let gy : SFits w64 c.from-2.result = search rules in
    let X = to_z-of_z w64 c.from.result gx ∙ simp to_z-of_z at c.from.ensures in
    let Y = to_z-of_z w64 c.from-2.result gy ∙ simp to_z-of_z at c.from-2.ensures in
    let f : forward c.args.from.dx c.args.from.dy ≡ true = (λ i. forward (sym X i) (sym Y i)) ∙ sym c.forward.ensures ∙ c.if-not-forward.false in
    let g : edge_field c.args.to ≡ true = sym c.lies.ensures ∙ c.if-not-lies.false in
    let t = edge_ends c.args.to g in
    let fa : SFits w32 c.args.to.x = search rules in
    let fb : SFits w32 c.turned-image.result.x = search rules in
    let fc : SFits w32 c.args.to.y = search rules in
    let fd : SFits w32 c.turned-image.result.y = search rules in
    let fe : SFits w32 c.args.to.dx = search rules in
    let ff : SFits w32 c.turned-image.result.dx = search rules in
    let fg : SFits w32 c.args.to.dy = search rules in
    let fh : SFits w32 c.turned-image.result.dy = search rules in
    let v = c.turned-image.ensures.value in
    let h : ends_lie c.args.from ≡ true = sym c.ends_lie.ensures ∙ c.if-not-ends_lie.false in
    let DX = ap (λ (a : Edge). a.dx) (sym v) ∙ same_bits c.turned-image.result.dx c.args.to.dx ff fe c.if-image-to.false in
    let DY = ap (λ (a : Edge). a.dy) (sym v) ∙ same_bits c.turned-image.result.dy c.args.to.dy fh fg c.if-image-to-2.false in
    let U = ap (λ (z : ℤ). to_z w32 (of_z w32 z)) (λ i. to_z-of_z w32 c.args.to.x fa i -ℤ to_z-of_z w32 c.turned-image.result.x fb i) ∙ to_z-of_z w32 (c.args.to.x -ℤ c.turned-image.result.x) (fits c.args.to.x c.turned-image.result.x t.left c.turned-image.ensures.left) ∙ ap (λ (a : Edge). c.args.to.x -ℤ a.x) v in
    let V = ap (λ (z : ℤ). to_z w32 (of_z w32 z)) (λ i. to_z-of_z w32 c.args.to.y fc i -ℤ to_z-of_z w32 c.turned-image.result.y fd i) ∙ to_z-of_z w32 (c.args.to.y -ℤ c.turned-image.result.y) (fits c.args.to.y c.turned-image.result.y t.low c.turned-image.ensures.low) ∙ ap (λ (a : Edge). c.args.to.y -ℤ a.y) v in
    shift_by (index c.args.turn) c.args.from c.args.to _ _ (below_eight c.args.turn) h f DX DY g U V
