use Rattle.std.proofs.Common.{◌≡◌, ◌≤◌, true, false, ℤ, pos, ◌+ℤ◌, ◌*ℤ◌, nat_abs, sym, refl, ap, ◌∙◌, arith, w32, w64, SFits, rules}
use lib.Signed.{le_z, lt_z}
use Rattle.std.proofs.lemmas.Int.{ints, to_z-of_z}
use Rattle.std.proofs.lemmas.Bool.{both_ways}
use Rattle.lattice.specs.Field.{ranged}
use Rattle.lattice.proofs.Bounds.{ranged_size}
use Rattle.segments.specs.Fitting.{segment_is, segment_none}
use Rattle.segments.proofs.segment.images.fitted.Goals as goal

narrow : (z : ℤ) → nat_abs z ≤ 10000 → SFits w32 z
narrow z h = omega (arith, ints)

up_to : (z : ℤ) → nat_abs z ≤ 4000 → nat_abs z ≤ 10000
up_to z h = omega arith

ranged_narrow : (z : ℤ) → ranged z ≡ true → SFits w32 z
ranged_narrow z h = let s = ranged_size z h in omega (arith, ints)

not_some : (n : ℤ) → le_z n (pos 0) ≡ true → lt_z (pos 0) n ≡ true → ⊥
not_some n h k = omega (arith, ints)

some_of : (n : ℤ) → le_z n (pos 0) ≡ false → lt_z (pos 0) n ≡ true
some_of n h = grind (arith, ints)

pub returns-then-edges-le0 : goal.returns-then-edges-le0
returns-then-edges-le0 c =
    let f : SFits w64 c.args.edges = search rules in
    let h = simp to_z-of_z at c.if-edges-le0.true in
    sym (segment_none c.args.x c.args.y c.args.dx c.args.dy c.args.edges (λ p. not_some c.args.edges h p.some))

pub returns-then-not-in_field : goal.returns-then-not-in_field
returns-then-not-in_field c =
    let f : SFits w64 c.args.x = search rules in
    let h = simp to_z-of_z at c.in_field.ensures in
    sym (segment_none c.args.x c.args.y c.args.dx c.args.dy c.args.edges (λ p. both_ways _ (sym h ∙ c.if-not-in_field.true) p.left))

pub returns-then-not-in_field-2 : goal.returns-then-not-in_field-2
returns-then-not-in_field-2 c =
    let f : SFits w64 c.args.y = search rules in
    let h = simp to_z-of_z at c.in_field-2.ensures in
    sym (segment_none c.args.x c.args.y c.args.dx c.args.dy c.args.edges (λ p. both_ways _ (sym h ∙ c.if-not-in_field-2.true) p.low))

pub onward-requires : goal.onward-requires
onward-requires c =
    let fx : SFits w64 c.args.x = search rules in
    let fy : SFits w64 c.args.y = search rules in
    let fdx : SFits w64 c.args.dx = search rules in
    let fdy : SFits w64 c.args.dy = search rules in
    let fn : SFits w64 c.args.edges = search rules in
    let x : ranged c.args.x ≡ true = sym (simp to_z-of_z at c.in_field.ensures) ∙ c.if-not-in_field.false in
    simp to_z-of_z (record { from = x; step = c.requires.wide; steps = c.requires.long })

pub returns-then-not-in_field-3 : goal.returns-then-not-in_field-3
returns-then-not-in_field-3 c =
    let fx : SFits w64 c.args.x = search rules in
    let fy : SFits w64 c.args.y = search rules in
    let fdx : SFits w64 c.args.dx = search rules in
    let fdy : SFits w64 c.args.dy = search rules in
    let fn : SFits w64 c.args.edges = search rules in
    let ox : SFits w64 c.onward.result = search rules in
    let ex : c.onward.result ≡ c.args.x +ℤ c.args.edges *ℤ c.args.dx = simp to_z-of_z at c.onward.ensures in
    let h : c.in_field-3.result ≡ ranged (c.args.x +ℤ c.args.edges *ℤ c.args.dx) = simp to_z-of_z at c.in_field-3.ensures ∙ ap ranged ex in
    sym (segment_none c.args.x c.args.y c.args.dx c.args.dy c.args.edges (λ p. both_ways _ (sym h ∙ c.if-not-in_field-3.true) p.right))

pub onward-requires-2 : goal.onward-requires-2
onward-requires-2 c =
    let fx : SFits w64 c.args.x = search rules in
    let fy : SFits w64 c.args.y = search rules in
    let fdx : SFits w64 c.args.dx = search rules in
    let fdy : SFits w64 c.args.dy = search rules in
    let fn : SFits w64 c.args.edges = search rules in
    let y : ranged c.args.y ≡ true = sym (simp to_z-of_z at c.in_field-2.ensures) ∙ c.if-not-in_field-2.false in
    simp to_z-of_z (record { from = y; step = c.requires.tall; steps = c.requires.long })

pub returns-then-not-in_field-4 : goal.returns-then-not-in_field-4
returns-then-not-in_field-4 c =
    let fx : SFits w64 c.args.x = search rules in
    let fy : SFits w64 c.args.y = search rules in
    let fdx : SFits w64 c.args.dx = search rules in
    let fdy : SFits w64 c.args.dy = search rules in
    let fn : SFits w64 c.args.edges = search rules in
    let oy : SFits w64 c.onward-2.result = search rules in
    let ey : c.onward-2.result ≡ c.args.y +ℤ c.args.edges *ℤ c.args.dy = simp to_z-of_z at c.onward-2.ensures in
    let h : c.in_field-4.result ≡ ranged (c.args.y +ℤ c.args.edges *ℤ c.args.dy) = simp to_z-of_z at c.in_field-4.ensures ∙ ap ranged ey in
    sym (segment_none c.args.x c.args.y c.args.dx c.args.dy c.args.edges (λ p. both_ways _ (sym h ∙ c.if-not-in_field-4.true) p.high))

pub overflow_cast-result : goal.overflow_cast-result
overflow_cast-result c =
    let fx : SFits w64 c.args.x = search rules in
    let fy : SFits w64 c.args.y = search rules in
    let fdx : SFits w64 c.args.dx = search rules in
    let fdy : SFits w64 c.args.dy = search rules in
    let fn : SFits w64 c.args.edges = search rules in
    let x : ranged c.args.x ≡ true = sym (simp to_z-of_z at c.in_field.ensures) ∙ c.if-not-in_field.false in
    simp to_z-of_z (ranged_narrow c.args.x x)

pub overflow_cast-result-2 : goal.overflow_cast-result-2
overflow_cast-result-2 c =
    let fx : SFits w64 c.args.x = search rules in
    let fy : SFits w64 c.args.y = search rules in
    let fdx : SFits w64 c.args.dx = search rules in
    let fdy : SFits w64 c.args.dy = search rules in
    let fn : SFits w64 c.args.edges = search rules in
    let y : ranged c.args.y ≡ true = sym (simp to_z-of_z at c.in_field-2.ensures) ∙ c.if-not-in_field-2.false in
    simp to_z-of_z (ranged_narrow c.args.y y)

pub invariant_of-result : goal.invariant_of-result
invariant_of-result c =
    let fx : SFits w64 c.args.x = search rules in
    let fy : SFits w64 c.args.y = search rules in
    let fdx : SFits w64 c.args.dx = search rules in
    let fdy : SFits w64 c.args.dy = search rules in
    let fn : SFits w64 c.args.edges = search rules in
    let x : ranged c.args.x ≡ true = sym (simp to_z-of_z at c.in_field.ensures) ∙ c.if-not-in_field.false in
    let y : ranged c.args.y ≡ true = sym (simp to_z-of_z at c.in_field-2.ensures) ∙ c.if-not-in_field-2.false in
    let ox : SFits w64 c.onward.result = search rules in
    let ex : c.onward.result ≡ c.args.x +ℤ c.args.edges *ℤ c.args.dx = simp to_z-of_z at c.onward.ensures in
    let oy : SFits w64 c.onward-2.result = search rules in
    let ey : c.onward-2.result ≡ c.args.y +ℤ c.args.edges *ℤ c.args.dy = simp to_z-of_z at c.onward-2.ensures in
    let r : ranged (c.args.x +ℤ c.args.edges *ℤ c.args.dx) ≡ true = ap ranged (sym ex) ∙ sym (simp to_z-of_z at c.in_field-3.ensures) ∙ c.if-not-in_field-3.false in
    let h : ranged (c.args.y +ℤ c.args.edges *ℤ c.args.dy) ≡ true = ap ranged (sym ey) ∙ sym (simp to_z-of_z at c.in_field-4.ensures) ∙ c.if-not-in_field-4.false in
    let gx = ranged_narrow c.args.x x in
    let gy = ranged_narrow c.args.y y in
    let gdx = narrow c.args.dx (up_to c.args.dx c.requires.wide) in
    let gdy = narrow c.args.dy (up_to c.args.dy c.requires.tall) in
    let gn = narrow c.args.edges c.requires.long in
    let n = some_of c.args.edges (simp to_z-of_z at c.if-edges-le0.false) in
    simp to_z-of_z (record { proper = c.requires.way; some = n; left = x; low = y; right = r; high = h })

pub returns : goal.returns
returns c =
    let fx : SFits w64 c.args.x = search rules in
    let fy : SFits w64 c.args.y = search rules in
    let fdx : SFits w64 c.args.dx = search rules in
    let fdy : SFits w64 c.args.dy = search rules in
    let fn : SFits w64 c.args.edges = search rules in
    let x : ranged c.args.x ≡ true = sym (simp to_z-of_z at c.in_field.ensures) ∙ c.if-not-in_field.false in
    let y : ranged c.args.y ≡ true = sym (simp to_z-of_z at c.in_field-2.ensures) ∙ c.if-not-in_field-2.false in
    let gx = ranged_narrow c.args.x x in
    let gy = ranged_narrow c.args.y y in
    let gdx = narrow c.args.dx (up_to c.args.dx c.requires.wide) in
    let gdy = narrow c.args.dy (up_to c.args.dy c.requires.tall) in
    let gn = narrow c.args.edges c.requires.long in
    sym (segment_is c.args.x c.args.y c.args.dx c.args.dy c.args.edges _ (record { left = simp to_z-of_z refl; low = simp to_z-of_z refl; across = simp to_z-of_z refl; up = simp to_z-of_z refl; edges = simp to_z-of_z refl }))

pub overflow_cast-result-3 : goal.overflow_cast-result-3
overflow_cast-result-3 c =
    let f : SFits w64 c.args.dx = search rules in
    simp to_z-of_z (narrow c.args.dx (up_to c.args.dx c.requires.wide))

pub overflow_cast-result-4 : goal.overflow_cast-result-4
overflow_cast-result-4 c =
    let f : SFits w64 c.args.dy = search rules in
    simp to_z-of_z (narrow c.args.dy (up_to c.args.dy c.requires.tall))

pub overflow_cast-result-5 : goal.overflow_cast-result-5
overflow_cast-result-5 c =
    let f : SFits w64 c.args.edges = search rules in
    simp to_z-of_z (narrow c.args.edges c.requires.long)
