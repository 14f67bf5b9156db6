-- How large the numbers of segments get.
use Rattle.std.proofs.Common.{◌≡◌, ℕ, ◌*◌, ◌≤◌, true, ℤ, pos, ◌+ℤ◌, ◌*ℤ◌, nat_abs, ◌<ℤ◌, sym, subst, mul-le-mul, arith}
use Rattle.std.proofs.lemmas.Int.{ints}
use Rattle.numbers.proofs.Floors.{size_times}
use Rattle.lattice.specs.Field.{ranged}
use Rattle.lattice.proofs.Bounds.{shift_within}
use Rattle.segments.specs.declared.segment.Segment.{Segment}

pub size_product : (a b : ℤ) (n m : ℕ) → nat_abs a ≤ n → nat_abs b ≤ m → nat_abs (a *ℤ b) ≤ n * m
size_product a b n m h k = subst (λ (z : ℕ). z ≤ n * m) (sym (size_times a b)) (mul-le-mul h k)

-- a factor of a product is no larger than the product, unless the other factor is 0
pub size_factor : (n d : ℤ) (m : ℕ) → pos 0 <ℤ n → nat_abs (n *ℤ d) ≤ m → nat_abs d ≤ m
size_factor n d m h k =
    let p : nat_abs n * nat_abs d ≤ m = subst (λ (z : ℕ). z ≤ m) (size_times n d) k in
    let q : 1 * nat_abs d ≤ nat_abs n * nat_abs d = mul-le-mul (omega (arith, ints)) (omega arith) in
    omega arith

pub size_way : (z p : ℤ) → ranged z ≡ true → ranged (z +ℤ p) ≡ true → nat_abs p ≤ 4000
size_way z p h k = let s = shift_within z p h k in omega (arith, ints)

pub size_dx : (e : Segment) → nat_abs e.dx ≤ 4000
size_dx e = size_factor e.edges e.dx 4000 (omega (arith, ints, e.some)) (size_way e.x (e.edges *ℤ e.dx) e.left e.right)

pub size_dy : (e : Segment) → nat_abs e.dy ≤ 4000
size_dy e = size_factor e.edges e.dy 4000 (omega (arith, ints, e.some)) (size_way e.y (e.edges *ℤ e.dy) e.low e.high)
