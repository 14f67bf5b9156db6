-- The tests of the field and of shifts, as bounds.
use Rattle.std.proofs.Common.{◌≡◌, ◌≤◌, true, ℤ, pos, negsuc, ◌+ℤ◌, nat_abs, ◌≤ℤ◌, arith}
use lib.Signed.{le_z}
use Rattle.std.proofs.lemmas.Int.{ints}
use Rattle.std.proofs.lemmas.Bool.{and_parts, and_from}
use Rattle.numbers.proofs.Tested.{le_test}
use Rattle.lattice.specs.Field.{ranged, shifting}

pub ranged_parts : (z : ℤ) → ranged z ≡ true → (negsuc 1999 ≤ℤ z) × (z ≤ℤ pos 2000)
ranged_parts z h = let p = and_parts (le_z (negsuc 1999) z) (le_z z (pos 2000)) h in (omega (arith, ints), omega (arith, ints))

pub ranged_from : (z : ℤ) → negsuc 1999 ≤ℤ z → z ≤ℤ pos 2000 → ranged z ≡ true
ranged_from z h k = and_from (le_z (negsuc 1999) z) (le_z z (pos 2000)) (le_test (negsuc 1999) z h) (le_test z (pos 2000) k)

pub ranged_size : (z : ℤ) → ranged z ≡ true → nat_abs z ≤ 2000
ranged_size z h = let p = ranged_parts z h in omega (arith, ints)

pub size_ranged : (z : ℤ) → nat_abs z ≤ 2000 → ranged z ≡ true
size_ranged z h = ranged_from z (omega (arith, ints)) (omega (arith, ints))

pub shifting_parts : (z : ℤ) → shifting z ≡ true → (negsuc 3999 ≤ℤ z) × (z ≤ℤ pos 4000)
shifting_parts z h = let p = and_parts (le_z (negsuc 3999) z) (le_z z (pos 4000)) h in (omega (arith, ints), omega (arith, ints))

pub shifting_from : (z : ℤ) → negsuc 3999 ≤ℤ z → z ≤ℤ pos 4000 → shifting z ≡ true
shifting_from z h k = and_from (le_z (negsuc 3999) z) (le_z z (pos 4000)) (le_test (negsuc 3999) z h) (le_test z (pos 4000) k)

-- from one coordinate of the field to another
pub shift_within : (a u : ℤ) → ranged a ≡ true → ranged (a +ℤ u) ≡ true → (negsuc 3999 ≤ℤ u) × (u ≤ℤ pos 4000)
shift_within a u h k = let p = ranged_parts a h in let q = ranged_parts (a +ℤ u) k in (omega (arith, ints), omega (arith, ints))
