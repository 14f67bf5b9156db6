-- The greatest common divisor, by Euclid's division.
use Rattle.std.specs.Prelude.{ℕ, zero, suc, ◌%◌}

-- at most n steps of Euclid's division
abbrev pub euclid : ℕ → ℕ → ℕ → ℕ
euclid zero a b = a
euclid (suc n) a zero = a
euclid (suc n) a (suc b) = euclid n (suc b) (a % suc b)

unfoldable pub gcd : ℕ → ℕ → ℕ
gcd a b = euclid (suc b) a b
