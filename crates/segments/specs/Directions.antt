-- The directions of unit edges.
use Rattle.std.specs.Prelude.{Bool, ◌&&◌, ◌||◌, ℤ, pos, ◌==◌, int_le, int_lt, unsigned_abs}
use Rattle.numbers.specs.Gcd.{gcd}

-- to the right, or straight up: so from a lower end to an upper one
abbrev pub forward : ℤ → ℤ → Bool
forward dx dy = int_lt (pos 0) dx || (int_le (pos 0) dx && int_lt (pos 0) dy)

-- and with no lattice point on the way
abbrev pub direction : ℤ → ℤ → Bool
direction dx dy = forward dx dy && gcd (unsigned_abs dx) (unsigned_abs dy) == 1
