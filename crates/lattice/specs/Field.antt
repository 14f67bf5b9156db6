-- The field, and the shifts that placements have.
use Rattle.std.specs.Prelude.{Bool, ◌&&◌, ℤ, pos, negsuc, int_le}

-- a coordinate of the field: from -2000 to 2000
abbrev pub ranged : ℤ → Bool
ranged z = int_le (negsuc 1999) z && int_le z (pos 2000)

-- a shift of a placement: from -4000 to 4000
abbrev pub shifting : ℤ → Bool
shifting z = int_le (negsuc 3999) z && int_le z (pos 4000)
