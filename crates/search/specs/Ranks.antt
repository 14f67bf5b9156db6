-- A number for each three numbers within the reach of placements, which rises from one place to the next: the turn, from -1 on,
-- and the two shifts, each one of 8001 from -4000 on, as three digits. 64016001 is 8001 times 8001.
use Rattle.std.specs.Prelude.{ℕ, ◌+◌, ◌*◌, pos, ◌+ℤ◌, unsigned_abs}
use Rattle.lattice.specs.Order.{Triple}

unfoldable pub rank : Triple → ℕ
rank t = unsigned_abs (t.turn +ℤ pos 1) * 64016001 + unsigned_abs (t.across +ℤ pos 4000) * 8001 + unsigned_abs (t.up +ℤ pos 4000)
