-- The order of placements: by turn, then by the shift across, then by the shift up.
use Rattle.std.specs.Prelude.{◌≡◌, ◌⊎◌, ℤ, pos, ◌<ℤ◌}
use Rattle.lattice.specs.Turns.{index}
use Rattle.lattice.specs.declared.placement.Placement.{Placement}

-- any three whole numbers, read as a turn, a shift across and a shift up
pub record Triple : Type 0 where
  pub turn : ℤ
  pub across : ℤ
  pub up : ℤ

abbrev pub read : ℤ → ℤ → ℤ → Triple
read turn across up = record { turn = turn; across = across; up = up }

abbrev pub triple : Placement → Triple
triple p = read (pos (index p.turn)) p.across p.up

-- a comes before b
abbrev pub Before : Triple → Triple → Type 0
Before a b =
    (a.turn <ℤ b.turn)
    ⊎ ((a.turn ≡ b.turn) × ((a.across <ℤ b.across) ⊎ ((a.across ≡ b.across) × (a.up <ℤ b.up))))

abbrev pub Earlier : Placement → Placement → Type 0
Earlier p q = Before (triple p) (triple q)
