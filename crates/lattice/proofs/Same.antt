-- Turns, and placements, with the same numbers are the same.
use Rattle.std.proofs.Common.{◌≡◌, Bool, true, refl, sym, ap, ◌∙◌}
use mathlib.Core.HLevel.{hedberg, is_prop→PathP}
use mathlib.Core.Bool.{Bool-discrete}
use Rattle.lattice.specs.Field.{shifting}
use Rattle.lattice.specs.Turns.{index, turn_at}
use Rattle.lattice.specs.declared.placement.Placement.{Placement}
use Rattle.lattice.specs.declared.turn.Turn.{Turn}
use Rattle.lattice.specs.declared.turn.Turn.TheVariants.{Whole, Quarter, Half, ThreeQuarters, Mirrored, MirroredQuarter, MirroredHalf, MirroredThreeQuarters}

-- an equation of two tests has one proof
pub bools : IsSet Bool
bools = hedberg Bool-discrete

-- a turn is the one of its index
pub turn_back : (t : Turn) → turn_at (index t) ≡ t
turn_back = elim [ Whole ↦ refl | Quarter ↦ refl | Half ↦ refl | ThreeQuarters ↦ refl | Mirrored ↦ refl | MirroredQuarter ↦ refl | MirroredHalf ↦ refl | MirroredThreeQuarters ↦ refl ]

pub same_turn : (s t : Turn) → index s ≡ index t → s ≡ t
same_turn s t e = sym (turn_back s) ∙ ap turn_at e ∙ turn_back t

pub same_placement : (p q : Placement) → index p.turn ≡ index q.turn → p.across ≡ q.across → p.up ≡ q.up → p ≡ q
same_placement p q s a u =
    let t = same_turn p.turn q.turn s in
    λ i. record { turn = t i; across = a i; up = u i; sideways = is_prop→PathP (λ j. shifting (a j) ≡ true) (λ j. bools (shifting (a j)) true) p.sideways q.sideways i; upwards = is_prop→PathP (λ j. shifting (u j) ≡ true) (λ j. bools (shifting (u j)) true) p.upwards q.upwards i }
