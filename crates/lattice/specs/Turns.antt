-- The eight turns: the index of each, and where the turn of an index takes the point (x, y). Of numbers past the eighth the
-- images say nothing.
use Rattle.std.specs.Prelude.{ℕ, List, [], ◌∷◌, ℤ, neg_ℤ, slice_index_or}
use Rattle.lattice.specs.declared.turn.Turn.{Turn}
use Rattle.lattice.specs.declared.turn.Turn.TheVariants.{Whole, Quarter, Half, ThreeQuarters, Mirrored, MirroredQuarter, MirroredHalf, MirroredThreeQuarters}

abbrev pub index : Turn → ℕ
index Whole = 0
index Quarter = 1
index Half = 2
index ThreeQuarters = 3
index Mirrored = 4
index MirroredQuarter = 5
index MirroredHalf = 6
index MirroredThreeQuarters = 7

-- all eight, each at its index
abbrev pub turns : List Turn
turns = Whole ∷ Quarter ∷ Half ∷ ThreeQuarters ∷ Mirrored ∷ MirroredQuarter ∷ MirroredHalf ∷ MirroredThreeQuarters ∷ []

-- the turn of an index; past the eighth the last
abbrev pub turn_at : ℕ → Turn
turn_at s = slice_index_or turns s MirroredThreeQuarters

-- across, one entry for each turn
unfoldable pub across : ℕ → ℤ → ℤ → ℤ
across s x y = slice_index_or (x ∷ neg_ℤ y ∷ neg_ℤ x ∷ y ∷ neg_ℤ x ∷ neg_ℤ y ∷ x ∷ y ∷ []) s x

-- and up
unfoldable pub upward : ℕ → ℤ → ℤ → ℤ
upward s x y = slice_index_or (y ∷ x ∷ neg_ℤ y ∷ neg_ℤ x ∷ y ∷ neg_ℤ x ∷ neg_ℤ y ∷ x ∷ []) s y
