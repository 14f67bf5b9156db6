-- The numbers of a list, counted from 1.
use Rattle.std.specs.Prelude.{ℕ, zero, suc, List, [], ◌∷◌, ℤ, pos, negsuc, Some, None, Option}

-- what has number k
abbrev pub nth : {X : Type 0} → List X → ℕ → Option X
nth [] k = None
nth (x ∷ xs) zero = None
nth (x ∷ xs) (suc zero) = Some x
nth (x ∷ xs) (suc (suc k)) = nth xs (suc k)

-- a number as it is called for; below 1 it is 0, which nothing has
abbrev pub ordinal : ℤ → ℕ
ordinal (pos k) = k
ordinal (negsuc k) = 0
