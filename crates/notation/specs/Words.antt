-- Words of a line: separated by one byte 32, with none before the first and none after the last.
use Rattle.std.specs.Prelude.{◌≡◌, ℕ, ◌<◌, false, List, [], ◌∷◌, ◌++◌, length, ◌==◌}
use Rattle.std.specs.List.{AllByRecursion}

-- words with one space between each two
abbrev pub spaced : List (List ℕ) → List ℕ
spaced [] = []
spaced (w ∷ []) = w
spaced (w ∷ v ∷ ws) = w ++ (32 ∷ spaced (v ∷ ws))

-- a field: some bytes, none of them a space
pub record Field (bs : List ℕ) : Type 0 where
  pub some : 0 < length bs
  pub solid : AllByRecursion (λ b. (b == 32) ≡ false) bs

-- the bytes are these fields, one space between each two
pub record Splits (bs : List ℕ) (fs : List (List ℕ)) : Type 0 where
  pub text : bs ≡ spaced fs
  pub fields : AllByRecursion Field fs
