-- Commands as text: a word and its numbers, with one space before each number.
use Rattle.std.specs.Prelude.{ℕ, List, [], ◌∷◌, ◌++◌, map, ℤ}
use Rattle.std.specs.Fmt.{signed_decimal}
use Rattle.notation.specs.Words.{spaced}

abbrev pub command : List ℕ → List ℤ → List ℕ
command word zs = spaced (word ∷ map signed_decimal zs)

-- with the byte 10 at its end
abbrev pub command_line : List ℕ → List ℤ → List ℕ
command_line word zs = command word zs ++ (10 ∷ [])
