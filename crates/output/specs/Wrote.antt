-- What a buffer holds after bytes were written into it from a place up to another: they stand there, and all else is
-- as it was.
use Rattle.std.specs.Prelude.{◌≡◌, ℕ, List, ◌++◌, take, drop}

abbrev pub Wrote : ℕ → ℕ → List ℕ → List ℕ → List ℕ → Type 0
Wrote at end bytes before after = after ≡ take at before ++ (bytes ++ drop end before)
