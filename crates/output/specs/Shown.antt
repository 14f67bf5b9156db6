-- What writing a whole text into a buffer answers.
use Rattle.std.specs.Prelude.{◌≡◌, ℕ, ◌<◌, ◌≤◌, List, ◌++◌, length, drop, Ok, Err, Result}
use Rattle.lattice.specs.Refusals.{number}
use Rattle.lattice.specs.declared.refusal.Refusal.{Refusal}

-- the text stands in front and the rest of the buffer is as it was; or the text is longer than the buffer, which is as it was
abbrev pub Shown : List ℕ → List ℕ → List ℕ → Result ℕ Refusal → Type 0
Shown text before after (Ok n) = (n ≡ length text) × (n ≤ length before) × (after ≡ text ++ drop n before)
Shown text before after (Err e) = (number e ≡ 20) × (length before < length text) × (after ≡ before)
