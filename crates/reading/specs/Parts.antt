-- Bytes up to the first one of a value.
use Rattle.std.specs.Prelude.{ℕ, true, false, cond, List, ◌==◌}
use Rattle.std.specs.List.{prefix_len}

-- how many bytes stand before the first k
abbrev pub length_before : ℕ → List ℕ → ℕ
length_before k bs = prefix_len (λ b. cond (b == k) false true) bs
