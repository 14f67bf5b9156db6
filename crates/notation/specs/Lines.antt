-- Lines of a text: each runs up to its byte 10, and the last one may lack it.
use Rattle.std.specs.Prelude.{ℕ, ◌+◌, Bool, true, false, cond, List, length, take, drop, count_by, ◌==◌, nat_lt}
use Rattle.std.specs.List.{prefix_len}

abbrev pub ends_line : ℕ → Bool
ends_line b = b == 10

-- how many lines end in the bytes
abbrev pub newlines : List ℕ → ℕ
newlines bs = count_by ends_line bs

abbrev pub in_line : ℕ → Bool
in_line b = cond (b == 10) false true

-- how many bytes the first line has before its end
abbrev pub line_length : List ℕ → ℕ
line_length bs = prefix_len in_line bs

-- the first line without its byte 10, whether it has one, and the bytes after it
abbrev pub first_line : List ℕ → List ℕ
first_line bs = take (line_length bs) bs

abbrev pub is_ended : List ℕ → Bool
is_ended bs = nat_lt (line_length bs) (length bs)

abbrev pub after_line : List ℕ → List ℕ
after_line bs = drop (line_length bs + 1) bs
