-- What a reader has before it, and what it takes.
use Rattle.std.specs.Prelude.{◌≡◌, ℕ, ◌+◌, ◌-◌, ◌<◌, cond, List, length, take, drop, Some, None, Option}
use Rattle.notation.specs.Lines.{newlines, first_line, is_ended, after_line}
use Rattle.reading.specs.declared.line.Line.{Line}
use Rattle.reading.specs.declared.reader.Reader.{Reader}

-- the bytes that are still to be read
abbrev pub rest : Reader → List ℕ
rest r = drop r.at r.text.now

-- a reader at the start of the stretch of the file from `from` up to `to`, or of as much of it as the file has
pub record Opens (file : List ℕ) (from to : ℕ) (r : Reader) : Type 0 where
  pub stretch : rest r ≡ take (to - from) (drop from file)
  pub line : r.line ≡ 1 + newlines (take from file)

-- the line l was taken: r stood before it, and t stands after it
pub record Takes (r t : Reader) (l : Line) : Type 0 where
  pub some : 0 < length (rest r)
  pub text : l.text.now ≡ first_line (rest r)
  pub ended : l.ended ≡ is_ended (rest r)
  pub number : l.number ≡ r.line
  pub after : rest t ≡ after_line (rest r)
  pub line : t.line ≡ r.line + cond (is_ended (rest r)) 1 0

-- what `next_line` answers: the next line, or none exactly at the end of the text
abbrev pub NextLine : Reader → Reader → Option Line → Type 0
NextLine r t (Some l) = Takes r t l
NextLine r t None = (length (rest r) ≡ 0) × (t ≡ r)
