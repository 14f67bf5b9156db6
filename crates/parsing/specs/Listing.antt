-- What reading the contents of a file answers.
use Rattle.std.specs.Prelude.{◌≡◌, ℕ, ◌+◌, ◌-◌, ◌<◌, true, false, ◌⊎◌, List, [], ◌∷◌, ◌++◌, length, Ok, Err, Result}
use Rattle.lattice.specs.Refusals.{number}
use Rattle.notation.specs.Contents.{entry_text, ShortEntry, entry_lines, entries, Proper, may_follow}
use Rattle.notation.specs.Lines.{first_line, is_ended}
use Rattle.notation.specs.declared.contents.Contents.{Contents}
use Rattle.notation.specs.declared.contents.Entry.{Entry}
use Rattle.notation.specs.declared.contents.Stage.TheVariants as stage
use Rattle.notation.specs.declared.refused.Refused.{Refused}
use Rattle.reading.specs.Readers.{rest}
use Rattle.reading.specs.declared.line.Line.{Line}
use Rattle.reading.specs.declared.reader.Reader.{Reader}

-- no entry that may come next has this text
abbrev pub Breaks : Contents → List ℕ → Type 0
Breaks c text = (e : Entry) → ShortEntry e → text ≡ entry_text e → may_follow c.stage c.count e ≡ false

-- a line that a byte 10 ends went on the contents, or one with that byte breaks their form
abbrev pub EntryTaken : Contents → Contents → Line → Result (Unit {0}) Refused → Type 0
EntryTaken c d l (Ok _) =
    (l.ended ≡ true) × (e : Entry) × ShortEntry e × (l.text.now ≡ entry_text e) × (Proper c → (entries d ≡ entries c ++ (e ∷ [])) × Proper d)
EntryTaken c d l (Err e) = (number e.refusal ≡ 2) × (e.line ≡ l.number) × (l.ended ≡ true → Breaks c l.text.now)

-- the bytes are the lines of whole contents, and then the rest
pub record Whole (bytes : List ℕ) (c : Contents) (rest : List ℕ) : Type 0 where
  pub whole : c.stage ≡ stage.Whole
  pub proper : Proper c
  pub text : bytes ≡ entry_lines (entries c) ++ rest

-- the bytes, which begin in the file's line `first`, break the form of contents: behind the entries of contents that
-- are not whole comes no line, or one that no byte 10 ends, or one that may not come next
pub record Broken (bytes : List ℕ) (first : ℕ) (e : Refused) : Type 0 where
  pub number : number e.refusal ≡ 2
  pub contents : Contents
  pub proper : Proper contents
  pub partial : contents.stage ≡ stage.Whole → ⊥
  pub tail : List ℕ
  pub text : bytes ≡ entry_lines (entries contents) ++ tail
  pub fault :
      ((length tail ≡ 0) × (e.line ≡ first + length (entries contents) - 1))
      ⊎ ((0 < length tail) × (e.line ≡ first + length (entries contents)) × (is_ended tail ≡ true → Breaks contents (first_line tail)))

abbrev pub ContentsRead : Reader → Reader → Result Contents Refused → Type 0
ContentsRead r t (Ok c) = Whole (rest r) c (rest t) × (t.line ≡ r.line + length (entries c))
ContentsRead r t (Err e) = Broken (rest r) r.line e
