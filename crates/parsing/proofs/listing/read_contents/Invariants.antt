use Rattle.std.proofs.Common.{◌≡◌, ◌+◌, ◌++◌, length}
use Rattle.notation.specs.Contents.{entry_lines, entries, Proper}
use Rattle.reading.specs.Readers.{rest}
use Rattle.parsing.proofs.listing.read_contents.Given as goal

abbrev pub invariant-loop-reader : goal.invariant-loop-reader
invariant-loop-reader l =
    Proper l.contents × (rest l.initial.reader ≡ entry_lines (entries l.contents) ++ rest l.reader)
    × (l.reader.line ≡ l.initial.reader.line + length (entries l.contents))

abbrev pub decreases-loop-reader : goal.decreases-loop-reader
decreases-loop-reader l = length (rest l.reader)
