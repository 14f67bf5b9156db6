-- The number of each refusal, which is also its rank: where several hold, the lowest is given.
use Rattle.std.specs.Prelude.{ℕ}
use Rattle.lattice.specs.declared.refusal.Refusal.{Refusal}
use Rattle.lattice.specs.declared.refusal.Refusal.TheVariants.{NotAGrammar, BadContents, BadLengths, BadLine, BadNumber, OutOfRange, EqualEnds, RulebookFull, NoRuleYet, BadTables, StepRecorded, NoStep, NoSuchRule, EmptyLeft, NoSuchPlace, LeavesField, StepsFull, NoRoom, SheetFull, BufferFull}

abbrev pub number : Refusal → ℕ
number NotAGrammar = 1
number BadContents = 2
number BadLengths = 3
number BadLine = 4
number BadNumber = 5
number OutOfRange = 6
number EqualEnds = 7
number RulebookFull = 8
number NoRuleYet = 9
number BadTables = 10
number StepRecorded = 11
number NoStep = 12
number NoSuchRule = 13
number EmptyLeft = 14
number NoSuchPlace = 15
number LeavesField = 16
number StepsFull = 17
number NoRoom = 18
number SheetFull = 19
number BufferFull = 20
