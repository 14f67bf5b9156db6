-- What a line of a body is: the command whose text it is, or its fault. The faults rank 4, 5, 6, 7, and each is told of
-- the whole line: that it has not the form of a command, that a field of it is no number, that a number is out of range,
-- that the ends of a segment are equal.
use Rattle.std.specs.Prelude.{◌≡◌, ℕ, Bool, true, false, ◌&&◌, ◌⊎◌, List, [], ◌∷◌, ◌++◌, length, ℤ, Ok, Err, codes, Result, ◌≢◌}
use Rattle.std.specs.List.{AllByRecursion}
use Rattle.lattice.specs.Field.{ranged}
use Rattle.lattice.specs.Refusals.{number}
use Rattle.lattice.specs.declared.refusal.Refusal.{Refusal}
use Rattle.elements.specs.Inks.{inks}
use Rattle.elements.specs.declared.ink.Ink.{Ink}
use Rattle.elements.specs.declared.point.Point.{Point}
use Rattle.segments.specs.declared.segment.Segment.{Segment}
use Rattle.notation.specs.Commands.{command}
use Rattle.notation.specs.Numbers.{Short}
use Rattle.notation.specs.Words.{spaced, Field}
use Rattle.rulebook.specs.declared.stroke.Stroke.{Stroke}
use Rattle.rulebook.specs.declared.stroke.Stroke.TheVariants.{Mark, Cut}
use Rattle.commands.specs.Texts.{mark_text, cut_text, cut_text_back, pick_text}
use Rattle.commands.specs.declared.SideLine.{SideLine}
use Rattle.commands.specs.declared.SideLine.TheVariants.{Left, Right}
use Rattle.commands.specs.declared.StepLine.{StepLine}
use Rattle.commands.specs.declared.StepLine.TheVariants as step

-- the line is the word and so many fields behind it
pub record Formed (word : List ℕ) (n : ℕ) (line : List ℕ) : Type 0 where
  pub fields : List (List ℕ)
  pub many : length fields ≡ n
  pub each : AllByRecursion Field fields
  pub text : line ≡ spaced (word ∷ fields)

-- the line is the word and so many numbers behind it
pub record Numeric (word : List ℕ) (n : ℕ) (line : List ℕ) : Type 0 where
  pub numbers : List ℤ
  pub many : length numbers ≡ n
  pub each : AllByRecursion Short numbers
  pub text : line ≡ command word numbers

-- the numbers of a mark or of a cut are in range: the first an ink, the others coordinates
abbrev pub all_ranged : List ℤ → Bool
all_ranged [] = true
all_ranged (z ∷ zs) = ranged z && all_ranged zs

abbrev pub in_range : List ℤ → Bool
in_range [] = true
in_range (i ∷ zs) = inks i && all_ranged zs

-- the line has the form of a stroke, and its fields are numbers
abbrev pub StrokeFormed : List ℕ → Type 0
StrokeFormed line = Formed (codes "mark") 3 line ⊎ Formed (codes "cut") 5 line

abbrev pub StrokeNumeric : List ℕ → Type 0
StrokeNumeric line = Numeric (codes "mark") 3 line ⊎ Numeric (codes "cut") 5 line

abbrev pub OutOfRange : List ℕ → Type 0
OutOfRange line =
    ((m : Numeric (codes "mark") 3 line) × (in_range m.numbers ≡ false))
    ⊎ ((m : Numeric (codes "cut") 5 line) × (in_range m.numbers ≡ false))

abbrev pub EndsEqual : List ℕ → Type 0
EndsEqual line = (i x y : ℤ) × (line ≡ command (codes "cut") (i ∷ x ∷ y ∷ x ∷ y ∷ [])) × (in_range (i ∷ x ∷ y ∷ x ∷ y ∷ []) ≡ true)

abbrev pub StrokeFault : List ℕ → ℕ → Type 0
StrokeFault line n =
    ((n ≡ 4) × (StrokeFormed line → ⊥))
    ⊎ ((n ≡ 5) × StrokeFormed line × (StrokeNumeric line → ⊥))
    ⊎ ((n ≡ 6) × OutOfRange line)
    ⊎ ((n ≡ 7) × EndsEqual line)

-- a stroke, as a line of the start
abbrev pub StrokeIs : List ℕ → Result (Stroke (Ink Point) (Ink Segment)) Refusal → Type 0
StrokeIs line (Ok (Mark m)) = line ≡ mark_text m
StrokeIs line (Ok (Cut c)) = (line ≡ cut_text c) ⊎ (line ≡ cut_text_back c)
StrokeIs line (Err e) = StrokeFault line (number e)

-- a side and a stroke, as a line of a rule
abbrev pub SideIs : List ℕ → Result SideLine Refusal → Type 0
SideIs line (Ok (Left s)) = (rest : List ℕ) × (line ≡ codes "left " ++ rest) × StrokeIs rest (Ok s)
SideIs line (Ok (Right s)) = (rest : List ℕ) × (line ≡ codes "right " ++ rest) × StrokeIs rest (Ok s)
SideIs line (Err e) =
    ((rest : List ℕ) × ((line ≡ codes "left " ++ rest) ⊎ (line ≡ codes "right " ++ rest)) × StrokeFault rest (number e))
    ⊎ ((number e ≡ 4) × ((rest : List ℕ) → line ≢ codes "left " ++ rest) × ((rest : List ℕ) → line ≢ codes "right " ++ rest))

-- a line of the steps
abbrev pub StepIs : List ℕ → Result StepLine Refusal → Type 0
StepIs line (Ok (step.Pick p)) = (line ≡ pick_text p) × Short p.rule × Short p.place
StepIs line (Ok step.Undo) = line ≡ codes "undo"
StepIs line (Err e) =
    ((number e ≡ 4) × (line ≢ codes "undo") × (Formed (codes "pick") 2 line → ⊥))
    ⊎ ((number e ≡ 5) × Formed (codes "pick") 2 line × (Numeric (codes "pick") 2 line → ⊥))
