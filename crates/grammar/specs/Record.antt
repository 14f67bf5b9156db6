-- The plain record of a drawing: all strokes that were accepted, first to last, and the steps that still stand; and the
-- sets that these make. It is given rules, calls, and of each call whether it was refused; it is never given an answer.
use Rattle.std.specs.Prelude.{◌≡◌, ℕ, Bool, true, false, List, [], ◌∷◌, ◌++◌, Some, None, Option}
use Rattle.lattice.specs.declared.placement.Placement.{Placement}
use Rattle.kinds.specs.Model.{KindModel}
use Rattle.sheets.specs.Cover.{union, difference, cover}
use Rattle.grammar.specs.Calls.{Stroke, draw_mark, rub_mark, draw_cut, rub_cut, Call, stroke, pick, undo, count, next, list, Seen}
use Rattle.grammar.specs.Numbers.{nth, ordinal}
use Rattle.grammar.specs.Places.{Listed}
use Rattle.grammar.specs.Rules.{Rule}
use Rattle.grammar.specs.Sets.{placed, Sets, empty}

-- the rule with this number was applied at this place
pub record Step : Type 0 where
  pub rule : ℕ
  pub at : Placement

pub record Record (EM EC : Type 0) : Type 0 where
  pub strokes : List (Stroke EM EC)
  pub steps : List Step

abbrev pub blank : {EM EC : Type 0} → Record EM EC
blank = record { strokes = []; steps = [] }

module _ {EM AM CM EC Ac CC : Type 0} (M : KindModel EM AM CM) (C : KindModel EC Ac CC) where
  -- a stroke puts the element's atoms on, or takes them off
  abbrev pub stroked : Sets AM Ac → Stroke EM EC → Sets AM Ac
  stroked S (draw_mark e) = record { marks = union S.marks (cover M (e ∷ [])); cuts = S.cuts }
  stroked S (rub_mark e) = record { marks = difference S.marks (cover M (e ∷ [])); cuts = S.cuts }
  stroked S (draw_cut e) = record { marks = S.marks; cuts = union S.cuts (cover C (e ∷ [])) }
  stroked S (rub_cut e) = record { marks = S.marks; cuts = difference S.cuts (cover C (e ∷ [])) }

  -- a step takes the placed left side off, and then puts the placed right side on
  abbrev pub replaced : Placement → Rule EM EC → Sets AM Ac → Sets AM Ac
  replaced p rule S = record {
    marks = union (difference S.marks (placed M p rule.left.marks)) (placed M p rule.right.marks);
    cuts = union (difference S.cuts (placed C p rule.left.cuts)) (placed C p rule.right.cuts);
  }

  abbrev pub replaced_by : Placement → Option (Rule EM EC) → Sets AM Ac → Sets AM Ac
  replaced_by p None S = S
  replaced_by p (Some rule) S = replaced p rule S

  -- stroke by stroke, and step by step
  abbrev pub drawn : Sets AM Ac → List (Stroke EM EC) → Sets AM Ac
  drawn S [] = S
  drawn S (s ∷ ss) = drawn (stroked S s) ss

  abbrev pub stepped : List (Rule EM EC) → Sets AM Ac → List Step → Sets AM Ac
  stepped rules S [] = S
  stepped rules S (x ∷ xs) = stepped rules (replaced_by x.at (nth rules x.rule) S) xs

  -- what a record covers, made from empty
  abbrev pub sets : List (Rule EM EC) → Record EM EC → Sets AM Ac
  sets rules b = stepped rules (drawn empty b.strokes) b.steps

  -- an accepted call takes the record b to b': `pick` adds its rule with the place that has the number on the record's own
  -- sets, and `undo` strikes the last step
  abbrev pub Accepted : List (Rule EM EC) → Record EM EC → Call EM EC → Record EM EC → Type 0
  Accepted rules b (stroke s) b' = b' ≡ record { strokes = b.strokes ++ s ∷ []; steps = b.steps }
  Accepted rules b (pick r k) b' =
      (l : Listed M C rules (sets rules b) (ordinal r)) × (p : Placement) × (nth l.places (ordinal k) ≡ Some p)
      × (b' ≡ record { strokes = b.strokes; steps = b.steps ++ record { rule = ordinal r; at = p } ∷ [] })
  Accepted rules b undo b' =
      (x : Step) × (b.steps ≡ b'.steps ++ x ∷ []) × (b'.strokes ≡ b.strokes)
  Accepted rules b (count r) b' = b' ≡ b
  Accepted rules b (next r t) b' = b' ≡ b
  Accepted rules b (list r buffer) b' = b' ≡ b

  -- a refused call changes nothing
  abbrev pub Entered : List (Rule EM EC) → Record EM EC → Call EM EC → Bool → Record EM EC → Type 0
  Entered rules b c true b' = b' ≡ b
  Entered rules b c false b' = Accepted rules b c b'

  -- the record b, fed what was seen, first to last, becomes b'
  abbrev pub Fed : List (Rule EM EC) → Record EM EC → List (Seen EM EC) → Record EM EC → Type 0
  Fed rules b [] b' = b' ≡ b
  Fed rules b (x ∷ xs) b' = (m : Record EM EC) × Entered rules b x.call x.refused m × Fed rules m xs b'
