-- Rules: a left side that is looked for, and a right side that replaces it.
use Rattle.std.specs.Prelude.{◌≡◌, true, ◌⊎◌, List, [], ◌∷◌}
use Rattle.kinds.specs.Model.{KindModel}
use Rattle.sheets.specs.Cover.{cover}
use Rattle.grammar.specs.Sets.{Sets, SameCover}

-- the elements of one side of a rule
pub record Side (EM EC : Type 0) : Type 0 where
  pub marks : List EM
  pub cuts : List EC

pub record Rule (EM EC : Type 0) : Type 0 where
  pub left : Side EM EC
  pub right : Side EM EC

module _ {EM AM CM EC Ac CC : Type 0} (M : KindModel EM AM CM) (C : KindModel EC Ac CC) where
  -- what a side covers
  abbrev pub side : Side EM EC → Sets AM Ac
  side s = record { marks = cover M s.marks; cuts = cover C s.cuts }

  -- some atom is covered, so the side is not empty
  abbrev pub Filled : Sets AM Ac → Type 0
  Filled S = ((a : AM) × (S.marks a ≡ true)) ⊎ ((a : Ac) × (S.cuts a ≡ true))

  -- rule for rule, the sides cover the same
  abbrev pub Alike : List (Rule EM EC) → List (Rule EM EC) → Type 0
  Alike [] [] = Unit {0}
  Alike [] (q ∷ qs) = ⊥
  Alike (r ∷ rs) [] = ⊥
  Alike (r ∷ rs) (q ∷ qs) = SameCover (side r.left) (side q.left) × SameCover (side r.right) (side q.right) × Alike rs qs
