-- What a scene's left side and drawing cover, and which placements put the one on the other.
use Rattle.std.specs.Prelude.{◌≡◌, true, List}
use Rattle.lattice.specs.declared.placement.Placement.{Placement}
use Rattle.search.specs.declared.scene.Scene.{Scene}
use Rattle.kinds.specs.Model.{KindModel, covers, moved}
use Rattle.sheets.specs.Cover.{cover, canonical}
use Rattle.grammar.specs.Places.{Numbered}
use Rattle.grammar.specs.Sets.{Sets}

module _ {E A C : Type 0} (m : KindModel E A C) where
  -- p takes every atom of the element to an atom of the list
  abbrev pub OneOnto : E → List E → Placement → Type 0
  OneOnto e drawn p = (a : A) → covers m e a ≡ true → cover m drawn (moved m p a) ≡ true

  -- p takes every atom of the first list to an atom of the second
  abbrev pub Onto : List E → List E → Placement → Type 0
  Onto left drawn p = (a : A) → cover m left a ≡ true → cover m drawn (moved m p a) ≡ true

module _ {EM AM CM EC Ac CC : Type 0} (M : KindModel EM AM CM) (C : KindModel EC Ac CC) where
  -- what the left side covers, and what the drawing does
  abbrev pub sought : Scene EM EC → Sets AM Ac
  sought s = record { marks = cover M s.left_marks.now; cuts = cover C s.left_cuts.now }

  abbrev pub drawn : Scene EM EC → Sets AM Ac
  drawn s = record { marks = cover M s.marks.now; cuts = cover C s.cuts.now }

  -- the drawing's sheets are in order
  pub record Canonical (s : Scene EM EC) : Type 0 where
    pub marks : canonical M s.marks.now ≡ true
    pub cuts : canonical C s.cuts.now ≡ true

  -- p puts the left side on the drawing
  pub record Fits (s : Scene EM EC) (p : Placement) : Type 0 where
    pub marks : Onto M s.left_marks.now s.marks.now p
    pub cuts : Onto C s.left_cuts.now s.cuts.now p

  -- ps is the list of the places of the left side on the drawing
  pub record Listed (s : Scene EM EC) (ps : List Placement) : Type 0 where
    pub sorted : Canonical s
    pub numbered : Numbered M C (sought s) (drawn s) ps
