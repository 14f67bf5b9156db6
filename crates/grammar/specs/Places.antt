-- The places of a left side on what a drawing covers, and their numbers.
use Rattle.std.specs.Prelude.{◌≡◌, ℕ, ◌<◌, ◌≤◌, true, ◌⊎◌, List, Some, None, Option}
use Rattle.lattice.specs.declared.placement.Placement.{Placement}
use Rattle.lattice.specs.Order.{Triple, triple, Before, Earlier}
use Rattle.kinds.specs.Model.{KindModel, moved}
use Rattle.grammar.specs.Numbers.{nth}
use Rattle.grammar.specs.Rules.{Rule, side, Filled}
use Rattle.grammar.specs.Sets.{Sets}

-- o is the first, after t, of the placements of which P holds, or there is none
abbrev pub LeastOf : (Placement → Type 0) → Triple → Option Placement → Type 0
LeastOf P t None = (p : Placement) → P p → Before t (triple p) → ⊥
LeastOf P t (Some p) = P p × Before t (triple p) × ((q : Placement) → P q → Before t (triple q) → (p ≡ q) ⊎ Earlier p q)

module _ {EM AM CM EC Ac CC : Type 0} (M : KindModel EM AM CM) (C : KindModel EC Ac CC) where
  -- p is a place, on S, of a left side that covers L: it takes every atom of L to an atom of S on the same sheet.
  -- A side that covers nothing has no place.
  pub record Place (L S : Sets AM Ac) (p : Placement) : Type 0 where
    pub filled : Filled M C L
    pub marks : (a : AM) → L.marks a ≡ true → S.marks (moved M p a) ≡ true
    pub cuts : (a : Ac) → L.cuts a ≡ true → S.cuts (moved C p a) ≡ true

  -- ps is the list of the places: each place has a number, nothing else has one, and numbers rise in the order of placements
  pub record Numbered (L S : Sets AM Ac) (ps : List Placement) : Type 0 where
    pub each : (p : Placement) → Place L S p → (k : ℕ) × (nth ps k ≡ Some p)
    pub only : (k : ℕ) (p : Placement) → nth ps k ≡ Some p → Place L S p
    pub rise : (j k : ℕ) (p q : Placement) → nth ps j ≡ Some p → nth ps k ≡ Some q → j < k → Earlier p q

  -- rule r, with the list of its places on S
  pub record Listed (rules : List (Rule EM EC)) (S : Sets AM Ac) (r : ℕ) : Type 0 where
    pub rule : Rule EM EC
    pub named : nth rules r ≡ Some rule
    pub places : List Placement
    pub numbered : Numbered (side M C rule.left) S places

  -- o is the first place after t, said without a list
  abbrev pub Least : Sets AM Ac → Sets AM Ac → Triple → Option Placement → Type 0
  Least L S = LeastOf (Place L S)

-- o is the first of the list after t, or there is none
abbrev pub First : List Placement → Triple → Option Placement → Type 0
First ps t None = (k : ℕ) (p : Placement) → nth ps k ≡ Some p → Before t (triple p) → ⊥
First ps t (Some p) =
    (k : ℕ) × (nth ps k ≡ Some p) × Before t (triple p)
    × ((j : ℕ) (q : Placement) → nth ps j ≡ Some q → Before t (triple q) → k ≤ j)
