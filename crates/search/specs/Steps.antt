-- What a search shows of the part that it has gone through.
use Rattle.std.specs.Prelude.{◌≡◌, ℕ, true, ◌⊎◌, List, [], ℤ, Some, None, Option}
use Rattle.lattice.specs.declared.placement.Placement.{Placement}
use Rattle.lattice.specs.Order.{Triple, read, triple, Before, Earlier}
use Rattle.kinds.specs.Model.{KindModel, moved}
use Rattle.sheets.specs.Cover.{cover}
use Rattle.grammar.specs.Places.{LeastOf}
use Rattle.lattice.specs.Turns.{index}

-- three numbers, read as a turn, a shift across and a shift up
abbrev pub bound : ℤ × ℤ × ℤ → Triple
bound t = read t.0 t.1 t.2

-- o, if there is one, comes after t
abbrev pub After : Triple → Option Placement → Type 0
After t None = Unit {0}
After t (Some p) = Before t (triple p)

-- q comes before what was best so far, if anything was
abbrev pub Beats : Placement → Option Placement → Type 0
Beats q None = Unit {0}
Beats q (Some b) = Earlier q b

-- what was best so far is q or comes before it
abbrev pub Beaten : Placement → Option Placement → Type 0
Beaten q None = ⊥
Beaten q (Some b) = (b ≡ q) ⊎ Earlier b q

-- r is the best after q was tried too; F says whether q is good
abbrev pub Tried : Triple → Option Placement → Placement → Type 0 → Option Placement → Type 0
Tried t best q F r = ((r ≡ Some q) × F × Before t (triple q) × Beats q best) ⊎ ((r ≡ best) × (F → Before t (triple q) → Beaten q best))

-- p is good, and takes the atom to where P holds
pub record Lands {E A C : Type 0} (m : KindModel E A C) (F : Placement → Type 0) (from : A) (P : A → Type 0) (p : Placement) : Type 0 where
  pub good : F p
  pub lands : P (moved m p from)

-- the same, of one turn
abbrev pub Turned : {E A C : Type 0} (m : KindModel E A C) (F : Placement → Type 0) (from : A) (P : A → Type 0) → ℕ → Placement → Type 0
Turned m F from P turn p = ((index p.turn) ≡ turn) × Lands m F from P p

-- r is the first after t of those that P holds of and of the best so far
abbrev pub Improves : (Placement → Type 0) → Triple → Option Placement → Option Placement → Type 0
Improves P t best r = After t best → LeastOf (λ p. P p ⊎ (best ≡ Some p)) t r

-- an atom of the elements, unless there is no element
abbrev pub FirstAtom : {E A C : Type 0} (m : KindModel E A C) → List E → Option A → Type 0
FirstAtom m xs None = xs ≡ []
FirstAtom m xs (Some a) = cover m xs a ≡ true
