-- The numbers of places on a drawing, and when two drawings have the same.
use Rattle.std.specs.Prelude.{◌≡◌, ℕ, ◌<◌, false, List, Some}
use Rattle.lattice.specs.declared.placement.Placement.{Placement}
use Rattle.lattice.specs.Order.{Earlier}
use Rattle.kinds.specs.Model.{KindModel}
use Rattle.grammar.specs.Calls.{Call, Answer, is_refused, Asks}
use Rattle.grammar.specs.Moves.{Tells, Moves}
use Rattle.grammar.specs.Numbers.{nth}
use Rattle.grammar.specs.Places.{Place, Numbered, Listed}
use Rattle.grammar.specs.Rules.{Rule, side}
use Rattle.grammar.specs.State.{Setting, State, covered}

module _ {EM AM CM EC Ac CC : Type 0} (M : KindModel EM AM CM) (C : KindModel EC Ac CC) where
  -- the places of each rule on d, and their numbers
  pub record PlacesNumbered (t : Setting EM EC) (d : State EM EC) : Type 0 where
    -- each rule has its list
    pub list : (r : ℕ) (rule : Rule EM EC) → nth t.rules r ≡ Some rule → (ps : List Placement) × Numbered M C (side M C rule.left) (covered M C d) ps
    -- each place has exactly one number
    pub one : (r : ℕ) (l : Listed M C t.rules (covered M C d) r) (p : Placement) → Place M C (side M C l.rule.left) (covered M C d) p → (k : ℕ) × (nth l.places k ≡ Some p) × ((j : ℕ) → nth l.places j ≡ Some p → j ≡ k)
    -- nothing else is numbered
    pub only : (r : ℕ) (l : Listed M C t.rules (covered M C d) r) (k : ℕ) (p : Placement) → nth l.places k ≡ Some p → Place M C (side M C l.rule.left) (covered M C d) p
    -- a greater number stands for a later placement
    pub rise : (r : ℕ) (l : Listed M C t.rules (covered M C d) r) (j k : ℕ) (p q : Placement) → nth l.places j ≡ Some p → nth l.places k ≡ Some q → j < k → Earlier p q
    -- a call that asks for places and is accepted gives the answer of the list
    pub tells : (r : ℕ) (l : Listed M C t.rules (covered M C d) r) (c : Call EM EC) (a : Answer) (d' : State EM EC) → Asks c r → Moves M C t d c a d' → is_refused a ≡ false → Tells l.places c a

  -- the sheets, the lists of places and the answers of two drawings are the same
  pub record SameNumbers (t u : Setting EM EC) (d e : State EM EC) : Type 0 where
    pub marks : d.marks ≡ e.marks
    pub cuts : d.cuts ≡ e.cuts
    pub places : (r : ℕ) (l : Listed M C t.rules (covered M C d) r) (k : Listed M C u.rules (covered M C e) r) → l.places ≡ k.places
    pub answers : (r : ℕ) (c : Call EM EC) (a b : Answer) (d' e' : State EM EC) → Asks c r → Moves M C t d c a d' → Moves M C u e c b e' → a ≡ b
