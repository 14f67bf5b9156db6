-- The calls on a drawing with their arguments, and the answers that they can have.
use Rattle.std.specs.Prelude.{◌≡◌, ℕ, Bool, true, false, List, ℤ, Option}
use Rattle.lattice.specs.declared.placement.Placement.{Placement}
use Rattle.lattice.specs.Order.{Triple}
use Rattle.grammar.specs.Numbers.{ordinal}

-- one element drawn on a sheet, or rubbed out there
pub data Stroke (EM EC : Type 0) : Type 0 where
  draw_mark : EM → Stroke EM EC
  rub_mark : EM → Stroke EM EC
  draw_cut : EC → Stroke EM EC
  rub_cut : EC → Stroke EM EC

-- `pick` takes a rule's and a place's number, `next` a rule's number and any three numbers, and `list` a rule's number
-- and the buffer as it is handed over; rules and places are asked for by any whole number
pub data Call (EM EC : Type 0) : Type 0 where
  stroke : Stroke EM EC → Call EM EC
  pick : ℤ → ℤ → Call EM EC
  undo : Call EM EC
  count : ℤ → Call EM EC
  next : ℤ → Triple → Call EM EC
  list : ℤ → List Placement → Call EM EC

-- `refused` has the refusal's number, and `listed` how many places there are and the buffer as it is handed back
pub data Answer : Type 0 where
  refused : ℕ → Answer
  done : Answer
  counted : ℕ → Answer
  next_is : Option Placement → Answer
  listed : ℕ → List Placement → Answer

abbrev pub is_refused : Answer → Bool
is_refused (refused n) = true
is_refused done = false
is_refused (counted n) = false
is_refused (next_is o) = false
is_refused (listed n b) = false

-- a call with its answer
pub record Event (EM EC : Type 0) : Type 0 where
  pub call : Call EM EC
  pub answer : Answer

-- all that the record is given of an event: the call, and whether it was refused
pub record Seen (EM EC : Type 0) : Type 0 where
  pub call : Call EM EC
  pub refused : Bool

abbrev pub seen : {EM EC : Type 0} → Event EM EC → Seen EM EC
seen e = record { call = e.call; refused = is_refused e.answer }

-- the call asks about the places of rule r, and changes nothing
abbrev pub Asks : {EM EC : Type 0} → Call EM EC → ℕ → Type 0
Asks (stroke s) r = ⊥
Asks (pick q k) r = ⊥
Asks undo r = ⊥
Asks (count q) r = ordinal q ≡ r
Asks (next q t) r = ordinal q ≡ r
Asks (list q b) r = ordinal q ≡ r
