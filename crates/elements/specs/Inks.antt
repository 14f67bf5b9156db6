-- Ink over any kind: everything is as without ink, and ink stands before it. So elements of different ink have
-- different carriers, and a placement leaves ink as it is.
use Rattle.std.specs.Prelude.{◌≡◌, ℕ, Bool, true, false, ◌&&◌, ℤ, pos, Some, None, Ok, Err, Option, Result, int_le}
use Rattle.std.specs.declared.cmp.Ordering.{Ordering}
use Rattle.std.specs.Ordering.{ordering_then}
use Rattle.lattice.specs.Compare.{ordering}
use Rattle.lattice.specs.Refusals.{number}
use Rattle.lattice.specs.declared.refusal.Refusal.{Refusal}
use Rattle.kinds.specs.Model.{KindModel}
use Rattle.elements.specs.declared.ink.Ink.{Ink}

abbrev pub inked : {C : Type 0} → ℕ → C → Ink C
inked n c = record { ink = n; under = c }

-- an element with ink on it, if there is an element
abbrev pub with_ink : {E : Type 0} → ℕ → Option E → Option (Ink E)
with_ink n None = None
with_ink n (Some e) = Some (record { ink = n; under = e })

-- by ink first
abbrev pub ink_order : {C : Type 0} → (C → C → Ordering) → Ink C → Ink C → Ordering
ink_order below a b = ordering_then (ordering (pos a.ink) (pos b.ink)) (below a.under b.under)

abbrev pub ink_model : {E A C : Type 0} → KindModel E A C → KindModel (Ink E) (Ink A) (Ink C)
ink_model m = record {
  carrier = λ e. inked e.ink (m.carrier e.under);
  start = λ e. m.start e.under;
  end = λ e. m.end e.under;
  order = ink_order m.order;
  proper = λ a. m.proper a.under;
  on = λ a. inked a.ink (m.on a.under);
  at = λ a. m.at a.under;
  field = λ a. m.field a.under;
  image = λ s u v a. inked a.ink (m.image s u v a.under);
  place = λ p e. with_ink e.ink (m.place p e.under);
}

-- inks are numbered from 0 to 255
abbrev pub inks : ℤ → Bool
inks n = int_le (pos 0) n && int_le n (pos 255)

-- what a number and an element give: the element with that ink, or the refusal 6 exactly if there is no such ink
abbrev pub InkMade : {E : Type 0} → ℤ → E → Result (Ink E) Refusal → Type 0
InkMade n e (Ok f) = (inks n ≡ true) × (pos f.ink ≡ n) × (f.under ≡ e)
InkMade n e (Err r) = (inks n ≡ false) × (number r ≡ 6)
