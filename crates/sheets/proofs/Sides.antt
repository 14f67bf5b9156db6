-- Two elements, of which one contains the other, and what one leaves of the other.
use Rattle.std.proofs.Common.{◌≡◌, Bool, ℤ, Some, None, Decides, Option, subst, ⊎_elim, arith}
use Rattle.std.specs.Int.{int_max, int_min}
use Rattle.std.proofs.lemmas.Int.{ints}
use Rattle.kinds.specs.Model.{KindModel, covers}
use Rattle.kinds.specs.Rules.{Rules}
use Rattle.kinds.specs.Answers.{Parts}
use Rattle.kinds.proofs.Numbers.{cases_lt_z}
use Rattle.kinds.proofs.Having.{Contains, contains_covers}
use Rattle.kinds.proofs.Standing.{nonempty, contains_from}
use Rattle.kinds.proofs.Stretching.{slice_carrier, slice_start, slice_end}
use Rattle.sheets.specs.Maximal.{Part}
use Rattle.sheets.specs.Finding.{LeftPart, RightPart}

module _ {E A C : Type 0} (m : KindModel E A C) (r : Rules m) where
  pub part_decides : (x e : E) (t : Bool) → Decides t (Contains m x e) → Decides t (Part (covers m e) (covers m x))
  part_decides x e t d = (λ h. contains_covers m r.ordered x e (d.0 h), λ h. d.1 (contains_from m r x e h))

  pub left_is : (e x : E) (o : Option E) → Parts m x (m.start x) (int_min (m.end x) (m.start e)) o → LeftPart m e x o
  left_is e x None h =
      let n = nonempty m r x in
      ⊎_elim (λ l. absurd (h (record { low = omega (arith, ints); some = grind (arith, ints); high = grind (arith, ints) }))) (λ l. l) (cases_lt_z (m.start x) (m.start e))
  left_is e x (Some p) h = record { on = slice_carrier m r x p _ _ h.0 h.1; from = slice_start m r x p _ _ h.0 h.1; to = slice_end m r x p _ _ h.0 h.1 }

  pub right_is : (e x : E) (o : Option E) → Parts m x (int_max (m.start x) (m.end e)) (m.end x) o → RightPart m e x o
  right_is e x None h =
      let n = nonempty m r x in
      ⊎_elim (λ l. absurd (h (record { low = grind (arith, ints); some = grind (arith, ints); high = omega (arith, ints) }))) (λ l. l) (cases_lt_z (m.end e) (m.end x))
  right_is e x (Some p) h = record { on = slice_carrier m r x p _ _ h.0 h.1; from = slice_start m r x p _ _ h.0 h.1; to = slice_end m r x p _ _ h.0 h.1 }

  pub part_at : (x : E) (o : Option E) (from to f t : ℤ) → from ≡ f → to ≡ t → Parts m x from to o → Parts m x f t o
  part_at x o from to f t p q h = subst (λ z. Parts m x f z o) q (subst (λ z. Parts m x z to o) p h)
