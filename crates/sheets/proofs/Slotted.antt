-- A sum on slots is the sum of the sheet over them.
use Rattle.std.proofs.Common.{◌≡◌, List, ap, ◌∙◌}
use Rattle.lattice.specs.declared.refusal.Refusal.{Refusal}
use Rattle.kinds.specs.Model.{KindModel, covers}
use Rattle.sheets.specs.Contents.{covered, Refused}
use Rattle.sheets.specs.Cover.{union}
use Rattle.sheets.specs.Slots.{SlotsStayed}
use Rattle.sheets.specs.declared.sheet.Sheet.{Sheet}

module _ {E A C : Type 0} (m : KindModel E A C) where
  pub slots_stayed : (e : E) (why : Refusal) (s t : Sheet E) (after : List E) → after ≡ t.slots.now → Refused m (union (covered m s) (covers m e)) s t why → SlotsStayed m s.count e why s.slots.now after
  slots_stayed e why s t after h r = record {
    number = r.number;
    same = h ∙ ap (λ (u : Sheet E). u.slots.now) r.same;
    full = λ ordered few. r.full (record { ordered = ordered; few = few });
  }
