use Rattle.std.proofs.Common.{◌≡◌, List, ◌++◌, length, take, refl, ap, ◌∙◌, arith}
use Rattle.std.proofs.lemmas.List.{take_at, length-append, length-drop}
use Rattle.sheets.specs.Cover.{canonical}
use Rattle.sheets.proofs.sheet.Sheet.copy_from.Goals as goal

copied : {X : Type 0} (xs ys rest ws : List X) → ys ≡ xs → xs ≡ ws → take (length xs) (ys ++ rest) ≡ ws
copied xs ys rest ws e f = ap (λ z. take (length xs) (z ++ rest)) e ∙ take_at xs rest (length xs) refl ∙ f

pub returns : goal.returns
returns g c =
    let m = g.K.Kind.model in
    let e = ap length c.copy_from_slice.ensures.after in
    let l = c.if-n-self.false in
    let items = copied c.elements-xs.result.now c.copy_from_slice.new.self _ _ c.copy_from_slice.ensures.after c.elements-xs.ensures.value in
    record {
      cases = record {
        items = items;
        sound = λ s o. let f = s.few in record { ordered = ap (canonical m) items ∙ o.ordered; few = simp (length-append, length-drop) (omega arith) };
        room = simp (length-append, length-drop) (omega arith);
      };
      lender = refl;
    }
