-- What a stroke of the rulebook's form, carried out as a change by its element, is among the strokes of a drawing.
use Rattle.std.specs.Prelude.{◌≡◌, Bool}
use Rattle.kinds.specs.Model.{KindModel}
use Rattle.grammar.specs.Calls.{Stroke}
use Rattle.grammar.specs.Record.{stroked}
use Rattle.grammar.specs.Sets.{Sets}
use Rattle.rulebook.specs.declared.stroke.Stroke.{Stroke as Element}
use Rattle.rulebook.specs.declared.stroke.Stroke.TheVariants.{Mark, Cut}
use Rattle.drawing.specs.Changes.{changed}

module _ {EM AM CM EC Ac CC : Type 0} (M : KindModel EM AM CM) (C : KindModel EC Ac CC) where
  -- the stroke changes the sheet of the element's kind by the element, and leaves the other
  abbrev pub Strikes : (Bool → Bool → Bool) → Element EM EC → Stroke EM EC → Type 0
  Strikes op (Mark e) st = (S : Sets AM Ac) → stroked M C S st ≡ record { marks = changed M op e S.marks; cuts = S.cuts }
  Strikes op (Cut e) st = (S : Sets AM Ac) → stroked M C S st ≡ record { marks = S.marks; cuts = changed C op e S.cuts }
