-- Lines one after another.
use Rattle.std.proofs.Common.{◌≡◌, ℕ, List, map, sym, ◌∙◌}
use Rattle.std.specs.List.{concat}
use Rattle.std.proofs.lemmas.List.Concat.{concat_is}
use Rattle.std.proofs.lemmas.List.Folds.{flat_map-map}
use Rattle.output.specs.Lines.{lines}

-- they are the joined list of them
pub lines_joined : {E : Type 0} (line : E → List ℕ) (xs : List E) → lines line xs ≡ concat (map line xs)
lines_joined line xs = sym (concat_is (map line xs) ∙ flat_map-map (λ y. y) line xs)
