use Rattle.std.proofs.Common.{refl, subst, arith}
use Rattle.std.proofs.lemmas.Grind.{common_steps}
use Rattle.sheets.specs.Contents.{items, covered}
use Rattle.sheets.specs.Maximal.{Exactly}
use Rattle.sheets.proofs.Unique.{exactly_maximal}
use Rattle.sheets.proofs.sheet.Sheet.elements.Goals as goal

pub returns-clause-maximal : goal.returns-clause-maximal
returns-clause-maximal g c =
    let m = g.K.Kind.model in
    let s = c.args.self.now in
    λ h. subst (Exactly m (covered m s)) (grind (arith, common_steps)) (exactly_maximal m g.met.K.Kind.rules (covered m s) (items s) (record { ordered = h.ordered; covering = λ a. refl }))
