-- The three numbers are read by one, so that each is shown to be in range.
use Rattle.std.proofs.Common.{refl, inl, inr, w32, SFits, rules}
use Rattle.std.proofs.lemmas.Bool.{both_ways}
use Rattle.std.proofs.lemmas.Int.{to_z-of_z}
use Rattle.search.proofs.scene.Scene.improved.Goals as goal

pub returns-then-not-after-clause-least : goal.returns-then-not-after-clause-least
returns-then-not-after-clause-least g c =
    let t : SFits w32 c.args.after.0 = search rules in
    let a : SFits w32 c.args.after.1 = search rules in
    let u : SFits w32 c.args.after.2 = search rules in
    let z = simp to_z-of_z at c.after.ensures in
    λ _. inr (refl, λ f b. absurd (both_ways c.after.result c.if-not-after.true (z.1 b)))

pub returns-then-fits-clause-least : goal.returns-then-fits-clause-least
returns-then-fits-clause-least g c =
    let t : SFits w32 c.args.after.0 = search rules in
    let a : SFits w32 c.args.after.1 = search rules in
    let u : SFits w32 c.args.after.2 = search rules in
    let z = simp to_z-of_z at c.after.ensures in
    λ k. inl (refl, (c.fits.ensures k).0 c.if-fits.true, z.0 c.if-not-after.false, c.beats.ensures.yes c.if-not-beats.false)

pub returns-then-fits-clause-later : goal.returns-then-fits-clause-later
returns-then-fits-clause-later g c =
    let t : SFits w32 c.args.after.0 = search rules in
    let a : SFits w32 c.args.after.1 = search rules in
    let u : SFits w32 c.args.after.2 = search rules in
    let z = simp to_z-of_z at c.after.ensures in
    λ _. z.0 c.if-not-after.false
