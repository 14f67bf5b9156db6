-- The first place of the first turn that has one.
use Rattle.std.proofs.Common.{◌≡◌, ℕ, true, Some, subst}
use Rattle.lattice.proofs.Turning.{index_of}
use Rattle.sheets.specs.Cover.{cover}
use Rattle.grammar.specs.Places.{LeastOf}
use Rattle.search.specs.Scenes.{Fits}
use Rattle.search.specs.Steps.{bound, Lands, Turned}
use Rattle.search.proofs.Searched.{turn_found}
use Rattle.search.proofs.scene.Scene.first_of_all.Goals as goal

pub returns-in-Some-clause-least : goal.returns-in-Some-clause-least
returns-in-Some-clause-least g c = λ can ins.
    let F = Fits g.M.Kind.model g.C.Kind.model c.args.self.now in
    let P : g.row.K-Atom.Denot → Type 0 = λ a. cover g.K.Kind.model c.args.xs.now a ≡ true in
    let e = index_of c.loop-turn.turn-index _ c.loop-turn-test.true in
    let h = subst (λ (s : ℕ). LeastOf (Turned g.K.Kind.model F c.args.from P s) (bound c.args.after) (Some c.in-Some.p)) e (c.in-Some.ensures.least can ins) in
    turn_found (Lands g.K.Kind.model F c.args.from P) (bound c.args.after) c.loop-turn.turn-index (c.loop-turn.invariant can ins) c.in-Some.p h
