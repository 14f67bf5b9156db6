-- The search starts from an atom of the left side's marks, else of its cuts.
use Rattle.grammar.proofs.Landings.{covers_field}
use Rattle.search.specs.Steps.{bound}
use Rattle.search.proofs.Searched.{by_marks, by_cuts}
use Rattle.search.proofs.scene.Scene.next.Goals as goal

pub returns-in-Some : goal.returns-in-Some
returns-in-Some g c =
    let h = c.in-Some.ensures in
    let w = covers_field g.M.Kind.model g.met.M.Kind.rules c.args.self.now.left_marks.now c.in-Some.from h in
    record { least = λ can. by_marks g.M.Kind.model g.C.Kind.model c.args.self.now (bound c.args.after) _ c.in-Some.from h (c.first_of_all.ensures.least can w); later = c.first_of_all.ensures.later }

pub returns-in-Some-first_atom : goal.returns-in-Some-first_atom
returns-in-Some-first_atom g c =
    let h = c.in-Some-first_atom.ensures in
    let w = covers_field g.C.Kind.model g.met.C.Kind.rules c.args.self.now.left_cuts.now c.in-Some-first_atom.from h in
    record { least = λ can. by_cuts g.M.Kind.model g.C.Kind.model c.args.self.now (bound c.args.after) _ c.in-Some-first_atom.from h (c.first_of_all-in-Some-first_atom.ensures.least can w); later = c.first_of_all-in-Some-first_atom.ensures.later }
