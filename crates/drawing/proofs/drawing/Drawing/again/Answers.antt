use Rattle.std.proofs.Common.{ℤ, sym, ap, ◌∙◌, to_z-of_z, w32, SFits, rules}
use Rattle.grammar.specs.Numbers.{nth, ordinal}
use Rattle.rulebook.specs.Rulebooks.{rules_of}
use Rattle.drawing.proofs.Undoes.{redone_some, redone_none}
use Rattle.drawing.proofs.drawing.Drawing.again.Goals as goal

pub returns-in-Some : goal.returns-in-Some
returns-in-Some g c =
    let d = c.args.self.now in
    let f : SFits w32 c.args.step.rule = search rules in
    redone_some g.M.Kind.model g.C.Kind.model g.met.M.Kind.rules g.met.C.Kind.rules d c.turn.new.self c.args.step c.in-Some.found (ap (λ (z : ℤ). nth (rules_of d.book.now) (ordinal z)) (sym (to_z-of_z f)) ∙ c.in-Some.ensures) c.turn.ensures

pub returns-in_default : goal.returns-in_default
returns-in_default g c =
    let d = c.args.self.now in
    let f : SFits w32 c.args.step.rule = search rules in
    redone_none g.M.Kind.model g.C.Kind.model g.met.M.Kind.rules g.met.C.Kind.rules d c.args.step (ap (λ (z : ℤ). nth (rules_of d.book.now) (ordinal z)) (sym (to_z-of_z f)) ∙ c.in_default.ensures)
