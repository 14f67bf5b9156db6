use Rattle.std.proofs.Common.{ℤ, sym, ap, ◌∙◌, to_z-of_z}
use Rattle.grammar.specs.Numbers.{nth, ordinal}
use Rattle.rulebook.specs.Rulebooks.{rules_of}
use Rattle.drawing.proofs.Asked.{seeks_marks, seeks_cuts, barred_empty, found_by}
use Rattle.drawing.proofs.drawing.Drawing.sought.Goals as goal

pub returns-then-scene-gt0 : goal.returns-then-scene-gt0
returns-then-scene-gt0 g c =
    let e = ap (λ (z : ℤ). nth (rules_of c.args.self.now.book.now) (ordinal z)) (sym (to_z-of_z c.ranges.rule)) in
    let f = found_by g.M.Kind.model g.C.Kind.model g.met.M.Kind.rules g.met.C.Kind.rules c.args.self.now _ c.find.result c.in_ok-found.found c.in_ok-found.ensures.value c.find.ensures in
    seeks_marks g.M.Kind.model g.C.Kind.model g.met.M.Kind.rules g.met.C.Kind.rules c.args.self.now (ordinal c.args.rule) c.in_ok-found.found c.scene-scene.result (e ∙ f) c.scene-scene.ensures c.if-scene-gt0.true

pub returns-then-scene-gt0-2 : goal.returns-then-scene-gt0-2
returns-then-scene-gt0-2 g c =
    let e = ap (λ (z : ℤ). nth (rules_of c.args.self.now.book.now) (ordinal z)) (sym (to_z-of_z c.ranges.rule)) in
    let f = found_by g.M.Kind.model g.C.Kind.model g.met.M.Kind.rules g.met.C.Kind.rules c.args.self.now _ c.find.result c.in_ok-found.found c.in_ok-found.ensures.value c.find.ensures in
    seeks_cuts g.M.Kind.model g.C.Kind.model g.met.M.Kind.rules g.met.C.Kind.rules c.args.self.now (ordinal c.args.rule) c.in_ok-found.found c.scene-scene.result (e ∙ f) c.scene-scene.ensures c.if-scene-gt0-2.true

pub returns : goal.returns
returns g c =
    let e = ap (λ (z : ℤ). nth (rules_of c.args.self.now.book.now) (ordinal z)) (sym (to_z-of_z c.ranges.rule)) in
    let f = found_by g.M.Kind.model g.C.Kind.model g.met.M.Kind.rules g.met.C.Kind.rules c.args.self.now _ c.find.result c.in_ok-found.found c.in_ok-found.ensures.value c.find.ensures in
    barred_empty g.M.Kind.model g.C.Kind.model g.met.M.Kind.rules g.met.C.Kind.rules c.args.self.now (ordinal c.args.rule) c.in_ok-found.found c.scene-scene.result (e ∙ f) c.scene-scene.ensures c.if-scene-gt0.false c.if-scene-gt0-2.false
