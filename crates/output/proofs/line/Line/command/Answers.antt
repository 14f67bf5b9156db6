use Rattle.std.proofs.Common.{◌≡◌, [], ◌∷◌, ◌++◌, length, sym, ap, ◌∙◌, append_assoc, rules, SFits, w32, w64, arith, length-append}
use Rattle.std.specs.List.{flat_map}
use Rattle.std.proofs.lemmas.Int.{to_z-of_z}
use Rattle.std.proofs.lemmas.List.{nil_from_length}
use Rattle.output.proofs.Spacing.{field, spaced_is, field_length, fields_more}
use Rattle.output.proofs.line.Line.command.Goals as goal

pub field-requires : goal.field-requires
field-requires c =
    let fits : SFits w32 c.in-Some.number = search rules in
    let wide : SFits w64 c.from.result = search rules in
    let few = field_length c.in-Some.number fits in
    simp to_z-of_z (grind arith)

pub loop-number-preserved : goal.loop-number-preserved
loop-number-preserved c =
    let z = c.in-Some.field-0.now in
    let rest = c.next.new.self.iter.rest.now in
    let fits : SFits w32 z = search rules in
    let wide : SFits w64 c.from.result = search rules in
    let is : c.from.result ≡ z = search (rules, to_z-of_z) in
    let more : c.field.new.self ≡ field z ++ c.loop-number.self = rw is at (simp to_z-of_z at c.field.ensures) in
    let step = c.in-Some.ensures.steps in
    record {
      text = ap (λ line. flat_map field rest ++ line) more ∙ sym (fields_more rest z c.loop-number.self) ∙ ap (λ zs. flat_map field zs ++ c.loop-number.self) (sym step) ∙ c.loop-number.invariant.text;
      few = omega (arith, field_length z fits, ap length more, length-append (field z) c.loop-number.self, ap length step, length-append rest (z ∷ []), c.loop-number.invariant.few);
    }

pub returns : goal.returns
returns c =
    let text = rw (nil_from_length _ c.in-None.ensures.steps.0) at c.loop-number.invariant.text in
    c.put.ensures ∙ ap (λ line. c.args.word.now ++ line) text ∙ sym (append_assoc c.args.word.now _ _) ∙ ap (λ bs. bs ++ (10 ∷ [])) (sym (spaced_is c.args.word.now c.args.numbers.now))
