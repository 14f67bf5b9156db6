use Rattle.std.proofs.Common.{◌≡◌, ℕ, List, length, sym, refl, ap, ◌∙◌, ltb, arith}
use Rattle.notation.specs.Lines.{line_length}
use Rattle.reading.proofs.Counting.{count_next, end_within}
use Rattle.reading.proofs.reader.Reader.next_line.Goals as goal

pub invariant_of-self : goal.invariant_of-self
invariant_of-self c =
    let v = c.rest-rest.ensures.value in
    let e = c.up_to-length.ensures.value ∙ ap line_length v in
    let same : c.from-2.result ≡ c.from.result = c.from-2.ensures ∙ sym c.from.ensures in
    let step = count_next c.args.self.now.text.now c.args.self.now.at c.up_to-length.result c.from.result (ltb c.up_to-length.result (length c.rest-rest.result.now)) e (ap (λ (xs : List ℕ). ltb c.up_to-length.result (length xs)) (sym v)) c.from.ensures in
    record {
      within = omega (arith, c.rest-rest.ensures.len, end_within _ _ _ _ c.up_to-length.ensures.within refl c.from.ensures);
      short = c.args.self.now.short;
      early = c.args.self.now.early;
      counted = omega (arith, c.args.self.now.counted, step, same);
    }
