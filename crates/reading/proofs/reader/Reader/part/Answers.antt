use Rattle.std.proofs.Common.{◌≡◌, ℕ, ◌+◌, ◌-◌, min, max, List, length, take, drop, ap, ◌∙◌, arith}
use Rattle.std.proofs.lemmas.List.{take_min}
use Rattle.notation.specs.Lines.{newlines}
use Rattle.reading.proofs.Stretches.{stretch_clipped}
use Rattle.reading.proofs.reader.Reader.part.Goals as goal

pub returns : goal.returns
returns c =
    let v = c.at_most-file.ensures.value in
    let f = c.min-from.ensures in
    let t : c.clamp-to.result ≡ max (min c.args.to (length c.at_most-file.result.now)) c.min-from.result = omega (arith, c.clamp-to.ensures) in
    record {
      stretch = stretch_clipped _ c.args.from c.args.to _ _ f t ∙ ap (λ (xs : List ℕ). take (c.args.to - c.args.from) (drop c.args.from xs)) v;
      line = ap (λ (k : ℕ). 1 + k) (c.ends-first.ensures.value ∙ ap newlines (ap (λ (k : ℕ). take k c.at_most-file.result.now) f ∙ take_min c.args.from _) ∙ ap (λ (xs : List ℕ). newlines (take c.args.from xs)) v);
    }
