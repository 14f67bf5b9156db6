-- One write after another.
use Rattle.std.proofs.Common.{◌≡◌, ℕ, ◌+◌, ◌≤◌, List, ◌++◌, length, take, drop, sym, ap, ◌∙◌, append_assoc, arith, length-append}
use Rattle.std.proofs.lemmas.List.{take_at, length-take-le}
use Rattle.std.proofs.lemmas.Slice.{drop-append-drop}
use Rattle.output.specs.Wrote.{Wrote}

pub wrote_then : (at mid end : ℕ) (a b old half new : List ℕ) → mid ≡ at + length a → mid ≤ end → end ≤ length old → Wrote at mid a old half → Wrote mid end b half new → Wrote at end (a ++ b) old new
wrote_then at mid end a b old half new e le h w v =
    let short : at ≤ length old = omega arith in
    let t = length-take-le at old short in
    let len : length (take at old ++ a) ≡ mid = omega (arith, length-append (take at old) a) in
    let shape : half ≡ (take at old ++ a) ++ drop mid old = w ∙ sym (append_assoc (take at old) a (drop mid old)) in
    let front : take mid half ≡ take at old ++ a = ap (take mid) shape ∙ take_at (take at old ++ a) (drop mid old) mid len in
    let back : drop end half ≡ drop end old = ap (drop end) shape ∙ drop-append-drop mid old (take at old ++ a) end le len in
    v ∙ ap (λ (x : List ℕ). x ++ (b ++ drop end half)) front ∙ ap (λ (x : List ℕ). (take at old ++ a) ++ (b ++ x)) back ∙
    append_assoc (take at old) a (b ++ drop end old) ∙ ap (λ (x : List ℕ). take at old ++ x) (sym (append_assoc a b (drop end old)))
