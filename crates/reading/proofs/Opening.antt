-- A line that opens with a word, from the tests of a slice pattern.
use Rattle.std.proofs.Common.{◌≡◌, ℕ, suc, ◌+◌, ◌-◌, ◌≤◌, List, [], ◌∷◌, ◌++◌, length, take, drop, sym, ap, ◌∙◌, arith, drop-cons}
use Rattle.std.proofs.lemmas.Slice.Eq.{HasBytesAt}
use Rattle.std.proofs.lemmas.List.{take_rest}

opens_at : (s p : List ℕ) (i : ℕ) → i + length p ≤ length s → HasBytesAt s i p → drop i s ≡ p ++ drop (i + length p) s
opens_at s [] i h r = ap (λ (k : ℕ). drop k s) (omega arith)
opens_at s (c ∷ p) i h r =
    let ih = opens_at s p (suc i) (omega arith) r.1 in
    drop-cons s i 0 (omega arith) ∙
    ap (λ (x : ℕ). x ∷ drop (suc i) s) r.0 ∙
    ap (λ (ys : List ℕ). c ∷ ys) (ih ∙ ap (λ (k : ℕ). p ++ drop k s) (omega arith))

pub opens : (s p : List ℕ) → length p ≤ length s → HasBytesAt s 0 p → s ≡ p ++ take (length s - length p) (drop (length p) s)
opens s p h r = opens_at s p 0 (omega arith) r ∙ ap (λ (ys : List ℕ). p ++ ys) (ap (λ (k : ℕ). drop k s) (omega arith) ∙ sym (take_rest s (length p)))
