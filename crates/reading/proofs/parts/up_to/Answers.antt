use Rattle.std.proofs.Common.{◌≡◌, ℕ, ◌≤◌, Bool, true, false, cond, not, ltb, eqb, List, length, Option, Some, None, unwrap_or, refl, ap, ◌∙◌, rules, tests, arith}
use Rattle.std.specs.List.{prefix_len}
use Rattle.std.proofs.lemmas.Bool.Decides.{nat_tests}
use Rattle.std.proofs.lemmas.Iterator.{YieldsList-from_slice}
use Rattle.std.proofs.lemmas.Iterator.Search.{position_from_yields_List}
use Rattle.std.proofs.lemmas.List.Sums.{prefix_len-le-length}
use Rattle.reading.proofs.parts.up_to.Goals as goal

-- a position, or the length where there is none
or_length : (p : ℕ → Bool) (xs : List ℕ) (b : Bool) → ltb (prefix_len p xs) (length xs) ≡ b → unwrap_or (cond b (Some (prefix_len p xs)) None) (length xs) ≡ prefix_len p xs
or_length p xs true e = refl
or_length p xs false e =
    let within = prefix_len-le-length p xs in
    let beyond : length xs ≤ prefix_len p xs = grind (arith, nat_tests) in omega arith

not_is : (b : Bool) → not b ≡ cond b false true
not_is true = refl
not_is false = refl

pub returns-clause-value : goal.returns-clause-value
returns-clause-value c =
    let at = position_from_yields_List (λ (b : ℕ). eqb b c.args.byte) _ _ c.position.result c.position.ensures.ran (YieldsList-from_slice c.args.bytes.now cc) (λ x b q k. search (rules, tests)) in
    c.unwrap_or.ensures ∙ ap (λ (r : Option ℕ). unwrap_or r (length c.args.bytes.now)) at ∙ or_length (λ b. not (eqb b c.args.byte)) c.args.bytes.now _ refl
    ∙ (λ i. prefix_len (λ b. not_is (eqb b c.args.byte) i) c.args.bytes.now)
