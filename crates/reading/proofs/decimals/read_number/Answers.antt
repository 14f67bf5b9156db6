use Rattle.std.proofs.Common.{◌≡◌, ℕ, ◌∷◌, get_or, ap, ◌∙◌, ⊎_elim, arith, rules}
use Rattle.reading.proofs.Signs.{no_minus, no_zero, opens_number}
use Rattle.reading.proofs.decimals.read_number.Goals as goal

pub returns-in_err-first : goal.returns-in_err-first
returns-in_err-first c = rw c.from_residual.ensures (λ z h e. omega (arith, (opens_number _ z h e).0, c.in_err-first.ensures.cases))

pub returns-in_err-n-in-Minus : goal.returns-in_err-n-in-Minus
returns-in_err-n-in-Minus c =
    let opens : c.args.field.now ≡ 45 ∷ c.in_ok-first.rest.now = c.in_ok-first.ensures.cases.0 ∙ ap (λ (x : ℕ). x ∷ c.in_ok-first.rest.now) c.in-Minus.ensures in
    rw c.from_residual-in_err-n-in-Minus.ensures (no_minus _ _ opens (λ n p. c.in_err-n-in-Minus.ensures n))

pub returns-in-0 : goal.returns-in-0
returns-in-0 c =
    let opens : c.args.field.now ≡ 45 ∷ c.in_ok-first.rest.now = c.in_ok-first.ensures.cases.0 ∙ ap (λ (x : ℕ). x ∷ c.in_ok-first.rest.now) c.in-Minus.ensures in
    no_minus _ _ opens (no_zero _ (search rules))

pub returns-in-Other : goal.returns-in-Other
returns-in-Other c =
    let first : get_or c.args.field.now 0 0 ≡ c.in_ok-first.first.now = search rules in
    λ z h e. rw (← first) at (⊎_elim c.in-Other.ensures.0 c.in-Other.ensures.1) (opens_number _ z h e).1
