-- Orders of whole numbers, as tests and as facts.
use Rattle.std.proofs.Common.{◌≡◌, true, ◌⊎◌, ℤ, ◌≤ℤ◌, ◌<ℤ◌, inl, inr, ⊎_elim, arith}
use lib.Signed.{lt_z, le_z}
use Rattle.std.proofs.lemmas.Bool.{cases_Bool}
use Rattle.std.proofs.lemmas.Int.{ints}

pub lt_from : (a b : ℤ) → lt_z a b ≡ true → a <ℤ b
lt_from a b h = grind (arith, ints)

pub le_from : (a b : ℤ) → le_z a b ≡ true → a ≤ℤ b
le_from a b h = grind (arith, ints)

pub lt_to : (a b : ℤ) → a <ℤ b → lt_z a b ≡ true
lt_to a b h = grind (arith, ints)

pub le_to : (a b : ℤ) → a ≤ℤ b → le_z a b ≡ true
le_to a b h = grind (arith, ints)

pub cases_lt_z : (a b : ℤ) → (a <ℤ b) ⊎ (b ≤ℤ a)
cases_lt_z a b = ⊎_elim (λ h. inl (lt_from a b h)) (λ h. inr (grind (arith, ints))) (cases_Bool (lt_z a b))
