-- What is made from a test passed.
use Rattle.std.proofs.Common.{◌≡◌, Bool, true, false, None, Option, refl, ap}
use Rattle.std.proofs.lemmas.Bool.{false≢true, true≢false}
use Rattle.lattice.specs.Valid.{tested}
use Rattle.lattice.proofs.Same.{bools}

pub tested_true : {X : Type 0} (b : Bool) (f : b ≡ true → Option X) (h : b ≡ true) → tested b f ≡ f h
tested_true true f h = ap f (bools true true refl h)
tested_true false f h = absurd (false≢true h)

pub tested_false : {X : Type 0} (b : Bool) (f : b ≡ true → Option X) → b ≡ false → tested b f ≡ None
tested_false true f h = absurd (true≢false h)
tested_false false f h = refl

-- nothing is made of tests passed that make nothing
pub tested_none : {X : Type 0} (b : Bool) (f : b ≡ true → Option X) → ((h : b ≡ true) → f h ≡ None) → tested b f ≡ None
tested_none true f k = k refl
tested_none false f k = refl
