-- Tests that are true.
use Rattle.std.proofs.Common.{◌≡◌, Bool, true, false, not, ◌||◌, sym, refl, ◌∙◌}
use Rattle.std.proofs.lemmas.Bool.{false≢true}

-- a true test, said of an equal one
pub along : {x y : Bool} → x ≡ y → x ≡ true → y ≡ true
along e h = sym e ∙ h

pub or_not : (x y : Bool) → (not x || y) ≡ true → x ≡ true → y ≡ true
or_not true y h k = h
or_not false y h k = absurd (false≢true k)

pub not_or : (x y : Bool) → (x ≡ true → y ≡ true) → (not x || y) ≡ true
not_or true y h = h refl
not_or false y h = refl
