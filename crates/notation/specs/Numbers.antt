-- Numbers as text: the decimal form, with a minus sign below 0, and so without leading zeros and without "-0".
use Rattle.std.specs.Prelude.{◌≡◌, ℕ, suc, ◌^◌, ◌<◌, List, ℤ, pos, negsuc, Some, None, decimal, Option, ◌≢◌}
use Rattle.std.specs.Fmt.{signed_decimal}

-- a number whose decimal form has one to nine digits
abbrev pub Short : ℤ → Type 0
Short (pos n) = n < 10 ^ 9
Short (negsuc n) = suc n < 10 ^ 9

-- the bytes are the form of the number n, or of no number from 0 up with one to nine digits
abbrev pub LengthIs : List ℕ → Option ℕ → Type 0
LengthIs bs (Some n) = (n < 10 ^ 9) × (bs ≡ decimal n)
LengthIs bs None = (n : ℕ) → n < 10 ^ 9 → bs ≢ decimal n

-- the bytes are the form of the number z, or of no number with one to nine digits
abbrev pub NumberIs : List ℕ → Option ℤ → Type 0
NumberIs bs (Some z) = Short z × (bs ≡ signed_decimal z)
NumberIs bs None = (z : ℤ) → Short z → bs ≢ signed_decimal z
