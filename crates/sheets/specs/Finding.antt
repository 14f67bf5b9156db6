-- What is found in a list for one element: where it belongs, what it touches, what it makes with that, what it leaves of it.
use Rattle.std.specs.Prelude.{◌≡◌, ℕ, Bool, true, false, ◌||◌, List, [], ◌∷◌, ◌++◌, take, drop, ◌≤ℤ◌, Some, None, Option}
use Rattle.std.specs.Int.{int_max, int_min}
use Rattle.std.specs.List.{AllByRecursion}
use Rattle.kinds.specs.Model.{KindModel, covers}
use Rattle.sheets.specs.Cover.{cover, ahead}

-- the first n elements pass, and the others do not
pub record Parted {E : Type 0} (test : E → Bool) (xs : List E) (n : ℕ) : Type 0 where
  pub front : AllByRecursion (λ x. test x ≡ true) (take n xs)
  pub back : AllByRecursion (λ x. test x ≡ false) (drop n xs)

-- the elements that there are
abbrev pub one_listed : {E : Type 0} → Option E → List E
one_listed None = []
one_listed (Some x) = x ∷ []

abbrev pub listed : {E : Type 0} → Option E → Option E → List E
listed left right = one_listed left ++ one_listed right

module _ {E A C : Type 0} (m : KindModel E A C) where
  -- p is what of x lies before the start of e
  pub record Left (e x p : E) : Type 0 where
    pub on : m.carrier p ≡ m.carrier x
    pub from : m.start p ≡ m.start x
    pub to : m.end p ≡ int_min (m.end x) (m.start e)

  abbrev pub LeftPart : E → E → Option E → Type 0
  LeftPart e x None = m.start e ≤ℤ m.start x
  LeftPart e x (Some p) = Left e x p

  -- p is what of x lies from the end of e on
  pub record Right (e x p : E) : Type 0 where
    pub on : m.carrier p ≡ m.carrier x
    pub from : m.start p ≡ int_max (m.start x) (m.end e)
    pub to : m.end p ≡ m.end x

  abbrev pub RightPart : E → E → Option E → Type 0
  RightPart e x None = m.end x ≤ℤ m.end e
  RightPart e x (Some p) = Right e x p

  -- w is what e and the elements of xs make together
  pub record Whole (e : E) (xs : List E) (w : E) : Type 0 where
    pub all : (a : A) → covers m w a ≡ (cover m xs a || covers m e a)
    pub after : (x : E) → ahead m x e ≡ true → AllByRecursion (λ y. ahead m x y ≡ true) xs → ahead m x w ≡ true
    pub less : (x : E) → ahead m x w ≡ true → ahead m x e ≡ true
