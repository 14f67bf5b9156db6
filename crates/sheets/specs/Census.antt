-- How many atoms a set has.
use Rattle.std.specs.Prelude.{◌≡◌, ℕ, Bool, true, ◌⊎◌, List, [], ◌∷◌, length}

-- x is one of the list
abbrev pub Belongs : {X : Type 0} → X → List X → Type 0
Belongs x [] = ⊥
Belongs x (y ∷ ys) = (y ≡ x) ⊎ Belongs x ys

-- no two of the list are the same
abbrev pub Distinct : {X : Type 0} → List X → Type 0
Distinct [] = Unit {0}
Distinct (x ∷ xs) = (Belongs x xs → ⊥) × Distinct xs

-- the set has exactly n atoms: they can be listed, each once
pub record Census {A : Type 0} (set : A → Bool) (n : ℕ) : Type 0 where
  pub listed : List A
  pub once : Distinct listed
  pub count : length listed ≡ n
  pub inside : (a : A) → Belongs a listed → set a ≡ true
  pub every : (a : A) → set a ≡ true → Belongs a listed
