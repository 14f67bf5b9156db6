-- What the functions that tell a word or take a field apart answer.
use Rattle.std.specs.Prelude.{◌≡◌, ℕ, List, [], ◌∷◌, ◌++◌, length, Some, None, Option, ◌≢◌}
use Rattle.std.specs.Borrow.{Bor}
use Rattle.notation.specs.Words.{Field, Splits}

-- what follows the word, or the line does not open with it
abbrev pub After : List ℕ → List ℕ → Option (Bor (List ℕ)) → Type 0
After word line None = (rest : List ℕ) → line ≢ word ++ rest
After word line (Some r) = line ≡ word ++ r.now

-- a field and what stands behind the space after it, or the bytes do not begin so
abbrev pub Takes : List ℕ → Option (Bor (List ℕ) × Bor (List ℕ)) → Type 0
Takes bs None = (f rest : List ℕ) → Field f → bs ≢ f ++ (32 ∷ rest)
Takes bs (Some p) = Field p.0.now × (bs ≡ p.0.now ++ (32 ∷ p.1.now))

-- the bytes are no sequence of so many fields
abbrev pub NoFields : List ℕ → ℕ → Type 0
NoFields bs n = (fs : List (List ℕ)) → length fs ≡ n → Splits bs fs → ⊥

abbrev pub Two : List ℕ → Option (Bor (List ℕ) × Bor (List ℕ)) → Type 0
Two bs None = NoFields bs 2
Two bs (Some p) = Splits bs (p.0.now ∷ p.1.now ∷ [])

abbrev pub Three : List ℕ → Option (Bor (List ℕ) × Bor (List ℕ) × Bor (List ℕ)) → Type 0
Three bs None = NoFields bs 3
Three bs (Some p) = Splits bs (p.0.now ∷ p.1.now ∷ p.2.now ∷ [])

abbrev pub Five : List ℕ → Option (Bor (List ℕ) × Bor (List ℕ) × Bor (List ℕ) × Bor (List ℕ) × Bor (List ℕ)) → Type 0
Five bs None = NoFields bs 5
Five bs (Some p) = Splits bs (p.0.now ∷ p.1.now ∷ p.2.now ∷ p.3.now ∷ p.4.now ∷ [])
