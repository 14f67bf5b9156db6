-- Tests over lists, that compute.
-- both or neither
use Rattle.std.proofs.Common.{◌≡◌, ℕ, zero, suc, Bool, true, false, not, ◌&&◌, ◌||◌, List, [], ◌∷◌, ℤ, pos, ◌+ℤ◌, ◌≤ℤ◌, ◌<ℤ◌, sym, refl, ap, ◌∙◌, inl, inr, ⊎_elim, arith}
use lib.Signed.{le_z, lt_z}
use Rattle.std.proofs.lemmas.Int.{ints}
use Rattle.std.proofs.lemmas.Bool.{false≢true, not-true, and_parts, and_from, or_cases}
use Rattle.lattice.specs.Order.{Triple, Before}
use Rattle.kinds.proofs.Numbers.{lt_from, le_from, cases_lt_z}
use Rattle.sheets.specs.Census.{Belongs}

abbrev pub alike : Bool → Bool → Bool
alike true b = b
alike false b = not b

pub alike_from : (x y : Bool) → alike x y ≡ true → x ≡ y
alike_from true y h = sym h
alike_from false y h = sym (not-true y h)

abbrev pub every : {X : Type 0} → (X → Bool) → List X → Bool
every f [] = true
every f (x ∷ xs) = f x && every f xs

abbrev pub some : {X : Type 0} → (X → Bool) → List X → Bool
some f [] = false
some f (x ∷ xs) = f x || some f xs

module _ {X : Type 0} (f : X → Bool) where
  pub every_one : (xs : List X) → every f xs ≡ true → (x : X) → Belongs x xs → f x ≡ true
  every_one [] h x b = absurd b
  every_one (y ∷ ys) h x (inl e) = ap f (sym e) ∙ (and_parts (f y) (every f ys) h).0
  every_one (y ∷ ys) h x (inr b) = every_one ys (and_parts (f y) (every f ys) h).1 x b

  pub some_one_of : (xs : List X) → some f xs ≡ true → (x : X) × Belongs x xs × (f x ≡ true)
  some_one_of [] h = absurd (false≢true h)
  some_one_of (y ∷ ys) h = ⊎_elim (λ k. (y, inl refl, k)) (λ k. let r = some_one_of ys k in (r.0, inr r.1, r.2)) (or_cases (f y) (some f ys) h)

-- all of n numbers from i on
abbrev pub upto : ℤ → ℕ → (ℤ → Bool) → Bool
upto i zero f = true
upto i (suc n) f = f i && upto (i +ℤ pos 1) n f

pub upto_one : (n : ℕ) (i : ℤ) (f : ℤ → Bool) → upto i n f ≡ true → (z : ℤ) → i ≤ℤ z → z <ℤ (i +ℤ pos n) → f z ≡ true
upto_one zero i f h z l u = absurd (omega (arith, ints))
upto_one (suc n) i f h z l u =
    let p = and_parts (f i) (upto (i +ℤ pos 1) n f) h in
    ⊎_elim (λ k. upto_one n (i +ℤ pos 1) f p.1 z (omega (arith, ints)) (omega (arith, ints))) (λ k. let e : z ≡ i = omega (arith, ints) in ap f e ∙ p.0) (cases_lt_z i z)

-- equal numbers
abbrev pub equal_z : ℤ → ℤ → Bool
equal_z a b = le_z a b && le_z b a

pub equal_z_from : (a b : ℤ) → equal_z a b ≡ true → a ≡ b
equal_z_from a b h = let p = and_parts (le_z a b) (le_z b a) h in let x = le_from a b p.0 in let y = le_from b a p.1 in omega (arith, ints)

-- the earlier of two
abbrev pub before : Triple → Triple → Bool
before a b = lt_z a.turn b.turn || (equal_z a.turn b.turn && (lt_z a.across b.across || (equal_z a.across b.across && lt_z a.up b.up)))

pub before_from : (a b : Triple) → before a b ≡ true → Before a b
before_from a b h =
    ⊎_elim (λ k. inl (lt_from _ _ k))
    (λ k. let p = and_parts (equal_z a.turn b.turn) (lt_z a.across b.across || (equal_z a.across b.across && lt_z a.up b.up)) k in
    inr (equal_z_from _ _ p.0, ⊎_elim (λ l. inl (lt_from _ _ l)) (λ l. let q = and_parts (equal_z a.across b.across) (lt_z a.up b.up) l in inr (equal_z_from _ _ q.0, lt_from _ _ q.1)) (or_cases (lt_z a.across b.across) (equal_z a.across b.across && lt_z a.up b.up) p.1)))
    (or_cases (lt_z a.turn b.turn) (equal_z a.turn b.turn && (lt_z a.across b.across || (equal_z a.across b.across && lt_z a.up b.up))) h)

pub all_pass : {X : Type 0} (f : X → Bool) (xs : List X) → ((x : X) → Belongs x xs → f x ≡ true) → every f xs ≡ true
all_pass f [] h = refl
all_pass f (x ∷ xs) h = and_from (f x) (every f xs) (h x (inl refl)) (all_pass f xs (λ y b. h y (inr b)))
