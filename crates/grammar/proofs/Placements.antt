-- What a placement's type says of its numbers, and the order of placements.
use Rattle.std.proofs.Common.{◌≡◌, ℕ, ◌<◌, true, false, ◌⊎◌, ℤ, pos, negsuc, ◌≤ℤ◌, ◌<ℤ◌, sym, ◌∙◌, inl, inr, arith}
use lib.Signed.{le_z, lt_z}
use Rattle.std.proofs.lemmas.Int.{ints}
use Rattle.std.proofs.lemmas.Bool.{and_parts, cases_Bool}
use Rattle.lattice.specs.declared.placement.Placement.{Placement}
use Rattle.lattice.specs.Field.{shifting}
use Rattle.lattice.specs.Order.{Triple, triple, Before, Earlier}
use Rattle.lattice.proofs.Same.{same_placement}
use Rattle.kinds.proofs.Numbers.{lt_from, le_from}
use Rattle.lattice.specs.Turns.{index}
use Rattle.lattice.proofs.Turning.{below_eight}

-- what a placement's type says of its numbers
pub turn_below : (p : Placement) → (index p.turn) < 8
turn_below p = below_eight p.turn

pub shift_low : (z : ℤ) → shifting z ≡ true → negsuc 3999 ≤ℤ z
shift_low z h = le_from _ _ (and_parts (le_z (negsuc 3999) z) (le_z z (pos 4000)) h).0

pub shift_high : (z : ℤ) → shifting z ≡ true → z ≤ℤ pos 4000
shift_high z h = le_from _ _ (and_parts (le_z (negsuc 3999) z) (le_z z (pos 4000)) h).1

pub before_asym : (a b : Triple) → Before a b → Before b a → ⊥
before_asym a b (inl h) (inl k) = omega (arith, ints)
before_asym a b (inl h) (inr k) = omega (arith, ints, k.0)
before_asym a b (inr h) (inl k) = omega (arith, ints, h.0)
before_asym a b (inr h) (inr k) = go h.1 k.1
  where
    go : ((a.across <ℤ b.across) ⊎ ((a.across ≡ b.across) × (a.up <ℤ b.up))) → ((b.across <ℤ a.across) ⊎ ((b.across ≡ a.across) × (b.up <ℤ a.up))) → ⊥
    go (inl x) (inl y) = omega (arith, ints)
    go (inl x) (inr y) = omega (arith, ints, y.0)
    go (inr x) (inl y) = omega (arith, ints, x.0)
    go (inr x) (inr y) = omega (arith, ints, x.1, y.1)

pub before_trans : (a b c : Triple) → Before a b → Before b c → Before a c
before_trans a b c (inl h) (inl k) = inl (omega (arith, ints))
before_trans a b c (inl h) (inr k) = inl (omega (arith, ints, k.0))
before_trans a b c (inr h) (inl k) = inl (omega (arith, ints, h.0))
before_trans a b c (inr h) (inr k) = inr (h.0 ∙ k.0, go h.1 k.1)
  where
    go : ((a.across <ℤ b.across) ⊎ ((a.across ≡ b.across) × (a.up <ℤ b.up))) → ((b.across <ℤ c.across) ⊎ ((b.across ≡ c.across) × (b.up <ℤ c.up))) → ((a.across <ℤ c.across) ⊎ ((a.across ≡ c.across) × (a.up <ℤ c.up)))
    go (inl x) (inl y) = inl (omega (arith, ints))
    go (inl x) (inr y) = inl (omega (arith, ints, y.0))
    go (inr x) (inl y) = inl (omega (arith, ints, x.0))
    go (inr x) (inr y) = inr (x.0 ∙ y.0, omega (arith, ints, x.1, y.1))

pub trichotomy : (a b : ℤ) → (a <ℤ b) ⊎ ((a ≡ b) ⊎ (b <ℤ a))
trichotomy a b = go (cases_Bool (lt_z a b)) (cases_Bool (lt_z b a))
  where
    go : (lt_z a b ≡ true) ⊎ (lt_z a b ≡ false) → (lt_z b a ≡ true) ⊎ (lt_z b a ≡ false) → (a <ℤ b) ⊎ ((a ≡ b) ⊎ (b <ℤ a))
    go (inl e) y = inl (lt_from a b e)
    go (inr e) (inl f) = inr (inr (lt_from b a f))
    go (inr e) (inr f) = inr (inl (grind (arith, ints)))

pos_one : {m n : ℕ} → pos m ≡ pos n → m ≡ n
pos_one h = cc

pub compared : (p q : Placement) → Earlier p q ⊎ ((p ≡ q) ⊎ Earlier q p)
compared p q = go (trichotomy (pos (index p.turn)) (pos (index q.turn))) (trichotomy p.across q.across) (trichotomy p.up q.up)
  where
    go : ((pos (index p.turn) <ℤ pos (index q.turn)) ⊎ ((pos (index p.turn) ≡ pos (index q.turn)) ⊎ (pos (index q.turn) <ℤ pos (index p.turn)))) → ((p.across <ℤ q.across) ⊎ ((p.across ≡ q.across) ⊎ (q.across <ℤ p.across))) → ((p.up <ℤ q.up) ⊎ ((p.up ≡ q.up) ⊎ (q.up <ℤ p.up))) → Earlier p q ⊎ ((p ≡ q) ⊎ Earlier q p)
    go (inl h) b c = inl (inl h)
    go (inr (inr h)) b c = inr (inr (inl h))
    go (inr (inl h)) (inl k) c = inl (inr (h, inl k))
    go (inr (inl h)) (inr (inr k)) c = inr (inr (inr (sym h, inl k)))
    go (inr (inl h)) (inr (inl k)) (inl l) = inl (inr (h, inr (k, l)))
    go (inr (inl h)) (inr (inl k)) (inr (inr l)) = inr (inr (inr (sym h, inr (sym k, l))))
    go (inr (inl h)) (inr (inl k)) (inr (inl l)) = inr (inl (same_placement p q (pos_one h) k l))

pub never : (p : Placement) → Earlier p p → ⊥
never p h = before_asym (triple p) (triple p) h h
