-- Directions of unit edges, and what the turns keep of them.
use Rattle.std.specs.Prelude.{◌≡◌, ℕ, ◌<◌, Bool, true, false, ◌&&◌, ◌||◌, ◌⊎◌, ℤ, pos, neg_ℤ, ◌≤ℤ◌, ◌<ℤ◌, int_le, int_lt, unsigned_abs, refl}
use Rattle.std.proofs.Common.{sym, ap, ◌∙◌, inl, inr, ⊎_elim, arith}
use Rattle.std.proofs.lemmas.Int.{ints, by_lt_z}
use Rattle.std.proofs.lemmas.Bool.{and_parts, and_from, or_parts, or_left, or_right, and_cases, eqb-true, eq-eqb}
use Rattle.numbers.specs.Gcd.{gcd}
use Rattle.numbers.proofs.Gcds.{gcd_swap, gcd_zero}
use Rattle.numbers.proofs.Tested.{lt_test, le_test}
use Rattle.lattice.specs.Turns.{across, upward}
use Rattle.lattice.proofs.Turning.{by_sizes, size_neg}
use Rattle.segments.specs.Directions.{forward, direction}

pub gcd_neg : (x y : ℤ) → gcd (unsigned_abs (neg_ℤ x)) (unsigned_abs (neg_ℤ y)) ≡ gcd (unsigned_abs x) (unsigned_abs y)
gcd_neg x y = ap (λ (z : ℕ). gcd z (unsigned_abs (neg_ℤ y))) (size_neg x) ∙ ap (gcd (unsigned_abs x)) (size_neg y)

pub gcd_turned : (x y : ℤ) (s : ℕ) → s < 8 → gcd (unsigned_abs (across s x y)) (unsigned_abs (upward s x y)) ≡ gcd (unsigned_abs x) (unsigned_abs y)
gcd_turned x y = by_sizes (λ a b. gcd a b ≡ gcd (unsigned_abs x) (unsigned_abs y)) x y refl (gcd_swap (unsigned_abs y) (unsigned_abs x))

pub forward_cases : (dx dy : ℤ) → forward dx dy ≡ true → (pos 0 <ℤ dx) ⊎ ((dx ≡ pos 0) × (pos 0 <ℤ dy))
forward_cases dx dy h = go (int_lt (pos 0) dx) refl h where
  go : (b : Bool) → int_lt (pos 0) dx ≡ b → (b || (int_le (pos 0) dx && int_lt (pos 0) dy)) ≡ true → (pos 0 <ℤ dx) ⊎ ((dx ≡ pos 0) × (pos 0 <ℤ dy))
  go true e h = inl (omega (arith, ints))
  go false e h = let p = and_parts (int_le (pos 0) dx) (int_lt (pos 0) dy) h in inr (omega (arith, ints), omega (arith, ints))

pub gcd_of : (dx dy : ℤ) → direction dx dy ≡ true → gcd (unsigned_abs dx) (unsigned_abs dy) ≡ 1
gcd_of dx dy h = eqb-true _ _ (and_parts (forward dx dy) _ h).1

pub direction_cases : (dx dy : ℤ) → direction dx dy ≡ true → (pos 0 <ℤ dx) ⊎ ((dx ≡ pos 0) × (dy ≡ pos 1))
direction_cases dx dy h =
    ⊎_elim (λ p. inl p) (λ q.
    let g : gcd 0 (unsigned_abs dy) ≡ 1 = ap (λ (z : ℤ). gcd (unsigned_abs z) (unsigned_abs dy)) (sym q.0) ∙ gcd_of dx dy h in
    let n : unsigned_abs dy ≡ 1 = sym (gcd_swap 0 (unsigned_abs dy) ∙ gcd_zero (unsigned_abs dy)) ∙ g in
    let l = q.1 in
    inr (q.0, omega (arith, ints)))
    (forward_cases dx dy (and_parts (forward dx dy) _ h).0)

pub direction_from : (dx dy : ℤ) → forward dx dy ≡ true → gcd (unsigned_abs dx) (unsigned_abs dy) ≡ 1 → direction dx dy ≡ true
direction_from dx dy h g = and_from (forward dx dy) _ h (eq-eqb _ _ g)

-- of two ways that differ, one goes forward
pub other_way : (w h : ℤ) → forward w h ≡ false → ((w ≡ pos 0) → (h ≡ pos 0) → ⊥) → forward (neg_ℤ w) (neg_ℤ h) ≡ true
other_way w h f n =
    let p = or_parts (int_lt (pos 0) w) (int_le (pos 0) w && int_lt (pos 0) h) f in
    by_lt_z w (pos 0) (λ l. or_left (int_lt (pos 0) (neg_ℤ w)) _ (lt_test (pos 0) (neg_ℤ w) (omega (arith, ints))))
    (λ l.
    let z : w ≡ pos 0 = omega (arith, ints) in
    let m : h ≤ℤ pos 0 = ⊎_elim (λ q. absurd (omega (arith, ints))) (λ q. omega (arith, ints)) (and_cases (int_le (pos 0) w) (int_lt (pos 0) h) p.1) in
    let k : h <ℤ pos 0 = by_lt_z h (pos 0) (λ k. k) (λ k. let y : h ≡ pos 0 = omega (arith, ints) in absurd (n z y)) in
    or_right (int_lt (pos 0) (neg_ℤ w)) _ (and_from (int_le (pos 0) (neg_ℤ w)) (int_lt (pos 0) (neg_ℤ h)) (le_test (pos 0) (neg_ℤ w) (omega (arith, ints))) (lt_test (pos 0) (neg_ℤ h) (omega (arith, ints)))))

-- a direction with no common factor is not nothing, so one of its two ways goes forward
pub turned_back : (dx dy : ℤ) → forward dx dy ≡ false → gcd (unsigned_abs dx) (unsigned_abs dy) ≡ 1 → forward (neg_ℤ dx) (neg_ℤ dy) ≡ true
turned_back dx dy h g = other_way dx dy h (λ z y.
    let e : gcd 0 0 ≡ 1 = ap (λ (w : ℤ). gcd (unsigned_abs w) 0) (sym z) ∙ ap (λ (w : ℤ). gcd (unsigned_abs dx) (unsigned_abs w)) (sym y) ∙ g in
    let f : 0 ≡ 1 = sym (gcd_zero 0) ∙ e in
    absurd (omega arith))
