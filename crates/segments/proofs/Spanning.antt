-- The segment between two ends.
use Rattle.std.proofs.Common.{◌≡◌, ℕ, suc, ◌*◌, ◌/◌, ◌<◌, ◌≤◌, true, false, ◌&&◌, ℤ, pos, negsuc, ◌+ℤ◌, ◌-ℤ◌, ◌*ℤ◌, neg_ℤ, nat_abs, ◌≤ℤ◌, ◌<ℤ◌, sym, refl, ap, ◌∙◌, subst, ⊎_elim, div-le_self, arith}
use Prim.Native.Nat.{◌∣◌}
use native.Mathlib.Nat.{mul-div_cancel', le_of_dvd, pos_of_dvd_of_pos}
use lib.IntN.{*ℤ_comm}
use lib.Signed.{quot_z, lt_z, le_z}
use Rattle.std.proofs.lemmas.Int.{ints, by_lt_z}
use Rattle.std.proofs.lemmas.Bool.{or_left, or_right, and_from, and_parts}
use Rattle.numbers.specs.Gcd.{gcd}
use Rattle.numbers.proofs.Gcds.{gcd_left, gcd_right, gcd_quotients}
use Rattle.numbers.proofs.Ring.{times_neg, times_upto, times_same}
use Rattle.numbers.proofs.Floors.{size_times}
use Rattle.numbers.proofs.Tested.{lt_test, le_test}
use Rattle.lattice.specs.Field.{ranged}
use Rattle.lattice.proofs.Turning.{size_neg}
use Rattle.segments.specs.Directions.{forward, direction}
use Rattle.segments.specs.Segments.{all_ranged}
use Rattle.segments.specs.DirectionsLemmas.{forward_cases, direction_from, other_way}
use Rattle.segments.specs.Fitting.{Passes}

pub quot_exact : (z : ℤ) (n : ℕ) → n ∣ nat_abs z → pos n *ℤ quot_z z (pos n) ≡ z
quot_exact (pos a) n h = ap pos (mul-div_cancel' n h)
quot_exact (negsuc a) n h = times_neg (pos n) (pos (suc a / n)) ∙ ap (λ (k : ℕ). neg_ℤ (pos k)) (mul-div_cancel' n h)

pub quot_size : (z : ℤ) (n : ℕ) → nat_abs (quot_z z (pos n)) ≤ nat_abs z
quot_size (pos a) n = div-le_self a n
quot_size (negsuc a) n = subst (λ (k : ℕ). k ≤ suc a) (sym (size_neg (pos (suc a / n)))) (div-le_self (suc a) n)

pub gcd_some : (w h : ℤ) → forward w h ≡ true → 0 < gcd (nat_abs w) (nat_abs h)
gcd_some w h f =
    ⊎_elim (λ p. pos_of_dvd_of_pos (gcd_left (nat_abs w) (nat_abs h)) (omega (arith, ints)))
    (λ q. let k = q.1 in pos_of_dvd_of_pos (gcd_right (nat_abs w) (nat_abs h)) (omega (arith, ints)))
    (forward_cases w h f)

pub gcd_small : (w h : ℤ) → forward w h ≡ true → nat_abs w ≤ 4000 → nat_abs h ≤ 4000 → gcd (nat_abs w) (nat_abs h) ≤ 4000
gcd_small w h f a b =
    ⊎_elim (λ p. let l : gcd (nat_abs w) (nat_abs h) ≤ nat_abs w = le_of_dvd (omega (arith, ints)) (gcd_left (nat_abs w) (nat_abs h)) in omega arith)
    (λ q. let k = q.1 in let l : gcd (nat_abs w) (nat_abs h) ≤ nat_abs h = le_of_dvd (omega (arith, ints)) (gcd_right (nat_abs w) (nat_abs h)) in omega arith)
    (forward_cases w h f)

factor_above : (n d w : ℤ) → pos 0 <ℤ n → n *ℤ d ≡ w → pos 0 <ℤ w → pos 0 <ℤ d
factor_above n d w h e k = by_lt_z (pos 0) d (λ l. l) (λ l.
    let s = times_upto d (pos 0) n (omega (arith, ints)) l in
    let z : pos 0 *ℤ n ≡ pos 0 = omega (arith, ints) in
    let f : d *ℤ n ≡ w = *ℤ_comm d n ∙ e in
    absurd (sums (d *ℤ n) (pos 0 *ℤ n) w s z f k)) where
      sums : (a b w : ℤ) → a ≤ℤ b → b ≡ pos 0 → a ≡ w → pos 0 <ℤ w → ⊥
      sums a b w h k l m = omega (arith, ints)

factor_zero : (n d : ℤ) → pos 0 <ℤ n → n *ℤ d ≡ pos 0 → d ≡ pos 0
factor_zero n d h e =
    let z : pos 0 *ℤ n ≡ pos 0 = omega (arith, ints) in
    times_same d (pos 0) n h (*ℤ_comm d n ∙ e ∙ sym z)

pub spanned_direction : (w h dx dy : ℤ) (n : ℕ) → 0 < n → n ≡ gcd (nat_abs w) (nat_abs h) → pos n *ℤ dx ≡ w → pos n *ℤ dy ≡ h → forward w h ≡ true → direction dx dy ≡ true
spanned_direction w h dx dy n l g ex ey f = direction_from dx dy way one where
  n_pos : pos 0 <ℤ pos n
  n_pos = omega (arith, ints)

  way : forward dx dy ≡ true
  way = ⊎_elim (λ p. or_left (lt_z (pos 0) dx) _ (lt_test (pos 0) dx (factor_above (pos n) dx w n_pos ex p)))
      (λ q.
      let z = factor_zero (pos n) dx n_pos (ex ∙ q.0) in
      let y = factor_above (pos n) dy h n_pos ey q.1 in
      or_right (lt_z (pos 0) dx) _ (and_from (le_z (pos 0) dx) (lt_z (pos 0) dy) (le_test (pos 0) dx (omega (arith, ints))) (lt_test (pos 0) dy y)))
      (forward_cases w h f)

  sized : (d z : ℤ) → pos n *ℤ d ≡ z → nat_abs z ≡ gcd (nat_abs w) (nat_abs h) * nat_abs d
  sized d z e = ap nat_abs (sym e) ∙ size_times (pos n) d ∙ ap (λ (k : ℕ). k * nat_abs d) g

  one : gcd (nat_abs dx) (nat_abs dy) ≡ 1
  one = gcd_quotients (nat_abs w) (nat_abs h) (nat_abs dx) (nat_abs dy) (subst (λ (k : ℕ). 0 < k) g l) (sized dx w ex) (sized dy h ey)

pub arrives : (x p w d : ℤ) (n : ℤ) → w ≡ p -ℤ x → n *ℤ d ≡ w → x +ℤ n *ℤ d ≡ p
arrives x p w d n e f = go (n *ℤ d) f where
  go : (m : ℤ) → m ≡ w → x +ℤ m ≡ p
  go m f = omega (arith, ints)

-- ---- the other way round
less_back : (a b : ℤ) → a -ℤ b ≡ neg_ℤ (b -ℤ a)
less_back a b = omega (arith, ints)

less_zero : (a b : ℤ) → b -ℤ a ≡ pos 0 → a ≡ b
less_zero a b h = omega (arith, ints)

pub way_back : (x y p q : ℤ) → forward (p -ℤ x) (q -ℤ y) ≡ false → (x ≡ p → y ≡ q → ⊥) → forward (x -ℤ p) (y -ℤ q) ≡ true
way_back x y p q f n =
    let a = less_back x p in
    let b = less_back y q in
    (λ i. forward (a i) (b i)) ∙ other_way (p -ℤ x) (q -ℤ y) f (λ h k. n (less_zero x p h) (less_zero y q k))

-- the numbers of the segment between two ends pass its tests
pub record Spanned (x y p q dx dy n : ℤ) : Type 0 where
  pub passes : Passes x y dx dy n
  pub right : x +ℤ n *ℤ dx ≡ p
  pub high : y +ℤ n *ℤ dy ≡ q

pub spanned : (x y p q dx dy : ℤ) (n : ℕ) → all_ranged x y p q ≡ true → forward (p -ℤ x) (q -ℤ y) ≡ true → 0 < n → n ≡ gcd (nat_abs (p -ℤ x)) (nat_abs (q -ℤ y)) → pos n *ℤ dx ≡ p -ℤ x → pos n *ℤ dy ≡ q -ℤ y → Spanned x y p q dx dy (pos n)
spanned x y p q dx dy n a f l g ex ey =
    let b = and_parts (ranged x && ranged y) _ a in
    let c = and_parts (ranged x) (ranged y) b.0 in
    let d = and_parts (ranged p) (ranged q) b.1 in
    let right = arrives x p (p -ℤ x) dx (pos n) refl ex in
    let high = arrives y q (q -ℤ y) dy (pos n) refl ey in
    record {
      passes = record { proper = spanned_direction (p -ℤ x) (q -ℤ y) dx dy n l g ex ey f; some = lt_test (pos 0) (pos n) (omega (arith, ints)); left = c.0; low = c.1; right = ap ranged right ∙ d.0; high = ap ranged high ∙ d.1 };
      right = right;
      high = high;
    }
