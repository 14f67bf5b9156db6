-- What the turns keep.
use Rattle.std.proofs.Common.{◌≡◌, ℕ, zero, suc, ◌<◌, ◌≤◌, true, get_or, ℤ, pos, negsuc, ◌+ℤ◌, ◌*ℤ◌, neg_ℤ, nat_abs, sym, refl, subst, arith}
use Rattle.std.proofs.lemmas.Int.{ints}
use Rattle.numbers.proofs.Ring.{times_neg}
use Rattle.lattice.specs.Field.{ranged}
use Rattle.lattice.specs.Turns.{index, turns, turn_at, across, upward}
use Rattle.lattice.specs.declared.turn.Turn.{Turn}
use Rattle.lattice.specs.declared.turn.Turn.TheVariants.{Whole, Quarter, Half, ThreeQuarters, Mirrored, MirroredQuarter, MirroredHalf, MirroredThreeQuarters}
use Rattle.lattice.proofs.Bounds.{ranged_size, size_ranged}

-- what holds of each of the eight
pub by_turn : (P : ℕ → Type 0) → P 0 → P 1 → P 2 → P 3 → P 4 → P 5 → P 6 → P 7 → (s : ℕ) → s < 8 → P s
by_turn P a b c d e f g h zero l = a
by_turn P a b c d e f g h (suc zero) l = b
by_turn P a b c d e f g h (suc (suc zero)) l = c
by_turn P a b c d e f g h (suc (suc (suc zero))) l = d
by_turn P a b c d e f g h (suc (suc (suc (suc zero)))) l = e
by_turn P a b c d e f g h (suc (suc (suc (suc (suc zero))))) l = f
by_turn P a b c d e f g h (suc (suc (suc (suc (suc (suc zero)))))) l = g
by_turn P a b c d e f g h (suc (suc (suc (suc (suc (suc (suc zero))))))) l = h
by_turn P a b c d e f g h (suc (suc (suc (suc (suc (suc (suc (suc n)))))))) l = absurd (omega arith)

-- the turn that stands at an index has it
pub index_of : (s : ℕ) (d : Turn) → s < 8 → index (get_or turns s d) ≡ s
index_of s d = by_turn (λ n. index (get_or turns n d) ≡ n) refl refl refl refl refl refl refl refl s

-- an index below 8 is that of its turn
pub index_at : (s : ℕ) → s < 8 → index (turn_at s) ≡ s
index_at s = index_of s MirroredThreeQuarters

pub below_eight : (t : Turn) → index t < 8
below_eight = elim [ Whole ↦ omega arith | Quarter ↦ omega arith | Half ↦ omega arith | ThreeQuarters ↦ omega arith | Mirrored ↦ omega arith | MirroredQuarter ↦ omega arith | MirroredHalf ↦ omega arith | MirroredThreeQuarters ↦ omega arith ]

-- ---- sums and multiples
neg_plus : (x p : ℤ) → neg_ℤ (x +ℤ p) ≡ neg_ℤ x +ℤ neg_ℤ p
neg_plus x p = omega (arith, ints)

pub across_plus : (x y p q : ℤ) (s : ℕ) → s < 8 → across s (x +ℤ p) (y +ℤ q) ≡ across s x y +ℤ across s p q
unfolding across
across_plus x y p q = by_turn (λ s. across s (x +ℤ p) (y +ℤ q) ≡ across s x y +ℤ across s p q) refl (neg_plus y q) (neg_plus x p) refl (neg_plus x p) (neg_plus y q) refl refl

pub upward_plus : (x y p q : ℤ) (s : ℕ) → s < 8 → upward s (x +ℤ p) (y +ℤ q) ≡ upward s x y +ℤ upward s p q
unfolding upward
upward_plus x y p q = by_turn (λ s. upward s (x +ℤ p) (y +ℤ q) ≡ upward s x y +ℤ upward s p q) refl refl (neg_plus y q) (neg_plus x p) refl (neg_plus x p) (neg_plus y q) refl

pub across_times : (k x y : ℤ) (s : ℕ) → s < 8 → across s (k *ℤ x) (k *ℤ y) ≡ k *ℤ across s x y
unfolding across
across_times k x y = by_turn (λ s. across s (k *ℤ x) (k *ℤ y) ≡ k *ℤ across s x y) refl (sym (times_neg k y)) (sym (times_neg k x)) refl (sym (times_neg k x)) (sym (times_neg k y)) refl refl

pub upward_times : (k x y : ℤ) (s : ℕ) → s < 8 → upward s (k *ℤ x) (k *ℤ y) ≡ k *ℤ upward s x y
unfolding upward
upward_times k x y = by_turn (λ s. upward s (k *ℤ x) (k *ℤ y) ≡ k *ℤ upward s x y) refl refl (sym (times_neg k y)) (sym (times_neg k x)) refl (sym (times_neg k x)) (sym (times_neg k y)) refl

-- ---- sizes
pub size_neg : (z : ℤ) → nat_abs (neg_ℤ z) ≡ nat_abs z
size_neg (pos zero) = refl
size_neg (pos (suc n)) = refl
size_neg (negsuc n) = refl

-- what holds of the sizes of x and y, in either order, holds of those of the image
pub by_sizes : (P : ℕ → ℕ → Type 0) (x y : ℤ) → P (nat_abs x) (nat_abs y) → P (nat_abs y) (nat_abs x) → (s : ℕ) → s < 8 → P (nat_abs (across s x y)) (nat_abs (upward s x y))
unfolding across upward
by_sizes P x y h k =
    let nx = sym (size_neg x) in
    let ny = sym (size_neg y) in
    by_turn (λ s. P (nat_abs (across s x y)) (nat_abs (upward s x y)))
    h (subst (λ (n : ℕ). P n (nat_abs x)) ny k)
    (subst (λ (n : ℕ). P n (nat_abs (neg_ℤ y))) nx (subst (P (nat_abs x)) ny h)) (subst (P (nat_abs y)) nx k)
    (subst (λ (n : ℕ). P n (nat_abs y)) nx h) (subst (λ (n : ℕ). P n (nat_abs (neg_ℤ x))) ny (subst (P (nat_abs y)) nx k))
    (subst (P (nat_abs x)) ny h) k

pub turned_sizes : (n : ℕ) (x y : ℤ) → nat_abs x ≤ n → nat_abs y ≤ n → (s : ℕ) → s < 8 → (nat_abs (across s x y) ≤ n) × (nat_abs (upward s x y) ≤ n)
turned_sizes n x y h k = by_sizes (λ a b. (a ≤ n) × (b ≤ n)) x y (h, k) (k, h)

-- a turn keeps the field
pub ranged_turned : (x y : ℤ) → ranged x ≡ true → ranged y ≡ true → (s : ℕ) → s < 8 → (ranged (across s x y) ≡ true) × (ranged (upward s x y) ≡ true)
ranged_turned x y h k s l = let t = turned_sizes 2000 x y (ranged_size x h) (ranged_size y k) s l in (size_ranged (across s x y) t.0, size_ranged (upward s x y) t.1)

pub ranged_back : (x y : ℤ) (s : ℕ) → s < 8 → ranged (across s x y) ≡ true → ranged (upward s x y) ≡ true → (ranged x ≡ true) × (ranged y ≡ true)
ranged_back x y s l h k =
    let t = by_sizes (λ a b. a ≤ 2000 → b ≤ 2000 → (nat_abs x ≤ 2000) × (nat_abs y ≤ 2000)) x y (λ a b. (a, b)) (λ a b. (b, a)) s l (ranged_size (across s x y) h) (ranged_size (upward s x y) k) in
    (size_ranged x t.0, size_ranged y t.1)
