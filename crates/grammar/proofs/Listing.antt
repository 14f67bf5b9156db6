-- Every set of atoms that lies within finitely many elements has its list of maximal elements.
-- the positions, counted from the lowest
use Rattle.std.proofs.Common.{◌≡◌, ℕ, zero, suc, ◌<◌, Bool, true, false, ◌&&◌, ◌||◌, ◌⊎◌, ◌↔◌, List, [], ◌∷◌, ◌++◌, ℤ, pos, negsuc, ◌+ℤ◌, ◌≤ℤ◌, ◌<ℤ◌, sym, refl, ap, ◌∙◌, inl, inr, arith}
use lib.Signed.{le_z, lt_z}
use Rattle.std.proofs.lemmas.Int.{ints}
use Rattle.std.proofs.lemmas.Bool.{false≢true, both_ways, and_parts, cases_order, and_from, or_cases, or_left, or_right}
use Rattle.kinds.specs.Model.{KindModel, covers}
use Rattle.kinds.specs.Rules.{Slice, Rules}
use Rattle.kinds.proofs.Having.{same_tests, has_from}
use Rattle.kinds.proofs.Numbers.{lt_from, le_from, lt_to, le_to, cases_lt_z}
use Rattle.kinds.proofs.Standing.{atom}
use Rattle.sheets.specs.Cover.{cover}
use Rattle.sheets.specs.Maximal.{Lists}
use Rattle.sheets.proofs.Joined.{cover_append}
use Rattle.sheets.proofs.Order.{pairs_to}
use Rattle.grammar.specs.Sets.{Set}
use Rattle.grammar.proofs.Exists.{counted_up, own_atom}
use Rattle.grammar.proofs.Gathering.{gathered_up}
use Rattle.grammar.proofs.Tests.{along}

spot : ℕ → ℤ
spot k = pos k +ℤ negsuc 1999

spot_less : (k : ℕ) → spot k <ℤ spot (suc k)
unfolding spot
spot_less k = omega (arith, ints)

spot_tight : (k : ℕ) (z : ℤ) → spot k <ℤ z → spot (suc k) ≤ℤ z
unfolding spot
spot_tight k z h = omega (arith, ints)

spot_only : (k : ℕ) (z : ℤ) → spot k ≤ℤ z → z <ℤ spot (suc k) → z ≡ spot k
unfolding spot
spot_only k z h l = omega (arith, ints)

spot_of : (z : ℤ) → negsuc 1999 ≤ℤ z → z ≤ℤ pos 2000 → (k : ℕ) × (k < 4001) × (z ≡ spot k)
unfolding spot
spot_of z h l = let c = counted_up 1999 2000 z h l in (c.0, c.1, sym c.2)

module _ {E A C : Type 0} (m : KindModel E A C) (r : Rules m) where
  -- the element's part at one position
  unit : (x : E) (k : ℕ) → m.start x ≤ℤ spot k → spot k <ℤ m.end x → (p : E) × Slice m x (spot k) (spot (suc k)) p
  unit x k l h = r.parted x (spot k) (spot (suc k)) (record { low = l; some = spot_less k; high = spot_tight k (m.end x) h })

  -- that part, if there is one and its atom lies in a set
  one_spot : (x : E) (k : ℕ) → (spot k <ℤ m.start x) ⊎ (m.start x ≤ℤ spot k) → (spot k <ℤ m.end x) ⊎ (m.end x ≤ℤ spot k) → Bool → List E
  one_spot x k (inr l) (inl h) true = (unit x k l h).0 ∷ []
  one_spot x k (inr l) (inl h) false = []
  one_spot x k (inr l) (inr h) b = []
  one_spot x k (inl l) y b = []

  abbrev Spotted : Set A → E → ℕ → A → Type 0
  Spotted S x k a = (covers m x a ≡ true) × (S a ≡ true) × (m.at a ≡ spot k)

  -- the atom at a position is the one that an element has there
  there : (S : Set A) (x : E) (k : ℕ) (a : A) → covers m x a ≡ true → m.at a ≡ spot k → S (atom m r x (spot k)) ≡ S a
  there S x k a h p = ap S (ap (atom m r x) (sym p) ∙ own_atom m r x a h)

  spot_covers : (S : Set A) (x : E) (k : ℕ) (y : (spot k <ℤ m.start x) ⊎ (m.start x ≤ℤ spot k)) (z : (spot k <ℤ m.end x) ⊎ (m.end x ≤ℤ spot k)) (b : Bool) → S (atom m r x (spot k)) ≡ b → (a : A) → (cover m (one_spot x k y z b) a ≡ true) ↔ Spotted S x k a
  unfolding one_spot
  spot_covers S x k (inr l) (inl h) true q a = (λ c. fore (or_cases (covers m (unit x k l h).0 a) false c), λ c. back c.0 c.2)
    where
      fore : (covers m (unit x k l h).0 a ≡ true) ⊎ (false ≡ true) → Spotted S x k a
      fore (inr c) = absurd (false≢true c)
      fore (inl c) =
          let y = and_parts (covers m x a) (le_z (spot k) (m.at a) && lt_z (m.at a) (spot (suc k))) (along ((unit x k l h).1 a) c) in
          let z = and_parts (le_z (spot k) (m.at a)) (lt_z (m.at a) (spot (suc k))) y.1 in
          let p = spot_only k (m.at a) (le_from _ _ z.0) (lt_from _ _ z.1) in
          (y.0, along (there S x k a y.0 p) q, p)

      back : covers m x a ≡ true → m.at a ≡ spot k → (covers m (unit x k l h).0 a || false) ≡ true
      back c p =
          let n = spot_less k in
          let u : spot k ≤ℤ m.at a = omega (arith, ints, p) in
          let v : m.at a <ℤ spot (suc k) = omega (arith, ints, p, n) in
          or_left (covers m (unit x k l h).0 a) false ((unit x k l h).1 a ∙ and_from (covers m x a) _ c (and_from _ _ (le_to _ _ u) (lt_to _ _ v)))
  spot_covers S x k (inr l) (inl h) false q a = (λ c. absurd (false≢true c), λ c. absurd (both_ways _ q (there S x k a c.0 c.2 ∙ c.1)))
  spot_covers S x k (inr l) (inr h) b q a = (λ c. absurd (false≢true c), λ c. let w = has_from m r.ordered x a c.0 in let t = w.to in absurd (omega (arith, ints, c.2)))
  spot_covers S x k (inl l) y b q a = (λ c. absurd (false≢true c), λ c. let w = has_from m r.ordered x a c.0 in let t = w.from in absurd (omega (arith, ints, c.2)))

  at_spot : Set A → E → ℕ → List E
  at_spot S x k = one_spot x k (cases_lt_z (spot k) (m.start x)) (cases_lt_z (spot k) (m.end x)) (S (atom m r x (spot k)))

  spots : Set A → E → ℕ → List E
  spots S x zero = []
  spots S x (suc k) = at_spot S x k ++ spots S x k

  abbrev Hit : Set A → E → ℕ → A → Type 0
  Hit S x n a = (covers m x a ≡ true) × (S a ≡ true) × ((k : ℕ) × (k < n) × (m.at a ≡ spot k))

  spots_cover : (S : Set A) (x : E) (n : ℕ) (a : A) → (cover m (spots S x n) a ≡ true) ↔ Hit S x n a
  unfolding spots at_spot
  spots_cover S x zero a = (λ h. absurd (false≢true h), λ h. absurd (let l = h.2.1 in omega arith))
  spots_cover S x (suc k) a =
      let one = spot_covers S x k (cases_lt_z (spot k) (m.start x)) (cases_lt_z (spot k) (m.end x)) (S (atom m r x (spot k))) refl a in
      let rest = spots_cover S x k a in
      let c = cover_append m (at_spot S x k) (spots S x k) a in
      (λ h. fore one.0 rest.0 (or_cases _ _ (along c h)), λ h. along (sym c) (back one.1 rest.1 h (cases_order h.2.0 k)))
    where
      fore : (cover m (at_spot S x k) a ≡ true → Spotted S x k a) → (cover m (spots S x k) a ≡ true → Hit S x k a) → (cover m (at_spot S x k) a ≡ true) ⊎ (cover m (spots S x k) a ≡ true) → Hit S x (suc k) a
      fore f g (inl h) = let y = f h in (y.0, y.1, (k, omega arith, y.2))
      fore f g (inr h) = let y = g h in (y.0, y.1, (y.2.0, let l = y.2.1 in omega arith, y.2.2))

      back : (Spotted S x k a → cover m (at_spot S x k) a ≡ true) → (Hit S x k a → cover m (spots S x k) a ≡ true) → (h : Hit S x (suc k) a) → (h.2.0 ≡ k) ⊎ ((h.2.0 < k) ⊎ (k < h.2.0)) → (cover m (at_spot S x k) a || cover m (spots S x k) a) ≡ true
      back f g h (inr (inl l)) = or_right (cover m (at_spot S x k) a) (cover m (spots S x k) a) (g (h.0, h.1, (h.2.0, l, h.2.2)))
      back f g h (inl e) = or_left (cover m (at_spot S x k) a) (cover m (spots S x k) a) (f (h.0, h.1, h.2.2 ∙ ap spot e))
      back f g h (inr (inr l)) = absurd (let w = h.2.1 in omega arith)

  -- the atoms of all of a list that lie in S, one by one
  within : Set A → List E → List E
  within S [] = []
  within S (x ∷ xs) = spots S x 4001 ++ within S xs

  within_covers : (S : Set A) (xs : List E) (a : A) → (cover m (within S xs) a ≡ true) ↔ ((cover m xs a ≡ true) × (S a ≡ true))
  unfolding within
  within_covers S [] a = (λ h. absurd (false≢true h), λ h. h.0)
  within_covers S (x ∷ xs) a =
      let one = spots_cover S x 4001 a in
      let rest = within_covers S xs a in
      let c = cover_append m (spots S x 4001) (within S xs) a in
      (λ h. fore one.0 rest.0 (or_cases _ _ (along c h)), λ h. along (sym c) (back one.1 rest.1 h.1 (or_cases _ _ h.0)))
    where
      fore : (cover m (spots S x 4001) a ≡ true → Hit S x 4001 a) → (cover m (within S xs) a ≡ true → (cover m xs a ≡ true) × (S a ≡ true)) → (cover m (spots S x 4001) a ≡ true) ⊎ (cover m (within S xs) a ≡ true) → (cover m (x ∷ xs) a ≡ true) × (S a ≡ true)
      fore f g (inl h) = let y = f h in (or_left (covers m x a) (cover m xs a) y.0, y.1)
      fore f g (inr h) = let y = g h in (or_right (covers m x a) (cover m xs a) y.0, y.1)

      back : (Hit S x 4001 a → cover m (spots S x 4001) a ≡ true) → ((cover m xs a ≡ true) × (S a ≡ true) → cover m (within S xs) a ≡ true) → S a ≡ true → (covers m x a ≡ true) ⊎ (cover m xs a ≡ true) → (cover m (spots S x 4001) a || cover m (within S xs) a) ≡ true
      back f g s (inl h) =
          let i = r.inside x a h in
          let k = spot_of (m.at a) (r.low a i) (r.high a i) in
          or_left (cover m (spots S x 4001) a) (cover m (within S xs) a) (f (h, s, k))
      back f g s (inr h) = or_right (cover m (spots S x 4001) a) (cover m (within S xs) a) (g (h, s))

  pub list_of_set : (xs : List E) (S : Set A) → ((a : A) → S a ≡ true → cover m xs a ≡ true) → (es : List E) × Lists m S es
  list_of_set xs S h =
      let w = gathered_up m r (within S xs) in
      (w.0, record { ordered = pairs_to m w.0 w.1; covering = λ a. w.2 a ∙ same_tests _ _ (λ x. ((within_covers S xs a).0 x).1) (λ x. (within_covers S xs a).1 (h a x, x)) })
