-- The list of places exists: of finitely many placements each is a place or none.
use Rattle.std.proofs.Common.{◌≡◌, ℕ, zero, suc, ◌+◌, ◌-◌, ◌<◌, Bool, true, false, not, ◌&&◌, ◌||◌, ltb, ◌⊎◌, ◌↔◌, List, [], ◌∷◌, ◌++◌, ℤ, pos, negsuc, ◌+ℤ◌, ◌≤ℤ◌, Some, sym, refl, ap, ◌∙◌, subst, inl, inr, ⊎_elim, arith}
use Rattle.std.proofs.lemmas.Int.{ints}
use Rattle.std.proofs.lemmas.Bool.{false≢true, both_ways, ltb-true, lt-ltb, and_parts, cases_order, and_from, or_cases, or_left, or_right}
use Rattle.lattice.specs.declared.placement.Placement.{Placement}
use Rattle.lattice.specs.Field.{shifting}
use Rattle.lattice.specs.Order.{triple, Earlier}
use Rattle.lattice.proofs.Same.{same_placement}
use Rattle.kinds.specs.Model.{KindModel, covers, moved}
use Rattle.kinds.specs.Rules.{Rules}
use Rattle.kinds.proofs.Having.{has_from}
use Rattle.kinds.proofs.Standing.{atom, has_atom, at_atom, one_atom}
use Rattle.sheets.specs.Cover.{cover}
use Rattle.grammar.specs.Numbers.{nth}
use Rattle.grammar.specs.Places.{Place, Numbered}
use Rattle.grammar.specs.Rules.{Side, side}
use Rattle.grammar.specs.Sets.{Set, Sets}
use Rattle.grammar.proofs.Numbers.{none_some, Mem, Rises, split, mem_cons}
use Rattle.grammar.proofs.Placements.{turn_below, shift_low, shift_high, before_trans, compared}
use Rattle.grammar.proofs.Tests.{or_not, not_or}
use Rattle.lattice.specs.Turns.{index, turn_at}
use Rattle.lattice.proofs.Turning.{index_at}

-- each is earlier than all that stand behind it
abbrev pub Sorted : List Placement → Type 0
Sorted [] = Unit {0}
Sorted (p ∷ ps) = ((q : Placement) → Mem ps q → Earlier p q) × Sorted ps

pub sorted_rises : (ps : List Placement) → Sorted ps → Rises ps
sorted_rises [] s j k p q a b l = absurd (none_some a)
sorted_rises (x ∷ xs) s j k p q a b l = go (sorted_rises xs s.1) (split x xs j p a) (split x xs k q b)
  where
    go : Rises xs → ((j ≡ 1) × (x ≡ p)) ⊎ ((i : ℕ) × (j ≡ suc (suc i)) × (nth xs (suc i) ≡ Some p)) → ((k ≡ 1) × (x ≡ q)) ⊎ ((i : ℕ) × (k ≡ suc (suc i)) × (nth xs (suc i) ≡ Some q)) → Earlier p q
    go w (inl u) (inl v) = absurd (let e = u.0 in let f = v.0 in omega arith)
    go w (inl u) (inr v) = subst (λ y. Earlier y q) u.1 (s.0 q (suc v.0, v.2))
    go w (inr u) (inl v) = absurd (let e = u.1 in let f = v.0 in omega arith)
    go w (inr u) (inr v) = w (suc u.0) (suc v.0) p q u.2 v.2 (let e = u.1 in let f = v.1 in omega arith)

abbrev With : Placement → List Placement → List Placement → Type 0
With p ps qs = Sorted qs × ((q : Placement) → Mem qs q ↔ ((p ≡ q) ⊎ Mem ps q))

inserted : (p : Placement) (ps : List Placement) → Sorted ps → (qs : List Placement) × With p ps qs
inserted p [] s = (p ∷ [], ((λ q m. absurd (none_some m.1), tt), λ q. mem_cons p [] q))
inserted p (x ∷ xs) s = go (compared p x) (inserted p xs s.1)
  where
    go : Earlier p x ⊎ ((p ≡ x) ⊎ Earlier x p) → ((qs : List Placement) × With p xs qs) → (qs : List Placement) × With p (x ∷ xs) qs
    go (inl h) r = (p ∷ x ∷ xs, ((λ q m. front q ((mem_cons x xs q).0 m), s), λ q. mem_cons p (x ∷ xs) q))
      where
        front : (q : Placement) → (x ≡ q) ⊎ Mem xs q → Earlier p q
        front q (inl e) = subst (λ y. Earlier p y) e h
        front q (inr m) = before_trans (triple p) (triple x) (triple q) h (s.0 q m)
    go (inr (inl e)) r = (x ∷ xs, (s, λ q. (λ m. inr m, back q)))
      where
        back : (q : Placement) → (p ≡ q) ⊎ Mem (x ∷ xs) q → Mem (x ∷ xs) q
        back q (inl f) = (1, ap Some (sym e ∙ f))
        back q (inr m) = m
    go (inr (inr h)) r = (x ∷ r.0, ((λ q m. front q ((r.1.1 q).0 m), r.1.0), λ q. (λ m. fore q ((mem_cons x r.0 q).0 m), back q)))
      where
        front : (q : Placement) → (p ≡ q) ⊎ Mem xs q → Earlier x q
        front q (inl e) = subst (λ y. Earlier x y) e h
        front q (inr m) = s.0 q m

        under : (q : Placement) → (p ≡ q) ⊎ Mem xs q → (p ≡ q) ⊎ Mem (x ∷ xs) q
        under q (inl e) = inl e
        under q (inr m) = inr ((mem_cons x xs q).1 (inr m))

        fore : (q : Placement) → (x ≡ q) ⊎ Mem r.0 q → (p ≡ q) ⊎ Mem (x ∷ xs) q
        fore q (inl e) = inr (1, ap Some e)
        fore q (inr m) = under q ((r.1.1 q).0 m)

        over : (q : Placement) → (x ≡ q) ⊎ Mem xs q → Mem (x ∷ r.0) q
        over q (inl e) = (1, ap Some e)
        over q (inr m) = (mem_cons x r.0 q).1 (inr ((r.1.1 q).1 (inr m)))

        back : (q : Placement) → (p ≡ q) ⊎ Mem (x ∷ xs) q → Mem (x ∷ r.0) q
        back q (inl e) = (mem_cons x r.0 q).1 (inr ((r.1.1 q).1 (inl e)))
        back q (inr m) = over q ((mem_cons x xs q).0 m)

-- of a list, those that have a property
sifted : (P : Placement → Type 0) → ((p : Placement) → Dec (P p)) → (cs : List Placement) → (ps : List Placement) × Sorted ps × ((p : Placement) → Mem ps p ↔ (Mem cs p × P p))
sifted P D [] = ([], tt, λ p. (λ m. absurd (none_some m.1), λ m. absurd (none_some m.0.1)))
sifted P D (c ∷ cs) = go (D c) (sifted P D cs)
  where
    go : Dec (P c) → ((ps : List Placement) × Sorted ps × ((p : Placement) → Mem ps p ↔ (Mem cs p × P p))) → (ps : List Placement) × Sorted ps × ((p : Placement) → Mem ps p ↔ (Mem (c ∷ cs) p × P p))
    go (yes h) r = let n = inserted c r.0 r.1 in (n.0, n.1.0, λ p. (λ m. fore p ((n.1.1 p).0 m), λ m. (n.1.1 p).1 (back p ((mem_cons c cs p).0 m.0) m.1)))
      where
        fore : (p : Placement) → (c ≡ p) ⊎ Mem r.0 p → Mem (c ∷ cs) p × P p
        fore p (inl e) = ((1, ap Some e), subst P e h)
        fore p (inr m) = ((mem_cons c cs p).1 (inr ((r.2 p).0 m).0), ((r.2 p).0 m).1)

        back : (p : Placement) → (c ≡ p) ⊎ Mem cs p → P p → (c ≡ p) ⊎ Mem r.0 p
        back p (inl e) x = inl e
        back p (inr m) x = inr ((r.2 p).1 (m, x))
    go (no h) r = (r.0, r.1, λ p. (λ m. ((mem_cons c cs p).1 (inr ((r.2 p).0 m).0), ((r.2 p).0 m).1), λ m. back p ((mem_cons c cs p).0 m.0) m.1))
      where
        back : (p : Placement) → (c ≡ p) ⊎ Mem cs p → P p → Mem r.0 p
        back p (inl e) x = absurd (h (subst P (sym e) x))
        back p (inr m) x = (r.2 p).1 (m, x)

-- all placements
module _ {A : Type 0} where
  mem_left : (xs ys : List A) (x : A) → Mem xs x → Mem (xs ++ ys) x
  mem_left [] ys x m = absurd (none_some m.1)
  mem_left (y ∷ xs) ys x m = go (λ n. mem_left xs ys x n) ((mem_cons y xs x).0 m)
    where
      go : (Mem xs x → Mem (xs ++ ys) x) → (y ≡ x) ⊎ Mem xs x → Mem (y ∷ (xs ++ ys)) x
      go w (inl e) = (1, ap Some e)
      go w (inr n) = (mem_cons y (xs ++ ys) x).1 (inr (w n))

  mem_right : (xs ys : List A) (x : A) → Mem ys x → Mem (xs ++ ys) x
  mem_right [] ys x m = m
  mem_right (y ∷ xs) ys x m = (mem_cons y (xs ++ ys) x).1 (inr (mem_right xs ys x m))

  pub gathered : ℕ → (ℕ → List A) → List A
  gathered zero f = []
  gathered (suc n) f = f n ++ gathered n f

  pub mem_gathered : (n : ℕ) (f : ℕ → List A) (i : ℕ) (x : A) → i < n → Mem (f i) x → Mem (gathered n f) x
  unfolding gathered
  mem_gathered zero f i x h m = absurd (omega arith)
  mem_gathered (suc n) f i x h m = go (λ k. mem_gathered n f i x k m) (cases_order i n)
    where
      go : (i < n → Mem (gathered n f) x) → (i ≡ n) ⊎ ((i < n) ⊎ (n < i)) → Mem (f n ++ gathered n f) x
      go w (inr (inl k)) = mem_right (f n) (gathered n f) x (w k)
      go w (inl e) = mem_left (f n) (gathered n f) x (subst (λ j. Mem (f j) x) e m)
      go w (inr (inr k)) = absurd (omega arith)

-- a number of a range, counted from its lower end
pub counted_up : (m k : ℕ) (z : ℤ) → negsuc m ≤ℤ z → z ≤ℤ pos k → (i : ℕ) × (i < suc (suc (m + k))) × (pos i +ℤ negsuc m ≡ z)
counted_up m k (pos n) h g = (n + suc m, omega (arith, ints), omega (arith, ints))
counted_up m k (negsuc n) h g = (m - n, omega (arith, ints), omega (arith, ints))

-- all placements with the turn and the shifts, if there are
turned : (s : ℕ) (b : Bool) → ltb s 8 ≡ b → (u v : ℤ) (c d : Bool) → shifting u ≡ c → shifting v ≡ d → List Placement
turned s true p u v true true q r = record { turn = turn_at s; across = u; up = v; sideways = q; upwards = r } ∷ []
turned s true p u v true false q r = []
turned s true p u v false true q r = []
turned s true p u v false false q r = []
turned s false p u v c d q r = []

with_numbers : ℕ → ℕ → ℕ → List Placement
with_numbers s u v = turned s (ltb s 8) refl (pos u +ℤ negsuc 3999) (pos v +ℤ negsuc 3999) (shifting (pos u +ℤ negsuc 3999)) (shifting (pos v +ℤ negsuc 3999)) refl refl

everywhere : List Placement
everywhere = gathered 8 (λ s. gathered (suc (suc (3999 + 4000))) (λ u. gathered (suc (suc (3999 + 4000))) (λ v. with_numbers s u v)))

mem_turned : (p : Placement) (s : ℕ) (b : Bool) (e : ltb s 8 ≡ b) (u v : ℤ) (c d : Bool) (f : shifting u ≡ c) (g : shifting v ≡ d) → s ≡ (index p.turn) → u ≡ p.across → v ≡ p.up → Mem (turned s b e u v c d f g) p
unfolding turned
mem_turned p s true e u v true true f g x y z = (1, ap Some (same_placement _ p (index_at s (ltb-true s 8 e) ∙ x) y z))
mem_turned p s true e u v true false f g x y z = absurd (both_ways (shifting v) g (ap shifting z ∙ p.upwards))
mem_turned p s true e u v false true f g x y z = absurd (both_ways (shifting u) f (ap shifting y ∙ p.sideways))
mem_turned p s true e u v false false f g x y z = absurd (both_ways (shifting u) f (ap shifting y ∙ p.sideways))
mem_turned p s false e u v c d f g x y z = absurd (both_ways (ltb s 8) e (ap (λ n. ltb n 8) x ∙ lt-ltb (index p.turn) 8 (turn_below p)))

all_there : (p : Placement) → Mem everywhere p
unfolding everywhere with_numbers
all_there p =
    let u = counted_up 3999 4000 p.across (shift_low p.across p.sideways) (shift_high p.across p.sideways) in
    let v = counted_up 3999 4000 p.up (shift_low p.up p.upwards) (shift_high p.up p.upwards) in
    mem_gathered _ _ (index p.turn) p (turn_below p) (mem_gathered _ _ u.0 p u.1 (mem_gathered _ _ v.0 p v.1 (mem_turned p (index p.turn) _ refl _ _ _ _ refl refl refl u.2 v.2)))

-- a test of every number below another
all_below : ℕ → (ℕ → Bool) → Bool
all_below zero f = true
all_below (suc n) f = f n && all_below n f

below_all : (n : ℕ) (f : ℕ → Bool) → all_below n f ≡ true → (k : ℕ) → k < n → f k ≡ true
unfolding all_below
below_all zero f h k l = absurd (omega arith)
below_all (suc n) f h k l = go (λ m. below_all n f (and_parts (f n) (all_below n f) h).1 k m) (cases_order k n)
  where
    go : (k < n → f k ≡ true) → (k ≡ n) ⊎ ((k < n) ⊎ (n < k)) → f k ≡ true
    go w (inr (inl m)) = w m
    go w (inl e) = ap f e ∙ (and_parts (f n) (all_below n f) h).0
    go w (inr (inr m)) = absurd (omega arith)

all_of : (n : ℕ) (f : ℕ → Bool) → ((k : ℕ) → k < n → f k ≡ true) → all_below n f ≡ true
unfolding all_below
all_of zero f h = refl
all_of (suc n) f h = and_from (f n) (all_below n f) (h n (omega arith)) (all_of n f (λ k l. h k (omega arith)))

pub decided : (b : Bool) → Dec (b ≡ true)
decided true = yes refl
decided false = no false≢true

pub dec_by : {P Q : Type 0} → Dec P → (P → Q) → (Q → P) → Dec Q
dec_by (yes p) f g = yes (f p)
dec_by (no h) f g = no (λ q. h (g q))

pub dec_and : {P Q : Type 0} → Dec P → Dec Q → Dec (P × Q)
dec_and (yes p) (yes q) = yes (p, q)
dec_and (yes p) (no h) = no (λ x. h x.1)
dec_and (no h) (yes q) = no (λ x. h x.0)
dec_and (no h) (no k) = no (λ x. h x.0)

module _ {E A C : Type 0} (K : KindModel E A C) (R : Rules K) where
  -- whether all atoms of an element are in a set
  inside : E → Set A → Bool
  inside e Q = all_below (suc (suc (1999 + 2000))) (λ k. not (covers K e (atom K R e (pos k +ℤ negsuc 1999))) || Q (atom K R e (pos k +ℤ negsuc 1999)))

  -- an element's atom is the one at its position
  pub own_atom : (e : E) (a : A) → covers K e a ≡ true → atom K R e (K.at a) ≡ a
  own_atom e a h =
      let x = has_from K R.ordered e a h in
      one_atom K R e e _ a (has_atom K R e (K.at a) x.from x.to) x refl (at_atom K R e (K.at a) x.from x.to)

  inside_all : (e : E) (Q : Set A) → inside e Q ≡ true → (a : A) → covers K e a ≡ true → Q a ≡ true
  unfolding inside
  inside_all e Q h a c =
      let f = R.inside e a c in
      let k = counted_up 1999 2000 (K.at a) (R.low a f) (R.high a f) in
      let g = below_all _ _ h k.0 k.1 in
      let o : atom K R e (pos k.0 +ℤ negsuc 1999) ≡ a = ap (atom K R e) k.2 ∙ own_atom e a c in
      or_not (covers K e a) (Q a) (subst (λ (x : A). (not (covers K e x) || Q x) ≡ true) o g) c

  all_inside : (e : E) (Q : Set A) → ((a : A) → covers K e a ≡ true → Q a ≡ true) → inside e Q ≡ true
  unfolding inside
  all_inside e Q h = all_of _ _ (λ k l. not_or _ _ (h (atom K R e (pos k +ℤ negsuc 1999))))

  pub dec_inside : (es : List E) (Q : Set A) → Dec ((a : A) → cover K es a ≡ true → Q a ≡ true)
  dec_inside [] Q = yes (λ a h. absurd (false≢true h))
  dec_inside (e ∷ es) Q =
      dec_by (dec_and (decided (inside e Q)) (dec_inside es Q))
      (λ h a c. ⊎_elim (inside_all e Q h.0 a) (h.1 a) (or_cases (covers K e a) (cover K es a) c))
      (λ h. (all_inside e Q (λ a c. h a (or_left (covers K e a) (cover K es a) c)), λ a c. h a (or_right (covers K e a) (cover K es a) c)))

  pub dec_some : (es : List E) → Dec ((a : A) × (cover K es a ≡ true))
  dec_some [] = no (λ h. false≢true h.1)
  dec_some (e ∷ es) = let s = R.some e in yes (s.0, or_left (covers K e s.0) (cover K es s.0) s.1)

pub dec_or : {P Q : Type 0} → Dec P → Dec Q → Dec (P ⊎ Q)
dec_or (yes p) d = yes (inl p)
dec_or (no h) (yes q) = yes (inr q)
dec_or (no h) (no k) = no (⊎_elim h k)

module _ {EM AM CM EC Ac CC : Type 0} (M : KindModel EM AM CM) (C : KindModel EC Ac CC) (RM : Rules M) (RC : Rules C) where
  dec_place : (l : Side EM EC) (S : Sets AM Ac) (p : Placement) → Dec (Place M C (side M C l) S p)
  dec_place l S p =
      dec_by (dec_and (dec_or (dec_some M RM l.marks) (dec_some C RC l.cuts)) (dec_and (dec_inside M RM l.marks (λ a. S.marks (moved M p a))) (dec_inside C RC l.cuts (λ a. S.cuts (moved C p a)))))
      (λ h. record { filled = h.0; marks = h.1.0; cuts = h.1.1 })
      (λ h. (h.filled, (h.marks, h.cuts)))

  -- every left side has its list, on any sets
  pub numbered : (l : Side EM EC) (S : Sets AM Ac) → (ps : List Placement) × Numbered M C (side M C l) S ps
  numbered l S =
      let r = sifted (Place M C (side M C l) S) (dec_place l S) everywhere in
      (r.0, record { each = λ p h. (r.2 p).1 (all_there p, h); only = λ k p h. ((r.2 p).0 (k, h)).1; rise = sorted_rises r.0 r.1 })
