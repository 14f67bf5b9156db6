-- What the positions of an element, the elements of a list and the turns add to a search.
use Rattle.std.proofs.Common.{◌≡◌, ℕ, zero, suc, ◌+◌, ◌<◌, ◌≤◌, Bool, true, ◌&&◌, ◌||◌, ◌⊎◌, List, [], ◌∷◌, length, get_or, take, ℤ, pos, ◌+ℤ◌, ◌≤ℤ◌, ◌<ℤ◌, Some, None, Option, sym, refl, ap, ◌∙◌, subst, inl, inr, ⊎_elim, le_of_suc-le-suc, add-one, arith}
use Rattle.std.proofs.lemmas.Int.{ints}
use Rattle.std.proofs.lemmas.Bool.{both_ways, cases_order, and_from, or_cases, or_left, or_right}
use Rattle.lattice.specs.declared.placement.Placement.{Placement}
use Rattle.lattice.specs.declared.turn.Turn.{Turn}
use Rattle.search.specs.declared.scene.Scene.{Scene}
use Rattle.kinds.specs.Answers.{AtomAt, Shifts}
use Rattle.lattice.specs.Field.{shifting}
use Rattle.lattice.specs.Order.{Triple, triple, Before, Earlier}
use Rattle.lattice.proofs.Bounds.{shifting_from}
use Rattle.lattice.proofs.Same.{same_placement}
use Rattle.kinds.specs.Model.{KindModel, covers, moved}
use Rattle.kinds.specs.Rules.{Rules}
use Rattle.kinds.proofs.Having.{has_from}
use Rattle.kinds.proofs.Numbers.{cases_lt_z}
use Rattle.kinds.proofs.Standing.{nonempty, one_atom}
use Rattle.sheets.specs.Cover.{cover}
use Rattle.sheets.specs.Maximal.{Part}
use Rattle.sheets.proofs.Joined.{or_assoc, or_none}
use Rattle.grammar.specs.Places.{LeastOf, Place, Least}
use Rattle.grammar.specs.Sets.{Set}
use Rattle.grammar.proofs.Landings.{covers_field}
use Rattle.grammar.proofs.Numbers.{none_some}
use Rattle.search.specs.Scenes.{sought, drawn, Fits}
use Rattle.search.specs.Steps.{Lands, Turned, Improves, FirstAtom}
use Rattle.search.proofs.Best.{least_same, improves_same, improves_none, improves_nothing, improves_both}
use Rattle.lattice.specs.Turns.{index}
use Rattle.lattice.proofs.Turning.{below_eight}

module _ {E A C : Type 0} (m : KindModel E A C) where
  cover_suc : (xs : List E) (i : ℕ) (x d : E) (a : A) → i < length xs → x ≡ get_or xs i d → cover m (take (suc i) xs) a ≡ (cover m (take i xs) a || covers m x a)
  cover_suc [] i x d a h e = absurd (omega arith)
  cover_suc (y ∷ ys) zero x d a h e = or_none (covers m y a) ∙ ap (λ (z : E). covers m z a) (sym e)
  cover_suc (y ∷ ys) (suc i) x d a h e = ap (λ (b : Bool). covers m y a || b) (cover_suc ys i x d a (le_of_suc-le-suc h) e) ∙ sym (or_assoc (covers m y a) (cover m (take i ys) a) (covers m x a))

  -- what the elements up to one more cover
  pub cover_more : (xs : List E) (i : ℕ) (x d : E) (a : A) → i < length xs → x ≡ get_or xs i d → cover m (take (i + 1) xs) a ≡ (cover m (take i xs) a || covers m x a)
  cover_more xs i x d a h e = ap (λ (n : ℕ). cover m (take n xs) a) (add-one i) ∙ cover_suc xs i x d a h e

  pub cover_at : (xs : List E) (i : ℕ) (x d : E) (a : A) → i < length xs → x ≡ get_or xs i d → covers m x a ≡ true → cover m xs a ≡ true
  cover_at [] i x d a h e k = absurd (omega arith)
  cover_at (y ∷ ys) zero x d a h e k = or_left (covers m y a) (cover m ys a) (ap (λ (z : E). covers m z a) (sym e) ∙ k)
  cover_at (y ∷ ys) (suc i) x d a h e k = or_right (covers m y a) (cover m ys a) (cover_at ys i x d a (le_of_suc-le-suc h) e k)

module _ {E A C : Type 0} (m : KindModel E A C) (r : Rules m) where
  -- one left element, placed
  pub put_inside : (p : Placement) (e f : E) (S : Set A) → m.place p e ≡ Some f → Part (covers m f) S → (a : A) → covers m e a ≡ true → S (moved m p a) ≡ true
  put_inside p e f S s h a k = h (moved m p a) ((r.placed p e f s (moved m p a)).1 (a, k, refl))

  pub inside_put : (p : Placement) (e f : E) (S : Set A) → m.place p e ≡ Some f → ((a : A) → covers m e a ≡ true → S (moved m p a) ≡ true) → Part (covers m f) S
  inside_put p e f S s h b k = let x = (r.placed p e f s b).0 k in ap S (sym x.2) ∙ h x.0 x.1

  pub no_put : (p : Placement) (e : E) (xs : List E) → m.place p e ≡ None → ((a : A) → covers m e a ≡ true → cover m xs (moved m p a) ≡ true) → ⊥
  no_put p e xs s h = let x = (r.refused p e).0 s in both_ways _ x.2 (covers_field m r xs (moved m p x.0) (h x.0 x.1))

module _ {E A C : Type 0} (m : KindModel E A C) (r : Rules m) (F : Placement → Type 0) (from : A) (turn : Turn) where
  -- the placements that take the atom to e's at a position, to e's below a position, to e's
  abbrev pub At : E → ℤ → Placement → Type 0
  At e i = Turned m F from (λ a. (covers m e a ≡ true) × (m.at a ≡ i)) (index turn)

  abbrev pub Under : E → ℤ → Placement → Type 0
  Under e i = Turned m F from (λ a. (covers m e a ≡ true) × (m.at a <ℤ i)) (index turn)

  abbrev pub On : E → Placement → Type 0
  On e = Turned m F from (λ a. covers m e a ≡ true) (index turn)

  abbrev pub Upto : ℕ → List E → Placement → Type 0
  Upto n xs = Turned m F from (λ a. cover m (take n xs) a ≡ true) (index turn)

  pub no_atom : (e : E) (i : ℤ) → (m.start e ≤ℤ i → i <ℤ m.end e → ⊥) → (p : Placement) → At e i p → ⊥
  no_atom e i n p h =
      let l = h.1.lands in
      let x = has_from m r.ordered e (moved m p from) l.0 in
      let f = x.from in
      let u = x.to in
      n (omega (arith, ints, l.1)) (omega (arith, ints, l.1))

  module _ (e : E) (i : ℤ) (to : A) (c : covers m e to ≡ true) (w : m.at to ≡ i) where
    -- whatever takes the atom to that position takes it to that atom
    the_atom : (p : Placement) → At e i p → moved m p from ≡ to
    the_atom p h =
        let l = h.1.lands in
        one_atom m r e e (moved m p from) to (has_from m r.ordered e _ l.0) (has_from m r.ordered e to c) refl (l.1 ∙ sym w)

    shifted : (p : Placement) → At e i p → m.image (index turn) p.across p.up from ≡ to
    shifted p h = ap (λ (s : ℕ). m.image s p.across p.up from) (sym h.0) ∙ the_atom p h

    module _ (field : m.field from ≡ true) where
      pub no_shifts : Shifts m (index turn) from to None → (p : Placement) → At e i p → ⊥
      no_shifts n p h = n field (r.inside e to c) p.across p.up (shifted p h)

      pub in_range : (u v : ℤ) → m.image (index turn) u v from ≡ to → (shifting u && shifting v) ≡ true
      in_range u v q =
          let b = r.near (index turn) u v from to (below_eight turn) field (r.inside e to c) q in
          and_from (shifting u) (shifting v) (shifting_from u b.0 b.1) (shifting_from v b.2 b.3)

      module _ (q : Placement) (s : (index q.turn) ≡ (index turn)) (moves : m.image (index turn) q.across q.up from ≡ to) where
        arrives : moved m q from ≡ to
        arrives = ap (λ (n : ℕ). m.image n q.across q.up from) s ∙ moves

        pub good_at : F q → At e i q
        good_at f = (s, record { good = f; lands = (ap (covers m e) arrives ∙ c, ap m.at arrives ∙ w) })

        pub only_at : (p : Placement) → At e i p → (q ≡ p) × F q
        only_at p h =
            let o = r.one (index turn) q.across q.up p.across p.up from to (below_eight turn) (r.atoms from field) moves (shifted p h) in
            let v = same_placement q p (s ∙ sym h.0) o.0 o.1 in
            (v, subst F (sym v) h.1.good)

  turned_by : (P Q : A → Type 0) → ((a : A) → P a → Q a) → (p : Placement) → Turned m F from P (index turn) p → Turned m F from Q (index turn) p
  turned_by P Q f p h = (h.0, record { good = h.1.good; lands = f (moved m p from) h.1.lands })

  turned_or : (P Q R : A → Type 0) → ((a : A) → R a → P a ⊎ Q a) → (p : Placement) → Turned m F from R (index turn) p → Turned m F from P (index turn) p ⊎ Turned m F from Q (index turn) p
  turned_or P Q R f p h = ⊎_elim (λ x. inl (h.0, record { good = h.1.good; lands = x })) (λ x. inr (h.0, record { good = h.1.good; lands = x })) (f (moved m p from) h.1.lands)

  pub under_none : (t : Triple) (b : Option Placement) (e : E) (i : ℤ) → i ≡ m.start e → Improves (Under e i) t b b
  under_none t b e i q = improves_nothing (Under e i) t b (λ p h. let l = h.1.lands in let x = has_from m r.ordered e _ l.0 in let f = x.from in let u = l.1 in omega (arith, ints, q))

  under_or : (x i : ℤ) → x <ℤ (i +ℤ pos 1) → (x <ℤ i) ⊎ (x ≡ i)
  under_or x i h = ⊎_elim (λ a. inl a) (λ a. inr (omega (arith, ints))) (cases_lt_z x i)

  -- one position more; i' and j are the numbers as the code has them
  pub under_more : (t : Triple) (b n o : Option Placement) (e : E) (i i' j : ℤ) → i' ≡ i → j ≡ i +ℤ pos 1 → Improves (Under e i) t b n → Improves (At e i') t n o → Improves (Under e j) t b o
  under_more t b n o e i i' j q w h k =
      improves_both (Under e i) (At e i') (Under e j) t b
      (turned_by _ _ (λ a x. let u = x.1 in (x.0, omega (arith, ints, w))))
      (turned_by _ _ (λ a x. let u = x.1 in (x.0, omega (arith, ints, w, u, q))))
      (turned_or _ _ _ (λ a x. ⊎_elim (λ u. inl (x.0, u)) (λ u. inr (x.0, u ∙ sym q)) (under_or (m.at a) i (subst (λ (z : ℤ). m.at a <ℤ z) w x.1))))
      n o h k

  pub under_all : (t : Triple) (b o : Option Placement) (e : E) (i : ℤ) → m.end e ≤ℤ i → Improves (Under e i) t b o → Improves (On e) t b o
  under_all t b o e i l h = improves_same (Under e i) (On e) t b o (turned_by _ _ (λ a x. x.0)) (turned_by _ _ (λ a x. let y = has_from m r.ordered e a x in let u = y.to in (x, omega (arith, ints)))) h

  pub list_more : (t : Triple) (n o : Option Placement) (xs : List E) (i : ℕ) (x : E) → i < length xs → x ≡ get_or xs i x → LeastOf (Upto i xs) t n → Improves (On x) t n o → LeastOf (Upto (i + 1) xs) t o
  list_more t n o xs i x l is h k =
      improves_none (Upto (i + 1) xs) t o (improves_both (Upto i xs) (On x) (Upto (i + 1) xs) t None
      (turned_by _ _ (λ a u. cover_more m xs i x x a l is ∙ or_left (cover m (take i xs) a) (covers m x a) u))
      (turned_by _ _ (λ a u. cover_more m xs i x x a l is ∙ or_right (cover m (take i xs) a) (covers m x a) u))
      (turned_or _ _ _ (λ a u. or_cases (cover m (take i xs) a) (covers m x a) (sym (cover_more m xs i x x a l is) ∙ u)))
      n o (λ w. least_same (Upto i xs) (λ p. Upto i xs p ⊎ (None ≡ Some p)) t n (λ p u. inl u) (λ p u. ⊎_elim (λ y. y) (λ y. absurd (none_some y)) u) h) k)

-- the first place of the first turn that has one
module _ (P : Placement → Type 0) (t : Triple) (turn : ℕ) (low : (p : Placement) → P p → Before t (triple p) → turn ≤ index p.turn) where
  pub turn_found : (p : Placement) → LeastOf (λ q. ((index q.turn) ≡ turn) × P q) t (Some p) → LeastOf P t (Some p)
  turn_found p h = (h.0.1, h.1, λ q x w. go q x w (low q x w) (cases_order turn (index q.turn)))
    where
      go : (q : Placement) → P q → Before t (triple q) → turn ≤ index q.turn → (turn ≡ (index q.turn)) ⊎ ((turn < (index q.turn)) ⊎ ((index q.turn) < turn)) → (p ≡ q) ⊎ Earlier p q
      go q x w l (inr (inl a)) = let e = h.0.0 in inr (inl (omega (arith, ints, e)))
      go q x w l (inl a) = h.2 q (sym a, x) w
      go q x w l (inr (inr a)) = absurd (omega arith)

module _ {E A C : Type 0} (m : KindModel E A C) (r : Rules m) where
  pub first_found : (xs : List E) (x : E) (o : Option A) (i : ℤ) → 0 < length xs → x ≡ get_or xs 0 x → i ≡ m.start x → AtomAt m x i o → FirstAtom m xs o
  first_found xs x None i l is s h = let v = nonempty m r x in absurd (h (omega (arith, ints, s)) (omega (arith, ints, s)))
  first_found xs x (Some a) i l is s h = cover_at m xs 0 x x a l is h.0

module _ {EM AM CM EC Ac CC : Type 0} (M : KindModel EM AM CM) (C : KindModel EC Ac CC) (s : Scene EM EC) (t : Triple) (o : Option Placement) where
  pub by_marks : (from : AM) → cover M s.left_marks.now from ≡ true → LeastOf (Lands M (Fits M C s) from (λ a. cover M s.marks.now a ≡ true)) t o → Least M C (sought M C s) (drawn M C s) t o
  by_marks from k h = least_same _ (Place M C (sought M C s) (drawn M C s)) t o
      (λ p x. record { filled = inl (from, k); marks = x.good.marks; cuts = x.good.cuts })
      (λ p x. record { good = record { marks = x.marks; cuts = x.cuts }; lands = x.marks from k }) h

  pub by_cuts : (from : Ac) → cover C s.left_cuts.now from ≡ true → LeastOf (Lands C (Fits M C s) from (λ a. cover C s.cuts.now a ≡ true)) t o → Least M C (sought M C s) (drawn M C s) t o
  by_cuts from k h = least_same _ (Place M C (sought M C s) (drawn M C s)) t o
      (λ p x. record { filled = inr (from, k); marks = x.good.marks; cuts = x.good.cuts })
      (λ p x. record { good = record { marks = x.marks; cuts = x.cuts }; lands = x.cuts from k }) h
