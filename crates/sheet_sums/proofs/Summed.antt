-- The sum of a list with one element, and how it changes what another element touches.
use Rattle.std.proofs.Common.{◌≡◌, ◌+◌, Bool, true, false, ◌||◌, List, [], ◌∷◌, length, ◌≤ℤ◌, ◌<ℤ◌, sym, refl, ap, ◌∙◌, subst, inl, inr, ⊎_elim, arith}
use Rattle.std.specs.Int.{int_max, int_min}
use Rattle.std.proofs.ByRecursion.{All-weaker}
use Rattle.std.proofs.lemmas.Bool.{cases_Bool, both_ways}
use Rattle.std.proofs.lemmas.Int.{ints}
use Rattle.kinds.specs.Model.{KindModel, covers}
use Rattle.kinds.specs.Rules.{Rules, Touch, Union}
use Rattle.kinds.proofs.Having.{same_tests}
use Rattle.kinds.proofs.Standing.{nonempty}
use Rattle.kinds.proofs.Stretching.{union_carrier, union_start, union_end}
use Rattle.sheets.specs.Cover.{cover, ahead}
use Rattle.sheets.specs.Maximal.{Lists}
use Rattle.sheets.proofs.Ahead.{Ahead, ahead_from, ahead_to, ahead_trans, ahead_sooner, gap, apart}
use Rattle.sheets.proofs.Order.{Before, Pairs, pairs_to}
use Rattle.sheets.proofs.Joined.{or_swap, or_assoc}
use Rattle.sheets.proofs.Unique.{one_list}
use Rattle.sheet_sums.proofs.Touching.{touch, one_if, one_if_not, touching, touch_from, touch_to, touch_turn, ahead_apart, after_not, touching_none, cases_touch}

or_past : (a b c : Bool) → (a || (b || c)) ≡ ((b || a) || c)
or_past true true c = refl
or_past true false c = refl
or_past false true c = refl
or_past false false c = refl

module _ {E A C : Type 0} (m : KindModel E A C) (r : Rules m) where
  pub record Sum (xs : List E) (e : E) : Type 0 where
    pub list : List E
    pub pairs : Pairs m list
    pub covering : (a : A) → cover m list a ≡ (cover m xs a || covers m e a)
    pub after : (z : E) → ahead m z e ≡ true → Before m z xs → Before m z list
    pub count : length list + touching m e xs ≡ length xs + 1
    pub other : (f : E) → ahead m e f ≡ true → touching m f list ≡ touching m f xs

  pub sum_lists : (xs : List E) (e : E) (s : Sum xs e) → Lists m (λ a. cover m xs a || covers m e a) s.list
  sum_lists xs e s = record { ordered = pairs_to m s.list s.pairs; covering = s.covering }

  sum_none : (e : E) → Sum [] e
  sum_none e = record {
    list = e ∷ [];
    pairs = (tt, tt);
    covering = λ a. or_swap (covers m e a) false;
    after = λ z h b. (h, tt);
    count = refl;
    other = λ f h. ap (λ t. one_if t + 0) (after_not m r f e h);
  }

  sum_later : (x : E) (xs : List E) (e : E) → Pairs m (x ∷ xs) → ahead m x e ≡ true → Sum xs e → Sum (x ∷ xs) e
  sum_later x xs e p h s = record {
    list = x ∷ s.list;
    pairs = (s.after x h p.0, s.pairs);
    covering = λ a. ap (λ b. covers m x a || b) (s.covering a) ∙ sym (or_assoc (covers m x a) (cover m xs a) (covers m e a));
    after = λ z k b. (b.0, s.after z k b.1);
    count = (let n = s.count in let t = ap one_if (after_not m r e x h) in omega arith);
    other = λ f k. ap (λ n. one_if (touch m f x) + n) (s.other f k);
  }

  all_after : (e x : E) (xs : List E) → ahead m e x ≡ true → Before m x xs → Before m e (x ∷ xs)
  all_after e x xs h b = (h, All-weaker _ _ (λ y k. ahead_trans m r e x y h k) xs b)

  sum_first : (x : E) (xs : List E) (e : E) → Pairs m (x ∷ xs) → ahead m e x ≡ true → Sum (x ∷ xs) e
  sum_first x xs e p h =
      let b = all_after e x xs h p.0 in
      record {
        list = e ∷ x ∷ xs;
        pairs = (b, p);
        covering = λ a. or_swap (covers m e a) (cover m (x ∷ xs) a);
        after = λ z k c. (k, c);
        count = (let n = touching_none m r e (x ∷ xs) b in omega arith);
        other = λ f k. one_if_not (touch m f e) (touching m f (x ∷ xs)) (after_not m r f e k);
      }

  -- x and e made one
  module _ (x e j : E) (t : Touch m x e) (u : Union m x e j) where
    join_after : (z : E) → ahead m z e ≡ true → ahead m z x ≡ true → ahead m z j ≡ true
    join_after z h k = ahead_to m r z j (by (ahead_from m r z x k)) where
      by : Ahead m z x → Ahead m z j
      by (inl q) = inl (ap (λ c. m.order (m.carrier z) c) (union_carrier m r x e j u) ∙ q)
      by (inr p) =
          let l = p.1 in
          let n = gap m r z e h (p.0 ∙ t.same) in
          let s : m.end z <ℤ int_min (m.start x) (m.start e) = grind (arith, ints) in
          inr (p.0 ∙ sym (union_carrier m r x e j u), subst (λ y. m.end z <ℤ y) (sym (union_start m r x e j u)) s)

    -- what stands after x touches the two made one exactly if it touches e
    join_touch : (y : E) → ahead m x y ≡ true → touch m j y ≡ touch m e y
    join_touch y h = same_tests _ _
        (λ k. let q = touch_from m r j y k in
        let c : m.carrier x ≡ m.carrier y = sym (union_carrier m r x e j u) ∙ q.same in
        let g = gap m r x y h c in
        let n = nonempty m r y in
        let w : m.start y ≤ℤ int_max (m.end x) (m.end e) = subst (λ z. m.start y ≤ℤ z) (union_end m r x e j u) q.right in
        let tr = t.right in
        touch_to m r e y (record { same = sym t.same ∙ c; left = omega (arith, ints); right = grind (arith, ints) }))
        (λ k. let q = touch_from m r e y k in
        let ql = q.left in
        let qr = q.right in
        let l : int_min (m.start x) (m.start e) ≤ℤ m.end y = grind (arith, ints) in
        let w : m.start y ≤ℤ int_max (m.end x) (m.end e) = grind (arith, ints) in
        touch_to m r j y (record { same = union_carrier m r x e j u ∙ t.same ∙ q.same; left = subst (λ z. z ≤ℤ m.end y) (sym (union_start m r x e j u)) l; right = subst (λ z. m.start y ≤ℤ z) (sym (union_end m r x e j u)) w }))

    join_touching : (xs : List E) → Before m x xs → touching m j xs ≡ touching m e xs
    join_touching [] h = refl
    join_touching (y ∷ ys) h = λ i. one_if (join_touch y h.0 i) + join_touching ys h.1 i

    -- f after e that does not touch x stands after the two made one
    join_ahead : (f : E) → ahead m e f ≡ true → touch m f x ≡ false → ahead m j f ≡ true
    join_ahead f h n = ⊎_elim (λ k. both k) (λ k. absurd (ahead_apart m r e x (ahead_trans m r e f x h k) (touch_turn m r x e t))) (apart m r x f (λ w. both_ways _ n (touch_to m r f x (touch_turn m r x f w)))) where
      by : Ahead m x f → ahead m e f ≡ true → Ahead m j f
      by (inl q) k = inl (ap (λ c. m.order c (m.carrier f)) (union_carrier m r x e j u) ∙ q)
      by (inr p) k =
          let l = p.1 in
          let g = gap m r e f k (sym t.same ∙ p.0) in
          let s : int_max (m.end x) (m.end e) <ℤ m.start f = grind (arith, ints) in
          inr (union_carrier m r x e j u ∙ p.0, subst (λ z. z <ℤ m.start f) (sym (union_end m r x e j u)) s)

      both : ahead m x f ≡ true → ahead m j f ≡ true
      both k = ahead_to m r j f (by (ahead_from m r x f k) h)

    -- if f after e touches x, the two made one end where x ends
    join_end : (f : E) → ahead m e f ≡ true → Touch m f x → m.end j ≤ℤ m.end x
    join_end f h w =
        let g = gap m r e f h (sym t.same ∙ sym w.same) in
        let l = w.left in
        let s : int_max (m.end x) (m.end e) ≤ℤ m.end x = grind (arith, ints) in
        subst (λ z. z ≤ℤ m.end x) (sym (union_end m r x e j u)) s

    join_touched : (f : E) → ahead m e f ≡ true → Touch m f x → touch m f j ≡ true
    join_touched f h w =
        let wl = w.left in
        let wr = w.right in
        let l : m.start f ≤ℤ int_max (m.end x) (m.end e) = grind (arith, ints) in
        let k : int_min (m.start x) (m.start e) ≤ℤ m.end f = grind (arith, ints) in
        touch_to m r f j (record { same = w.same ∙ sym (union_carrier m r x e j u); left = subst (λ z. m.start f ≤ℤ z) (sym (union_end m r x e j u)) l; right = subst (λ z. z ≤ℤ m.end f) (sym (union_start m r x e j u)) k })

    sum_joined : (xs : List E) → Pairs m (x ∷ xs) → Sum xs j → Sum (x ∷ xs) e
    sum_joined xs p s = record {
      list = s.list;
      pairs = s.pairs;
      covering = λ a. s.covering a ∙ ap (λ b. cover m xs a || b) (u a) ∙ or_past (cover m xs a) (covers m x a) (covers m e a);
      after = λ z h b. s.after z (join_after z h b.0) b.1;
      count = (let n = s.count in let q = join_touching xs p.0 in let w = ap one_if (touch_to m r e x (touch_turn m r x e t)) in omega arith);
      other = λ f h. ⊎_elim (λ k. touched f h (touch_from m r f x k) ∙ ap (λ b. one_if b + touching m f xs) (sym k)) (λ k. s.other f (join_ahead f h k) ∙ sym (one_if_not (touch m f x) (touching m f xs) k)) (cases_Bool (touch m f x));
    } where
      touched : (f : E) → ahead m e f ≡ true → Touch m f x → touching m f s.list ≡ 1 + touching m f xs
      touched f h w =
          let b : Before m j xs = All-weaker _ _ (λ y k. ahead_sooner m r x y j k (union_carrier m r x e j u) (join_end f h w)) xs p.0 in
          let alone : Lists m (λ a. cover m xs a || covers m j a) (j ∷ xs) = record { ordered = pairs_to m (j ∷ xs) (b, p.1); covering = λ a. or_swap (covers m j a) (cover m xs a) } in
          ap (touching m f) (one_list m r _ s.list (j ∷ xs) (sum_lists xs j s) alone) ∙ ap (λ q. one_if q + touching m f xs) (join_touched f h w)

  pub sum : (xs : List E) (e : E) → Pairs m xs → Sum xs e
  sum [] e p = sum_none e
  sum (x ∷ xs) e p = ⊎_elim
      (λ h. sum_later x xs e p h (sum xs e p.1))
      (⊎_elim (λ h. sum_first x xs e p h) (λ t. let u = r.joined x e t in sum_joined x e u.0 t u.1 xs p (sum xs u.0 p.1)))
      (cases_touch m r x e)
