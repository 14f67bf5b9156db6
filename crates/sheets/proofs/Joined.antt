-- Elements that touch made one, and a canonical list with one element more.
use Rattle.std.proofs.Common.{◌≡◌, ℕ, zero, suc, ◌<◌, ◌≤◌, Bool, true, false, ◌||◌, List, [], ◌∷◌, ◌++◌, length, get_or, ◌<ℤ◌, sym, refl, ap, ◌∙◌, subst, inl, inr, ⊎_elim, arith}
use Rattle.std.specs.Int.{int_min}
use Rattle.std.specs.List.{AllByRecursion}
use Rattle.std.proofs.ByRecursion.{All-weaker, All-get_or}
use Rattle.std.proofs.lemmas.Bool.{both_ways}
use Rattle.std.proofs.lemmas.Int.{ints}
use Rattle.kinds.specs.Model.{KindModel, covers}
use Rattle.kinds.specs.Rules.{Rules, Touch, Union}
use Rattle.kinds.proofs.Stretching.{union_carrier, union_start}
use Rattle.sheets.specs.Cover.{cover, ahead}
use Rattle.sheets.specs.Finding.{Whole}
use Rattle.sheets.proofs.Ahead.{Ahead, ahead_from, ahead_to, ahead_trans, gap, apart}
use Rattle.sheets.proofs.Order.{Before, Pairs, pairs_left, pairs_right, pairs_across, pairs_append, all_left, all_right}

pub or_assoc : (a b c : Bool) → ((a || b) || c) ≡ (a || (b || c))
or_assoc true b c = refl
or_assoc false b c = refl

pub or_swap : (a b : Bool) → (a || b) ≡ (b || a)
or_swap true true = refl
or_swap true false = refl
or_swap false true = refl
or_swap false false = refl

pub or_none : (a : Bool) → (a || false) ≡ a
or_none true = refl
or_none false = refl

-- a middle part with one more, seen from the whole
or_middle : (f m e t : Bool) → (f || ((m || e) || t)) ≡ ((f || (m || t)) || e)
or_middle true m e t = refl
or_middle false true e t = refl
or_middle false false e t = or_swap e t

module _ {E A C : Type 0} (m : KindModel E A C) where
  pub cover_append : (xs ys : List E) (a : A) → cover m (xs ++ ys) a ≡ (cover m xs a || cover m ys a)
  cover_append [] ys a = refl
  cover_append (x ∷ xs) ys a = ap (λ b. covers m x a || b) (cover_append xs ys a) ∙ sym (or_assoc (covers m x a) (cover m xs a) (cover m ys a))

  pub whole_none : (e : E) → Whole m e [] e
  whole_none e = record { all = λ a. refl; after = λ x h k. h; less = λ x h. h }

  module _ (r : Rules m) where
    after_by : (x w y j : E) → Touch m w y → Union m w y j → Ahead m x w → (m.carrier x ≡ m.carrier w → m.end x <ℤ m.start y) → Ahead m x j
    after_by x w y j t u (inl q) k = inl (ap (λ c. m.order (m.carrier x) c) (union_carrier m r w y j u) ∙ q)
    after_by x w y j t u (inr p) k =
        let l = k p.0 in
        let n = p.1 in
        let s : m.end x <ℤ int_min (m.start w) (m.start y) = grind (arith, ints) in
        inr (p.0 ∙ sym (union_carrier m r w y j u), subst (λ z. m.end x <ℤ z) (sym (union_start m r w y j u)) s)

    less_by : (x w y j : E) → Union m w y j → Ahead m x j → Ahead m x w
    less_by x w y j u (inl q) = inl (ap (λ c. m.order (m.carrier x) c) (sym (union_carrier m r w y j u)) ∙ q)
    less_by x w y j u (inr p) =
        let s : m.end x <ℤ int_min (m.start w) (m.start y) = subst (λ z. m.end x <ℤ z) (union_start m r w y j u) p.1 in
        inr (p.0 ∙ union_carrier m r w y j u, grind (arith, ints))

    pub whole_more : (e : E) (xs : List E) (w y j : E) → Whole m e xs w → Touch m w y → Union m w y j → Whole m e (xs ++ y ∷ []) j
    whole_more e xs w y j h t u = record {
      all = λ a.
          u a ∙ ap (λ b. b || covers m y a) (h.all a)
          ∙ or_assoc (cover m xs a) (covers m e a) (covers m y a) ∙ ap (λ b. cover m xs a || b) (or_swap (covers m e a) (covers m y a))
          ∙ sym (or_assoc (cover m xs a) (covers m y a) (covers m e a)) ∙ ap (λ b. (cover m xs a || b) || covers m e a) (sym (or_none (covers m y a)))
          ∙ ap (λ b. b || covers m e a) (sym (cover_append xs (y ∷ []) a));
      after = λ x k l.
          let k2 = h.after x k (all_left _ xs (y ∷ []) l) in
          let y2 = (all_right _ xs (y ∷ []) l).0 in
          ahead_to m r x j (after_by x w y j t u (ahead_from m r x w k2) (λ c. gap m r x y y2 (c ∙ t.same)));
      less = λ x k. h.less x (ahead_to m r x w (less_by x w y j u (ahead_from m r x j k)));
    }

    -- the first element of a list, if any, does not touch w
    abbrev pub Clear : E → List E → Type 0
    Clear w [] = Unit {0}
    Clear w (t ∷ ts) = Touch m w t → ⊥

    pub before_rest : (e w : E) (xs ts : List E) → Whole m e xs w → Pairs m ts → AllByRecursion (λ x. ahead m x e ≡ false) ts → Clear w ts → Before m w ts
    before_rest e w xs [] h p n k = tt
    before_rest e w xs (t ∷ ts) h p n k =
        let here : ahead m w t ≡ true = ⊎_elim (λ l. l) (λ l. absurd (both_ways _ n.0 (h.less t l))) (apart m r w t k) in
        (here, All-weaker _ _ (λ z l. ahead_trans m r w t z here l) ts p.0)

    -- a canonical list in three parts, the middle one made one with e
    pub joined_pairs : (e w : E) (fs ms ts : List E) → Pairs m (fs ++ (ms ++ ts)) → AllByRecursion (λ x. ahead m x e ≡ true) fs → AllByRecursion (λ x. ahead m x e ≡ false) (ms ++ ts) → Whole m e ms w → Clear w ts → Pairs m (fs ++ (w ∷ ts))
    joined_pairs e w fs ms ts p f n h k =
        let q = pairs_right m fs (ms ++ ts) p in
        let rest = pairs_right m ms ts q in
        let before = before_rest e w ms ts h rest (all_right _ ms ts n) k in
        pairs_append m fs (w ∷ ts) (pairs_left m fs (ms ++ ts) p) (before, rest) (fronts fs f (pairs_across m fs (ms ++ ts) p)) where
          fronts : (gs : List E) → AllByRecursion (λ x. ahead m x e ≡ true) gs → AllByRecursion (λ x. Before m x (ms ++ ts)) gs → AllByRecursion (λ x. Before m x (w ∷ ts)) gs
          fronts [] f b = tt
          fronts (g ∷ gs) f b = ((h.after g f.0 (all_left _ ms ts b.0), all_right _ ms ts b.0), fronts gs f.1 b.1)

    pub joined_cover : (e w : E) (fs ms ts : List E) (a : A) → Whole m e ms w → cover m (fs ++ (w ∷ ts)) a ≡ (cover m (fs ++ (ms ++ ts)) a || covers m e a)
    joined_cover e w fs ms ts a h =
        cover_append fs (w ∷ ts) a ∙ ap (λ b. cover m fs a || (b || cover m ts a)) (h.all a)
        ∙ or_middle (cover m fs a) (cover m ms a) (covers m e a) (cover m ts a)
        ∙ ap (λ b. (cover m fs a || b) || covers m e a) (sym (cover_append ms ts a))
        ∙ ap (λ b. b || covers m e a) (sym (cover_append fs (ms ++ ts) a))

    -- no element of a canonical list that is ahead of e stands after one that is not
    pub ahead_partitioned : (xs : List E) (e : E) → Pairs m xs → (i j : ℕ) (d : E) → i ≤ j → j < length xs → ahead m (get_or xs j d) e ≡ true → ahead m (get_or xs i d) e ≡ true
    ahead_partitioned [] e p i j d l n h = absurd (omega arith)
    ahead_partitioned (x ∷ xs) e p zero zero d l n h = h
    ahead_partitioned (x ∷ xs) e p zero (suc j) d l n h = ahead_trans m r x _ e (All-get_or _ xs j d (omega arith) p.0) h
    ahead_partitioned (x ∷ xs) e p (suc i) zero d l n h = absurd (omega arith)
    ahead_partitioned (x ∷ xs) e p (suc i) (suc j) d l n h = ahead_partitioned xs e p.1 i j d (omega arith) (omega arith) h
