-- Any elements can be gathered into a canonical list that covers the same.
use Rattle.std.proofs.Common.{◌≡◌, Bool, true, false, ◌||◌, ◌⊎◌, List, [], ◌∷◌, ℤ, ◌≤ℤ◌, ◌<ℤ◌, Ordering, Less, Equal, Greater, sym, refl, ap, ◌∙◌, subst, inl, inr, arith}
use Rattle.std.specs.Ordering.{ordering_reverse}
use Rattle.std.specs.Int.{int_min}
use Rattle.std.proofs.ByRecursion.{All-weaker}
use Rattle.std.proofs.lemmas.Int.{ints}
use Rattle.kinds.specs.Model.{KindModel, covers}
use Rattle.kinds.specs.Rules.{Touch, Union, Rules}
use Rattle.kinds.proofs.Numbers.{cases_lt_z}
use Rattle.kinds.proofs.Stretching.{union_left, union_right, union_carrier, union_start}
use Rattle.sheets.specs.Cover.{cover, ahead}
use Rattle.sheets.proofs.Ahead.{Ahead, ahead_from, ahead_to, ahead_trans, gap}
use Rattle.sheets.proofs.Joined.{or_assoc}
use Rattle.sheets.proofs.Order.{Before, Pairs}

or_swap : (x y z : Bool) → (x || (y || z)) ≡ (y || (x || z))
or_swap true true z = refl
or_swap true false z = refl
or_swap false true z = refl
or_swap false false z = refl

module _ {E A C : Type 0} (m : KindModel E A C) (r : Rules m) where
  -- of two elements one stands before the other, or they touch
  placed_by : (e f : E) (o : Ordering) → m.order (m.carrier e) (m.carrier f) ≡ o → (m.end e <ℤ m.start f) ⊎ (m.start f ≤ℤ m.end e) → (m.end f <ℤ m.start e) ⊎ (m.start e ≤ℤ m.end f) → Ahead m e f ⊎ (Ahead m f e ⊎ Touch m e f)
  placed_by e f Less q x y = inl (inl q)
  placed_by e f Greater q x y = inr (inl (inl (r.ordered.turn _ _ ∙ ap ordering_reverse q)))
  placed_by e f Equal q (inl x) y = inl (inr (r.ordered.same _ _ q, x))
  placed_by e f Equal q (inr x) (inl y) = inr (inl (inr (sym (r.ordered.same _ _ q), y)))
  placed_by e f Equal q (inr x) (inr y) = inr (inr (record { same = r.ordered.same _ _ q; left = y; right = x }))

  -- what stands before both stands before their union
  ahead_union : (g e f j : E) → Union m e f j → ahead m g e ≡ true → ahead m g f ≡ true → ahead m g j ≡ true
  ahead_union g e f j u x y = ahead_to m r g j (go (ahead_from m r g e x))
    where
      go : Ahead m g e → Ahead m g j
      go (inl q) = inl (ap (m.order (m.carrier g)) (union_carrier m r e f j u) ∙ q)
      go (inr q) =
          let w = gap m r g f y (q.0 ∙ sym (union_left m r e f j u).on ∙ (union_right m r e f j u).on) in
          let s = union_start m r e f j u in
          let v = q.1 in
          let z : m.end g <ℤ int_min (m.start e) (m.start f) = grind (arith, ints) in
          inr (q.0 ∙ sym (union_carrier m r e f j u), subst (λ (n : ℤ). m.end g <ℤ n) (sym s) z)

  pub record Added (e : E) (es fs : List E) : Type 0 where
    pub pairs : Pairs m fs
    pub covering : (a : A) → cover m fs a ≡ (covers m e a || cover m es a)
    pub after : (g : E) → ahead m g e ≡ true → Before m g es → Before m g fs

  added : (es : List E) → Pairs m es → (e : E) → (fs : List E) × Added e es fs
  added [] c e = (e ∷ [], record { pairs = (tt, tt); covering = λ a. refl; after = λ g h k. (h, tt) })
  added (f ∷ fs) c e = go (λ x. added fs c.1 x) (placed_by e f _ refl (cases_lt_z (m.end e) (m.start f)) (cases_lt_z (m.end f) (m.start e)))
    where
      go : ((x : E) → (gs : List E) × Added x fs gs) → Ahead m e f ⊎ (Ahead m f e ⊎ Touch m e f) → (gs : List E) × Added e (f ∷ fs) gs
      go w (inl h) =
          let k = ahead_to m r e f h in
          (e ∷ f ∷ fs, record { pairs = ((k, All-weaker _ _ (λ z l. ahead_trans m r e f z k l) fs c.0), c); covering = λ a. refl; after = λ g x l. (x, l) })
      go w (inr (inl h)) =
          let n = w e in (
            f ∷ n.0,
            record {
              pairs = (n.1.after f (ahead_to m r f e h) c.0, n.1.pairs);
              covering = λ a. ap (λ (b : Bool). covers m f a || b) (n.1.covering a) ∙ or_swap (covers m f a) (covers m e a) (cover m fs a);
              after = λ g x k. (k.0, n.1.after g x k.1);
            },
          )
      go w (inr (inr h)) =
          let j = r.joined e f h in
          let n = w j.0 in (
            n.0,
            record {
              pairs = n.1.pairs;
              covering = λ a. n.1.covering a ∙ ap (λ (b : Bool). b || cover m fs a) (j.1 a) ∙ or_assoc (covers m e a) (covers m f a) (cover m fs a);
              after = λ g x k. n.1.after g (ahead_union g e f j.0 j.1 x k.0) k.1;
            },
          )

  pub gathered_up : (xs : List E) → (es : List E) × Pairs m es × ((a : A) → cover m es a ≡ cover m xs a)
  gathered_up [] = ([], tt, λ a. refl)
  gathered_up (x ∷ xs) =
      let w = gathered_up xs in
      let n = added w.0 w.1 x in
      (n.0, n.1.pairs, λ a. n.1.covering a ∙ ap (λ (b : Bool). covers m x a || b) (w.2 a))
