-- The difference of a list with one element, and how it changes what another element leaves of it.
use Rattle.std.proofs.Common.{◌≡◌, ℕ, ◌+◌, Bool, true, false, cond, not, ◌&&◌, ◌||◌, List, [], ◌∷◌, ◌++◌, length, ℤ, ◌≤ℤ◌, ◌<ℤ◌, Some, None, Option, sym, refl, ap, ◌∙◌, subst, inl, ⊎_elim, arith}
use lib.Signed.{lt_z}
use Rattle.std.specs.Int.{int_max, int_min}
use Rattle.std.specs.List.{AllByRecursion}
use Rattle.std.proofs.lemmas.List.{length-append}
use Rattle.std.proofs.ByRecursion.{All-weaker, All-append}
use Rattle.std.proofs.lemmas.Bool.{cases_Bool, both_ways}
use Rattle.std.proofs.lemmas.Int.{ints}
use Rattle.kinds.specs.Model.{KindModel, covers}
use Rattle.kinds.specs.Rules.{Rules, Touch, Stretch}
use Rattle.kinds.proofs.Numbers.{cases_lt_z, lt_to}
use Rattle.kinds.proofs.Having.{Has, has_from, same_tests}
use Rattle.kinds.proofs.Standing.{nonempty}
use Rattle.sheets.specs.Cover.{cover, ahead}
use Rattle.sheets.specs.Finding.{LeftPart, Right, RightPart, listed, one_listed}
use Rattle.sheets.specs.Maximal.{Lists}
use Rattle.sheets.proofs.Ahead.{gap, ahead_sooner}
use Rattle.sheets.proofs.Order.{Before, Pairs, pairs_to, pairs_append}
use Rattle.sheets.proofs.Joined.{cover_append, or_none}
use Rattle.sheets.proofs.Sides.{left_is, right_is}
use Rattle.sheets.proofs.Removed.{Rest, rest_is, Ends, swap}
use Rattle.sheet_sums.proofs.Touching.{touch, one_if, touch_from, touch_to, after_not}

-- both sides without e
split_not : (a b e : Bool) → ((a && not e) || (b && not e)) ≡ ((a || b) && not e)
split_not true true true = refl
split_not true false true = refl
split_not false true true = refl
split_not false false true = refl
split_not true true false = refl
split_not true false false = refl
split_not false true false = refl
split_not false false false = refl

-- ends of parts
low_some : (sx ex se sp ep : ℤ) → sp <ℤ ep → sp ≡ sx → ep ≡ int_min ex se → sx <ℤ se
low_some sx ex se sp ep n f t = grind (arith, ints)

high_some : (sx ex ee sp ep : ℤ) → sp <ℤ ep → sp ≡ int_max sx ee → ep ≡ ex → ee <ℤ ex
high_some sx ex ee sp ep n f t = grind (arith, ints)

low_end : (ex se ee ep : ℤ) → ep ≡ int_min ex se → se <ℤ ee → ep ≤ℤ ee
low_end ex se ee ep t n = grind (arith, ints)

high_low : (sx ee sp ef : ℤ) → sp ≡ int_max sx ee → sp ≤ℤ ef → sx ≤ℤ ef
high_low sx ee sp ef f h = grind (arith, ints)

high_in : (sx ee sp sf ef : ℤ) → sp ≡ int_max sx ee → sx ≤ℤ ef → ee <ℤ sf → sf <ℤ ef → sp ≤ℤ ef
high_in sx ee sp sf ef f h g n = grind (arith, ints)

high_less : (sx ee sp sf : ℤ) → sp ≡ int_max sx ee → sx ≤ℤ ee → ee <ℤ sf → sp <ℤ sf
high_less sx ee sp sf f h g = grind (arith, ints)

lt_via : (sx ee sf : ℤ) → sx ≤ℤ ee → ee <ℤ sf → sx <ℤ sf
lt_via sx ee sf h g = omega (arith, ints)

module _ {E A C : Type 0} (m : KindModel E A C) where
  -- how many pieces e leaves of x
  unfoldable pub pieces : E → E → ℕ
  pieces e x = cond (touch m e x) (one_if (lt_z (m.start x) (m.start e)) + one_if (lt_z (m.end e) (m.end x))) 1

  abbrev pub left_over : E → List E → ℕ
  left_over e [] = 0
  left_over e (x ∷ xs) = pieces e x + left_over e xs

  left_over_append : (e : E) (xs ys : List E) → left_over e (xs ++ ys) ≡ left_over e xs + left_over e ys
  left_over_append e [] ys = omega arith
  left_over_append e (x ∷ xs) ys = let h = left_over_append e xs ys in omega arith

  pieces_apart : (e x : E) → touch m e x ≡ false → pieces e x ≡ 1
  unfolding pieces
  pieces_apart e x h = ap (λ t. cond t (one_if (lt_z (m.start x) (m.start e)) + one_if (lt_z (m.end e) (m.end x))) 1) h

  pieces_touch : (e x : E) → touch m e x ≡ true → pieces e x ≡ one_if (lt_z (m.start x) (m.start e)) + one_if (lt_z (m.end e) (m.end x))
  unfolding pieces
  pieces_touch e x h = ap (λ t. cond t (one_if (lt_z (m.start x) (m.start e)) + one_if (lt_z (m.end e) (m.end x))) 1) h

  module _ (r : Rules m) where
    -- what e leaves of x
    pub record Cut (e x : E) : Type 0 where
      pub list : List E
      pub rest : Rest m e (x ∷ []) list
      pub count : length list ≡ pieces e x
      pub other : (f : E) → ahead m e f ≡ true → left_over f list + 1 ≡ length list + pieces f x

    apart_cover : (c x : Bool) → (c ≡ true → x ≡ true → ⊥) → (x || false) ≡ ((x || false) && not c)
    apart_cover true true h = absurd (h refl refl)
    apart_cover true false h = refl
    apart_cover false true h = refl
    apart_cover false false h = refl

    -- elements that share an atom touch
    share_touch : (e x : E) (a : A) → Has m e a → Has m x a → Touch m e x
    share_touch e x a h k =
        let hf = h.from in let ht = h.to in let kf = k.from in let kt = k.to in
        record { same = h.on ∙ sym k.on; left = omega (arith, ints); right = omega (arith, ints) }

    cut_apart : (e x : E) → touch m e x ≡ false → Cut e x
    cut_apart e x n = record {
      list = x ∷ [];
      rest = record {
        all = λ a. apart_cover (covers m e a) (covers m x a) (λ h k. both_ways _ n (touch_to m r e x (share_touch e x a (has_from m r.ordered e a h) (has_from m r.ordered x a k))));
        pairs = (tt, tt);
        after = λ z h. h;
        before = λ t h. h;
      };
      count = sym (pieces_apart e x n);
      other = λ f h. omega arith;
    }

    -- the parts of x, if there are any
    left : (e x : E) → (o : Option E) × LeftPart m e x o
    left e x = ⊎_elim
        (λ l. let n = nonempty m r x in
        let t : Stretch m x (m.start x) (int_min (m.end x) (m.start e)) = record { low = omega (arith, ints); some = grind (arith, ints); high = grind (arith, ints) } in
        let p = r.parted x (m.start x) (int_min (m.end x) (m.start e)) t in
        (Some p.0, left_is m r e x (Some p.0) (t, p.1)))
        (λ l. (None, l))
        (cases_lt_z (m.start x) (m.start e))

    right : (e x : E) → (o : Option E) × RightPart m e x o
    right e x = ⊎_elim
        (λ l. let n = nonempty m r x in
        let t : Stretch m x (int_max (m.start x) (m.end e)) (m.end x) = record { low = grind (arith, ints); some = grind (arith, ints); high = omega (arith, ints) } in
        let p = r.parted x (int_max (m.start x) (m.end e)) (m.end x) t in
        (Some p.0, right_is m r e x (Some p.0) (t, p.1)))
        (λ l. (None, l))
        (cases_lt_z (m.end e) (m.end x))

    ends_one : (x : E) → Ends m (x ∷ []) x x
    ends_one x = record { first_in = inl refl; last_in = inl refl; low = (inl refl, tt); high = (inl refl, tt) }

    count_left : (e x : E) (o : Option E) → LeftPart m e x o → length (one_listed o) ≡ one_if (lt_z (m.start x) (m.start e))
    count_left e x None h = grind (arith, ints)
    count_left e x (Some p) h = sym (ap one_if (lt_to _ _ (low_some _ _ _ _ _ (nonempty m r p) h.from h.to)))

    count_right : (e x : E) (o : Option E) → RightPart m e x o → length (one_listed o) ≡ one_if (lt_z (m.end e) (m.end x))
    count_right e x None h = grind (arith, ints)
    count_right e x (Some p) h = sym (ap one_if (lt_to _ _ (high_some _ _ _ _ _ (nonempty m r p) h.from h.to)))

    -- x touched by e, and f after e
    module _ (e x f : E) (t : Touch m e x) (h : ahead m e f ≡ true) where
      left_apart : (o : Option E) → LeftPart m e x o → left_over f (one_listed o) ≡ length (one_listed o)
      left_apart None k = refl
      left_apart (Some p) k =
          let n = nonempty m r e in
          let q : m.end p ≤ℤ m.end e = low_end _ _ _ _ k.to n in
          let a = ahead_sooner m r e f p h (k.on ∙ sym t.same) q in
          let one = pieces_apart f p (after_not m r f p a) in
          omega arith

      touch_piece : (p : E) → Right m e x p → touch m f p ≡ touch m f x
      touch_piece p k = same_tests _ _
          (λ w. let q = touch_from m r f p w in
          let to = k.to in
          let qr = q.right in
          let ql = q.left in
          touch_to m r f x (record { same = q.same ∙ k.on; left = subst (λ z. m.start f ≤ℤ z) to ql; right = high_low _ _ _ _ k.from qr }))
          (λ w. let q = touch_from m r f x w in
          let g = gap m r e f h (t.same ∙ sym q.same) in
          let n = nonempty m r f in
          let tr = t.right in
          touch_to m r f p (record { same = q.same ∙ sym k.on; left = subst (λ z. m.start f ≤ℤ z) (sym k.to) q.left; right = high_in _ _ _ _ _ k.from q.right g n }))

      pieces_piece : (p : E) → Right m e x p → pieces f p ≡ pieces f x
      pieces_piece p k = ⊎_elim
          (λ w. let q = touch_from m r f x w in
          let g = gap m r e f h (t.same ∙ sym q.same) in
          let tr = t.right in
          let first : lt_z (m.start p) (m.start f) ≡ lt_z (m.start x) (m.start f) = lt_to _ _ (high_less _ _ _ _ k.from tr g) ∙ sym (lt_to _ _ (lt_via _ _ _ tr g)) in
          pieces_touch f p (touch_piece p k ∙ w) ∙ (λ i. one_if (first i) + one_if (lt_z (m.end f) (k.to i))) ∙ sym (pieces_touch f x w))
          (λ w. pieces_apart f p (touch_piece p k ∙ w) ∙ sym (pieces_apart f x w))
          (cases_Bool (touch m f x))

      right_same : (o : Option E) → RightPart m e x o → left_over f (one_listed o) + 1 ≡ length (one_listed o) + pieces f x
      right_same None k = let one = pieces_apart f x (after_not m r f x (ahead_sooner m r e f x h (sym t.same) k)) in omega arith
      right_same (Some p) k = let same = pieces_piece p k in omega arith

    cut_touch : (e x : E) → touch m e x ≡ true → Cut e x
    cut_touch e x w =
        let t = touch_from m r e x w in
        let lo = left e x in
        let ro = right e x in
        record {
          list = listed lo.0 ro.0;
          rest = rest_is m r e x x lo.0 ro.0 (x ∷ []) (ends_one x) (t, tt) lo.1 ro.1;
          count = length-append (one_listed lo.0) (one_listed ro.0) ∙ (λ i. count_left e x lo.0 lo.1 i + count_right e x ro.0 ro.1 i) ∙ sym (pieces_touch e x w);
          other = λ f h.
              let a = left_apart e x f t h lo.0 lo.1 in
              let b = right_same e x f t h ro.0 ro.1 in
              let n = left_over_append f (one_listed lo.0) (one_listed ro.0) in
              let l = length-append (one_listed lo.0) (one_listed ro.0) in
              omega arith;
        }

    cut : (e x : E) → Cut e x
    cut e x = ⊎_elim (cut_touch e x) (cut_apart e x) (cases_Bool (touch m e x))

    pub record Less (xs : List E) (e : E) : Type 0 where
      pub list : List E
      pub pairs : Pairs m list
      pub covering : (a : A) → cover m list a ≡ (cover m xs a && not (covers m e a))
      pub after : (z : E) → Before m z xs → Before m z list
      pub count : length list ≡ left_over e xs
      pub other : (f : E) → ahead m e f ≡ true → left_over f list + length xs ≡ length list + left_over f xs

    pub less_lists : (xs : List E) (e : E) (s : Less xs e) → Lists m (λ a. cover m xs a && not (covers m e a)) s.list
    less_lists xs e s = record { ordered = pairs_to m s.list s.pairs; covering = s.covering }

    pub less : (xs : List E) (e : E) → Pairs m xs → Less xs e
    less [] e p = record { list = []; pairs = tt; covering = λ a. refl; after = λ z b. tt; count = refl; other = λ f h. refl }
    less (x ∷ xs) e p =
        let c = cut e x in
        let s = less xs e p.1 in
        let across : AllByRecursion (λ q. Before m q xs) c.list = swap (λ t q. ahead m q t ≡ true) xs c.list (All-weaker _ _ (λ t k. c.rest.before t (k, tt)) xs p.0) in
        record {
          list = c.list ++ s.list;
          pairs = pairs_append m c.list s.list c.rest.pairs s.pairs (All-weaker _ _ (λ q k. s.after q k) c.list across);
          covering = λ a. cover_append m c.list s.list a ∙ (λ i. c.rest.all a i || s.covering a i) ∙ split_not (covers m x a || false) (cover m xs a) (covers m e a) ∙ ap (λ b. (b || cover m xs a) && not (covers m e a)) (or_none (covers m x a));
          after = λ z b. All-append _ c.list s.list (c.rest.after z (b.0, tt)) (s.after z b.1);
          count = length-append c.list s.list ∙ (λ i. c.count i + s.count i);
          other = λ f h.
              let one = c.other f h in
              let more = s.other f h in
              let n = left_over_append f c.list s.list in
              let l = length-append c.list s.list in
              omega arith;
        }
