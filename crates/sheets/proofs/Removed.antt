-- A canonical list without the atoms of one element.
use Rattle.std.proofs.Common.{◌≡◌, ℕ, suc, ◌+◌, ◌-◌, ◌<◌, ◌≤◌, Bool, true, false, not, ◌&&◌, ◌||◌, ◌⊎◌, List, [], ◌∷◌, ◌++◌, length, get_or, take, drop, ◌≤ℤ◌, ◌<ℤ◌, Some, None, Option, sym, refl, ap, ◌∙◌, subst, inl, inr, ⊎_elim, arith}
use Rattle.std.specs.List.{between, AllByRecursion}
use Rattle.std.specs.Int.{int_max, int_min}
use Rattle.std.proofs.ByRecursion.{All-weaker, All-append}
use Rattle.std.proofs.lemmas.List.{drop_more, drop_all}
use Rattle.std.proofs.lemmas.List.Edits.{between_more, between_none, split_between}
use Rattle.std.proofs.lemmas.Bool.{false≢true, both_ways, or_cases, or_left, or_right, or_from, and_parts, and_from, cases_Bool, cases_lt, not-true, not_from_false}
use Rattle.std.proofs.lemmas.Int.{ints}
use Rattle.kinds.specs.Model.{KindModel, covers}
use Rattle.kinds.specs.Rules.{Rules, Touch}
use Rattle.kinds.proofs.Numbers.{cases_lt_z}
use Rattle.kinds.proofs.Having.{Has, has_from, has_to, same_tests}
use Rattle.kinds.proofs.Standing.{nonempty}
use Rattle.sheets.specs.Cover.{cover, ahead, canonical}
use Rattle.sheets.specs.Census.{Belongs}
use Rattle.sheets.specs.Finding.{Parted, LeftPart, RightPart}
use Rattle.sheets.specs.Finding.{one_listed, listed}
use Rattle.sheets.proofs.Ahead.{ahead_to, ahead_later, ahead_sooner, gap, past}
use Rattle.sheets.proofs.Order.{Before, Pairs, pairs_from, pairs_to, pairs_left, pairs_right, pairs_across, pairs_append, all_left, all_right, all_belongs, cover_past}
use Rattle.sheets.proofs.Unique.{belongs_cover}
use Rattle.sheets.proofs.Joined.{cover_append, whole_none, Clear, before_rest}
use Rattle.sheets.proofs.Added.{split_rest}

pub and_true : (b : Bool) → (b && true) ≡ b
and_true true = refl
and_true false = refl

and_false : (b : Bool) → (b && false) ≡ false
and_false true = refl
and_false false = refl

-- a part without e, seen from a whole whose other parts e does not meet
without : (f b t e : Bool) → (e ≡ true → f ≡ false) → (e ≡ true → t ≡ false) → (f || ((b && not e) || t)) ≡ ((f || (b || t)) && not e)
without f b t true p q = (λ i. p refl i || (and_false b i || q refl i)) ∙ sym (and_false (f || (b || t)))
without f b t false p q = ap (λ c. f || (c || t)) (and_true b) ∙ sym (and_true (f || (b || t)))

pub swap : {X Y : Type 0} (R : X → Y → Type 0) (xs : List X) (ys : List Y) → AllByRecursion (λ x. AllByRecursion (R x) ys) xs → AllByRecursion (λ y. AllByRecursion (λ x. R x y) xs) ys
swap R xs [] h = tt
swap R xs (y ∷ ys) h = (All-weaker _ _ (λ x k. k.0) xs h, swap R xs ys (All-weaker _ _ (λ x k. k.1) xs h))

module _ {E A C : Type 0} (m : KindModel E A C) where
  -- ps are what of ms e leaves
  pub record Rest (e : E) (ms ps : List E) : Type 0 where
    pub all : (a : A) → cover m ps a ≡ (cover m ms a && not (covers m e a))
    pub pairs : Pairs m ps
    pub after : (x : E) → Before m x ms → Before m x ps
    pub before : (t : E) → AllByRecursion (λ y. ahead m y t ≡ true) ms → AllByRecursion (λ p. ahead m p t ≡ true) ps

  pub rest_none : (e : E) → Rest e [] []
  rest_none e = record { all = λ a. refl; pairs = tt; after = λ x h. tt; before = λ t h. tt }

  -- f is the first and l the last
  pub record Ends (ms : List E) (f l : E) : Type 0 where
    pub first_in : Belongs f ms
    pub last_in : Belongs l ms
    pub low : AllByRecursion (λ x. (f ≡ x) ⊎ (ahead m f x ≡ true)) ms
    pub high : AllByRecursion (λ x. (x ≡ l) ⊎ (ahead m x l ≡ true)) ms

  belongs_last : (xs : List E) (x : E) → Belongs x (xs ++ x ∷ [])
  belongs_last [] x = inl refl
  belongs_last (y ∷ ys) x = inr (belongs_last ys x)

  ends_from : (ms rest init : List E) (f l : E) → ms ≡ f ∷ rest → ms ≡ init ++ l ∷ [] → Pairs m ms → Ends ms f l
  ends_from ms rest init f l a b p =
      let pa = subst (Pairs m) a p in
      let pb = subst (Pairs m) b p in
      record {
        first_in = subst (Belongs f) (sym a) (inl refl);
        last_in = subst (Belongs l) (sym b) (belongs_last init l);
        low = subst (AllByRecursion (λ x. (f ≡ x) ⊎ (ahead m f x ≡ true))) (sym a) (inl refl, All-weaker _ _ (λ x h. inr h) rest pa.0);
        high = subst (AllByRecursion (λ x. (x ≡ l) ⊎ (ahead m x l ≡ true))) (sym b) (All-append _ init (l ∷ []) (All-weaker _ _ (λ x h. inr h.0) init (pairs_across m init (l ∷ []) pb)) (inl refl, tt));
      }

  pub ends_between : (xs : List E) (from to : ℕ) (f l : E) → from < to → to ≤ length xs → f ≡ get_or xs from f → l ≡ get_or xs (to - 1) l → Pairs m (between from to xs) → Ends (between from to xs) f l
  ends_between xs from to f l low high first last p =
      let one : to - from ≡ suc (to - from - 1) = omega arith in
      let front : between from to xs ≡ f ∷ take (to - from - 1) (drop (from + 1) xs) =
      ap (λ z. take (to - from) z) (drop_more xs from f (omega arith)) ∙ ap (λ k. take k (get_or xs from f ∷ drop (from + 1) xs)) one ∙ ap (λ z. z ∷ take (to - from - 1) (drop (from + 1) xs)) (sym first) in
      let index : to ≡ to - 1 + 1 = omega arith in
      let back : between from to xs ≡ between from (to - 1) xs ++ l ∷ [] =
      ap (λ k. between from k xs) index ∙ between_more xs from (to - 1) l (omega arith) (omega arith) ∙ ap (λ z. between from (to - 1) xs ++ z ∷ []) (sym last) in
      ends_from (between from to xs) _ _ f l front back p

  module _ (r : Rules m) where
    -- the parts, atom by atom
    left_in : (e f : E) (o : Option E) (a : A) → LeftPart m e f o → cover m (one_listed o) a ≡ true → Has m f a × (m.at a <ℤ m.start e)
    left_in e f None a h k = absurd (false≢true k)
    left_in e f (Some p) a h k =
        let w = ⊎_elim (λ u. has_from m r.ordered p a u) (λ v. absurd (false≢true v)) (or_cases (covers m p a) false k) in
        let q : m.at a <ℤ int_min (m.end f) (m.start e) = subst (λ z. m.at a <ℤ z) h.to w.to in
        (record { proper = w.proper; on = sym h.on ∙ w.on; from = subst (λ z. z ≤ℤ m.at a) h.from w.from; to = grind (arith, ints) }, grind (arith, ints))

    left_out : (e f : E) (o : Option E) (a : A) → LeftPart m e f o → Has m f a → m.at a <ℤ m.start e → cover m (one_listed o) a ≡ true
    left_out e f None a h w l = let x = w.from in absurd (omega (arith, ints))
    left_out e f (Some p) a h w l =
        let x = w.to in
        let q : m.at a <ℤ int_min (m.end f) (m.start e) = grind (arith, ints) in
        or_left _ _ (has_to m r.ordered p a (record { proper = w.proper; on = h.on ∙ w.on; from = subst (λ z. z ≤ℤ m.at a) (sym h.from) w.from; to = subst (λ z. m.at a <ℤ z) (sym h.to) q }))

    right_in : (e f : E) (o : Option E) (a : A) → RightPart m e f o → cover m (one_listed o) a ≡ true → Has m f a × (m.end e ≤ℤ m.at a)
    right_in e f None a h k = absurd (false≢true k)
    right_in e f (Some p) a h k =
        let w = ⊎_elim (λ u. has_from m r.ordered p a u) (λ v. absurd (false≢true v)) (or_cases (covers m p a) false k) in
        let q : int_max (m.start f) (m.end e) ≤ℤ m.at a = subst (λ z. z ≤ℤ m.at a) h.from w.from in
        (record { proper = w.proper; on = sym h.on ∙ w.on; from = grind (arith, ints); to = subst (λ z. m.at a <ℤ z) h.to w.to }, grind (arith, ints))

    right_out : (e f : E) (o : Option E) (a : A) → RightPart m e f o → Has m f a → m.end e ≤ℤ m.at a → cover m (one_listed o) a ≡ true
    right_out e f None a h w l = let x = w.to in absurd (omega (arith, ints))
    right_out e f (Some p) a h w l =
        let x = w.from in
        let q : int_max (m.start f) (m.end e) ≤ℤ m.at a = grind (arith, ints) in
        or_left _ _ (has_to m r.ordered p a (record { proper = w.proper; on = h.on ∙ w.on; from = subst (λ z. z ≤ℤ m.at a) (sym h.from) q; to = subst (λ z. m.at a <ℤ z) (sym h.to) w.to }))

    pub record Owner (xs : List E) (a : A) : Type 0 where
      pub one : E
      pub belongs : Belongs one xs
      pub has : Has m one a

    pub owner : (xs : List E) (a : A) → cover m xs a ≡ true → Owner xs a
    owner [] a h = absurd (false≢true h)
    owner (x ∷ xs) a h = ⊎_elim (λ u. record { one = x; belongs = inl refl; has = has_from m r.ordered x a u }) (λ v. let o = owner xs a v in record { one = o.one; belongs = inr o.belongs; has = o.has }) (or_cases (covers m x a) (cover m xs a) h)

    not_covers : (e : E) (a : A) → (Has m e a → ⊥) → covers m e a ≡ false
    not_covers e a h = ⊎_elim (λ t. absurd (h (has_from m r.ordered e a t))) (λ f. f) (cases_Bool (covers m e a))

    outside : (e : E) (a : A) → m.proper a ≡ true → m.carrier e ≡ m.on a → covers m e a ≡ false → (m.at a <ℤ m.start e) ⊎ (m.end e ≤ℤ m.at a)
    outside e a o c h = ⊎_elim inl (λ l. ⊎_elim (λ k. absurd (both_ways _ h (has_to m r.ordered e a (record { proper = o; on = c; from = l; to = k })))) inr (cases_lt_z (m.at a) (m.end e))) (cases_lt_z (m.at a) (m.start e))

    -- the first and the last, cut, are what e leaves of a part whose elements it touches
    module _ (e f l : E) (lo ro : Option E) (ms : List E) (ends : Ends ms f l) (touch : AllByRecursion (Touch m e) ms) (lp : LeftPart m e f lo) (rp : RightPart m e l ro) where
      tf : Touch m e f
      tf = all_belongs (Touch m e) ms f touch ends.first_in

      tl : Touch m e l
      tl = all_belongs (Touch m e) ms l touch ends.last_in

      forth : (a : A) → cover m (listed lo ro) a ≡ true → (cover m ms a && not (covers m e a)) ≡ true
      forth a h = ⊎_elim
          (λ u. let k = left_in e f lo a lp u in let n = k.1 in
          and_from _ _ (belongs_cover m r ms f a ends.first_in (has_to m r.ordered f a k.0)) (not_from_false _ (not_covers e a (λ w. let x = w.from in omega (arith, ints)))))
          (λ v. let k = right_in e l ro a rp v in let n = k.1 in
          and_from _ _ (belongs_cover m r ms l a ends.last_in (has_to m r.ordered l a k.0)) (not_from_false _ (not_covers e a (λ w. let x = w.to in omega (arith, ints)))))
          (or_cases (cover m (one_listed lo) a) (cover m (one_listed ro) a) (sym (cover_append m (one_listed lo) (one_listed ro) a) ∙ h))

      at_left : (a : A) (x : E) → Touch m e x → Has m x a → (f ≡ x) ⊎ (ahead m f x ≡ true) → m.at a <ℤ m.start e → cover m (one_listed lo) a ≡ true
      at_left a x t h (inl q) k = left_out e f lo a lp (subst (λ z. Has m z a) (sym q) h) k
      at_left a x t h (inr q) k =
          let g = gap m r f x q (sym tf.same ∙ t.same) in
          let hf = h.from in
          let te = tf.left in
          absurd (omega (arith, ints))

      at_right : (a : A) (x : E) → Touch m e x → Has m x a → (x ≡ l) ⊎ (ahead m x l ≡ true) → m.end e ≤ℤ m.at a → cover m (one_listed ro) a ≡ true
      at_right a x t h (inl q) k = right_out e l ro a rp (subst (λ z. Has m z a) q h) k
      at_right a x t h (inr q) k =
          let g = gap m r x l q (sym t.same ∙ tl.same) in
          let ht = h.to in
          let te = tl.right in
          absurd (omega (arith, ints))

      back : (a : A) → (cover m ms a && not (covers m e a)) ≡ true → cover m (listed lo ro) a ≡ true
      back a h =
          let p = and_parts (cover m ms a) (not (covers m e a)) h in
          let o = owner ms a p.0 in
          let t = all_belongs (Touch m e) ms o.one touch o.belongs in
          cover_append m (one_listed lo) (one_listed ro) a ∙ ⊎_elim
          (λ k. or_left _ _ (at_left a o.one t o.has (all_belongs _ ms o.one ends.low o.belongs) k))
          (λ k. or_right _ _ (at_right a o.one t o.has (all_belongs _ ms o.one ends.high o.belongs) k))
          (outside e a o.has.proper (t.same ∙ o.has.on) (not-true _ p.1))

      pieces : (lo ro : Option E) → LeftPart m e f lo → RightPart m e l ro → Pairs m (listed lo ro)
      pieces None None lp rp = tt
      pieces None (Some q) lp rp = (tt, tt)
      pieces (Some p) None lp rp = (tt, tt)
      pieces (Some p) (Some q) lp rp =
          let n = nonempty m r e in
          let small : int_min (m.end f) (m.start e) <ℤ int_max (m.start l) (m.end e) = grind (arith, ints) in
          ((ahead_to m r p q (inr (lp.on ∙ sym tf.same ∙ tl.same ∙ sym rp.on, subst (λ z. z <ℤ m.start q) (sym lp.to) (subst (λ z. int_min (m.end f) (m.start e) <ℤ z) (sym rp.from) small))), tt), (tt, tt))

      after_left : (lo : Option E) → LeftPart m e f lo → (x : E) → ahead m x f ≡ true → Before m x (one_listed lo)
      after_left None lp x h = tt
      after_left (Some p) lp x h = (ahead_later m r x f p h lp.on (subst (λ z. m.start f ≤ℤ z) (sym lp.from) (omega (arith, ints))), tt)

      after_right : (ro : Option E) → RightPart m e l ro → (x : E) → ahead m x l ≡ true → Before m x (one_listed ro)
      after_right None rp x h = tt
      after_right (Some p) rp x h = (ahead_later m r x l p h rp.on (subst (λ z. m.start l ≤ℤ z) (sym rp.from) (grind (arith, ints))), tt)

      before_left : (lo : Option E) → LeftPart m e f lo → (t : E) → ahead m f t ≡ true → AllByRecursion (λ p. ahead m p t ≡ true) (one_listed lo)
      before_left None lp t h = tt
      before_left (Some p) lp t h = (ahead_sooner m r f t p h lp.on (subst (λ z. z ≤ℤ m.end f) (sym lp.to) (grind (arith, ints))), tt)

      before_right : (ro : Option E) → RightPart m e l ro → (t : E) → ahead m l t ≡ true → AllByRecursion (λ p. ahead m p t ≡ true) (one_listed ro)
      before_right None rp t h = tt
      before_right (Some p) rp t h = (ahead_sooner m r l t p h rp.on (subst (λ z. z ≤ℤ m.end l) (sym rp.to) (omega (arith, ints))), tt)

      pub rest_is : Rest e ms (listed lo ro)
      rest_is = record {
        all = λ a. same_tests _ _ (forth a) (back a);
        pairs = pieces lo ro lp rp;
        after = λ x h. All-append _ (one_listed lo) (one_listed ro) (after_left lo lp x (all_belongs _ ms f h ends.first_in)) (after_right ro rp x (all_belongs _ ms l h ends.last_in));
        before = λ t h. All-append _ (one_listed lo) (one_listed ro) (before_left lo lp t (all_belongs _ ms f h ends.first_in)) (before_right ro rp t (all_belongs _ ms l h ends.last_in));
      }

    -- a canonical list in three parts, the middle one cut
    pub rest_pairs : (e : E) (fs ms ps ts : List E) → Pairs m (fs ++ (ms ++ ts)) → Rest e ms ps → Pairs m (fs ++ (ps ++ ts))
    rest_pairs e fs ms ps ts p h =
        let q = pairs_right m fs (ms ++ ts) p in
        let each = All-weaker _ _ (λ t k. h.before t k) ts (swap (λ y t. ahead m y t ≡ true) ms ts (pairs_across m ms ts q)) in
        let tail = pairs_append m ps ts h.pairs (pairs_right m ms ts q) (swap (λ t y. ahead m y t ≡ true) ts ps each) in
        pairs_append m fs (ps ++ ts) (pairs_left m fs (ms ++ ts) p) tail (All-weaker _ _ (λ x k. All-append _ ps ts (h.after x (all_left _ ms ts k)) (all_right _ ms ts k)) fs (pairs_across m fs (ms ++ ts) p))

    front_clear : (e : E) (fs : List E) (a : A) → AllByRecursion (λ x. ahead m x e ≡ true) fs → Has m e a → cover m fs a ≡ false
    front_clear e [] a h w = refl
    front_clear e (x ∷ xs) a h w = or_from _ _ (not_covers x a (λ k. let l = past m r x e a h.0 k.on w in let n = k.to in omega (arith, ints))) (front_clear e xs a h.1 w)

    back_clear : (e : E) (ts : List E) (a : A) → Before m e ts → Has m e a → cover m ts a ≡ false
    back_clear e ts a h w = ⊎_elim (λ t. let l = cover_past m r e ts a h w.on t in let n = w.to in absurd (omega (arith, ints))) (λ f. f) (cases_Bool (cover m ts a))

    pub rest_cover : (e : E) (fs ms ps ts : List E) (a : A) → AllByRecursion (λ x. ahead m x e ≡ true) fs → Before m e ts → Rest e ms ps → cover m (fs ++ (ps ++ ts)) a ≡ (cover m (fs ++ (ms ++ ts)) a && not (covers m e a))
    rest_cover e fs ms ps ts a f b h =
        cover_append m fs (ps ++ ts) a ∙ ap (λ z. cover m fs a || z) (cover_append m ps ts a ∙ ap (λ z. z || cover m ts a) (h.all a))
        ∙ without (cover m fs a) (cover m ms a) (cover m ts a) (covers m e a) (λ t. front_clear e fs a f (has_from m r.ordered e a t)) (λ t. back_clear e ts a b (has_from m r.ordered e a t))
        ∙ ap (λ z. z && not (covers m e a)) (ap (λ z. cover m fs a || z) (sym (cover_append m ms ts a)) ∙ sym (cover_append m fs (ms ++ ts) a))

    -- what the searches found
    pub record Reached (xs : List E) (e : E) (from to : ℕ) : Type 0 where
      pub low : from ≤ to
      pub high : to ≤ length xs
      pub parted : canonical m xs ≡ true → Parted (λ x. ahead m x e) xs from
      pub touch : AllByRecursion (Touch m e) (between from to xs)
      pub ends : (d : E) → to < length xs → Touch m e (get_or xs to d) → ⊥

    module _ (xs : List E) (e : E) (from to : ℕ) (f : Reached xs e from to) (ps : List E) (h : canonical m xs ≡ true) (rest : Rest e (between from to xs) ps) where
      three : Pairs m (take from xs ++ (between from to xs ++ drop to xs))
      three = subst (Pairs m) (split_between xs from to f.low) (pairs_from m r xs h)

      clear : Clear m r e (drop to xs)
      clear = ⊎_elim (λ k. subst (Clear m r e) (sym (drop_more xs to e k)) (f.ends e k)) (λ k. subst (Clear m r e) (sym (drop_all to xs k)) tt) (cases_lt to (length xs))

      pub removed_canonical : canonical m (take from xs ++ (ps ++ drop to xs)) ≡ true
      removed_canonical = pairs_to m _ (rest_pairs e (take from xs) (between from to xs) ps (drop to xs) three rest)

      pub removed_cover : (a : A) → cover m (take from xs ++ (ps ++ drop to xs)) a ≡ (cover m xs a && not (covers m e a))
      removed_cover a =
          let p = f.parted h in
          let none = subst (AllByRecursion (λ x. ahead m x e ≡ false)) (split_rest xs from to f.low) p.back in
          let q = pairs_right m (between from to xs) (drop to xs) (pairs_right m (take from xs) (between from to xs ++ drop to xs) three) in
          let b = before_rest m r e e [] (drop to xs) (whole_none m e) q (all_right _ (between from to xs) (drop to xs) none) clear in
          rest_cover e (take from xs) (between from to xs) ps (drop to xs) a p.front b rest ∙ ap (λ l. cover m l a && not (covers m e a)) (sym (split_between xs from to f.low))

    -- the part between two places of a canonical list
    pub middle : (xs : List E) (from to : ℕ) → from ≤ to → canonical m xs ≡ true → Pairs m (between from to xs)
    middle xs from to low h = pairs_left m (between from to xs) (drop to xs) (pairs_right m (take from xs) (between from to xs ++ drop to xs) (subst (Pairs m) (split_between xs from to low) (pairs_from m r xs h)))

    -- what the searches found, and what is left of the part
    pub record Cut (xs : List E) (e : E) (from to : ℕ) (ps : List E) : Type 0 where
      pub reached : Reached xs e from to
      pub rest : canonical m xs ≡ true → Rest e (between from to xs) ps

    pub cut_none : (xs : List E) (e : E) (from to : ℕ) → from ≡ to → Reached xs e from to → Cut xs e from to []
    cut_none xs e from to q f = record { reached = f; rest = λ h. subst (λ l. Rest e l []) (sym (ap (λ k. between from k xs) (sym q) ∙ between_none xs from)) (rest_none e) }

    pub cut_some : (xs : List E) (e x y : E) (from to : ℕ) (lo ro : Option E) → from < to → to ≤ length xs → x ≡ get_or xs from x → y ≡ get_or xs (to - 1) y → LeftPart m e x lo → RightPart m e y ro → Reached xs e from to → Cut xs e from to (listed lo ro)
    cut_some xs e x y from to lo ro less high first last lp rp f = record {
      reached = f;
      rest = λ h. rest_is e x y lo ro (between from to xs) (ends_between xs from to x y less high first last (middle xs from to f.low h)) f.touch lp rp;
    }

  pub few_listed : (lo ro : Option E) → length (listed lo ro) ≤ 2
  few_listed None None = omega arith
  few_listed None (Some q) = omega arith
  few_listed (Some p) None = omega arith
  few_listed (Some p) (Some q) = omega arith
