-- A whole sheet's elements, counted first and then carried out one after the other.
use Rattle.std.proofs.Common.{◌≡◌, ℕ, zero, suc, ◌+◌, ◌-◌, ◌<◌, ◌≤◌, Bool, true, false, ◌||◌, ◌⊎◌, List, [], ◌∷◌, ◌++◌, length, get_or, take, drop, Ok, Err, Result, sym, refl, ap, ◌∙◌, subst, inl, inr, ⊎_elim, arith, MatchResult}
use Rattle.std.specs.List.{AllByRecursion}
use Rattle.std.proofs.ByRecursion.{All-weaker, All-get_or}
use Rattle.std.proofs.lemmas.List.{take_more, append-nil, append_assoc, length-take, take-append-drop}
use Rattle.lattice.specs.declared.refusal.Refusal.{Refusal}
use Rattle.kinds.specs.Model.{KindModel, covers}
use Rattle.kinds.specs.Rules.{Rules}
use Rattle.sheets.specs.Cover.{cover, ahead, canonical}
use Rattle.sheets.specs.Census.{Belongs}
use Rattle.sheets.specs.Maximal.{Lists, Counts, Same}
use Rattle.sheets.specs.Contents.{items, room, covered, Sound, Became, Refused}
use Rattle.sheets.specs.declared.sheet.Sheet.{Sheet}
use Rattle.sheets.proofs.Order.{Pairs, pairs_from, pairs_across, all_belongs, belongs_append, belongs_right}
use Rattle.sheets.proofs.Joined.{cover_append, or_none}
use Rattle.sheets.proofs.Unique.{one_list, belongs_cover}
use Rattle.sheets.proofs.Contained.{belongs_at}
use Rattle.sheets.specs.Change.{by}
use Rattle.sheet_sums.specs.Whole.{Gains, Begun, Fits}
use Rattle.sheet_sums.proofs.Steps.{Stepwise, lists_at, again, either, all, apart_all}

absorbed : (b c : Bool) → (b ≡ true → c ≡ true) → (b || c) ≡ c
absorbed true c h = sym (h refl)
absorbed false c h = refl

all_from_belongs : {X : Type 0} (P : X → Type 0) (xs : List X) → ((x : X) → Belongs x xs → P x) → AllByRecursion P xs
all_from_belongs P [] h = tt
all_from_belongs P (x ∷ xs) h = (h x (inl refl), all_from_belongs P xs (λ y b. h y (inr b)))

module _ {E A C : Type 0} (m : KindModel E A C) (r : Rules m) where
  pub counts_at : {s t : A → Bool} {n : ℕ} → Same s t → Counts m s n → Counts m t n
  counts_at q c = record { list = c.list; lists = record { ordered = c.lists.ordered; covering = λ a. c.lists.covering a ∙ q a }; long = c.long }

  -- a set has one number of elements
  pub counts_one : (s : A → Bool) (n k : ℕ) → Counts m s n → Counts m s k → n ≡ k
  counts_one s n k c d = sym c.long ∙ ap length (one_list m r s c.list d.list c.lists d.lists) ∙ d.long

  pub counts_lists : (s : A → Bool) (xs : List E) → Lists m s xs → Counts m s (length xs)
  counts_lists s xs h = record { list = xs; lists = h; long = refl }

  cover_more : (es : List E) (i : ℕ) (x : E) (a : A) → i < length es → x ≡ get_or es i x → cover m (take (i + 1) es) a ≡ (cover m (take i es) a || covers m x a)
  cover_more es i x a l is =
      ap (λ zs. cover m zs a) (take_more es i x l ∙ ap (λ y. take i es ++ y ∷ []) (sym is))
      ∙ cover_append m (take i es) (x ∷ []) a ∙ ap (λ b. cover m (take i es) a || b) (or_none (covers m x a))

  front_ahead : (es : List E) (i : ℕ) (d : E) → Pairs m es → i < length es → AllByRecursion (λ b. ahead m b (get_or es i d) ≡ true) (take i es)
  front_ahead [] i d p l = absurd (omega arith)
  front_ahead (y ∷ ys) zero d p l = tt
  front_ahead (y ∷ ys) (suc i) d p l = (All-get_or _ ys i d (omega arith) p.0, front_ahead ys i d p.1 (omega arith))

  -- whether or not a change is refused
  pub kept_sound : {V : Type 0} (set : A → Bool) (t u : Sheet E) (res : Result V Refusal) → MatchResult res (λ _. Became m set t u) (λ why. Refused m set t u why) → Sound m t → Sound m u
  kept_sound set t u (Ok v) w h = w.sound h
  kept_sound set t u (Err v) w h = subst (Sound m) (sym w.same) h

  pub kept_room : {V : Type 0} (set : A → Bool) (t u : Sheet E) (res : Result V Refusal) → MatchResult res (λ _. Became m set t u) (λ why. Refused m set t u why) → room u ≡ room t
  kept_room set t u (Ok v) w = w.room
  kept_room set t u (Err v) w = ap room w.same

  module _ (op : Bool → Bool → Bool) (o : Stepwise m r op) where
    -- the element at i, among those before it
    module _ (es : List E) (i : ℕ) (x : E) (l : i < length es) (is : x ≡ get_or es i x) where
      by_more : (s : A → Bool) (a : A) → op (s a) (cover m (take (i + 1) es) a) ≡ op (op (s a) (cover m (take i es) a)) (covers m x a)
      by_more s a = ap (op (s a)) (cover_more es i x a l is) ∙ o.both (s a) (cover m (take i es) a) (covers m x a)

      aheads : Pairs m es → AllByRecursion (λ b. (ahead m b x ≡ true) ⊎ (ahead m x b ≡ true)) (take i es)
      aheads p = All-weaker _ _ (λ b h. inl (ap (ahead m b) is ∙ h)) (take i es) (front_ahead es i x p l)

      -- one more element counted
      pub counted_more : (xs : List E) (c w n : ℕ) → canonical m xs ≡ true → canonical m es ≡ true → Counts m (by op (cover m xs) (cover m (take i es))) c → Counts m (by op (cover m xs) (covers m x)) w → n ≡ c + w - length xs → Counts m (by op (cover m xs) (cover m (take (i + 1) es))) n
      counted_more xs c w n h k p q e =
          let y = o.one p.list x p.lists.ordered in
          let ws : Lists m (by op (by op (cover m xs) (cover m (take i es))) (covers m x)) y.0 = lists_at m r op y.0 y.1 (λ a. ap (λ t. op t (covers m x a)) (p.lists.covering a)) in
          let long = apart_all m r op o (take i es) xs p.list q.list y.0 x h (aheads (pairs_from m r es k)) p.lists q.lists ws in
          let pl = p.long in
          let ql = q.long in
          record { list = y.0; lists = lists_at m r op y.0 ws (λ a. sym (by_more (cover m xs) a)); long = omega arith }

      belongs_more : (e : E) → Belongs e (take (i + 1) es) → Belongs e (take i es) ⊎ (x ≡ e)
      belongs_more e b = ⊎_elim inl (λ c. inr (last c)) (belongs_append (take i es) (x ∷ []) e (subst (Belongs e) (take_more es i x l ∙ ap (λ y. take i es ++ y ∷ []) (sym is)) b)) where
        last : Belongs e (x ∷ []) → x ≡ e
        last (inl q) = q
        last (inr q) = absurd q

      -- an element that would lengthen the list is left
      pub begun_left : (other s t : Sheet E) → Begun m op (take i es) other s t → Gains m op t x → Begun m op (take (i + 1) es) other s t
      begun_left other s t h k = record {
        same = h.same;
        ready = λ e b. ⊎_elim (h.ready e) (λ q. subst (Gains m op t) q k) (belongs_more e b);
      }

      -- another is taken
      module _ (other s t u : Sheet E) (ois : es ≡ items other) (so : Sound m other) (st : Sound m t) (h : Begun m op (take i es) other s t) (w : Became m (by op (covered m t) (covers m x)) t u) where
        inside : (a : A) → covers m x a ≡ true → covered m other a ≡ true
        inside a k = ap (λ zs. cover m zs a) (sym ois) ∙ belongs_cover m r es x a (belongs_at es i x x l is) k

        listed_u : Lists m (by op (covered m t) (covers m x)) (items u)
        listed_u = record { ordered = (w.sound st).ordered; covering = w.covers st }

        own : Gains m op u x
        own n c =
            let q : Lists m (by op (covered m u) (covers m x)) (items u) = lists_at m r op (items u) listed_u (λ a. sym (again m r op o (covered m t a) (covers m x a)) ∙ ap (λ v. op v (covers m x a)) (sym (w.covers st a))) in
            let e = counts_one _ n (length (items u)) c (counts_lists _ (items u) q) in
            omega arith

        kept : (e : E) → Belongs e (take i es) → Gains m op u e
        kept e b n c =
            let v = o.one (items t) e st.ordered in
            let g = h.ready e b (length v.0) (counts_lists _ v.0 v.1) in
            let ws : Lists m (by op (by op (covered m t) (covers m x)) (covers m e)) c.list = lists_at m r op c.list c.lists (λ a. ap (λ z. op z (covers m e a)) (w.covers st a)) in
            let a = all_belongs _ (take i es) e (aheads (pairs_from m r es (ap (canonical m) ois ∙ so.ordered))) b in
            let long = either m r op o (items t) (items u) v.0 c.list x e st.ordered (⊎_elim inr inl a) listed_u v.1 ws in
            let cl = c.long in
            omega arith

        pub begun_taken : Begun m op (take (i + 1) es) other s u
        begun_taken = record {
          same = λ a. ap (λ z. op z (covered m other a)) (w.covers st a) ∙ sym (o.both (covered m t a) (covers m x a) (covered m other a)) ∙ ap (op (covered m t a)) (absorbed (covers m x a) (covered m other a) (inside a)) ∙ h.same a;
          ready = λ e b. ⊎_elim (kept e) (λ q. subst (Gains m op u) q own) (belongs_more e b);
        }

      -- the element does not lengthen the list, so it is not refused
      pub begun_more : {V : Type 0} (other s t u : Sheet E) (res : Result V Refusal) (k : ℕ) → es ≡ items other → Sound m other → Sound m t → Begun m op (take i es) other s t → Counts m (by op (covered m t) (covers m x)) k → k ≤ length (items t)
          → MatchResult res (λ _. Became m (by op (covered m t) (covers m x)) t u) (λ why. Refused m (by op (covered m t) (covers m x)) t u why) → Begun m op (take (i + 1) es) other s u
      begun_more other s t u (Ok v) k ois so st h c few w = begun_taken other s t u ois so st h w
      begun_more other s t u (Err v) k ois so st h c few w =
          let f = w.full st in
          let e = counts_one _ f.0 k f.1 c in
          let n = length-take t.count t.slots.now in
          absurd (omega (arith, f.2))

    -- the list by all elements of the other fits, after some of them as before
    pub fits_after : (other s t : Sheet E) (n : ℕ) → Sound m s → Sound m other → Begun m op (items other) other s t → room t ≡ room s → Counts m (by op (covered m s) (covered m other)) n → n ≤ room s → Fits m op other t
    fits_after other s t n ss so h q c l = record {
      ready = h.ready;
      fits = λ k d. let e = counts_one _ n k c (counts_at h.same d) in omega arith;
    }

    -- elements none of which shortens the list make it no shorter together
    grows : (cs bs xs : List E) (n k : ℕ) → canonical m xs ≡ true → Pairs m (bs ++ cs) → AllByRecursion (λ c. (j : ℕ) → Counts m (by op (cover m xs) (covers m c)) j → length xs ≤ j) cs
        → Counts m (by op (cover m xs) (cover m bs)) n → Counts m (by op (cover m xs) (cover m (bs ++ cs))) k → n ≤ k
    grows [] bs xs n k h p g c d =
        let e = counts_one _ n k c (counts_at (λ a. ap (λ zs. op (cover m xs a) (cover m zs a)) (append-nil bs)) d) in
        omega arith
    grows (y ∷ ys) bs xs n k h p g c d =
        let v = o.one xs y h in
        let w = o.one c.list y c.lists.ordered in
        let ws : Lists m (by op (by op (cover m xs) (cover m bs)) (covers m y)) w.0 = lists_at m r op w.0 w.1 (λ a. ap (λ z. op z (covers m y a)) (c.lists.covering a)) in
        let long = apart_all m r op o bs xs c.list v.0 w.0 y h (All-weaker _ _ (λ b q. inl q.0) bs (pairs_across m bs (y ∷ ys) p)) c.lists v.1 ws in
        let one = g.0 (length v.0) (counts_lists _ v.0 v.1) in
        let next : Counts m (by op (cover m xs) (cover m (bs ++ y ∷ []))) (length w.0) = counts_at (λ a. sym (o.both (cover m xs a) (cover m bs a) (covers m y a)) ∙ ap (op (cover m xs a)) (sym (cover_append m bs (y ∷ []) a ∙ ap (λ b. cover m bs a || b) (or_none (covers m y a))))) (counts_lists _ w.0 ws) in
        let shift : (bs ++ y ∷ []) ++ ys ≡ bs ++ (y ∷ ys) = append_assoc bs (y ∷ []) ys in
        let rest = grows ys (bs ++ y ∷ []) xs (length w.0) k h (subst (Pairs m) (sym shift) p) g.1 next (counts_at (λ a. ap (λ zs. op (cover m xs a) (cover m zs a)) (sym shift)) d) in
        let cl = c.long in
        omega arith

    -- one more element carried out: there is room for it, since there is room for all
    pub each_more : {V : Type 0} (es : List E) (i : ℕ) (x : E) (other s t u : Sheet E) (res : Result V Refusal) → i < length es → x ≡ get_or es i x → es ≡ items other → Sound m s → Sound m other → Sound m t → room t ≡ room s → Fits m op other s
        → Same (covered m t) (by op (covered m s) (cover m (take i es)))
        → MatchResult res (λ _. Became m (by op (covered m t) (covers m x)) t u) (λ why. Refused m (by op (covered m t) (covers m x)) t u why)
        → Same (covered m u) (by op (covered m s) (cover m (take (i + 1) es)))
    each_more es i x other s t u (Ok v) l is ois ss so st room_is f h w = λ a. w.covers st a ∙ ap (λ z. op z (covers m x a)) (h a) ∙ sym (by_more es i x l is (covered m s) a)
    each_more es i x other s t u (Err v) l is ois ss so st room_is f h w =
        let z = w.full st in
        let whole : take (i + 1) es ++ drop (i + 1) es ≡ es = take-append-drop (i + 1) es in
        let c : Counts m (by op (covered m s) (cover m (take (i + 1) es))) z.0 = counts_at (λ a. ap (λ y. op y (covers m x a)) (h a) ∙ sym (by_more es i x l is (covered m s) a)) z.1 in
        let y = all m r op o es (items s) ss.ordered in
        let d : Counts m (by op (covered m s) (cover m es)) (length y.0) = counts_lists _ y.0 y.1 in
        let low = grows (drop (i + 1) es) (take (i + 1) es) (items s) z.0 (length y.0) ss.ordered (subst (Pairs m) (sym whole) (pairs_from m r es (ap (canonical m) ois ∙ so.ordered)))
        (all_from_belongs _ (drop (i + 1) es) (λ e b. f.ready e (subst (Belongs e) (whole ∙ ois) (belongs_right (take (i + 1) es) (drop (i + 1) es) e b)))) c (counts_at (λ a. ap (λ zs. op (covered m s a) (cover m zs a)) (sym whole)) d) in
        let high = f.fits (length y.0) (counts_at (λ a. ap (λ zs. op (covered m s a) (cover m zs a)) ois) d) in
        absurd (omega (arith, z.2))
