-- A canonical list is the one list of the maximal elements of what it covers.
use Rattle.std.proofs.Common.{◌≡◌, Bool, true, List, [], ◌∷◌, ◌≤ℤ◌, sym, refl, ap, ◌∙◌, subst, inl, inr, ⊎_elim, arith}
use Rattle.std.proofs.lemmas.Bool.{false≢true, or_cases, or_left, or_right}
use Rattle.std.proofs.lemmas.Int.{ints}
use Rattle.kinds.specs.Model.{KindModel, covers}
use Rattle.kinds.specs.Rules.{Rules}
use Rattle.kinds.proofs.Numbers.{cases_lt_z}
use Rattle.kinds.proofs.Having.{Has, Contains, has_from, has_to, contains_has, contains_covers}
use Rattle.kinds.proofs.Standing.{atom, has_atom, at_atom, first, has_first, at_first, contains_from, alike}
use Rattle.sheets.specs.Cover.{cover, ahead}
use Rattle.sheets.specs.Census.{Belongs}
use Rattle.sheets.specs.Maximal.{Part, Same, Maximal, ExactlyMaximal, OneList}
use Rattle.sheets.proofs.Ahead.{ahead_self, ahead_turn, past}
use Rattle.sheets.proofs.Order.{Before, Pairs, all_belongs, pairs_from, cover_past}

module _ {E A C : Type 0} (m : KindModel E A C) (r : Rules m) where
  pub belongs_cover : (xs : List E) (x : E) (a : A) → Belongs x xs → covers m x a ≡ true → cover m xs a ≡ true
  belongs_cover [] x a b h = absurd b
  belongs_cover (y ∷ ys) x a (inl e) h = or_left _ _ (ap (λ z. covers m z a) e ∙ h)
  belongs_cover (y ∷ ys) x a (inr b) h = or_right _ _ (belongs_cover ys x a b h)

  pub record Found (xs : List E) (e : E) : Type 0 where
    pub one : E
    pub belongs : Belongs one xs
    pub over : Contains m one e

  -- e ends where x ends at the latest, if x has its first atom
  reaches : (x : E) (xs : List E) (e : E) → Before m x xs → Part (covers m e) (cover m (x ∷ xs)) → Has m x (first m r e) → m.end e ≤ℤ m.end x
  reaches x xs e p h k = ⊎_elim (λ lt.
      let fp = at_first m r e in
      let low : m.start e ≤ℤ m.end x = omega (arith, ints, k.to) in
      let b : A = atom m r e (m.end x) in
      let bp = at_atom m r e (m.end x) low lt in
      let in_e : Has m e b = has_atom m r e (m.end x) low lt in
      ⊎_elim
      (λ u. let w = has_from m r.ordered x b u in absurd (omega (arith, ints, w.to)))
      (λ v. let w = cover_past m r x xs b p (k.on ∙ sym (has_first m r e).on ∙ in_e.on) v in absurd (omega (arith, ints)))
      (or_cases (covers m x b) (cover m xs b) (h b (has_to m r.ordered e b in_e)))) (λ le. le) (cases_lt_z (m.end x) (m.end e))

  -- what lies in a canonical list's set lies in one of its elements
  pub inside_one : (xs : List E) (e : E) → Pairs m xs → Part (covers m e) (cover m xs) → Found xs e
  inside_one [] e p h = absurd (false≢true (h (first m r e) (has_to m r.ordered e _ (has_first m r e))))
  inside_one (x ∷ xs) e p h = ⊎_elim
      (λ u. let k = has_from m r.ordered x (first m r e) u in record { one = x; belongs = inl refl; over = record { on = k.on ∙ sym (has_first m r e).on; from = (let fp = at_first m r e in omega (arith, ints, k.from)); to = reaches x xs e p.0 h k } })
      (λ v. let f = inside_one xs e p.1 (λ a k. ⊎_elim (λ u.
      let w = has_from m r.ordered x a u in
      let z = has_from m r.ordered e a k in
      let q = cover_past m r x xs (first m r e) p.0 (w.on ∙ sym z.on ∙ (has_first m r e).on) v in
      let fp = at_first m r e in
      absurd (omega (arith, ints, w.to, z.from))) (λ t. t) (or_cases (covers m x a) (cover m xs a) (h a k))) in
      record { one = f.one; belongs = inr f.belongs; over = f.over })
      (or_cases (covers m x (first m r e)) (cover m xs (first m r e)) (h (first m r e) (has_to m r.ordered e _ (has_first m r e))))

  -- two elements of a list that share an atom are one
  pub share : (xs : List E) (x y : E) (a : A) → Pairs m xs → Belongs x xs → Belongs y xs → Has m x a → Has m y a → x ≡ y
  share [] x y a p b c h k = absurd b
  share (z ∷ zs) x y a p (inl b) (inl c) h k = sym b ∙ c
  share (z ∷ zs) x y a p (inl b) (inr c) h k =
      let q = past m r x y a (ap (λ w. ahead m w y) (sym b) ∙ all_belongs _ zs y p.0 c) h.on k in absurd (omega (arith, ints, h.to))
  share (z ∷ zs) x y a p (inr b) (inl c) h k =
      let q = past m r y x a (ap (λ w. ahead m w x) (sym c) ∙ all_belongs _ zs x p.0 b) k.on h in absurd (omega (arith, ints, k.to))
  share (z ∷ zs) x y a p (inr b) (inr c) h k = share zs x y a p.1 b c h k

  pub belongs_maximal : (xs : List E) (e : E) → Pairs m xs → Belongs e xs → Maximal m (cover m xs) e
  belongs_maximal xs e p b = record {
    inside = λ a h. belongs_cover xs e a b h;
    most = λ f h k.
        let o = contains_from m r f e k in
        let y = inside_one xs f p h in
        let a = has_first m r e in
        let s : e ≡ y.one = share xs e y.one (first m r e) p b y.belongs a (contains_has m y.one f _ y.over (contains_has m f e _ o a)) in
        let t : Contains m e f = subst (λ z. Contains m z f) (sym s) y.over in
        alike m r f e o.on (omega (arith, ints, o.from, t.from)) (omega (arith, ints, o.to, t.to));
  }

  pub maximal_belongs : (xs : List E) (e : E) → Pairs m xs → Maximal m (cover m xs) e → Belongs e xs
  maximal_belongs xs e p h =
      let y = inside_one xs e p h.inside in
      let s = h.most y.one (λ a k. belongs_cover xs y.one a y.belongs k) (contains_covers m r.ordered y.one e y.over) in
      subst (λ z. Belongs z xs) s y.belongs

  maximal_at : (s t : A → Bool) (e : E) → Same s t → Maximal m s e → Maximal m t e
  maximal_at s t e q h = record {
    inside = λ a k. sym (q a) ∙ h.inside a k;
    most = λ f k l. h.most f (λ a u. q a ∙ k a u) l;
  }

  pub exactly_maximal : ExactlyMaximal m
  exactly_maximal set xs h =
      let p = pairs_from m r xs h.ordered in
      record { members = λ e. (λ b. maximal_at _ _ e h.covering (belongs_maximal xs e p b), λ k. maximal_belongs xs e p (maximal_at _ _ e (λ a. sym (h.covering a)) k)) }

  tails : (x y : E) (xs ys : List E) → x ≡ y → Before m x xs → ((z : E) → Belongs z (x ∷ xs) → Belongs z (y ∷ ys)) → (z : E) → Belongs z xs → Belongs z ys
  tails x y xs ys e p h z b = ⊎_elim (λ q. absurd (ahead_self m r x (ap (λ w. ahead m x w) (e ∙ q) ∙ all_belongs _ xs z p b))) (λ c. c) (h z (inr b))

  heads : (x y : E) (xs ys : List E) → Before m x xs → Before m y ys → Belongs x (y ∷ ys) → Belongs y (x ∷ xs) → x ≡ y
  heads x y xs ys p q (inl e) c = sym e
  heads x y xs ys p q (inr b) (inl e) = e
  heads x y xs ys p q (inr b) (inr c) = absurd (ahead_turn m r x y (all_belongs _ xs y p c) (all_belongs _ ys x q b))

  same_members : (xs ys : List E) → Pairs m xs → Pairs m ys → ((z : E) → Belongs z xs → Belongs z ys) → ((z : E) → Belongs z ys → Belongs z xs) → xs ≡ ys
  same_members [] [] p q f g = refl
  same_members [] (y ∷ ys) p q f g = absurd (g y (inl refl))
  same_members (x ∷ xs) [] p q f g = absurd (f x (inl refl))
  same_members (x ∷ xs) (y ∷ ys) p q f g =
      let e = heads x y xs ys p.0 q.0 (f x (inl refl)) (g y (inl refl)) in
      let t = same_members xs ys p.1 q.1 (tails x y xs ys e p.0 f) (tails y x ys xs (sym e) q.0 g) in
      λ i. e i ∷ t i

  pub one_list : OneList m
  one_list set xs ys h k =
      let p = pairs_from m r xs h.ordered in
      let q = pairs_from m r ys k.ordered in
      let same : Same (cover m xs) (cover m ys) = λ a. h.covering a ∙ sym (k.covering a) in
      same_members xs ys p q
      (λ z b. maximal_belongs ys z q (maximal_at _ _ z same (belongs_maximal xs z p b)))
      (λ z b. maximal_belongs xs z p (maximal_at _ _ z (λ a. sym (same a)) (belongs_maximal ys z q b)))
