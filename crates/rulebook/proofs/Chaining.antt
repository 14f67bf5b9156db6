-- Stretches one behind the other in a table, when the latest is closed and when it grows.
use Rattle.std.proofs.Common.{◌≡◌, ℕ, ◌+◌, ◌-◌, ◌≤◌, List, [], ◌∷◌, ◌++◌, length, take, drop, sum_by, sym, refl, ap, ◌∙◌, subst, arith, length-drop}
use Rattle.std.specs.List.{AllByRecursion}
use Rattle.std.proofs.lemmas.List.{take-take, length-take}
use Rattle.std.proofs.lemmas.List.Sums.{sum_by-cons}
use Rattle.std.proofs.lemmas.Slice.{between_is}
use Rattle.kinds.specs.Model.{KindModel}
use Rattle.sheets.specs.Cover.{canonical}
use Rattle.rulebook.specs.Rulebooks.{Chained, KeptTable}
use Rattle.rulebook.specs.Tables.{stretch_of, latest, Tidy, Grew}
use Rattle.rulebook.specs.declared.table.Stretch.{Stretch}
use Rattle.rulebook.specs.declared.table.Table.{Table}

abbrev pub at_end : {E : Type 0} → Table E → Stretch
at_end t = record { from = t.from; to = t.used }

-- a stretch that lies in front of n is the same in lists with the same front
pub same_stretch : {E : Type 0} (xs ys : List E) (n : ℕ) (s : Stretch) → s.to ≤ n → take n xs ≡ take n ys → stretch_of xs s ≡ stretch_of ys s
same_stretch {E} xs ys n s h e =
    front xs ∙ ap (λ zs. drop s.from (take s.to zs)) e ∙ sym (front ys) where
      front : (zs : List E) → stretch_of zs s ≡ drop s.from (take s.to (take n zs))
      front zs = between_is zs s.from s.to ∙ ap (drop s.from) (sym (take-take s.to n zs h))

module _ {E A C : Type 0} (m : KindModel E A C) where
  -- the stretches before the latest end where it begins
  before : (at : ℕ) (ss : List Stretch) (s : Stretch) (t : Table E) → Chained m at (ss ++ (s ∷ [])) t → (at ≤ t.from) × AllByRecursion (λ r. r.to ≤ t.from) ss
  before at [] s t h = (omega (arith, h.1), tt)
  before at (r ∷ []) s t h = let b = before r.to [] s t h.3 in (omega (arith, h.1, b.0), (b.0, tt))
  before at (r ∷ q ∷ ss) s t h = let b = before r.to (q ∷ ss) s t h.3 in (omega (arith, h.1, b.0), (b.0, b.1))

  -- the latest stretch is the last
  pub is_last : (at : ℕ) (ss : List Stretch) (s : Stretch) (t : Table E) → Chained m at (ss ++ (s ∷ [])) t → (s.from ≡ t.from) × (s.to ≡ t.used)
  is_last at [] s t h = (h.0 ∙ sym h.1, h.2)
  is_last at (r ∷ []) s t h = is_last r.to [] s t h.3
  is_last at (r ∷ q ∷ ss) s t h = is_last r.to (q ∷ ss) s t h.3

  -- the chain goes on with a table that has the same front, and another latest stretch
  renewed : (at : ℕ) (ss : List Stretch) (s : Stretch) (t u : Table E) → u.from ≡ t.from → AllByRecursion (λ r. stretch_of u.slots.now r ≡ stretch_of t.slots.now r) ss → Chained m at (ss ++ (s ∷ [])) t → Chained m at (ss ++ (at_end u ∷ [])) u
  renewed at [] s t u f e h = (f ∙ h.1, f ∙ h.1, refl)
  renewed at (r ∷ []) s t u f e h = (h.0, h.1, ap (canonical m) e.0 ∙ h.2, renewed r.to [] s t u f tt h.3)
  renewed at (r ∷ q ∷ ss) s t u f e h = (h.0, h.1, ap (canonical m) e.0 ∙ h.2, renewed r.to (q ∷ ss) s t u f e.1 h.3)

  all_same : (xs ys : List E) (n : ℕ) (ss : List Stretch) → take n xs ≡ take n ys → AllByRecursion (λ r. r.to ≤ n) ss → AllByRecursion (λ r. stretch_of xs r ≡ stretch_of ys r) ss
  all_same xs ys n [] e a = tt
  all_same xs ys n (s ∷ ss) e a = (same_stretch xs ys n s a.0 e, all_same xs ys n ss e a.1)

  -- growing leaves the stretches before the latest as they are
  pub grown_before : (ss : List Stretch) (s : Stretch) (e : E) (t u : Table E) → KeptTable m (ss ++ (s ∷ [])) t → Grew m e t u → AllByRecursion (λ r. stretch_of u.slots.now r ≡ stretch_of t.slots.now r) ss
  grown_before ss s e t u k g = all_same _ _ t.from ss (g.front k.tidy) (before 0 ss s t k.chained).1

  pub grown_kept : (ss : List Stretch) (s : Stretch) (e : E) (t u : Table E) → KeptTable m (ss ++ (s ∷ [])) t → Grew m e t u → KeptTable m (ss ++ (at_end u ∷ [])) u
  grown_kept ss s e t u k g = record { tidy = g.tidy k.tidy; chained = renewed 0 ss s t u g.from (grown_before ss s e t u k g) k.chained }

  -- the latest stretch of a kept table
  pub last_is : (ss : List Stretch) (s : Stretch) (t : Table E) → KeptTable m (ss ++ (s ∷ [])) t → stretch_of t.slots.now s ≡ latest t
  last_is ss s t k =
      let l = is_last 0 ss s t k.chained in
      ap (λ (n : ℕ). take (s.to - n) (drop n t.slots.now)) l.0 ∙ ap (λ (n : ℕ). take (n - t.from) (drop t.from t.slots.now)) l.1

  -- a table that is closed
  closed_chain : (at : ℕ) (ss : List Stretch) (t u : Table E) → Tidy m t → u.slots.now ≡ t.slots.now → u.from ≡ t.used → u.used ≡ t.used → Chained m at ss t → Chained m at (ss ++ (at_end u ∷ [])) u
  closed_chain at [] t u d n f g h = (f ∙ h.1, f ∙ h.1, refl)
  closed_chain at (s ∷ []) t u d n f g h =
      let lo = d.low in
      let is : stretch_of u.slots.now s ≡ latest t = ap (λ xs. stretch_of xs s) n ∙ ap (λ (k : ℕ). take (s.to - k) (drop k t.slots.now)) (h.0 ∙ sym h.1) ∙ ap (λ (k : ℕ). take (k - t.from) (drop t.from t.slots.now)) h.2 in
      (h.0, omega (arith, lo, h.1, h.2), ap (canonical m) is ∙ d.ordered, (f ∙ sym h.2, f ∙ sym h.2, refl))
  closed_chain at (s ∷ r ∷ ss) t u d n f g h =
      (h.0, h.1, ap (λ xs. canonical m (stretch_of xs s)) n ∙ h.2, closed_chain s.to (r ∷ ss) t u d n f g h.3)

  pub closed_kept : (ss : List Stretch) (t u : Table E) → u.slots.now ≡ t.slots.now → u.from ≡ t.used → u.used ≡ t.used → KeptTable m ss t → KeptTable m (ss ++ (at_end u ∷ [])) u
  closed_kept ss t u n f g k = record {
    tidy = record {
      low = omega (arith, f, g);
      high = (let h = k.tidy.high in omega (arith, g, ap length n));
      few = (let h = k.tidy.few in omega (arith, ap length n));
      ordered = (let none : u.used - u.from ≡ 0 = omega (arith, f, g) in ap (λ (i : ℕ). canonical m (take i (drop u.from u.slots.now))) none);
    };
    chained = closed_chain 0 ss t u k.tidy n f g k.chained;
  }

  -- a table that stayed keeps its chain, with the latest stretch as the table has it
  pub stayed_kept : (ss : List Stretch) (s : Stretch) (t u : Table E) → u ≡ t → KeptTable m (ss ++ (s ∷ [])) t → KeptTable m (ss ++ (at_end u ∷ [])) u
  stayed_kept ss s t u e k =
      subst (λ (v : Table E). KeptTable m (ss ++ (at_end v ∷ [])) v) (sym e)
      (record { tidy = k.tidy; chained = renewed 0 ss s t t refl (unchanged ss) k.chained }) where
        unchanged : (rs : List Stretch) → AllByRecursion (λ r. stretch_of t.slots.now r ≡ stretch_of t.slots.now r) rs
        unchanged [] = tt
        unchanged (r ∷ rs) = (refl, unchanged rs)

  counted : (at : ℕ) (r : Stretch) (ss : List Stretch) (s : Stretch) (t : Table E) → Tidy m t → r.from ≡ at → at ≤ r.to → Chained m r.to (ss ++ (s ∷ [])) t → t.from ≡ r.to + sum_by (λ r. length (stretch_of t.slots.now r)) ss → t.from ≡ at + sum_by (λ r. length (stretch_of t.slots.now r)) (r ∷ ss)
  counted at r ss s t d f l h e =
      let b = (before r.to ss s t h).0 in
      let lo = d.low in
      let hi = d.high in
      let n = length-take (r.to - r.from) (drop r.from t.slots.now) in
      let k = length-drop r.from t.slots.now in
      omega (arith, sum_by-cons (λ q. length (stretch_of t.slots.now q)) r ss)

  -- the latest stretch begins behind as many elements as the earlier ones have
  pub used_before : (at : ℕ) (ss : List Stretch) (s : Stretch) (t : Table E) → Tidy m t → Chained m at (ss ++ (s ∷ [])) t → t.from ≡ at + sum_by (λ r. length (stretch_of t.slots.now r)) ss
  used_before at [] s t d h = omega (arith, h.1)
  used_before at (r ∷ []) s t d h = counted at r [] s t d h.0 h.1 h.3 (used_before r.to [] s t d h.3)
  used_before at (r ∷ q ∷ ss) s t d h = counted at r (q ∷ ss) s t d h.0 h.1 h.3 (used_before r.to (q ∷ ss) s t d h.3)
