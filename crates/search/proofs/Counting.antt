-- How far a walk from place to place has come in the list.
use Rattle.std.proofs.Common.{◌≡◌, ℕ, zero, suc, ◌+◌, ◌<◌, ◌≤◌, ◌⊎◌, List, [], ◌∷◌, ◌++◌, length, get_or, take, drop, set, ℤ, negsuc, Some, None, sym, refl, ap, ◌∙◌, subst, inl, inr, ⊎_elim, append_assoc, le_of_suc-le-suc, add-one, arith}
use Rattle.std.proofs.lemmas.List.{drop_more, take_more, set_at, length-take-le}
use Rattle.std.proofs.lemmas.Bool.{cases_lt, cases_order}
use Rattle.lattice.specs.declared.placement.Placement.{Placement}
use Rattle.lattice.specs.Order.{Triple, triple, Before, Earlier}
use Rattle.kinds.specs.Model.{KindModel}
use Rattle.grammar.specs.Numbers.{nth}
use Rattle.grammar.specs.Places.{Numbered, Least}
use Rattle.grammar.specs.Sets.{Sets}
use Rattle.grammar.proofs.Numbers.{some_one, none_some, nth_zero, zero_none}
use Rattle.grammar.proofs.Placements.{before_asym, never}
use Rattle.grammar.proofs.Searching.{least_first, before_all, nth_index, nth_past}

-- exactly the first n of the list do not come after t
pub record Passed (ps : List Placement) (t : Triple) (n : ℕ) : Type 0 where
  pub within : n ≤ length ps
  pub later : (k : ℕ) (p : Placement) → nth ps k ≡ Some p → n < k → Before t (triple p)
  pub past : (k : ℕ) (p : Placement) → nth ps k ≡ Some p → Before t (triple p) → n < k

module _ {A : Type 0} where
  pub there : (xs : List A) (i : ℕ) → i < length xs → (x : A) × (nth xs (suc i) ≡ Some x)
  there [] i h = absurd (omega arith)
  there (x ∷ xs) zero h = (x, refl)
  there (x ∷ xs) (suc i) h = there xs i (le_of_suc-le-suc h)

  pub number_within : (xs : List A) (k : ℕ) (x : A) → nth xs k ≡ Some x → k ≤ length xs
  number_within xs zero x e = absurd (zero_none xs e)
  number_within xs (suc i) x e = ⊎_elim (λ l. omega arith) (λ l. absurd (none_some (sym (nth_past xs i l) ∙ e))) (cases_lt i (length xs))

  pub number_past : (xs : List A) (k : ℕ) → length xs < k → nth xs k ≡ None
  number_past xs zero h = nth_zero xs
  number_past xs (suc i) h = nth_past xs i (omega arith)

pub passed_none : (ps : List Placement) (u v : ℤ) → Passed ps (record { turn = negsuc 0; across = u; up = v }) 0
passed_none ps u v = record { within = omega arith; later = λ k p e l. before_all p u v; past = λ k p e l. go k p e }
  where
    go : (k : ℕ) (p : Placement) → nth ps k ≡ Some p → 0 < k
    go zero p e = absurd (zero_none ps e)
    go (suc k) p e = omega arith

module _ {EM AM CM EC Ac CC : Type 0} (M : KindModel EM AM CM) (C : KindModel EC Ac CC) (L S : Sets AM Ac) (ps : List Placement) (num : Numbered M C L S ps) (t : Triple) (n : ℕ) (h : Passed ps t n) where
  passed_next : (p : Placement) (k : ℕ) → nth ps k ≡ Some p → Before t (triple p) → ((j : ℕ) (q : Placement) → nth ps j ≡ Some q → Before t (triple q) → k ≤ j) → (k ≡ n + 1) × Passed ps (triple p) (n + 1)
  passed_next p k e w f =
      let l = h.past k p e w in
      let b = number_within ps k p e in
      let x = there ps n (omega arith) in
      let m = f (suc n) x.0 x.1 (h.later (suc n) x.0 x.1 (omega arith)) in
      let q : k ≡ n + 1 = omega arith in (
        q,
        record {
          within = omega arith;
          later = λ j r i s. num.rise k j p r e i (omega arith);
          past = λ j r i s. go j r i s q (cases_order k j);
        },
      )
    where
      go : (j : ℕ) (r : Placement) → nth ps j ≡ Some r → Earlier p r → k ≡ n + 1 → (k ≡ j) ⊎ ((k < j) ⊎ (j < k)) → n + 1 < j
      go j r i s q (inr (inl a)) = omega arith
      go j r i s q (inl a) = absurd (never p (subst (λ (z : Placement). Earlier p z) (sym (some_one (sym e ∙ ap (nth ps) a ∙ i))) s))
      go j r i s q (inr (inr a)) = absurd (before_asym (triple p) (triple r) s (num.rise j k r p i e a))

  -- the next place has the next number
  pub one_more : (p : Placement) → Least M C L S t (Some p) → (nth ps (n + 1) ≡ Some p) × Passed ps (triple p) (n + 1)
  one_more p l =
      let f = least_first M C L S ps num t (Some p) l in
      let x = passed_next p f.0 f.1 f.2 f.3 in
      (subst (λ (k : ℕ). nth ps k ≡ Some p) x.0 f.1, x.1)

  -- no place is left
  pub no_more : Least M C L S t None → n ≡ length ps
  no_more l = go (cases_order n (length ps))
    where
      go : (n ≡ length ps) ⊎ ((n < length ps) ⊎ (length ps < n)) → n ≡ length ps
      go (inr (inl a)) = let x = there ps n a in absurd (least_first M C L S ps num t None l (suc n) x.0 x.1 (h.later (suc n) x.0 x.1 (omega arith)))
      go (inl a) = a
      go (inr (inr a)) = let w = h.within in absurd (omega arith)

-- one more written at the front
pub put_front : {X : Type 0} (all old : List X) (n : ℕ) (p : X) → n < length all → n < length old → get_or all n p ≡ p → set (take n all ++ drop n old) n p ≡ take (n + 1) all ++ drop (n + 1) old
put_front {X} all old n p h wide e =
    let short : n ≤ length all = omega arith in
    ap (λ (ys : List X). set (take n all ++ ys) n p) (drop_more old n p wide) ∙
    set_at (take n all) (get_or old n p) (drop (n + 1) old) p n (length-take-le n all short) ∙
    sym (ap (λ (ys : List X). ys ++ drop (n + 1) old) (take_more all n p h) ∙
    append_assoc (take n all) (get_or all n p ∷ []) (drop (n + 1) old) ∙
    ap (λ (q : X). take n all ++ q ∷ drop (n + 1) old) e)

-- the element with a number stands at the index below
pub number_index : {A : Type 0} (xs : List A) (n : ℕ) (x : A) → nth xs (n + 1) ≡ Some x → (n < length xs) × (get_or xs n x ≡ x)
number_index xs n x e =
    let l = number_within xs (n + 1) x e in
    let h : n < length xs = omega arith in
    (h, some_one (sym (nth_index xs n x h) ∙ ap (nth xs) (sym (add-one n)) ∙ e))
