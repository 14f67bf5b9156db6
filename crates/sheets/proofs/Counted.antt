-- The atoms of a canonical list, listed.
use Rattle.std.proofs.Common.{◌≡◌, ℕ, zero, suc, ◌+◌, ◌≤◌, true, List, [], ◌∷◌, ◌++◌, length, ℤ, pos, ◌+ℤ◌, ◌-ℤ◌, nat_abs, ◌≤ℤ◌, ◌<ℤ◌, sym, refl, ap, ◌∙◌, subst, inl, inr, ⊎_elim, mul-le-mul_right, arith}
use Rattle.std.proofs.lemmas.List.{length-append, length-take}
use Rattle.std.proofs.lemmas.List.Sums.{sum_by-cons}
use Rattle.std.proofs.ByRecursion.{sum_by_le}
use Rattle.std.specs.List.{AllByRecursion}
use Rattle.std.proofs.lemmas.Bool.{false≢true, or_cases, or_left, or_right}
use Rattle.std.proofs.lemmas.Int.{ints}
use Rattle.kinds.specs.Model.{KindModel, covers}
use Rattle.kinds.specs.Rules.{Rules}
use Rattle.kinds.proofs.Numbers.{cases_lt_z}
use Rattle.kinds.proofs.Having.{Has, has_from, has_to}
use Rattle.kinds.proofs.Standing.{nonempty, start_low, end_high, atom, has_atom, at_atom}
use Rattle.sheets.specs.Cover.{cover, canonical, size, sizes}
use Rattle.sheets.specs.Contents.{items, Sound}
use Rattle.sheets.specs.declared.sheet.Sheet.{Sheet}
use Rattle.sheets.specs.Census.{Belongs, Distinct, Census}
use Rattle.sheets.proofs.Order.{Pairs, pairs_from, cover_past, belongs_append, belongs_left, belongs_right}

span : (a b : ℤ) → a <ℤ b → a +ℤ pos (nat_abs (b -ℤ a)) ≡ b
span a b h = omega (arith, ints)

module _ {X : Type 0} where
  distinct_append : (xs ys : List X) → Distinct xs → Distinct ys → ((a : X) → Belongs a xs → Belongs a ys → ⊥) → Distinct (xs ++ ys)
  distinct_append [] ys p q h = q
  distinct_append (x ∷ xs) ys p q h = (λ k. ⊎_elim p.0 (h x (inl refl)) (belongs_append xs ys x k), distinct_append xs ys p.1 q (λ a k l. h a (inr k) l))

module _ {E A C : Type 0} (m : KindModel E A C) (r : Rules m) where
  run : E → ℤ → ℕ → List A
  run e z zero = []
  run e z (suc n) = atom m r e z ∷ run e (z +ℤ pos 1) n

  record Within (e : E) (z : ℤ) (n : ℕ) (a : A) : Type 0 where
    proper : m.proper a ≡ true
    on : m.carrier e ≡ m.on a
    from : z ≤ℤ m.at a
    to : m.at a <ℤ (z +ℤ pos n)

  length_run : (e : E) (z : ℤ) (n : ℕ) → length (run e z n) ≡ n
  unfolding run
  length_run e z zero = refl
  length_run e z (suc n) = ap suc (length_run e (z +ℤ pos 1) n)

  within_first : (e : E) (z : ℤ) (n : ℕ) (a b : A) → b ≡ a → Has m e b → m.at b ≡ z → Within e z (suc n) a
  within_first e z n a b q h p =
      let s : m.at b ≡ m.at a = ap m.at q in
      record { proper = sym (ap m.proper q) ∙ h.proper; on = h.on ∙ ap m.on q; from = omega (arith, ints); to = omega (arith, ints) }

  run_from : (e : E) (z : ℤ) (n : ℕ) (a : A) → m.start e ≤ℤ z → (z +ℤ pos n) ≤ℤ m.end e → Belongs a (run e z n) → Within e z n a
  unfolding run
  run_from e z zero a low high h = absurd h
  run_from e z (suc n) a low high (inl q) = within_first e z n a _ q (has_atom m r e z low (omega (arith, ints))) (at_atom m r e z low (omega (arith, ints)))
  run_from e z (suc n) a low high (inr h) = let w = run_from e (z +ℤ pos 1) n a (omega (arith, ints)) (omega (arith, ints)) h in let f = w.from in let t = w.to in record { proper = w.proper; on = w.on; from = omega (arith, ints); to = omega (arith, ints) }

  run_to : (e : E) (z : ℤ) (n : ℕ) (a : A) → m.start e ≤ℤ z → (z +ℤ pos n) ≤ℤ m.end e → Within e z n a → Belongs a (run e z n)
  unfolding run
  run_to e z zero a low high w = let f = w.from in let t = w.to in absurd (omega (arith, ints))
  run_to e z (suc n) a low high w =
      let f = w.from in
      let t = w.to in
      ⊎_elim
      (λ l. inr (run_to e (z +ℤ pos 1) n a (omega (arith, ints)) (omega (arith, ints)) (record { proper = w.proper; on = w.on; from = omega (arith, ints); to = omega (arith, ints) })))
      (λ l. let h : Has m e (atom m r e z) = has_atom m r e z low (omega (arith, ints)) in
      let p : m.at (atom m r e z) ≡ z = at_atom m r e z low (omega (arith, ints)) in
      let q : z ≡ m.at a = omega (arith, ints) in
      inl (r.apart (atom m r e z) a h.proper w.proper (sym h.on ∙ w.on) (p ∙ q)))
      (cases_lt_z z (m.at a))

  run_distinct : (e : E) (z : ℤ) (n : ℕ) → m.start e ≤ℤ z → (z +ℤ pos n) ≤ℤ m.end e → Distinct (run e z n)
  unfolding run
  run_distinct e z zero low high = tt
  run_distinct e z (suc n) low high = (
    λ h. let w = run_from e (z +ℤ pos 1) n _ (omega (arith, ints)) (omega (arith, ints)) h in let f = w.from in let s : m.at (atom m r e z) ≡ z = at_atom m r e z low (omega (arith, ints)) in omega (arith, ints),
    run_distinct e (z +ℤ pos 1) n (omega (arith, ints)) (omega (arith, ints)),
  )

  own : E → List A
  own e = run e (m.start e) (size m e)

  begins : (e : E) → m.start e ≤ℤ m.start e
  begins e = omega (arith, ints)

  stops : (e : E) → (m.start e +ℤ pos (size m e)) ≤ℤ m.end e
  stops e = let s = span (m.start e) (m.end e) (nonempty m r e) in omega (arith, ints, s)

  own_from : (e : E) (a : A) → Belongs a (own e) → covers m e a ≡ true
  unfolding own
  own_from e a h =
      let w = run_from e (m.start e) (size m e) a (begins e) (stops e) h in
      has_to m r.ordered e a (record { proper = w.proper; on = w.on; from = w.from; to = subst (λ z. m.at a <ℤ z) (span (m.start e) (m.end e) (nonempty m r e)) w.to })

  own_to : (e : E) (a : A) → covers m e a ≡ true → Belongs a (own e)
  unfolding own
  own_to e a h =
      let w = has_from m r.ordered e a h in
      run_to e (m.start e) (size m e) a (begins e) (stops e) (record { proper = w.proper; on = w.on; from = w.from; to = subst (λ z. m.at a <ℤ z) (sym (span (m.start e) (m.end e) (nonempty m r e))) w.to })

  own_distinct : (e : E) → Distinct (own e)
  unfolding own
  own_distinct e = run_distinct e (m.start e) (size m e) (begins e) (stops e)

  own_length : (e : E) → length (own e) ≡ size m e
  unfolding own
  own_length e = length_run e (m.start e) (size m e)

  counted_by : (xs : List E) → Pairs m xs → Census (cover m xs) (sizes m xs)
  counted_by [] p = record { listed = []; once = tt; count = refl; inside = λ a h. absurd h; every = λ a h. absurd (false≢true h) }
  counted_by (x ∷ xs) p =
      let c = counted_by xs p.1 in
      record {
        listed = own x ++ c.listed;
        once = distinct_append (own x) c.listed (own_distinct x) c.once (λ a h k.
            let w = has_from m r.ordered x a (own_from x a h) in
            let t = w.to in
            let q = cover_past m r x xs a p.0 w.on (c.inside a k) in
            omega (arith, ints));
        count = length-append (own x) c.listed ∙ (λ i. own_length x i + c.count i) ∙ sym (sum_by-cons (size m) x xs);
        inside = λ a h. ⊎_elim (λ k. or_left _ _ (own_from x a k)) (λ k. or_right _ _ (c.inside a k)) (belongs_append (own x) c.listed a h);
        every = λ a h. ⊎_elim (λ k. belongs_left (own x) c.listed a (own_to x a k)) (λ k. belongs_right (own x) c.listed a (c.every a k)) (or_cases (covers m x a) (cover m xs a) h);
      }

  pub counted : (xs : List E) → canonical m xs ≡ true → Census (cover m xs) (sizes m xs)
  counted xs h = counted_by xs (pairs_from m r xs h)

  few_each : (e : E) → size m e ≤ 4001
  few_each e = let l = start_low m r e in let h = end_high m r e in let n = nonempty m r e in let s = span (m.start e) (m.end e) n in omega (arith, ints, s)

  -- a sound sheet has few atoms
  pub few_atoms : (s : Sheet E) → Sound m s → sizes m (items s) ≤ 16388096
  few_atoms s h =
      let f = h.few in
      let n : length (items s) ≤ 4096 = omega (arith, length-take s.count s.slots.now) in
      let b = sum_by_le (size m) 4001 (items s) (every_few (items s)) in
      omega (arith, b, mul-le-mul_right 4001 n)
    where
      every_few : (xs : List E) → AllByRecursion (λ e. size m e ≤ 4001) xs
      every_few [] = tt
      every_few (x ∷ xs) = (few_each x, every_few xs)
