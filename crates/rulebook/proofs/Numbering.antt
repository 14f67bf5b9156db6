-- The kept records by their numbers.
use Rattle.std.proofs.Common.{◌≡◌, ℕ, zero, suc, ◌-◌, ◌<◌, ◌≤◌, min, List, [], ◌∷◌, map, length, get_or, take, Some, None, Option, Bor, sym, refl, ap, ◌∙◌, subst, arith, MatchOption}
use Rattle.std.specs.List.{HoldsAt}
use Rattle.std.specs.Option.{option_copied}
use Rattle.std.proofs.lemmas.List.{length-take, get_or-take}
use Rattle.grammar.specs.Numbers.{nth}
use Rattle.grammar.proofs.Searching.{nth_index, nth_past}
use Rattle.rulebook.specs.Rulebooks.{rules_of, rule_of, kept, Finds, NoNumber, HasNumber}
use Rattle.rulebook.specs.declared.records.RuleRecord.{RuleRecord}
use Rattle.rulebook.specs.declared.rulebook.Rulebook.{Rulebook}

module _ {X Y : Type 0} (f : X → Y) where
  pub none_mapped : (xs : List X) (r : ℕ) → nth xs r ≡ None → nth (map f xs) r ≡ None
  none_mapped [] r h = refl
  none_mapped (x ∷ xs) zero h = refl
  none_mapped (x ∷ xs) (suc zero) h = let w : ◌≡◌ {A = ℕ} 0 1 = cc in absurd (omega arith)
  none_mapped (x ∷ xs) (suc (suc r)) h = none_mapped xs (suc r) h

  pub some_mapped : (xs : List X) (r : ℕ) (y : X) → nth xs r ≡ Some y → nth (map f xs) r ≡ Some (f y)
  some_mapped [] r y h = let w : ◌≡◌ {A = ℕ} 0 1 = cc in absurd (omega arith)
  some_mapped (x ∷ xs) zero y h = let w : ◌≡◌ {A = ℕ} 0 1 = cc in absurd (omega arith)
  some_mapped (x ∷ xs) (suc zero) y h = let e : x ≡ y = cc in ap (λ (z : X). Some (f z)) e
  some_mapped (x ∷ xs) (suc (suc r)) y h = some_mapped xs (suc r) y h

module _ {X : Type 0} where
  pub none_past : (xs : List X) (c r : ℕ) → min c (length xs) < r → nth (take c xs) r ≡ None
  none_past xs c r h =
      let l = length-take c xs in
      let e : r ≡ suc (r - 1) = omega arith in
      ap (nth (take c xs)) e ∙ nth_past (take c xs) (r - 1) (omega arith)

  pub some_within : (xs : List X) (c r : ℕ) (d : X) → (r ≡ 0 → ⊥) → r ≤ c → r ≤ length xs → nth (take c xs) r ≡ Some (get_or xs (r - 1) d)
  some_within xs c zero d n h k = absurd (n refl)
  some_within xs c (suc r) d n h k =
      let l = length-take c xs in
      let less : r < c = omega arith in
      let e : suc r - 1 ≡ r = omega arith in
      nth_index (take c xs) r d (omega arith) ∙ ap Some (get_or-take c xs r d less) ∙ ap (λ (i : ℕ). Some (get_or xs i d)) (sym e)

  -- what a lookup one place lower gives
  pub some_at : (xs : List X) (c r i : ℕ) (g : Option (Bor X)) (o : Option X) → 1 ≤ r → i ≡ r - 1 → r ≤ c
      → MatchOption g (length xs ≤ i) (λ x. (i < length xs) × HoldsAt (λ y. x.now ≡ y) xs i) → o ≡ option_copied g
      → MatchOption o (NoNumber xs c r) (λ y. HasNumber xs c r y)
  some_at xs c r i None o h e k m q = subst (λ (z : Option X). MatchOption z (NoNumber xs c r) (λ y. HasNumber xs c r y)) (sym q) (none_past xs c r (omega arith))
  some_at xs c r i (Some x) o h e k m q =
      subst (λ (z : Option X). MatchOption z (NoNumber xs c r) (λ y. HasNumber xs c r y)) (sym q)
      (some_within xs c r x.now (λ z. omega arith) k (let l = m.0 in omega arith) ∙ ap (λ (j : ℕ). Some (get_or xs j x.now)) (sym e) ∙ ap Some (sym (m.1 x.now)))

module _ {EM EC : Type 0} (b : Rulebook EM EC) where
  pub found : (r n : ℕ) (x : Option RuleRecord) → n ≡ r → MatchOption x (NoNumber b.records b.count n) (λ y. HasNumber b.records b.count n y) → Finds b r x
  found r n None e h = ap (nth (rules_of b)) (sym e) ∙ none_mapped (rule_of b) (kept b) n h
  found r n (Some y) e h = ap (nth (rules_of b)) (sym e) ∙ some_mapped (rule_of b) (kept b) n y h
