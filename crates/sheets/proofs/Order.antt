-- Lists in canonical form, all pairs at once.
use Rattle.std.proofs.Common.{◌≡◌, ℕ, zero, suc, true, ◌⊎◌, List, [], ◌∷◌, ◌++◌, length, take, drop, ◌<ℤ◌, refl, subst, inl, inr, ⊎_elim, arith}
use Rattle.std.specs.List.{AllByRecursion, AllWithin}
use Rattle.std.proofs.lemmas.Bool.{false≢true, and_parts, and_from, or_cases}
use Rattle.std.proofs.ByRecursion.{All-weaker, All-append}
use Rattle.kinds.specs.Model.{KindModel, covers}
use Rattle.kinds.specs.Rules.{Rules}
use Rattle.kinds.proofs.Having.{has_from}
use Rattle.sheets.specs.Cover.{cover, ahead, canonical}
use Rattle.sheets.specs.Census.{Belongs}
use Rattle.sheets.proofs.Ahead.{ahead_trans, past}

module _ {X : Type 0} where
  pub all_belongs : (P : X → Type 0) (xs : List X) (x : X) → AllByRecursion P xs → Belongs x xs → P x
  all_belongs P [] x h b = absurd b
  all_belongs P (y ∷ ys) x h (inl e) = subst P e h.0
  all_belongs P (y ∷ ys) x h (inr b) = all_belongs P ys x h.1 b

  pub all_left : (P : X → Type 0) (xs ys : List X) → AllByRecursion P (xs ++ ys) → AllByRecursion P xs
  all_left P [] ys h = tt
  all_left P (x ∷ xs) ys h = (h.0, all_left P xs ys h.1)

  pub all_right : (P : X → Type 0) (xs ys : List X) → AllByRecursion P (xs ++ ys) → AllByRecursion P ys
  all_right P [] ys h = h
  all_right P (x ∷ xs) ys h = all_right P xs ys h.1

  -- an element at each place up to i, and at each place from i on
  pub all_first : (P : X → Type 0) (xs : List X) (i : ℕ) → AllWithin P xs 0 i → AllByRecursion P (take i xs)
  all_first P xs zero h = tt
  all_first P [] (suc i) h = tt
  all_first P (x ∷ xs) (suc i) h = (h 0 x (omega arith) (omega arith), all_first P xs i (λ k d l n. h (suc k) d (omega arith) (omega arith)))

  pub all_rest : (P : X → Type 0) (xs : List X) (i : ℕ) → AllWithin P xs i (length xs) → AllByRecursion P (drop i xs)
  all_rest P [] zero h = tt
  all_rest P [] (suc i) h = tt
  all_rest P (x ∷ xs) zero h = (h 0 x (omega arith) (omega arith), all_rest P xs zero (λ k d l n. h (suc k) d (omega arith) (omega arith)))
  all_rest P (x ∷ xs) (suc i) h = all_rest P xs i (λ k d l n. h (suc k) d (omega arith) (omega arith))

  pub belongs_append : (xs ys : List X) (z : X) → Belongs z (xs ++ ys) → Belongs z xs ⊎ Belongs z ys
  belongs_append [] ys z b = inr b
  belongs_append (x ∷ xs) ys z (inl e) = inl (inl e)
  belongs_append (x ∷ xs) ys z (inr b) = ⊎_elim (λ k. inl (inr k)) (λ k. inr k) (belongs_append xs ys z b)

  pub belongs_left : (xs ys : List X) (z : X) → Belongs z xs → Belongs z (xs ++ ys)
  belongs_left [] ys z b = absurd b
  belongs_left (x ∷ xs) ys z (inl e) = inl e
  belongs_left (x ∷ xs) ys z (inr b) = inr (belongs_left xs ys z b)

  pub belongs_right : (xs ys : List X) (z : X) → Belongs z ys → Belongs z (xs ++ ys)
  belongs_right [] ys z b = b
  belongs_right (x ∷ xs) ys z b = inr (belongs_right xs ys z b)

module _ {E A C : Type 0} (m : KindModel E A C) where
  abbrev pub Before : E → List E → Type 0
  Before x xs = AllByRecursion (λ y. ahead m x y ≡ true) xs

  abbrev pub Pairs : List E → Type 0
  Pairs [] = Unit {0}
  Pairs (x ∷ xs) = Before x xs × Pairs xs

  pub pairs_to : (xs : List E) → Pairs xs → canonical m xs ≡ true
  pairs_to [] h = refl
  pairs_to (x ∷ []) h = refl
  pairs_to (x ∷ y ∷ ys) h = and_from _ _ h.0.0 (pairs_to (y ∷ ys) h.1)

  pub pairs_append : (xs ys : List E) → Pairs xs → Pairs ys → AllByRecursion (λ x. Before x ys) xs → Pairs (xs ++ ys)
  pairs_append [] ys p q h = q
  pairs_append (x ∷ xs) ys p q h = (All-append _ xs ys p.0 h.0, pairs_append xs ys p.1 q h.1)

  pub pairs_left : (xs ys : List E) → Pairs (xs ++ ys) → Pairs xs
  pairs_left [] ys h = tt
  pairs_left (x ∷ xs) ys h = (all_left _ xs ys h.0, pairs_left xs ys h.1)

  pub pairs_right : (xs ys : List E) → Pairs (xs ++ ys) → Pairs ys
  pairs_right [] ys h = h
  pairs_right (x ∷ xs) ys h = pairs_right xs ys h.1

  pub pairs_across : (xs ys : List E) → Pairs (xs ++ ys) → AllByRecursion (λ x. Before x ys) xs
  pairs_across [] ys h = tt
  pairs_across (x ∷ xs) ys h = (all_right _ xs ys h.0, pairs_across xs ys h.1)

  module _ (r : Rules m) where
    pub pairs_from : (xs : List E) → canonical m xs ≡ true → Pairs xs
    pairs_from [] h = tt
    pairs_from (x ∷ []) h = (tt, tt)
    pairs_from (x ∷ y ∷ ys) h =
        let q = and_parts (ahead m x y) (canonical m (y ∷ ys)) h in
        let p = pairs_from (y ∷ ys) q.1 in
        ((q.0, All-weaker _ _ (λ z k. ahead_trans m r x y z q.0 k) ys p.0), p)

    -- on the carrier of x, what a list after x covers lies past x's end
    pub cover_past : (x : E) (xs : List E) (a : A) → Before x xs → m.carrier x ≡ m.on a → cover m xs a ≡ true → m.end x <ℤ m.at a
    cover_past x [] a h c k = absurd (false≢true k)
    cover_past x (y ∷ ys) a h c k = ⊎_elim (λ u. past m r x y a h.0 c (has_from m r.ordered y a u)) (λ v. cover_past x ys a h.1 c v) (or_cases (covers m y a) (cover m ys a) k)
