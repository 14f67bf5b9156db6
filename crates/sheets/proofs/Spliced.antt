-- A part of a list that gives way to another, by a copy and writes.
use Rattle.std.proofs.Common.{◌≡◌, ℕ, ◌+◌, ◌-◌, ◌≤◌, min, List, [], ◌++◌, length, take, drop, sym, ap, ◌∙◌, ⊎_elim, append_assoc, arith}
use lib.Seq.{paste}
use Rattle.std.specs.List.{between}
use Rattle.std.proofs.lemmas.Bool.{cases_lt}
use Rattle.std.proofs.lemmas.List.{take_all, drop_all, drop-drop, append-nil, take-take, drop-take, length-take-le, length-drop, length-append, take_at, drop_at, take-append-le, take-append-drop}

-- what lies past the end is not counted
pub clamped : {X : Type 0} (n k : ℕ) (xs : List X) → k ≡ min n (length xs) → take k xs ≡ take n xs
clamped n k xs e = ⊎_elim (λ h. ap (λ j. take j xs) (omega arith)) (λ h. take_all k xs (omega arith) ∙ sym (take_all n xs h)) (cases_lt n (length xs))

-- what is copied onto itself stays
pub in_place : {X : Type 0} (xs : List X) (at n : ℕ) → xs ≡ paste xs at (drop at xs) n
in_place xs at n =
    sym (take-append-drop at xs) ∙ ap (λ z. take at xs ++ z) (sym (take-append-drop n (drop at xs)) ∙ ap (λ z. take n (drop at xs) ++ z) (drop-drop n at xs)) ∙ sym (append_assoc (take at xs) (take n (drop at xs)) (drop (at + n) xs))

module _ {X : Type 0} (xs put : List X) (from to n : ℕ) where
  abbrev end : ℕ
  end = from + length put

  abbrev moved : List X
  moved = paste xs end (drop to xs) (n - to)

  pub record Parts : Type 0 where
    pub front : take from moved ≡ take from xs
    pub back : drop end moved ≡ take (n - to) (drop to xs) ++ drop (end + (n - to)) xs

  module _ (low : from ≤ to) (high : to ≤ n) (within : n ≤ length xs) (fits : n - (to - from) + length put ≤ length xs) where
    parts : Parts
    parts =
        let mid = take (n - to) (drop to xs) in
        let rest = drop (end + (n - to)) xs in
        let opened : moved ≡ take end xs ++ (mid ++ rest) = append_assoc (take end xs) mid rest in
        let fronts : length (take end xs) ≡ end = length-take-le end xs (omega arith) in
        record {
          front = ap (take from) opened ∙ take-append-le from (take end xs) (mid ++ rest) (omega arith) ∙ take-take from end xs (omega arith);
          back = ap (drop end) opened ∙ drop_at (take end xs) (mid ++ rest) end fronts;
        }

    pub spliced : take (n - (to - from) + length put) (take from moved ++ (put ++ drop end moved)) ≡ take from (take n xs) ++ (put ++ drop to (take n xs))
    spliced =
        let mid = take (n - to) (drop to xs) in
        let rest = drop (end + (n - to)) xs in
        let mids : length mid ≡ n - to = length-take-le (n - to) (drop to xs) (omega (arith, length-drop to xs)) in
        let short : length (take from xs) ≡ from = length-take-le from xs (omega arith) in
        let long : length (take from xs ++ (put ++ mid)) ≡ n - (to - from) + length put = length-append (take from xs) (put ++ mid) ∙ omega (arith, length-append put mid, mids, short) in
        let whole : to + (n - to) ≡ n = omega arith in
        let tail : mid ≡ drop to (take n xs) = sym (drop-take to (n - to) xs) ∙ ap (λ k. drop to (take k xs)) whole in
        let joined : take from moved ++ (put ++ drop end moved) ≡ (take from xs ++ (put ++ mid)) ++ rest =
        (λ i. parts.front i ++ (put ++ parts.back i)) ∙ ap (λ p. take from xs ++ p) (sym (append_assoc put mid rest)) ∙ sym (append_assoc (take from xs) (put ++ mid) rest) in
        ap (take (n - (to - from) + length put)) joined ∙ take_at (take from xs ++ (put ++ mid)) rest _ long ∙ (λ i. sym (take-take from n xs (omega arith)) i ++ (put ++ tail i))

    pub length_spliced : length (take from moved ++ (put ++ drop end moved)) ≡ length xs
    length_spliced =
        let mid = take (n - to) (drop to xs) in
        let rest = drop (end + (n - to)) xs in
        let mids : length mid ≡ n - to = length-take-le (n - to) (drop to xs) (omega (arith, length-drop to xs)) in
        let short : length (take from xs) ≡ from = length-take-le from xs (omega arith) in
        ap length (λ i. parts.front i ++ (put ++ parts.back i)) ∙ length-append (take from xs) (put ++ (mid ++ rest)) ∙ omega (arith, length-append put (mid ++ rest), length-append mid rest, mids, short, length-drop (end + (n - to)) xs)

-- ps written into the slots from a place on
pub written : {X : Type 0} (xs ps ys : List X) (at : ℕ) → ys ≡ ps ++ drop (length ps) (take (length xs - at) (drop at xs)) → take at xs ++ (ys ++ drop (length xs - at) (drop at xs)) ≡ take at xs ++ (ps ++ drop (at + length ps) xs)
written xs ps ys at h =
    let whole : take (length xs - at) (drop at xs) ≡ drop at xs = take_all (length xs - at) (drop at xs) (omega (arith, length-drop at xs)) in
    let none : drop (length xs - at) (drop at xs) ≡ [] = drop_all (length xs - at) (drop at xs) (omega (arith, length-drop at xs)) in
    ap (λ z. take at xs ++ z) ((λ i. (h ∙ ap (λ z. ps ++ drop (length ps) z) whole) i ++ none i) ∙ append-nil _ ∙ ap (λ z. ps ++ z) (drop-drop (length ps) at xs))

pub length_with : {X : Type 0} (xs put : List X) (from to : ℕ) → from ≤ to → to ≤ length xs → length (take from xs ++ (put ++ drop to xs)) ≡ length xs - (to - from) + length put
length_with xs put from to low high = length-append (take from xs) (put ++ drop to xs) ∙ omega (arith, length-append put (drop to xs), length-take-le from xs (omega arith), length-drop to xs)

-- the first elements of those from `from` on
pub first_of : {X : Type 0} (xs : List X) (from more : ℕ) → from + more ≤ length xs → take more (between from (length xs) xs) ≡ between from (from + more) xs
first_of xs from more h =
    let index : more ≡ from + more - from = omega arith in
    take-take more (length xs - from) (drop from xs) (omega arith) ∙ ap (λ k. take k (drop from xs)) index
