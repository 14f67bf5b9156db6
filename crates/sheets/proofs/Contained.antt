-- Whether a canonical list covers all of an element: the one place to look.
use Rattle.std.proofs.Common.{◌≡◌, ℕ, zero, suc, ◌+◌, ◌<◌, ◌≤◌, Bool, true, false, List, [], ◌∷◌, length, get_or, take, drop, Some, None, Option, MatchOption, Decides, Bor, sym, ap, ◌∙◌, subst, inl, inr, ⊎_elim, arith}
use Rattle.std.specs.List.{AllByRecursion}
use Rattle.std.specs.Slice.{IsItemAt}
use Rattle.std.proofs.lemmas.List.{drop_more, drop_all, take-append-drop}
use Rattle.std.proofs.lemmas.Bool.{false≢true, both_ways}
use Rattle.std.proofs.lemmas.Int.{ints}
use Rattle.kinds.specs.Model.{KindModel, covers}
use Rattle.kinds.specs.Rules.{Rules}
use Rattle.kinds.proofs.Having.{Contains, contains_covers}
use Rattle.kinds.proofs.Standing.{nonempty}
use Rattle.sheets.specs.Cover.{cover, ahead, canonical}
use Rattle.sheets.specs.Census.{Belongs}
use Rattle.sheets.specs.Maximal.{Part}
use Rattle.sheets.specs.Finding.{Parted}
use Rattle.sheets.proofs.Ahead.{gap, ahead_later}
use Rattle.sheets.proofs.Order.{Pairs, pairs_from, pairs_right, all_belongs, belongs_append}
use Rattle.sheets.proofs.Unique.{inside_one, belongs_cover}

pub belongs_at : {X : Type 0} (xs : List X) (i : ℕ) (x d : X) → i < length xs → x ≡ get_or xs i d → Belongs x xs
belongs_at [] i x d l e = absurd (omega arith)
belongs_at (y ∷ ys) zero x d l e = inl (sym e)
belongs_at (y ∷ ys) (suc i) x d l e = inr (belongs_at ys i x d (omega arith) e)

module _ {E A C : Type 0} (m : KindModel E A C) (r : Rules m) where
  module _ (xs : List E) (e : E) (at : ℕ) (h : canonical m xs ≡ true) (p : Parted (λ x. ahead m x e) xs at) where
    -- what contains e stands past those ahead of e
    past_front : (y : E) → Contains m y e → Belongs y xs → Belongs y (drop at xs)
    past_front y o b = ⊎_elim
        (λ k. let g = gap m r y e (all_belongs _ (take at xs) y p.front k) o.on in let n = nonempty m r e in let t = o.to in absurd (omega (arith, ints)))
        (λ k. k)
        (belongs_append (take at xs) (drop at xs) y (subst (Belongs y) (sym (take-append-drop at xs)) b))

    first_one : (x y : E) (rest : List E) → drop at xs ≡ x ∷ rest → Contains m y e → Belongs y (x ∷ rest) → Contains m x e
    first_one x y rest s o (inl q) = subst (λ z. Contains m z e) (sym q) o
    first_one x y rest s o (inr b) =
        let q = subst (Pairs m) s (pairs_right m (take at xs) (drop at xs) (subst (Pairs m) (sym (take-append-drop at xs)) (pairs_from m r xs h))) in
        let a = ahead_later m r x y e (all_belongs _ rest y q.0 b) (sym o.on) o.from in
        absurd (both_ways _ (subst (AllByRecursion (λ z. ahead m z e ≡ false)) s p.back).0 a)

    pub at_one : (x : E) (t : Bool) → at < length xs → x ≡ get_or xs at x → Decides t (Part (covers m e) (covers m x)) → Decides t (Part (covers m e) (cover m xs))
    at_one x t l is d = (
      λ k a w. belongs_cover m r xs x a (belongs_at xs at x x l is) (d.0 k a w),
      λ k. let f = inside_one m r xs e (pairs_from m r xs h) k in
          let s : drop at xs ≡ x ∷ drop (at + 1) xs = drop_more xs at x l ∙ ap (λ z. z ∷ drop (at + 1) xs) (sym is) in
          d.1 (contains_covers m r.ordered x e (first_one x f.one (drop (at + 1) xs) s f.over (subst (Belongs f.one) s (past_front f.one f.over f.belongs)))),
    )

    pub at_none : length xs ≤ at → Decides false (Part (covers m e) (cover m xs))
    at_none l = (
      λ k. absurd (false≢true k),
      λ k. let f = inside_one m r xs e (pairs_from m r xs h) k in
          absurd (subst (Belongs f.one) (drop_all at xs l) (past_front f.one f.over f.belongs)),
    )

    -- what is at the place, if anything is
    pub at_place : (o : Option (Bor E)) (t : Bool) → IsItemAt xs at o → MatchOption o (t ≡ false) (λ x. Decides t (Part (covers m e) (covers m x.now))) → Decides t (Part (covers m e) (cover m xs))
    at_place None t l d = subst (λ b. Decides b (Part (covers m e) (cover m xs))) (sym d) (at_none (grind arith))
    at_place (Some x) t l d = at_one x.now t (grind arith) (grind arith) d
