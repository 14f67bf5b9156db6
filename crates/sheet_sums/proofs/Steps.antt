-- An operation on sets, sum or difference, carried out element by element: how long the lists are on the way.
use Rattle.std.proofs.Common.{◌≡◌, ◌+◌, Bool, true, false, ◌||◌, ◌⊎◌, List, [], ◌∷◌, length, sym, refl, ap, ◌∙◌, inl, inr, arith}
use Rattle.std.specs.List.{AllByRecursion}
use Rattle.kinds.specs.Model.{KindModel, covers}
use Rattle.kinds.specs.Rules.{Rules}
use Rattle.sheets.specs.Cover.{cover, ahead, canonical}
use Rattle.sheets.specs.Maximal.{Lists, Same}
use Rattle.sheets.specs.Change.{by}
use Rattle.sheets.proofs.Joined.{or_swap}
use Rattle.sheets.proofs.Unique.{one_list}

pub or_self : (b : Bool) → (b || b) ≡ b
or_self true = refl
or_self false = refl

module _ {E A C : Type 0} (m : KindModel E A C) (r : Rules m) (op : Bool → Bool → Bool) where
  -- what is used of the operation: taking t and u together is taking one after the other, one element at a time there is
  -- a list, and two elements that do not touch change its length independently of each other
  pub record Stepwise : Type 0 where
    pub none : (s : Bool) → op s false ≡ s
    pub both : (s t u : Bool) → op s (t || u) ≡ op (op s t) u
    pub one : (xs : List E) (e : E) → canonical m xs ≡ true → (ys : List E) × Lists m (by op (cover m xs) (covers m e)) ys
    pub apart : (xs us vs ws : List E) (e f : E) → canonical m xs ≡ true → ahead m e f ≡ true
        → Lists m (by op (cover m xs) (covers m e)) us → Lists m (by op (cover m xs) (covers m f)) vs → Lists m (by op (by op (cover m xs) (covers m e)) (covers m f)) ws
        → length ws + length xs ≡ length us + length vs

  pub lists_at : {s t : A → Bool} (xs : List E) → Lists m s xs → Same s t → Lists m t xs
  lists_at xs h q = record { ordered = h.ordered; covering = λ a. h.covering a ∙ q a }

  pub lists_self : (xs : List E) → canonical m xs ≡ true → Lists m (cover m xs) xs
  lists_self xs h = record { ordered = h; covering = λ a. refl }

  module _ (o : Stepwise) where
    pub turned : (s t u : Bool) → op (op s t) u ≡ op (op s u) t
    turned s t u = sym (o.both s t u) ∙ ap (op s) (or_swap t u) ∙ o.both s u t

    pub again : (s t : Bool) → op (op s t) t ≡ op s t
    again s t = sym (o.both s t t) ∙ ap (op s) (or_self t)

    pub either : (xs us vs ws : List E) (e f : E) → canonical m xs ≡ true → (ahead m e f ≡ true) ⊎ (ahead m f e ≡ true)
        → Lists m (by op (cover m xs) (covers m e)) us → Lists m (by op (cover m xs) (covers m f)) vs → Lists m (by op (by op (cover m xs) (covers m e)) (covers m f)) ws
        → length ws + length xs ≡ length us + length vs
    either xs us vs ws e f h (inl k) p q s = o.apart xs us vs ws e f h k p q s
    either xs us vs ws e f h (inr k) p q s = let n = o.apart xs vs us ws f e h k q p (lists_at ws s (λ a. turned (cover m xs a) (covers m e a) (covers m f a))) in omega arith

    -- by all elements of a list there is a list too
    pub all : (bs xs : List E) → canonical m xs ≡ true → (ys : List E) × Lists m (by op (cover m xs) (cover m bs)) ys
    all [] xs h = (xs, record { ordered = h; covering = λ a. sym (o.none (cover m xs a)) })
    all (b ∷ bs) xs h =
        let x = o.one xs b h in
        let y = all bs x.0 x.1.ordered in
        (y.0, lists_at y.0 y.1 (λ a. ap (λ s. op s (cover m bs a)) (x.1.covering a) ∙ sym (o.both (cover m xs a) (covers m b a) (cover m bs a))))

    -- an element that touches none of bs changes the length as much after them as before them
    pub apart_all : (bs xs us vs ws : List E) (e : E) → canonical m xs ≡ true → AllByRecursion (λ b. (ahead m b e ≡ true) ⊎ (ahead m e b ≡ true)) bs
        → Lists m (by op (cover m xs) (cover m bs)) us → Lists m (by op (cover m xs) (covers m e)) vs → Lists m (by op (by op (cover m xs) (cover m bs)) (covers m e)) ws
        → length ws + length xs ≡ length us + length vs
    apart_all [] xs us vs ws e h k p q s =
        let a = ap length (one_list m r _ us xs (lists_at us p (λ a. o.none (cover m xs a))) (lists_self xs h)) in
        let b = ap length (one_list m r _ ws vs (lists_at ws s (λ a. ap (λ t. op t (covers m e a)) (o.none (cover m xs a)))) q) in
        omega arith
    apart_all (b ∷ bs) xs us vs ws e h k p q s =
        let x = o.one xs b h in
        let y = o.one x.0 e x.1.ordered in
        let first = either xs x.0 vs y.0 b e h k.0 x.1 q (lists_at y.0 y.1 (λ a. ap (λ t. op t (covers m e a)) (x.1.covering a))) in
        let split : (a : A) → op (cover m xs a) (cover m (b ∷ bs) a) ≡ op (cover m x.0 a) (cover m bs a) = λ a. o.both (cover m xs a) (covers m b a) (cover m bs a) ∙ ap (λ t. op t (cover m bs a)) (sym (x.1.covering a)) in
        let rest = apart_all bs x.0 us y.0 ws e x.1.ordered k.1 (lists_at us p split) y.1 (lists_at ws s (λ a. ap (λ t. op t (covers m e a)) (split a))) in
        omega arith
