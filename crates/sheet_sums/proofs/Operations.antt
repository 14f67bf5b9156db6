-- Sum and difference, and so any change, each element by element.
use Rattle.std.proofs.Common.{◌≡◌, ◌+◌, Bool, true, false, not, ◌&&◌, ◌||◌, List, length, sym, refl, ap, ◌∙◌, subst, arith}
use Rattle.std.proofs.lemmas.Bool.{false≢true}
use Rattle.kinds.specs.Model.{KindModel, covers}
use Rattle.kinds.specs.Rules.{Rules}
use Rattle.sheets.specs.Cover.{cover, ahead, canonical}
use Rattle.sheets.specs.Maximal.{Lists}
use Rattle.sheets.proofs.Joined.{or_assoc, or_none}
use Rattle.sheets.proofs.Order.{pairs_from}
use Rattle.sheets.proofs.Removed.{and_true}
use Rattle.sheets.proofs.Unique.{one_list}
use Rattle.sheets.specs.Change.{plus, minus, by, Lawful}
use Rattle.sheet_sums.proofs.Steps.{Stepwise, lists_at, lists_self}
use Rattle.sheet_sums.proofs.Summed.{sum, sum_lists}
use Rattle.sheet_sums.proofs.Lessened.{less, less_lists}

-- a change that leaves each atom as it was
abbrev keep : Bool → Bool → Bool
keep s t = s

minus_both : (s t u : Bool) → minus s (t || u) ≡ minus (minus s t) u
minus_both true true u = refl
minus_both true false u = refl
minus_both false t u = refl

module _ {E A C : Type 0} (m : KindModel E A C) (r : Rules m) where
  sum_apart : (xs us vs ws : List E) (e f : E) → canonical m xs ≡ true → ahead m e f ≡ true → Lists m (by plus (cover m xs) (covers m e)) us → Lists m (by plus (cover m xs) (covers m f)) vs → Lists m (by plus (by plus (cover m xs) (covers m e)) (covers m f)) ws → length ws + length xs ≡ length us + length vs
  sum_apart xs us vs ws e f h k p q s =
      let a = sum m r xs e (pairs_from m r xs h) in
      let b = sum m r xs f (pairs_from m r xs h) in
      let c = sum m r a.list f a.pairs in
      let au = ap length (one_list m r _ us a.list p (sum_lists m r xs e a)) in
      let bv = ap length (one_list m r _ vs b.list q (sum_lists m r xs f b)) in
      let cw = ap length (one_list m r _ ws c.list s (lists_at m r plus c.list (sum_lists m r a.list f c) (λ x. ap (λ t. t || covers m f x) (a.covering x)))) in
      let other = a.other f k in
      let bn = b.count in
      let cn = c.count in
      omega arith

  pub sum_steps : Stepwise m r plus
  sum_steps = record {
    none = or_none;
    both = λ s t u. sym (or_assoc s t u);
    one = λ xs e h. let s = sum m r xs e (pairs_from m r xs h) in (s.list, sum_lists m r xs e s);
    apart = sum_apart;
  }

  less_apart : (xs us vs ws : List E) (e f : E) → canonical m xs ≡ true → ahead m e f ≡ true → Lists m (by minus (cover m xs) (covers m e)) us → Lists m (by minus (cover m xs) (covers m f)) vs → Lists m (by minus (by minus (cover m xs) (covers m e)) (covers m f)) ws → length ws + length xs ≡ length us + length vs
  less_apart xs us vs ws e f h k p q s =
      let a = less m r xs e (pairs_from m r xs h) in
      let b = less m r xs f (pairs_from m r xs h) in
      let c = less m r a.list f a.pairs in
      let au = ap length (one_list m r _ us a.list p (less_lists m r xs e a)) in
      let bv = ap length (one_list m r _ vs b.list q (less_lists m r xs f b)) in
      let cw = ap length (one_list m r _ ws c.list s (lists_at m r minus c.list (less_lists m r a.list f c) (λ x. ap (λ t. t && not (covers m f x)) (a.covering x)))) in
      let other = a.other f k in
      let bn = b.count in
      let cn = c.count in
      omega arith

  pub less_steps : Stepwise m r minus
  less_steps = record {
    none = and_true;
    both = minus_both;
    one = λ xs e h. let s = less m r xs e (pairs_from m r xs h) in (s.list, less_lists m r xs e s);
    apart = less_apart;
  }

  keep_apart : (xs us vs ws : List E) (e f : E) → canonical m xs ≡ true → ahead m e f ≡ true → Lists m (cover m xs) us → Lists m (cover m xs) vs → Lists m (cover m xs) ws → length ws + length xs ≡ length us + length vs
  keep_apart xs us vs ws e f h k p q s =
      let x = lists_self m r keep xs h in
      let a = ap length (one_list m r _ us xs p x) in
      let b = ap length (one_list m r _ vs xs q x) in
      let c = ap length (one_list m r _ ws xs s x) in
      omega arith

  keep_steps : Stepwise m r keep
  keep_steps = record {
    none = λ s. refl;
    both = λ s t u. refl;
    one = λ xs e h. (xs, lists_self m r keep xs h);
    apart = keep_apart;
  }

  module _ (op : Bool → Bool → Bool) (l : Lawful op) where
    -- where it takes an atom of both sets and an atom of the second alone, there is one operation
    only : (to : Bool → Bool → Bool) → ((s : Bool) → to s false ≡ s) → op true true ≡ to true true → op false true ≡ to false true → op ≡ to
    only to none p q = λ i s t. same s t i where
      same : (s t : Bool) → op s t ≡ to s t
      same s false = l.none s ∙ sym (none s)
      same true true = p
      same false true = q

    steps_at : (p q : Bool) → op true true ≡ p → op false true ≡ q → Stepwise m r op
    steps_at true true p q = subst (Stepwise m r) (sym (only plus or_none p q)) sum_steps
    steps_at true false p q = subst (Stepwise m r) (sym (only keep (λ s. refl) p q)) keep_steps
    steps_at false true p q = absurd (false≢true (sym p ∙ l.both true true true ∙ ap (λ s. op s true) p ∙ q))
    steps_at false false p q = subst (Stepwise m r) (sym (only minus and_true p q)) less_steps

    -- of every change, what is used of sum and difference
    pub steps : Stepwise m r op
    steps = steps_at (op true true) (op false true) refl refl
