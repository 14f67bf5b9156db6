-- The laws of sums and differences.
use Rattle.std.proofs.Common.{◌≡◌, Bool, true, false, not, ◌&&◌, ◌||◌, refl, ap, ◌∙◌}
use Rattle.std.proofs.lemmas.Bool.{or_left}
use Rattle.kinds.specs.Model.{KindModel}
use Rattle.kinds.specs.Rules.{Rules}
use Rattle.kinds.proofs.Having.{same_tests}
use Rattle.sheets.specs.Cover.{cover}
use Rattle.sheets.proofs.Joined.{or_swap, or_assoc}
use Rattle.sheets.proofs.Unique.{one_list}
use Rattle.sheet_sums.specs.Laws.{SumsExist, DifferencesExist, SumCommutes, SumAssociates, SumWithItself, DifferenceThenSum, PartOfSum, PartBothWays}
use Rattle.sheets.specs.Change.{plus, minus}
use Rattle.sheet_sums.proofs.Steps.{all, lists_at, lists_self, or_self}
use Rattle.sheet_sums.proofs.Operations.{sum_steps, less_steps}

back : (s t : Bool) → ((s && not t) || t) ≡ (s || t)
back true true = refl
back true false = refl
back false t = refl

module _ {E A C : Type 0} (m : KindModel E A C) (r : Rules m) where
  pub sums_exist : SumsExist m
  sums_exist xs ys h k = all m r plus (sum_steps m r) ys xs h

  pub differences_exist : DifferencesExist m
  differences_exist xs ys h k = all m r minus (less_steps m r) ys xs h

  pub sum_commutes : SumCommutes m
  sum_commutes xs ys us vs h k = one_list m r _ us vs h (lists_at m r plus vs k (λ a. or_swap (cover m ys a) (cover m xs a)))

  pub sum_associates : SumAssociates m
  sum_associates xs ys zs us vs ws ts h k l n = one_list m r _ vs ts
      (lists_at m r plus vs k (λ a. ap (λ s. s || cover m zs a) (h.covering a) ∙ or_assoc (cover m xs a) (cover m ys a) (cover m zs a)))
      (lists_at m r plus ts n (λ a. ap (λ s. cover m xs a || s) (l.covering a)))

  pub sum_with_itself : SumWithItself m
  sum_with_itself xs us h k = one_list m r _ us xs (lists_at m r plus us k (λ a. or_self (cover m xs a))) (lists_self m r plus xs h)

  pub difference_then_sum : DifferenceThenSum m
  difference_then_sum xs ys us vs ws h k l = one_list m r _ vs ws (lists_at m r plus vs k (λ a. ap (λ s. s || cover m ys a) (h.covering a) ∙ back (cover m xs a) (cover m ys a))) l

  pub part_of_sum : PartOfSum m
  part_of_sum xs ys us h a k = h.covering a ∙ or_left _ _ k

  pub part_both_ways : PartBothWays m
  part_both_ways xs ys h k p q = one_list m r (cover m ys) xs ys (record { ordered = h; covering = λ a. same_tests _ _ (p a) (q a) }) (lists_self m r plus ys k)
