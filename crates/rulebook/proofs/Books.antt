-- Rules of a rulebook, when one is added and when a side of the latest grows.
use Rattle.std.proofs.Common.{◌≡◌, ℕ, ◌+◌, ◌<◌, List, [], ◌∷◌, ◌++◌, map, length, get_or, take, set, sum_by, sym, refl, ap, ◌∙◌, subst, arith}
use mathlib.Core.List.{map-append}
use Rattle.std.proofs.lemmas.List.{take_more, take_more_set}
use Rattle.std.proofs.lemmas.List.Sums.{sum_by-cons}
use Rattle.lattice.specs.Refusals.{number}
use Rattle.lattice.specs.declared.refusal.Refusal.{Refusal}
use Rattle.kinds.specs.Model.{KindModel, covers}
use Rattle.sheets.specs.Cover.{union, cover}
use Rattle.sheets.specs.Maximal.{Counts}
use Rattle.grammar.specs.Rules.{Side, Rule}
use Rattle.rulebook.specs.Growing.{TableStayed, Overflows}
use Rattle.rulebook.specs.Rulebooks.{side_of, KeptSide}
use Rattle.rulebook.specs.Tables.{stretch_of}
use Rattle.rulebook.specs.declared.records.RuleRecord.{RuleRecord}
use Rattle.rulebook.specs.declared.records.SideRecord.{SideRecord}
use Rattle.rulebook.specs.declared.rulebook.SideTables.{SideTables}
use Rattle.rulebook.specs.declared.stroke.Stroke.{Stroke}
use Rattle.rulebook.specs.declared.stroke.Stroke.TheVariants.{Mark, Cut}
use Rattle.rulebook.proofs.Chaining.{used_before, last_is}
use Rattle.rulebook.proofs.Sides.{parted_marks, parted_cuts}

-- the lists of records before and after the latest was changed
pub kept_before : (xs : List RuleRecord) (n i : ℕ) (x d : RuleRecord) → n ≡ i + 1 → i < length xs → x ≡ get_or xs i d → take n xs ≡ take i xs ++ (x ∷ [])
kept_before xs n i x d e h r = ap (λ (k : ℕ). take k xs) e ∙ take_more xs i d h ∙ ap (λ (y : RuleRecord). take i xs ++ (y ∷ [])) (sym r)

pub kept_after : (xs : List RuleRecord) (n i : ℕ) (y : RuleRecord) → n ≡ i + 1 → i < length xs → take n (set xs i y) ≡ take i xs ++ (y ∷ [])
kept_after xs n i y e h = ap (λ (k : ℕ). take k (set xs i y)) e ∙ take_more_set xs i y h

-- `this` is the side that changes, `that` the other, and `build` makes a rule of the two
module _ {EM AM CM EC Ac CC : Type 0} (M : KindModel EM AM CM) (C : KindModel EC Ac CC) (this that : RuleRecord → SideRecord) (build : Side EM EC → Side EM EC → Rule EM EC) where
  abbrev pub rule_at : SideTables EM EC → SideTables EM EC → RuleRecord → Rule EM EC
  rule_at t w r = build (side_of t (this r)) (side_of w (that r))

  pub same_rules : (t u w : SideTables EM EC) (rs : List RuleRecord) → map (side_of u) (map this rs) ≡ map (side_of t) (map this rs) → map (rule_at u w) rs ≡ map (rule_at t w) rs
  same_rules t u w [] e = refl
  same_rules t u w (r ∷ rs) e =
      let h : side_of u (this r) ≡ side_of t (this r) = cc in
      let k : map (side_of u) (map this rs) ≡ map (side_of t) (map this rs) = cc in
      let j = same_rules t u w rs k in
      λ i. build (h i) (side_of w (that r)) ∷ j i

  pub parted_side : (rs : List RuleRecord) (x : RuleRecord) (t : SideTables EM EC) → KeptSide M C (map this (rs ++ (x ∷ []))) t → KeptSide M C (map this rs ++ (this x ∷ [])) t
  parted_side rs x t k = subst (λ (ss : List SideRecord). KeptSide M C ss t) (map-append this rs (x ∷ [])) k

  pub side_again : (rs : List RuleRecord) (y : RuleRecord) (s : SideRecord) (u : SideTables EM EC) → this y ≡ s → KeptSide M C (map this rs ++ (s ∷ [])) u → KeptSide M C (map this (rs ++ (y ∷ []))) u
  side_again rs y s u e k =
      subst (λ (ss : List SideRecord). KeptSide M C ss u) (ap (λ (r : SideRecord). map this rs ++ (r ∷ [])) (sym e) ∙ sym (map-append this rs (y ∷ []))) k

  -- how many elements the earlier rules have on that side
  module _ (t w : SideTables EM EC) (read : Rule EM EC → Side EM EC) (reads : (a b : Side EM EC) → read (build a b) ≡ a) where
    sum_marks : (rs : List RuleRecord) → sum_by (λ r. length (read r).marks) (map (rule_at t w) rs) ≡ sum_by (λ s. length (stretch_of t.marks.slots.now s)) (map (λ (s : SideRecord). s.marks) (map this rs))
    sum_marks [] = refl
    sum_marks (r ∷ rs) =
        let e = ap (λ (s : Side EM EC). length s.marks) (reads (side_of t (this r)) (side_of w (that r))) in
        let k = sum_marks rs in
        sum_by-cons (λ q. length (read q).marks) (rule_at t w r) (map (rule_at t w) rs) ∙ omega (arith, e, k) ∙
        sym (sum_by-cons (λ s. length (stretch_of t.marks.slots.now s)) (this r).marks (map (λ (s : SideRecord). s.marks) (map this rs)))

    sum_cuts : (rs : List RuleRecord) → sum_by (λ r. length (read r).cuts) (map (rule_at t w) rs) ≡ sum_by (λ s. length (stretch_of t.cuts.slots.now s)) (map (λ (s : SideRecord). s.cuts) (map this rs))
    sum_cuts [] = refl
    sum_cuts (r ∷ rs) =
        let e = ap (λ (s : Side EM EC). length s.cuts) (reads (side_of t (this r)) (side_of w (that r))) in
        let k = sum_cuts rs in
        sum_by-cons (λ q. length (read q).cuts) (rule_at t w r) (map (rule_at t w) rs) ∙ omega (arith, e, k) ∙
        sym (sum_by-cons (λ s. length (stretch_of t.cuts.slots.now s)) (this r).cuts (map (λ (s : SideRecord). s.cuts) (map this rs)))

    -- a table that stayed has no room for the sum
    pub overflows : (stroke : Stroke EM EC) (why : Refusal) (rs : List RuleRecord) (x : RuleRecord) (u : SideTables EM EC) → KeptSide M C (map this (rs ++ (x ∷ []))) t → TableStayed M C stroke why t u → (number why ≡ 19) × Overflows M C read t stroke (map (rule_at t w) rs) (rule_at t w x)
    overflows (Mark e) why rs x u k s =
        let p = parted_marks M C (map this rs) (this x) t (parted_side rs x t k) in
        let full = s.full p.tidy in
        let from = used_before M 0 (map (λ (s : SideRecord). s.marks) (map this rs)) (this x).marks t.marks p.tidy p.chained in
        let sum = sum_marks rs in
        let same = ap (λ (z : Side EM EC). z.marks) (reads (side_of t (this x)) (side_of w (that x))) ∙ last_is M _ _ _ p in
        (s.number, (full.0, subst (λ (z : List EM). Counts M (union (cover M z) (covers M e)) full.0) (sym same) full.1, omega (arith, full.2, from, sum)))
    overflows (Cut e) why rs x u k s =
        let q = parted_cuts M C (map this rs) (this x) t (parted_side rs x t k) in
        let full = s.full q.tidy in
        let from = used_before C 0 (map (λ (s : SideRecord). s.cuts) (map this rs)) (this x).cuts t.cuts q.tidy q.chained in
        let sum = sum_cuts rs in
        let same = ap (λ (z : Side EM EC). z.cuts) (reads (side_of t (this x)) (side_of w (that x))) ∙ last_is C _ _ _ q in
        (s.number, (full.0, subst (λ (z : List EC). Counts C (union (cover C z) (covers C e)) full.0) (sym same) full.1, omega (arith, full.2, from, sum)))
