-- What a search and a loop over indices need of the list of places.
use Rattle.std.proofs.Common.{◌≡◌, ℕ, zero, suc, ◌<◌, ◌≤◌, ◌⊎◌, List, [], ◌∷◌, length, get_or, ℤ, negsuc, Some, None, Option, sym, refl, ap, ◌∙◌, inl, inr, le_of_suc-le-suc, arith}
use Rattle.std.proofs.lemmas.Int.{ints}
use Rattle.std.proofs.lemmas.Bool.{cases_order}
use Rattle.lattice.specs.declared.placement.Placement.{Placement}
use Rattle.lattice.specs.Order.{Triple, triple, Before, Earlier}
use Rattle.kinds.specs.Model.{KindModel}
use Rattle.grammar.specs.Numbers.{nth}
use Rattle.grammar.specs.Places.{Numbered, Least, First}
use Rattle.grammar.specs.Sets.{Sets}
use Rattle.grammar.proofs.Numbers.{one_number}
use Rattle.grammar.proofs.Placements.{before_asym}

-- the least place after t is the first of the list after t
pub least_first : {EM AM CM EC Ac CC : Type 0} (M : KindModel EM AM CM) (C : KindModel EC Ac CC) (L S : Sets AM Ac) (ps : List Placement) → Numbered M C L S ps → (t : Triple) (o : Option Placement) → Least M C L S t o → First ps t o
least_first M C L S ps n t None h = λ k p e b. h p (n.only k p e) b
least_first M C L S ps n t (Some p) h =
    let x = n.each p h.0 in
    (x.0, x.1, h.1, λ j q e b. go x.0 x.1 j q e (h.2 q (n.only j q e) b) (cases_order x.0 j))
  where
    go : (k : ℕ) → nth ps k ≡ Some p → (j : ℕ) (q : Placement) → nth ps j ≡ Some q → (p ≡ q) ⊎ Earlier p q → (k ≡ j) ⊎ ((k < j) ⊎ (j < k)) → k ≤ j
    go k f j q e w (inl l) = omega arith
    go k f j q e w (inr (inl l)) = omega arith
    go k f j q e (inl w) (inr (inr l)) = let i = one_number ps n.rise j k p (e ∙ ap Some (sym w)) f in omega arith
    go k f j q e (inr w) (inr (inr l)) = absurd (before_asym (triple p) (triple q) w (n.rise j k q p e f l))

-- turn -1 stands before every placement
pub before_all : (p : Placement) (u v : ℤ) → Before (record { turn = negsuc 0; across = u; up = v }) (triple p)
before_all p u v = inl (omega (arith, ints))

-- numbers from 1 and indices from 0
pub nth_index : {A : Type 0} (xs : List A) (i : ℕ) (x : A) → i < length xs → nth xs (suc i) ≡ Some (get_or xs i x)
nth_index [] i x h = absurd (omega arith)
nth_index (y ∷ ys) zero x h = refl
nth_index (y ∷ ys) (suc i) x h = nth_index ys i x (le_of_suc-le-suc h)

pub nth_past : {A : Type 0} (xs : List A) (i : ℕ) → length xs ≤ i → nth xs (suc i) ≡ None
nth_past [] i h = refl
nth_past (y ∷ ys) zero h = absurd (omega arith)
nth_past (y ∷ ys) (suc i) h = nth_past ys i (le_of_suc-le-suc h)
