-- The elements of a list, one by one, in a set.
use Rattle.std.proofs.Common.{◌≡◌, ℕ, ◌<◌, Bool, true, false, List, [], ◌∷◌, length, Decides, sym, refl, ap, ◌∙◌, ⊎_elim, arith}
use Rattle.std.specs.Bool.{MatchBool}
use Rattle.std.specs.List.{AllByRecursion, AllWithin, HoldsAt}
use Rattle.std.proofs.lemmas.Bool.{false≢true, or_cases}
use Rattle.std.proofs.lemmas.List.Elements.{All-from_all_within, recursion_from_All}
use Rattle.kinds.specs.Model.{KindModel, covers}
use Rattle.kinds.specs.Rules.{Rules}
use Rattle.sheets.specs.Cover.{cover}
use Rattle.sheets.specs.Maximal.{Part}
use Rattle.sheets.proofs.Unique.{belongs_cover}
use Rattle.sheets.proofs.Contained.{belongs_at}

module _ {E A C : Type 0} (m : KindModel E A C) (r : Rules m) (set : A → Bool) where
  abbrev pub Inside : E → Type 0
  Inside x = Part (covers m x) set

  all_inside : (xs : List E) → AllByRecursion Inside xs → Part (cover m xs) set
  all_inside [] h a c = absurd (false≢true c)
  all_inside (x ∷ xs) h a c = ⊎_elim (h.0 a) (all_inside xs h.1 a) (or_cases (covers m x a) (cover m xs a) c)

  one_outside : (xs : List E) (k : ℕ) → k < length xs → HoldsAt (λ x. Inside x → ⊥) xs k → Part (cover m xs) set → ⊥
  one_outside [] k l h p = absurd (omega arith)
  one_outside (x ∷ xs) k l h p = h x (λ a c. p a (belongs_cover m r (x ∷ xs) _ a (belongs_at (x ∷ xs) k _ x l refl) c))

  -- a list covers no more than a set exactly if each of its elements does
  pub part_decides_all : (xs ys : List E) (t : Bool) → xs ≡ ys → MatchBool t (AllWithin Inside xs 0 (length xs)) ((k : ℕ) × (k < length xs) × HoldsAt (λ x. Inside x → ⊥) xs k) → Decides t (Part (cover m ys) set)
  part_decides_all xs ys true q h = (λ _ a c. all_inside xs (recursion_from_All Inside xs (All-from_all_within Inside xs h)) a (ap (λ zs. cover m zs a) q ∙ c), λ _. refl)
  part_decides_all xs ys false q h = (λ f. absurd (false≢true f), λ p. absurd (one_outside xs h.0 h.1 h.2 (λ a c. p a (ap (λ zs. cover m zs a) (sym q) ∙ c))))
