-- Left elements that go onto the drawn ones when they are placed.
use Rattle.std.proofs.Common.{◌≡◌, ℕ, zero, suc, ◌<◌, Bool, true, false, List, [], ◌∷◌, length, Some, None, Option, Decides, MatchOption, sym, refl, ⊎_elim, arith}
use Rattle.std.specs.Bool.{MatchBool}
use Rattle.std.specs.List.{AllByRecursion, AllWithin, HoldsAt}
use Rattle.std.proofs.lemmas.Bool.{false≢true, both_ways, or_cases, or_left, or_right}
use Rattle.std.proofs.lemmas.List.Elements.{All-from_all_within, recursion_from_All}
use Rattle.lattice.specs.declared.placement.Placement.{Placement}
use Rattle.kinds.specs.Model.{KindModel, covers}
use Rattle.kinds.specs.Rules.{Rules}
use Rattle.sheets.specs.Cover.{cover, canonical}
use Rattle.sheets.specs.Maximal.{Part}
use Rattle.search.specs.Scenes.{OneOnto, Onto}
use Rattle.search.proofs.Searched.{put_inside, inside_put, no_put}

module _ {E A C : Type 0} (m : KindModel E A C) (r : Rules m) (drawn : List E) (p : Placement) where
  -- one element, whose image may be missing
  pub one_told : (x : E) (o : Option E) (t : Bool) → o ≡ m.place p x → MatchOption o (t ≡ false) (λ f. canonical m drawn ≡ true → Decides t (Part (covers m f) (cover m drawn))) → canonical m drawn ≡ true → Decides t (OneOnto m x drawn p)
  one_told x None t e w s = (λ h. absurd (both_ways t w h), λ h. absurd (no_put m r p x drawn (sym e) h))
  one_told x (Some f) t e w s = (λ h. put_inside m r p x f (cover m drawn) (sym e) ((w s).0 h), λ h. (w s).1 (inside_put m r p x f (cover m drawn) (sym e) h))

  abbrev pub On : E → Type 0
  On x = OneOnto m x drawn p

  all_on : (xs : List E) → AllByRecursion On xs → Onto m xs drawn p
  all_on [] h a c = absurd (false≢true c)
  all_on (x ∷ xs) h a c = ⊎_elim (h.0 a) (all_on xs h.1 a) (or_cases (covers m x a) (cover m xs a) c)

  one_off : (xs : List E) (k : ℕ) → k < length xs → HoldsAt (λ x. On x → ⊥) xs k → Onto m xs drawn p → ⊥
  one_off [] k l h o = absurd (omega arith)
  one_off (x ∷ xs) zero l h o = h x (λ a c. o a (or_left (covers m x a) (cover m xs a) c))
  one_off (x ∷ xs) (suc k) l h o = one_off xs k (omega arith) h (λ a c. o a (or_right (covers m x a) (cover m xs a) c))

  -- an answer that is true where all go onto the drawn ones, and false where one does not
  pub onto_told : (xs : List E) (t : Bool) → MatchBool t (AllWithin On xs 0 (length xs)) ((k : ℕ) × (k < length xs) × HoldsAt (λ x. On x → ⊥) xs k) → Decides t (Onto m xs drawn p)
  onto_told xs true h = (λ _. all_on xs (recursion_from_All On xs (All-from_all_within On xs h)), λ _. refl)
  onto_told xs false h = (λ f. absurd (false≢true f), λ o. absurd (one_off xs h.0 h.1 h.2 o))
