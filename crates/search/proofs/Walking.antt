-- A walk from place to place gives the places of the list, one after the other.
use Rattle.std.proofs.Common.{◌≡◌, ℕ, ◌+◌, List, [], ◌∷◌, length, Some, None, Option, sym, ap, ◌∙◌, subst, arith, MatchOption}
use Rattle.std.specs.Iterator.{Yields, Drains, SkipsThenYields}
use Rattle.lattice.specs.declared.placement.Placement.{Placement}
use Rattle.kinds.specs.Model.{KindModel}
use Rattle.grammar.specs.Numbers.{nth}
use Rattle.grammar.specs.Places.{Least}
use Rattle.search.specs.Scenes.{sought, drawn, Canonical, Listed}
use Rattle.search.specs.Walks.{reached, Gives}
use Rattle.search.specs.declared.places.Places.{Places}
use Rattle.search.specs.declared.scene.Scene.{Scene}
use Rattle.search.proofs.Counting.{Passed, passed_none, one_more, no_more, number_past}
use Rattle.search.proofs.Ranks.{Boxed, boxed_of, boxed_first}

pub boxed_reached : (o : Option Placement) → Boxed (reached o)
boxed_reached None = boxed_first
boxed_reached (Some p) = boxed_of p

module _ {EM AM CM EC Ac CC : Type 0} (M : KindModel EM AM CM) (C : KindModel EC Ac CC) (v : Scene EM EC) (ps : List Placement) (h : Listed M C v ps) where
  -- n places were given
  pub record Given (s : Places EM EC) (n : ℕ) : Type 0 where
    pub scene : s.scene.now ≡ v
    pub passed : Passed ps (reached s.last) n

  pub given_none : (s : Places EM EC) → s.scene.now ≡ v → s.last ≡ None → Given s 0
  given_none s e l = record { scene = e; passed = subst (λ (o : Option Placement). Passed ps (reached o) 0) (sym l) (passed_none ps _ _) }

  -- what one step more gives
  pub step : (s t : Places EM EC) (r : Option Placement) (n : ℕ) → Given s n → Gives M C s r t → MatchOption r (n ≡ length ps) (λ p. (nth ps (n + 1) ≡ Some p) × Given t (n + 1))
  step s t None n d g = no_more M C (sought M C v) (drawn M C v) ps h.numbered (reached s.last) n d.passed (subst (λ (z : Scene EM EC). Canonical M C z → Least M C (sought M C z) (drawn M C z) (reached s.last) None) d.scene g.least h.sorted)
  step s t (Some p) n d g =
      let m = one_more M C (sought M C v) (drawn M C v) ps h.numbered (reached s.last) n d.passed p (subst (λ (z : Scene EM EC). Canonical M C z → Least M C (sought M C z) (drawn M C z) (reached s.last) (Some p)) d.scene g.least h.sorted) in
      (m.0, record { scene = g.scene ∙ d.scene; passed = subst (λ (o : Option Placement). Passed ps (reached o) (n + 1)) (sym g.last) m.1 })

  walked : (xs : List Placement) (s t : Places EM EC) (n m : ℕ) → m ≡ n + length xs → Given s n → Yields (Gives M C) s xs t → Given t m
  walked [] s t n m e d y = let q : n ≡ m = omega (arith, e) in subst (λ (k : ℕ). Given t k) q (subst (λ (z : Places EM EC). Given z n) y d)
  walked (x ∷ xs) s t n m e d y = walked xs y.0 t (n + 1) m (omega (arith, e)) (step s y.0 (Some x) n d y.1).1 y.2

  pub drained : (xs : List Placement) (s : Places EM EC) → Given s 0 → Drains (Gives M C) s xs → length xs ≡ length ps
  drained xs s d k = step k.1.0 k.0 None (length xs) (walked xs s k.1.0 0 (length xs) (omega arith) d k.1.1) k.1.2

  pub skipped : (s u : Places EM EC) (n : ℕ) (r : Option Placement) → Given s 0 → SkipsThenYields (Gives M C) s n r u → r ≡ nth ps (n + 1)
  skipped s u n None d k =
      let e = step k.1.0 u None (length k.0) (walked k.0 s k.1.0 0 (length k.0) (omega arith) d k.1.1) k.1.2 in
      let l = k.2 in
      sym (number_past ps (n + 1) (omega arith))
  skipped s u n (Some p) d k =
      let e = step k.1.0 u (Some p) (length k.0) (walked k.0 s k.1.0 0 (length k.0) (omega arith) d k.1.1) k.1.2 in
      sym (ap (λ (i : ℕ). nth ps (i + 1)) (sym k.2) ∙ e.0)
