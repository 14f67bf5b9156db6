-- Inked points and inked segments, with their atoms one by one and the only shifts between atoms.
-- from a turned number with a shift to the shift
use Rattle.std.proofs.Common.{◌≡◌, ℕ, zero, suc, Bool, true, false, cond, List, [], ◌∷◌, map, ℤ, ◌+ℤ◌, ◌-ℤ◌, nat_abs, sym, refl, ap, ◌∙◌, arith}
use Rattle.std.proofs.lemmas.Int.{ints}
use Rattle.std.proofs.lemmas.Bool.{true≢false, false≢true}
use Rattle.elements.specs.declared.point.LatticePoint.{LatticePoint}
use Rattle.segments.specs.declared.segment.Edge.{Edge}
use Rattle.lattice.specs.Turns.{across, upward}
use Rattle.kinds.specs.Model.{KindModel}
use Rattle.kinds.specs.Rules.{Rules}
use Rattle.elements.specs.Inks.{inked, ink_model}
use Rattle.elements.specs.Points.{point_model}
use Rattle.elements.specs.InkRules.{ink_rules}
use Rattle.elements.specs.PointRules.{point_rules}
use Rattle.segments.specs.Directions.{forward}
use Rattle.segments.specs.Edges.{edge, between}
use Rattle.segments.specs.Segments.{segment_model}
use Rattle.cases.proofs.Placing.{Computed}

pub back : (x u b : ℤ) → x +ℤ u ≡ b → b -ℤ x ≡ u
back x u b h = omega (arith, ints, h)

unfoldable pub computed_point : Computed point_model
computed_point = record {
  rules = point_rules;
  pieces = λ e. record { x = e.x; y = e.y } ∷ [];
  shifts = λ s a b. (b.x -ℤ across s a.x a.y, b.y -ℤ upward s a.x a.y);
  only = λ s u v a b h. (back (across s a.x a.y) u b.x (ap (λ (c : LatticePoint). c.x) h), back (upward s a.x a.y) v b.y (ap (λ (c : LatticePoint). c.y) h));
}

-- n unit edges, one after the other
abbrev pub run : ℤ → ℤ → ℤ → ℤ → ℕ → List Edge
run x y dx dy zero = []
run x y dx dy (suc n) = edge x y dx dy ∷ run (x +ℤ dx) (y +ℤ dy) dx dy n

-- an edge between shifted ends is shifted
pub between_moved : (x y p q u v : ℤ) → ((between (x +ℤ u) (y +ℤ v) (p +ℤ u) (q +ℤ v)).x ≡ (between x y p q).x +ℤ u) × ((between (x +ℤ u) (y +ℤ v) (p +ℤ u) (q +ℤ v)).y ≡ (between x y p q).y +ℤ v)
between_moved x y p q u v =
    let a : (p +ℤ u) -ℤ (x +ℤ u) ≡ p -ℤ x = omega (arith, ints) in
    let b : (q +ℤ v) -ℤ (y +ℤ v) ≡ q -ℤ y = omega (arith, ints) in
    let e : forward ((p +ℤ u) -ℤ (x +ℤ u)) ((q +ℤ v) -ℤ (y +ℤ v)) ≡ forward (p -ℤ x) (q -ℤ y) = λ i. forward (a i) (b i) in
    go (forward ((p +ℤ u) -ℤ (x +ℤ u)) ((q +ℤ v) -ℤ (y +ℤ v))) (forward (p -ℤ x) (q -ℤ y)) e
  where
    go : (f g : Bool) → f ≡ g → ((cond f (edge (x +ℤ u) (y +ℤ v) ((p +ℤ u) -ℤ (x +ℤ u)) ((q +ℤ v) -ℤ (y +ℤ v))) (edge (p +ℤ u) (q +ℤ v) ((x +ℤ u) -ℤ (p +ℤ u)) ((y +ℤ v) -ℤ (q +ℤ v)))).x ≡ (cond g (edge x y (p -ℤ x) (q -ℤ y)) (edge p q (x -ℤ p) (y -ℤ q))).x +ℤ u) × ((cond f (edge (x +ℤ u) (y +ℤ v) ((p +ℤ u) -ℤ (x +ℤ u)) ((q +ℤ v) -ℤ (y +ℤ v))) (edge (p +ℤ u) (q +ℤ v) ((x +ℤ u) -ℤ (p +ℤ u)) ((y +ℤ v) -ℤ (q +ℤ v)))).y ≡ (cond g (edge x y (p -ℤ x) (q -ℤ y)) (edge p q (x -ℤ p) (y -ℤ q))).y +ℤ v)
    go true true e = (refl, refl)
    go true false e = absurd (true≢false e)
    go false true e = absurd (false≢true e)
    go false false e = (refl, refl)

abbrev pub turned : ℕ → Edge → Edge
turned s a = between (across s a.x a.y) (upward s a.x a.y) (across s (a.x +ℤ a.dx) (a.y +ℤ a.dy)) (upward s (a.x +ℤ a.dx) (a.y +ℤ a.dy))

unfoldable pub computed_segment : Rules segment_model → Computed segment_model
computed_segment r = record {
  rules = r;
  pieces = λ e. run e.x e.y e.dx e.dy (nat_abs e.edges);
  shifts = λ s a b. (b.x -ℤ (turned s a).x, b.y -ℤ (turned s a).y);
  only = λ s u v a b h.
      let w = between_moved (across s a.x a.y) (upward s a.x a.y) (across s (a.x +ℤ a.dx) (a.y +ℤ a.dy)) (upward s (a.x +ℤ a.dx) (a.y +ℤ a.dy)) u v in
      (back (turned s a).x u b.x (sym w.0 ∙ ap (λ (c : Edge). c.x) h), back (turned s a).y v b.y (sym w.1 ∙ ap (λ (c : Edge). c.y) h));
}

unfoldable pub computed_ink : {E A C : Type 0} (m : KindModel E A C) → Computed m → Computed (ink_model m)
computed_ink m k = record {
  rules = ink_rules m k.rules;
  pieces = λ e. map (inked e.ink) (k.pieces e.under);
  shifts = λ s a b. k.shifts s a.under b.under;
  only = λ s u v a b h. k.only s u v a.under b.under (ap (λ c. c.under) h);
}
