-- The edge from (-3, -1) to (-1, 0): its numbers, its line and its position.
use Rattle.std.proofs.Common.{◌≡◌, ℕ, ℤ, pos, negsuc, ◌+ℤ◌, ◌-ℤ◌, ◌*ℤ◌, ap, ◌∙◌, arith}
use Rattle.std.proofs.lemmas.Int.{ints}
use Rattle.numbers.specs.Gcd.{gcd}
use Rattle.elements.specs.Inks.{inked}
use Rattle.elements.specs.declared.ink.Ink.{Ink}
use Rattle.segments.specs.Edges.{edge, line, edge_position}
use Rattle.segments.specs.Segments.{first, Spans}
use Rattle.segments.specs.declared.segment.Segment.{Segment}
use Rattle.element_trials.specs.Worked.{twice_inked}

one_edge : (e : Segment) → Spans (negsuc 2) (negsuc 0) (negsuc 0) (pos 0) e → e.edges ≡ pos 1
unfolding gcd
one_edge e s = s.edges

way : (x n d p q : ℤ) → x ≡ p → n ≡ pos 1 → x +ℤ n *ℤ d ≡ q → d ≡ q -ℤ p
way x n d p q h k e = step (ap (λ (z : ℤ). z *ℤ d) k) where
  step : n *ℤ d ≡ pos 1 *ℤ d → d ≡ q -ℤ p
  step f = omega (arith, ints)

pub first_is : (e : Segment) → Spans (negsuc 2) (negsuc 0) (negsuc 0) (pos 0) e → first e ≡ edge (negsuc 2) (negsuc 0) (pos 2) (pos 1)
first_is e s =
    let n = one_edge e s in
    let x = s.left in
    let y = s.low in
    let p = way e.x e.edges e.dx (negsuc 2) (negsuc 0) x n s.right in
    let q = way e.y e.edges e.dy (negsuc 0) (pos 0) y n s.high in
    λ i. edge (x i) (y i) (p i) (q i)

same : (n k : ℕ) → pos n ≡ pos k → n ≡ k
same n k h = omega (arith, ints)

-- inked twice
pub worked : (inner outer : ℕ) (t : Ink (Ink Segment)) (o : Ink Segment) (e : Segment) → pos t.ink ≡ pos outer → t.under ≡ o → pos o.ink ≡ pos inner → o.under ≡ e → Spans (negsuc 2) (negsuc 0) (negsuc 0) (pos 0) e → (twice_inked.carrier t ≡ inked outer (inked inner (pos 2, pos 1, pos 1))) × (twice_inked.start t ≡ negsuc 1) × (twice_inked.end t ≡ negsuc 0)
worked inner outer t o e a b c d s =
    let f : first t.under.under ≡ edge (negsuc 2) (negsuc 0) (pos 2) (pos 1) = ap (λ (k : Ink Segment). first k.under) b ∙ ap first d ∙ first_is e s in
    let n : t.under.under.edges ≡ pos 1 = ap (λ (k : Ink Segment). k.under.edges) b ∙ ap (λ (k : Segment). k.edges) d ∙ one_edge e s in
    let u = same t.ink outer a in
    let v = ap (λ (k : Ink Segment). k.ink) b ∙ same o.ink inner c in
    let l = ap line f in
    (λ i. inked (u i) (inked (v i) (l i)), ap edge_position f, λ i. edge_position (f i) +ℤ n i)
