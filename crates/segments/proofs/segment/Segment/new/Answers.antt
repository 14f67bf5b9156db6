use Rattle.std.proofs.Common.{◌≡◌, Bool, true, false, ◌&&◌, ℤ, pos, ◌-ℤ◌, nat_abs, MatchBool, sym, refl, ◌∙◌, subst, inr, w32, SFits, rules}
use Rattle.std.specs.Ordering.{int_eq}
use Rattle.std.proofs.lemmas.Bool.{true≢false, and_parts, and_from}
use Rattle.std.proofs.lemmas.Bool.Decides.{Decides-int_eq}
use Rattle.std.proofs.lemmas.Int.{to_z-of_z}
use Rattle.elements.specs.declared.point.Point.{Point}
use Rattle.numbers.specs.Gcd.{gcd}
use Rattle.lattice.specs.Field.{ranged}
use Rattle.segments.specs.Directions.{forward}
use Rattle.segments.specs.Segments.{Spans}
use Rattle.segments.specs.declared.segment.Segment.{Segment}
use Rattle.segments.proofs.Spanning.{way_back}
use Rattle.segments.proofs.segment.Segment.new.Goals as goal

-- the point has these coordinates, which lie in the field
abbrev Made : Point → ℤ → ℤ → Type 0
Made e x y = ((ranged x && ranged y) ≡ true) × (e.x ≡ x) × (e.y ≡ y)

apart : (d e : Point) (r : Bool) → r ≡ (int_eq d.x e.x && int_eq d.y e.y) → r ≡ false → d.x ≡ e.x → d.y ≡ e.y → ⊥
apart d e r q h x y = true≢false (sym (q ∙ and_from _ _ ((Decides-int_eq d.x e.x).1 x) ((Decides-int_eq d.y e.y).1 y)) ∙ h)

spans : (d e : Point) (x y p q : ℤ) (s : Segment) → Made d x y → Made e p q → Spans d.x d.y e.x e.y s → Spans x y p q s
spans d e x y p q s a b h = record {
  left = h.left ∙ a.1;
  low = h.low ∙ a.2;
  right = h.right ∙ b.1;
  high = h.high ∙ b.2;
  edges = h.edges ∙ (λ i. pos (gcd (nat_abs (b.1 i -ℤ a.1 i)) (nat_abs (b.2 i -ℤ a.2 i))));
}

pub returns-then-eq : goal.returns-then-eq
returns-then-eq c =
    let fx : SFits w32 c.args.x1 = search rules in
    let fy : SFits w32 c.args.y1 = search rules in
    let fp : SFits w32 c.args.x2 = search rules in
    let fq : SFits w32 c.args.y2 = search rules in
    let a = simp to_z-of_z at c.in_ok-one.ensures in
    let b = simp to_z-of_z at c.in_ok-other.ensures in
    let e = and_parts (int_eq c.in_ok-one.one.x c.in_ok-other.other.x) (int_eq c.in_ok-one.one.y c.in_ok-other.other.y) (sym c.eq.ensures ∙ c.if-eq.true) in
    inr (refl, and_from _ _ a.0 b.0, sym a.1 ∙ (Decides-int_eq _ _).0 e.0 ∙ b.1, sym a.2 ∙ (Decides-int_eq _ _).0 e.1 ∙ b.2)

pub spanned-requires-else-goes_forward : goal.spanned-requires-else-goes_forward
spanned-requires-else-goes_forward c =
    let d = c.in_ok-one.one in
    let e = c.in_ok-other.other in
    way_back d.x d.y e.x e.y (sym c.goes_forward.ensures ∙ c.if-goes_forward.false) (apart d e c.eq.result c.eq.ensures c.if-eq.false)

pub returns-then-goes_forward : goal.returns-then-goes_forward
returns-then-goes_forward c =
    let fx : SFits w32 c.args.x1 = search rules in
    let fy : SFits w32 c.args.y1 = search rules in
    let fp : SFits w32 c.args.x2 = search rules in
    let fq : SFits w32 c.args.y2 = search rules in
    let d = c.in_ok-one.one in
    let e = c.in_ok-other.other in
    let a = simp to_z-of_z at c.in_ok-one.ensures in
    let b = simp to_z-of_z at c.in_ok-other.ensures in
    let f : forward (c.args.x2 -ℤ c.args.x1) (c.args.y2 -ℤ c.args.y1) ≡ true = (λ i. forward (sym b.1 i -ℤ sym a.1 i) (sym b.2 i -ℤ sym a.2 i)) ∙ sym c.goes_forward.ensures ∙ c.if-goes_forward.true in
    let s = spans d e c.args.x1 c.args.y1 c.args.x2 c.args.y2 c.spanned.result a b c.spanned.ensures in (
      and_from _ _ a.0 b.0,
      λ x y. apart d e c.eq.result c.eq.ensures c.if-eq.false (a.1 ∙ x ∙ sym b.1) (a.2 ∙ y ∙ sym b.2),
      subst (λ (r : Bool). MatchBool r (Spans c.args.x1 c.args.y1 c.args.x2 c.args.y2 c.spanned.result) (Spans c.args.x2 c.args.y2 c.args.x1 c.args.y1 c.spanned.result)) (sym f) s,
    )

pub returns-else-goes_forward : goal.returns-else-goes_forward
returns-else-goes_forward c =
    let fx : SFits w32 c.args.x1 = search rules in
    let fy : SFits w32 c.args.y1 = search rules in
    let fp : SFits w32 c.args.x2 = search rules in
    let fq : SFits w32 c.args.y2 = search rules in
    let d = c.in_ok-one.one in
    let e = c.in_ok-other.other in
    let a = simp to_z-of_z at c.in_ok-one.ensures in
    let b = simp to_z-of_z at c.in_ok-other.ensures in
    let r = c.spanned-else-goes_forward.result in
    let f : forward (c.args.x2 -ℤ c.args.x1) (c.args.y2 -ℤ c.args.y1) ≡ false = (λ i. forward (sym b.1 i -ℤ sym a.1 i) (sym b.2 i -ℤ sym a.2 i)) ∙ sym c.goes_forward.ensures ∙ c.if-goes_forward.false in
    let s = spans e d c.args.x2 c.args.y2 c.args.x1 c.args.y1 c.spanned-else-goes_forward.result b a c.spanned-else-goes_forward.ensures in (
      and_from _ _ a.0 b.0,
      λ x y. apart d e c.eq.result c.eq.ensures c.if-eq.false (a.1 ∙ x ∙ sym b.1) (a.2 ∙ y ∙ sym b.2),
      subst (λ (t : Bool). MatchBool t (Spans c.args.x1 c.args.y1 c.args.x2 c.args.y2 r) (Spans c.args.x2 c.args.y2 c.args.x1 c.args.y1 r)) (sym f) s,
    )
