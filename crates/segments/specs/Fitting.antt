-- The segment of five numbers, if they are those of one.
use Rattle.std.specs.Prelude.{◌≡◌, ℕ, true, ◌&&◌, ℤ, pos, ◌+ℤ◌, ◌*ℤ◌, Some, None, int_lt, refl}
use Rattle.std.proofs.Common.{sym, ap, ◌∙◌, ⊎_elim, arith}
use mathlib.Core.HLevel.{is_prop→PathP}
use Rattle.std.proofs.lemmas.Bool.{and_parts, and_from, cases_Bool, both_ways}
use Rattle.lattice.specs.Field.{ranged}
use Rattle.lattice.proofs.Same.{bools}
use Rattle.lattice.proofs.Valid.{tested_true, tested_none}
use Rattle.segments.specs.Directions.{direction}
use Rattle.segments.specs.Segments.{segment}
use Rattle.segments.specs.declared.segment.Segment.{Segment}

pub same_segment : (d e : Segment) → d.x ≡ e.x → d.y ≡ e.y → d.dx ≡ e.dx → d.dy ≡ e.dy → d.edges ≡ e.edges → d ≡ e
same_segment d e px py pdx pdy pn = λ i. record {
  x = px i;
  y = py i;
  dx = pdx i;
  dy = pdy i;
  edges = pn i;
  proper = is_prop→PathP (λ j. direction (pdx j) (pdy j) ≡ true) (λ j. bools (direction (pdx j) (pdy j)) true) d.proper e.proper i;
  some = is_prop→PathP (λ j. int_lt (pos 0) (pn j) ≡ true) (λ j. bools (int_lt (pos 0) (pn j)) true) d.some e.some i;
  left = is_prop→PathP (λ j. ranged (px j) ≡ true) (λ j. bools (ranged (px j)) true) d.left e.left i;
  low = is_prop→PathP (λ j. ranged (py j) ≡ true) (λ j. bools (ranged (py j)) true) d.low e.low i;
  right = is_prop→PathP (λ j. ranged (px j +ℤ pn j *ℤ pdx j) ≡ true) (λ j. bools (ranged (px j +ℤ pn j *ℤ pdx j)) true) d.right e.right i;
  high = is_prop→PathP (λ j. ranged (py j +ℤ pn j *ℤ pdy j) ≡ true) (λ j. bools (ranged (py j +ℤ pn j *ℤ pdy j)) true) d.high e.high i;
}

-- the numbers of a segment
pub record Numbers (x y dx dy n : ℤ) (e : Segment) : Type 0 where
  pub left : e.x ≡ x
  pub low : e.y ≡ y
  pub across : e.dx ≡ dx
  pub up : e.dy ≡ dy
  pub edges : e.edges ≡ n

pub segment_is : (x y dx dy n : ℤ) (e : Segment) → Numbers x y dx dy n e → segment x y dx dy n ≡ Some e
segment_is x y dx dy n e k =
    let a = k.left in
    let b = k.low in
    let c = k.across in
    let d = k.up in
    let f = k.edges in
    (λ i. segment (sym a i) (sym b i) (sym c i) (sym d i) (sym f i))
    ∙ tested_true (direction e.dx e.dy) _ e.proper ∙ tested_true (int_lt (pos 0) e.edges) _ e.some
    ∙ tested_true (ranged e.x) _ e.left ∙ tested_true (ranged e.y) _ e.low
    ∙ tested_true (ranged (e.x +ℤ e.edges *ℤ e.dx)) _ e.right ∙ tested_true (ranged (e.y +ℤ e.edges *ℤ e.dy)) _ e.high

module _ (x y dx dy n : ℤ) where
  -- the tests
  pub record Passes : Type 0 where
    pub proper : direction dx dy ≡ true
    pub some : int_lt (pos 0) n ≡ true
    pub left : ranged x ≡ true
    pub low : ranged y ≡ true
    pub right : ranged (x +ℤ n *ℤ dx) ≡ true
    pub high : ranged (y +ℤ n *ℤ dy) ≡ true

  pub segment_none : (Passes → ⊥) → segment x y dx dy n ≡ None
  segment_none k =
      tested_none (direction dx dy) _ (λ a. tested_none (int_lt (pos 0) n) _ (λ b. tested_none (ranged x) _ (λ c. tested_none (ranged y) _ (λ d.
      tested_none (ranged (x +ℤ n *ℤ dx)) _ (λ e. tested_none (ranged (y +ℤ n *ℤ dy)) _ (λ f.
      absurd (k (record { proper = a; some = b; left = c; low = d; right = e; high = f }))))))))

  pub data Tried : Type 0 where
    lies : (e : Segment) → Numbers x y dx dy n e → segment x y dx dy n ≡ Some e → Tried
    leaves : (Passes → ⊥) → segment x y dx dy n ≡ None → Tried

  pub tried : Tried
  tried = ⊎_elim
      (λ h.
      let a = and_parts (direction dx dy) _ h in
      let b = and_parts (int_lt (pos 0) n) _ a.1 in
      let c = and_parts (ranged x) _ b.1 in
      let d = and_parts (ranged y) _ c.1 in
      let f = and_parts (ranged (x +ℤ n *ℤ dx)) (ranged (y +ℤ n *ℤ dy)) d.1 in
      let e : Segment = record { x = x; y = y; dx = dx; dy = dy; edges = n; proper = a.0; some = b.0; left = c.0; low = d.0; right = f.0; high = f.1 } in
      let k : Numbers x y dx dy n e = record { left = refl; low = refl; across = refl; up = refl; edges = refl } in
      lies e k (segment_is x y dx dy n e k))
      (λ h.
      let k : Passes → ⊥ = λ p. both_ways _ h (and_from (direction dx dy) _ p.proper (and_from (int_lt (pos 0) n) _ p.some (and_from (ranged x) _ p.left (and_from (ranged y) _ p.low (and_from (ranged (x +ℤ n *ℤ dx)) (ranged (y +ℤ n *ℤ dy)) p.right p.high))))) in
      leaves k (segment_none k))
      (cases_Bool (direction dx dy && (int_lt (pos 0) n && (ranged x && (ranged y && (ranged (x +ℤ n *ℤ dx) && ranged (y +ℤ n *ℤ dy)))))))

  pub segment_some : (e : Segment) → segment x y dx dy n ≡ Some e → Numbers x y dx dy n e
  segment_some e h = elim tried [ lies d k q ↦ let s : d ≡ e = cc in moved d s k | leaves k q ↦ let z : ◌≡◌ {A = ℕ} 0 1 = cc in absurd (omega arith) ] where
    moved : (d : Segment) → d ≡ e → Numbers x y dx dy n d → Numbers x y dx dy n e
    moved d s k = record { left = ap (λ (z : Segment). z.x) (sym s) ∙ k.left; low = ap (λ (z : Segment). z.y) (sym s) ∙ k.low; across = ap (λ (z : Segment). z.dx) (sym s) ∙ k.across; up = ap (λ (z : Segment). z.dy) (sym s) ∙ k.up; edges = ap (λ (z : Segment). z.edges) (sym s) ∙ k.edges }

  pub segment_refused : segment x y dx dy n ≡ None → Passes → ⊥
  segment_refused h = elim tried [ lies d k q ↦ let z : ◌≡◌ {A = ℕ} 0 1 = cc in absurd (omega arith) | leaves k q ↦ k ]
