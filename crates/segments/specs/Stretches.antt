-- Joins and parts of segments.
use Rattle.std.specs.Prelude.{◌≡◌, Bool, true, false, cond, ℤ, pos, ◌+ℤ◌, ◌-ℤ◌, ◌*ℤ◌, ◌≤ℤ◌, ◌<ℤ◌, int_lt, refl}
use Rattle.std.proofs.Common.{sym, ap, ◌∙◌, ⊎_elim, arith}
use Rattle.std.specs.Int.{int_max}
use Rattle.std.proofs.lemmas.Int.{ints}
use Rattle.std.proofs.lemmas.Bool.{cond-true, cond-false, cases_Bool}
use Rattle.numbers.proofs.Ring.{plus_times}
use Rattle.numbers.proofs.Tested.{lt_test}
use Rattle.lattice.specs.Field.{ranged}
use Rattle.kinds.specs.Rules.{Touch, Union, Stretch, Slice}
use Rattle.elements.specs.Covering.{union_from, slice_from}
use Rattle.segments.specs.Edges.{along, line, edge_position}
use Rattle.segments.specs.Segments.{first, upper_x, upper_y, segment_model}
use Rattle.segments.specs.declared.segment.Edge.{Edge}
use Rattle.segments.specs.declared.segment.Segment.{Segment}
use Rattle.segments.specs.Covers.{lines}
use Rattle.segments.specs.EdgeFacts.{along_on, along_at, edge_apart, ranged_along}
use Rattle.segments.specs.Positions.{end_high}

abbrev pub starting : Segment → ℤ
starting e = edge_position (first e)

abbrev pub ending : Segment → ℤ
ending e = edge_position (first e) +ℤ e.edges

-- ---- of numbers alone
pub again : (p q : ℤ) → q +ℤ (p -ℤ q) ≡ p
again p q = omega (arith, ints)

pub further : (x d j n : ℤ) → (x +ℤ j *ℤ d) +ℤ n *ℤ d ≡ x +ℤ (j +ℤ n) *ℤ d
further x d j n = let p = plus_times j n d in sums x (j *ℤ d) (n *ℤ d) ((j +ℤ n) *ℤ d) p where
  sums : (x a b c : ℤ) → c ≡ a +ℤ b → (x +ℤ a) +ℤ b ≡ x +ℤ c
  sums x a b c h = omega (arith, ints)

regroup : (p n q : ℤ) → (p +ℤ n) -ℤ q ≡ (p -ℤ q) +ℤ n
regroup p n q = omega (arith, ints)

above_left : (a b : ℤ) → a ≤ℤ int_max a b
above_left a b = grind (arith, ints)

above_right : (a b : ℤ) → b ≤ℤ int_max a b
above_right a b = grind (arith, ints)

past_start : (s n m : ℤ) → int_lt (pos 0) n ≡ true → (s +ℤ n) ≤ℤ m → s <ℤ m
past_start s n m h k = omega (arith, ints)

above_zero : (a b : ℤ) → a <ℤ b → pos 0 <ℤ (b -ℤ a)
above_zero a b h = omega (arith, ints)

-- ---- how far a segment may reach
-- the upper end of a segment on the same line
pub record Reach (d e : Segment) : Type 0 where
  pub right : d.x +ℤ (ending e -ℤ starting d) *ℤ d.dx ≡ upper_x e
  pub high : d.y +ℤ (ending e -ℤ starting d) *ℤ d.dy ≡ upper_y e

reach : (d e : Segment) → line (first d) ≡ line (first e) → Reach d e
reach d e t =
    let j : ℤ = starting e -ℤ starting d in
    let f : first e ≡ along (first d) j = edge_apart (first e) (along (first d) j) e.proper (sym t ∙ sym (along_on (first d) j)) (sym (along_at (first d) j d.proper ∙ again (starting e) (starting d))) in
    let x = ap (λ (a : Edge). a.x) f in
    let y = ap (λ (a : Edge). a.y) f in
    let u = ap (λ (a : Edge). a.dx) f in
    let v = ap (λ (a : Edge). a.dy) f in
    let g = regroup (starting e) e.edges (starting d) in
    record {
      right = ap (λ (k : ℤ). d.x +ℤ k *ℤ d.dx) g ∙ sym (further d.x d.dx j e.edges) ∙ (λ i. sym x i +ℤ e.edges *ℤ sym u i);
      high = ap (λ (k : ℤ). d.y +ℤ k *ℤ d.dy) g ∙ sym (further d.y d.dy j e.edges) ∙ (λ i. sym y i +ℤ e.edges *ℤ sym v i);
    }

pub record Reaches (d : Segment) (to : ℤ) : Type 0 where
  pub some : starting d <ℤ to
  pub small : to ≤ℤ pos 2001
  pub right : ranged (d.x +ℤ (to -ℤ starting d) *ℤ d.dx) ≡ true
  pub high : ranged (d.y +ℤ (to -ℤ starting d) *ℤ d.dy) ≡ true

-- of two segments on one line each may reach to the higher end
module _ (a b : Segment) (t : line (first a) ≡ line (first b)) where
  abbrev top : ℤ
  top = int_max (ending a) (ending b)

  reaches : (d : Segment) → starting d <ℤ top → line (first d) ≡ line (first a) → Reaches d top
  reaches d s q = go (int_lt (ending b) (ending a)) s where
    one : (e : Segment) → starting d <ℤ ending e → line (first d) ≡ line (first e) → Reaches d (ending e)
    one e s q = let r = reach d e q in record { some = s; small = end_high e; right = ap ranged r.right ∙ e.right; high = ap ranged r.high ∙ e.high }

    go : (x : Bool) → starting d <ℤ cond x (ending a) (ending b) → Reaches d (cond x (ending a) (ending b))
    go true s = one a s q
    go false s = one b s (q ∙ t)

  pub reaches_left : Reaches a top
  reaches_left = reaches a (past_start (starting a) a.edges top a.some (above_left (ending a) (ending b))) refl

  pub reaches_right : Reaches b top
  reaches_right = reaches b (past_start (starting b) b.edges top b.some (above_right (ending a) (ending b))) (sym t)

-- ---- joins
reaching : (d : Segment) (to : ℤ) → Reaches d to → Segment
reaching d to r = record { x = d.x; y = d.y; dx = d.dx; dy = d.dy; edges = to -ℤ starting d; proper = d.proper; some = lt_test (pos 0) (to -ℤ starting d) (above_zero (starting d) to r.some); left = d.left; low = d.low; right = r.right; high = r.high }

module _ (d e j : Segment) (t : Touch segment_model d e) (n : ending j ≡ int_max (ending d) (ending e)) where
  pub join_right : int_lt (starting e) (starting d) ≡ true → first j ≡ first e → Union segment_model d e j
  join_right h f = union_from segment_model lines d e j (ap line f ∙ sym t.same) t.same (ap edge_position f ∙ sym (cond-true (int_lt (starting e) (starting d)) (starting e) (starting d) h)) n t.left t.right

  pub join_left : int_lt (starting e) (starting d) ≡ false → first j ≡ first d → Union segment_model d e j
  join_left h f = union_from segment_model lines d e j (ap line f) t.same (ap edge_position f ∙ sym (cond-false (int_lt (starting e) (starting d)) (starting e) (starting d) h)) n t.left t.right

pub joined : (d e : Segment) → Touch segment_model d e → (j : Segment) × Union segment_model d e j
unfolding reaching
joined d e t = ⊎_elim
    (λ h.
    let r = reaches_right d e t.same in
    (reaching e (int_max (ending d) (ending e)) r, join_right d e (reaching e (int_max (ending d) (ending e)) r) t (again (int_max (ending d) (ending e)) (starting e)) h refl))
    (λ h.
    let r = reaches_left d e t.same in
    (reaching d (int_max (ending d) (ending e)) r, join_left d e (reaching d (int_max (ending d) (ending e)) r) t (again (int_max (ending d) (ending e)) (starting d)) h refl))
    (cases_Bool (int_lt (starting e) (starting d)))

-- ---- parts
low_offset : (s a : ℤ) → s ≤ℤ a → pos 0 ≤ℤ (a -ℤ s)
low_offset s a h = omega (arith, ints)

upto_offset : (s a n : ℤ) → a ≤ℤ (s +ℤ n) → (a -ℤ s) ≤ℤ n
upto_offset s a n h = omega (arith, ints)

through : (a b n : ℤ) → a <ℤ b → b ≤ℤ n → a ≤ℤ n
through a b n h k = omega (arith, ints)

through_low : (s a b : ℤ) → s ≤ℤ a → a <ℤ b → s ≤ℤ b
through_low s a b h k = omega (arith, ints)

sum_offsets : (s a b : ℤ) → (a -ℤ s) +ℤ (b -ℤ a) ≡ b -ℤ s
sum_offsets s a b = omega (arith, ints)

-- the ends of a stretch
pub record Cut (e : Segment) (from to : ℤ) : Type 0 where
  pub low : pos 0 ≤ℤ (from -ℤ starting e)
  pub high : (from -ℤ starting e) ≤ℤ e.edges
  pub some : int_lt (pos 0) (to -ℤ from) ≡ true
  pub from_x : ranged (e.x +ℤ (from -ℤ starting e) *ℤ e.dx) ≡ true
  pub from_y : ranged (e.y +ℤ (from -ℤ starting e) *ℤ e.dy) ≡ true
  pub to_x : ranged ((e.x +ℤ (from -ℤ starting e) *ℤ e.dx) +ℤ (to -ℤ from) *ℤ e.dx) ≡ true
  pub to_y : ranged ((e.y +ℤ (from -ℤ starting e) *ℤ e.dy) +ℤ (to -ℤ from) *ℤ e.dy) ≡ true

pub cut : (e : Segment) (from to : ℤ) → Stretch segment_model e from to → Cut e from to
cut e from to t =
    let s = starting e in
    let low = low_offset s from t.low in
    let upto = upto_offset s from e.edges (through from to (s +ℤ e.edges) t.some t.high) in
    let low' = low_offset s to (through_low s from to t.low t.some) in
    let upto' = upto_offset s to e.edges t.high in
    let o = sum_offsets s from to in
    record {
      low = low;
      high = upto;
      some = lt_test (pos 0) (to -ℤ from) (above_zero from to t.some);
      from_x = ranged_along e.x e.dx (from -ℤ s) e.edges low upto e.left e.right;
      from_y = ranged_along e.y e.dy (from -ℤ s) e.edges low upto e.low e.high;
      to_x = ap ranged (further e.x e.dx (from -ℤ s) (to -ℤ from) ∙ ap (λ (z : ℤ). e.x +ℤ z *ℤ e.dx) o) ∙ ranged_along e.x e.dx (to -ℤ s) e.edges low' upto' e.left e.right;
      to_y = ap ranged (further e.y e.dy (from -ℤ s) (to -ℤ from) ∙ ap (λ (z : ℤ). e.y +ℤ z *ℤ e.dy) o) ∙ ranged_along e.y e.dy (to -ℤ s) e.edges low' upto' e.low e.high;
    }

pub part_by : (e p : Segment) (from to : ℤ) → Stretch segment_model e from to → first p ≡ along (first e) (from -ℤ starting e) → p.edges ≡ to -ℤ from → Slice segment_model e from to p
part_by e p from to t f n =
    let s = ap edge_position f ∙ along_at (first e) (from -ℤ starting e) e.proper ∙ again from (starting e) in
    slice_from segment_model lines e p from to (ap line f ∙ along_on (first e) (from -ℤ starting e)) s ((λ i. s i +ℤ n i) ∙ again to from) t.low t.high

pub parted : (e : Segment) (from to : ℤ) → Stretch segment_model e from to → (p : Segment) × Slice segment_model e from to p
parted e from to t =
    let c = cut e from to t in
    let a = along (first e) (from -ℤ starting e) in
    let p : Segment = record { x = a.x; y = a.y; dx = e.dx; dy = e.dy; edges = to -ℤ from; proper = e.proper; some = c.some; left = c.from_x; low = c.from_y; right = c.to_x; high = c.to_y } in
    (p, part_by e p from to t refl refl)
