-- Points keep the rules.
use Rattle.std.specs.Prelude.{◌≡◌, ℕ, ◌<◌, true, false, ◌&&◌, ◌⊎◌, ℤ, pos, negsuc, ◌+ℤ◌, ◌-ℤ◌, ◌≤ℤ◌, ◌<ℤ◌, Some, None, refl}
use Rattle.std.proofs.Common.{ap, sym, ◌∙◌, subst, ⊎_elim, arith}
use mathlib.Core.HLevel.{is_prop→PathP}
use Rattle.std.proofs.lemmas.Int.{ints}
use Rattle.std.proofs.lemmas.Bool.{and_parts, and_from, and_cases, cases_Bool, both_ways}
use Rattle.lattice.specs.Field.{ranged}
use Rattle.lattice.specs.Turns.{index, across, upward}
use Rattle.lattice.specs.declared.placement.Placement.{Placement}
use Rattle.lattice.proofs.Bounds.{shift_within}
use Rattle.lattice.proofs.Same.{bools}
use Rattle.lattice.proofs.Turning.{ranged_turned, ranged_back}
use Rattle.lattice.proofs.Valid.{tested_true, tested_false, tested_none}
use Rattle.kinds.specs.Answers.{Shifts}
use Rattle.kinds.specs.Rules.{Rules, Covers, Touch, Union, Stretch, Slice, Ordered}
use Rattle.elements.specs.Points.{point, pair_order, point_model}
use Rattle.elements.specs.declared.point.Point.{Point}
use Rattle.elements.specs.declared.point.LatticePoint.{LatticePoint}
use Rattle.elements.specs.Orders.{ordered_numbers, ordered_then}
use Rattle.elements.specs.Covering.{covered, covered_from, union_from, slice_from}

pub same_point : (d e : Point) → d.x ≡ e.x → d.y ≡ e.y → d ≡ e
same_point d e px py = λ i. record { x = px i; y = py i; wide = is_prop→PathP (λ j. ranged (px j) ≡ true) (λ j. bools (ranged (px j)) true) d.wide e.wide i; tall = is_prop→PathP (λ j. ranged (py j) ≡ true) (λ j. bools (ranged (py j)) true) d.tall e.tall i }

pub pairs : Ordered pair_order
pairs = ordered_then (λ (a : ℤ × ℤ). a.0) (λ (a : ℤ × ℤ). a.1) (λ a b h k. λ i. (h i, k i)) ordered_numbers ordered_numbers

-- the point as an atom
abbrev pub spot : Point → LatticePoint
spot e = record { x = e.x; y = e.y }

pub own : (e : Point) → Covers point_model e (spot e)
own e = covered_from point_model pairs e (spot e) (record { proper = refl; on = refl; from = record { le = tt }; to = record { lt = tt } })

pub only : (e : Point) (a : LatticePoint) → Covers point_model e a → a ≡ spot e
only e a c =
    let o = (covered point_model pairs e a c).on in
    let x = ap (λ (p : ℤ × ℤ). p.0) (sym o) in
    let y = ap (λ (p : ℤ × ℤ). p.1) (sym o) in
    λ i. record { x = x i; y = y i }

-- ---- the tested point
pub point_is : (e : Point) (x y : ℤ) → e.x ≡ x → e.y ≡ y → Some e ≡ point x y
point_is e x y hx hy = sym (tested_true (ranged e.x) _ e.wide ∙ tested_true (ranged e.y) _ e.tall) ∙ (λ i. point (hx i) (hy i))

pub point_none : (x y : ℤ) → (ranged x && ranged y) ≡ false → point x y ≡ None
point_none x y h =
    ⊎_elim (λ k. tested_false (ranged x) _ k)
    (λ k. tested_none (ranged x) _ (λ w. tested_false (ranged y) _ k)) (and_cases (ranged x) (ranged y) h)

pub data Tried (x y : ℤ) : Type 0 where
  lies : (e : Point) → e.x ≡ x → e.y ≡ y → point x y ≡ Some e → Tried x y
  leaves : (ranged x && ranged y) ≡ false → point x y ≡ None → Tried x y

pub tried : (x y : ℤ) → Tried x y
tried x y = ⊎_elim (λ h. let p = and_parts (ranged x) (ranged y) h in let e : Point = record { x = x; y = y; wide = p.0; tall = p.1 } in lies e refl refl (sym (point_is e x y refl refl))) (λ h. leaves h (point_none x y h)) (cases_Bool (ranged x && ranged y))

pub point_some : (x y : ℤ) (e : Point) → point x y ≡ Some e → (e.x ≡ x) × (e.y ≡ y)
point_some x y e h = elim (tried x y) [ lies d p q k ↦ let s : d ≡ e = cc in (ap (λ (z : Point). z.x) (sym s) ∙ p, ap (λ (z : Point). z.y) (sym s) ∙ q) | leaves p k ↦ let z : ◌≡◌ {A = ℕ} 0 1 = cc in absurd (omega arith) ]

pub point_refused : (x y : ℤ) → point x y ≡ None → (ranged x && ranged y) ≡ false
point_refused x y h = elim (tried x y) [ lies d p q k ↦ let z : ◌≡◌ {A = ℕ} 0 1 = cc in absurd (omega arith) | leaves p k ↦ p ]

pub point_made : (x y : ℤ) (e : Point) → point x y ≡ Some e → ((ranged x && ranged y) ≡ true) × (e.x ≡ x) × (e.y ≡ y)
point_made x y e h = let p = point_some x y e h in (and_from (ranged x) (ranged y) (ap ranged (sym p.0) ∙ e.wide) (ap ranged (sym p.1) ∙ e.tall), p.0, p.1)

-- ---- shifts from one point to another
pub no_shift : (s : ℕ) (a b : LatticePoint) → s < 8 → ((ranged (across s a.x a.y) && ranged b.x) ≡ false) ⊎ ((ranged (upward s a.x a.y) && ranged b.y) ≡ false) → Shifts point_model s a b None
no_shift s a b l h f g u v e =
    let p = and_parts (ranged a.x) (ranged a.y) f in
    let q = and_parts (ranged b.x) (ranged b.y) g in
    let r = ranged_turned a.x a.y p.0 p.1 s l in
    ⊎_elim (λ k. both_ways _ k (and_from (ranged (across s a.x a.y)) (ranged b.x) r.0 q.0)) (λ k. both_ways _ k (and_from (ranged (upward s a.x a.y)) (ranged b.y) r.1 q.1)) h

again : (a b u : ℤ) → u ≡ b -ℤ a → a +ℤ u ≡ b
again a b u h = omega (arith, ints)

pub shift_by : (s : ℕ) (a b : LatticePoint) (u v : ℤ) → s < 8 → (ranged (across s a.x a.y) && ranged b.x) ≡ true → (ranged (upward s a.x a.y) && ranged b.y) ≡ true → u ≡ b.x -ℤ across s a.x a.y → v ≡ b.y -ℤ upward s a.x a.y → Shifts point_model s a b (Some (u, v))
shift_by s a b u v l h k d e =
    let p = and_parts (ranged (across s a.x a.y)) (ranged b.x) h in
    let q = and_parts (ranged (upward s a.x a.y)) (ranged b.y) k in
    let r = ranged_back a.x a.y s l p.0 q.0 in
    let x = again (across s a.x a.y) b.x u d in
    let y = again (upward s a.x a.y) b.y v e in
    (and_from (ranged a.x) (ranged a.y) r.0 r.1, and_from (ranged b.x) (ranged b.y) p.1 q.1, λ i. record { x = x i; y = y i })

-- ---- the rules
cancel : (a u p : ℤ) → a +ℤ u ≡ a +ℤ p → u ≡ p
cancel a u p h = omega (arith, ints)

abbrev image : ℕ → ℤ → ℤ → LatticePoint → LatticePoint
image s u v a = record { x = across s a.x a.y +ℤ u; y = upward s a.x a.y +ℤ v }

moved_to : (p : Placement) (e f : Point) → point_model.place p e ≡ Some f → image (index p.turn) p.across p.up (spot e) ≡ spot f
moved_to p e f h =
    let k = point_some _ _ f h in
    let x = k.0 in
    let y = k.1 in
    λ i. record { x = sym x i; y = sym y i }

near_by : (s : ℕ) (u v : ℤ) (a b : LatticePoint) → s < 8 → point_model.field a ≡ true → point_model.field b ≡ true → image s u v a ≡ b → (negsuc 3999 ≤ℤ u) × (u ≤ℤ pos 4000) × (negsuc 3999 ≤ℤ v) × (v ≤ℤ pos 4000)
near_by s u v a b l h k e =
    let f = and_parts (ranged a.x) (ranged a.y) h in
    let r = ranged_turned a.x a.y f.0 f.1 s l in
    let g = and_parts (ranged (across s a.x a.y +ℤ u)) (ranged (upward s a.x a.y +ℤ v)) (ap point_model.field e ∙ k) in
    let x = shift_within (across s a.x a.y) u r.0 g.0 in
    let y = shift_within (upward s a.x a.y) v r.1 g.1 in
    (x.0, x.1, y.0, y.1)

zero_from : (from to : ℤ) → pos 0 ≤ℤ from → from <ℤ to → to ≤ℤ pos 1 → (pos 0 ≡ from) × (pos 1 ≡ to)
zero_from from to h k l = (omega (arith, ints), omega (arith, ints))

pub point_joined : (d e : Point) → Touch point_model d e → Union point_model d e d
point_joined d e t = union_from point_model pairs d e d refl t.same refl refl t.left t.right

pub point_parted : (e : Point) (from to : ℤ) → Stretch point_model e from to → Slice point_model e from to e
point_parted e from to t = let z = zero_from from to t.low t.some t.high in slice_from point_model pairs e e from to refl z.0 z.1 t.low t.high

pub point_rules : Rules point_model
point_rules = record {
  some = λ e. (spot e, own e);
  inside = λ e a c. ap point_model.field (only e a c) ∙ and_from (ranged e.x) (ranged e.y) e.wide e.tall;
  alike = λ d e h. let s = only e (spot d) (sym (h (spot d)) ∙ own d) in same_point d e (ap (λ (a : LatticePoint). a.x) s) (ap (λ (a : LatticePoint). a.y) s);
  ordered = pairs;
  apart = λ a b h k c t.
      let x = ap (λ (p : ℤ × ℤ). p.0) c in
      let y = ap (λ (p : ℤ × ℤ). p.1) c in
      λ i. record { x = x i; y = y i };
  atoms = λ a h. refl;
  low = λ a h. record { le = tt };
  high = λ a h. record { le = tt };
  joined = λ d e t. (d, point_joined d e t);
  parted = λ e from to t. (e, point_parted e from to t);
  carried = λ s u v a l h. refl;
  placed = λ p e f h b. (
    λ c. (spot e, own e, moved_to p e f h ∙ sym (only f b c)),
    λ w. subst (Covers point_model f) (sym (moved_to p e f h) ∙ ap (image (index p.turn) p.across p.up) (sym (only e w.0 w.1)) ∙ w.2) (own f),
  );
  refused = λ p e. (
    λ h. (spot e, own e, point_refused (across (index p.turn) e.x e.y +ℤ p.across) (upward (index p.turn) e.x e.y +ℤ p.up) h),
    λ w. point_none (across (index p.turn) e.x e.y +ℤ p.across) (upward (index p.turn) e.x e.y +ℤ p.up) (ap (λ (a : LatticePoint). point_model.field (image (index p.turn) p.across p.up a)) (sym (only e w.0 w.1)) ∙ w.2),
  );
  one = λ s u v p q a b l h d e.
      let f = d ∙ sym e in
      (cancel (across s a.x a.y) u p (ap (λ (z : LatticePoint). z.x) f), cancel (upward s a.x a.y) v q (ap (λ (z : LatticePoint). z.y) f));
  near = near_by;
}
