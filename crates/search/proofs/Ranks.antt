-- A number that rises from a bound to a place after it.
use Rattle.std.proofs.Common.{◌≡◌, ℕ, ◌+◌, ◌*◌, ◌<◌, ◌⊎◌, ℤ, pos, negsuc, ◌+ℤ◌, nat_abs, ◌≤ℤ◌, ◌<ℤ◌, sym, refl, ap, subst, inl, inr, arith}
use Rattle.std.proofs.lemmas.Int.{ints}
use Rattle.lattice.specs.declared.placement.Placement.{Placement}
use Rattle.lattice.specs.Order.{Triple, triple, Before}
use Rattle.lattice.proofs.Bounds.{shifting_parts}
use Rattle.grammar.proofs.Placements.{turn_below}
use Rattle.search.specs.Ranks.{rank}

-- the numbers of a placement, or those that stand before all
pub record Boxed (t : Triple) : Type 0 where
  pub low : negsuc 0 ≤ℤ t.turn
  pub top : t.turn ≤ℤ pos 7
  pub left : negsuc 3999 ≤ℤ t.across
  pub right : t.across ≤ℤ pos 4000
  pub down : negsuc 3999 ≤ℤ t.up
  pub high : t.up ≤ℤ pos 4000

pub boxed_of : (p : Placement) → Boxed (triple p)
boxed_of p =
    let l = turn_below p in
    let u = shifting_parts p.across p.sideways in
    let v = shifting_parts p.up p.upwards in
    record { low = omega (arith, ints); top = omega (arith, ints); left = u.0; right = u.1; down = v.0; high = v.1 }

is_abs : (z : ℤ) → pos 0 ≤ℤ z → pos (nat_abs z) ≡ z
is_abs (pos n) h = refl
is_abs (negsuc n) h = absurd (omega (arith, ints))

rises : (a b c x y z : ℕ) → b < 8001 → c < 8001 → (a < x) ⊎ ((a ≡ x) × ((b < y) ⊎ ((b ≡ y) × (c < z)))) → a * 64016001 + b * 8001 + c < x * 64016001 + y * 8001 + z
rises a b c x y z hb hc (inl l) = omega arith
rises a b c x y z hb hc (inr (e, inl l)) = omega (arith, e)
rises a b c x y z hb hc (inr (e, inr (f, l))) = omega (arith, e, f, l)

pub rank_high : (t : Triple) → Boxed t → rank t < 576144009
unfolding rank
rank_high t b =
    let x1 = b.low in let x2 = b.top in let x3 = b.left in let x4 = b.right in let x5 = b.down in let x6 = b.high in
    let a = is_abs (t.turn +ℤ pos 1) (omega (arith, ints)) in
    let c = is_abs (t.across +ℤ pos 4000) (omega (arith, ints)) in
    let d = is_abs (t.up +ℤ pos 4000) (omega (arith, ints)) in
    let ha : nat_abs (t.turn +ℤ pos 1) < 9 = omega (arith, ints, a) in
    let hc : nat_abs (t.across +ℤ pos 4000) < 8001 = omega (arith, ints, c) in
    let hd : nat_abs (t.up +ℤ pos 4000) < 8001 = omega (arith, ints, d) in
    bounded _ _ _ ha hc hd
  where
    bounded : (a b c : ℕ) → a < 9 → b < 8001 → c < 8001 → a * 64016001 + b * 8001 + c < 576144009
    bounded a b c x y z = omega arith

abbrev Lex : Triple → Triple → Type 0
Lex t u =
    (nat_abs (t.turn +ℤ pos 1) < nat_abs (u.turn +ℤ pos 1))
    ⊎ ((nat_abs (t.turn +ℤ pos 1) ≡ nat_abs (u.turn +ℤ pos 1)) × ((nat_abs (t.across +ℤ pos 4000) < nat_abs (u.across +ℤ pos 4000)) ⊎ ((nat_abs (t.across +ℤ pos 4000) ≡ nat_abs (u.across +ℤ pos 4000)) × (nat_abs (t.up +ℤ pos 4000) < nat_abs (u.up +ℤ pos 4000)))))

below : (x y k : ℤ) → pos 0 ≤ℤ (x +ℤ k) → pos 0 ≤ℤ (y +ℤ k) → x <ℤ y → nat_abs (x +ℤ k) < nat_abs (y +ℤ k)
below x y k h l w = let a = is_abs (x +ℤ k) h in let b = is_abs (y +ℤ k) l in omega (arith, ints, a, b)

pub rank_rises : (t u : Triple) → Boxed t → Boxed u → Before t u → rank t < rank u
unfolding rank
rank_rises t u b c w =
    let x1 = b.low in let x2 = b.top in let x3 = b.left in let x4 = b.right in let x5 = b.down in let x6 = b.high in
    let y1 = c.low in let y3 = c.left in let y5 = c.down in
    let e = is_abs (t.across +ℤ pos 4000) (omega (arith, ints)) in
    let d = is_abs (t.up +ℤ pos 4000) (omega (arith, ints)) in
    let he : nat_abs (t.across +ℤ pos 4000) < 8001 = omega (arith, ints, e) in
    let hd : nat_abs (t.up +ℤ pos 4000) < 8001 = omega (arith, ints, d) in
    rises _ _ _ _ _ _ he hd (go (omega (arith, ints)) (omega (arith, ints)) (omega (arith, ints)) (omega (arith, ints)) (omega (arith, ints)) (omega (arith, ints)) w)
  where
    go : pos 0 ≤ℤ (t.turn +ℤ pos 1) → pos 0 ≤ℤ (u.turn +ℤ pos 1) → pos 0 ≤ℤ (t.across +ℤ pos 4000) → pos 0 ≤ℤ (u.across +ℤ pos 4000) → pos 0 ≤ℤ (t.up +ℤ pos 4000) → pos 0 ≤ℤ (u.up +ℤ pos 4000) → Before t u → Lex t u
    go a1 a2 a3 a4 a5 a6 (inl l) = inl (below t.turn u.turn (pos 1) a1 a2 l)
    go a1 a2 a3 a4 a5 a6 (inr (q, inl l)) = inr (ap (λ (z : ℤ). nat_abs (z +ℤ pos 1)) q, inl (below t.across u.across (pos 4000) a3 a4 l))
    go a1 a2 a3 a4 a5 a6 (inr (q, inr (r, l))) = inr (ap (λ (z : ℤ). nat_abs (z +ℤ pos 1)) q, inr (ap (λ (z : ℤ). nat_abs (z +ℤ pos 4000)) r, below t.up u.up (pos 4000) a5 a6 l))

-- from a bound to the place after it
pub stepped : (t u : Triple) (p : Placement) → Boxed t → Before t (triple p) → u ≡ triple p → Boxed u × (rank t < rank u)
stepped t u p b v e = let q = boxed_of p in (subst Boxed (sym e) q, subst (λ (z : Triple). rank t < rank z) (sym e) (rank_rises t (triple p) b q v))

pub boxed_first : Boxed (record { turn = negsuc 0; across = pos 0; up = pos 0 })
boxed_first = record { low = omega (arith, ints); top = omega (arith, ints); left = omega (arith, ints); right = omega (arith, ints); down = omega (arith, ints); high = omega (arith, ints) }
