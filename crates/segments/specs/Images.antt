-- Where turns and shifts take unit edges.
use Rattle.std.specs.Prelude.{◌≡◌, ℕ, ◌<◌, Bool, true, false, cond, ◌&&◌, ℤ, pos, negsuc, ◌+ℤ◌, ◌-ℤ◌, ◌*ℤ◌, neg_ℤ, unsigned_abs, refl}
use Rattle.std.proofs.Common.{sym, ap, ◌∙◌, arith}
use Rattle.std.proofs.lemmas.Int.{ints}
use Rattle.std.proofs.lemmas.Bool.{and_parts, cond-true, cond-false}
use Rattle.numbers.specs.Gcd.{gcd}
use Rattle.numbers.proofs.Ring.{plus_times, neg_times, times_neg}
use Rattle.lattice.specs.Field.{ranged}
use Rattle.lattice.specs.Turns.{across, upward}
use Rattle.lattice.proofs.Turning.{across_plus, upward_plus, across_times, upward_times}
use Rattle.segments.specs.Directions.{forward}
use Rattle.segments.specs.Edges.{edge, along, oriented, between, edge_image, edge_proper, ends_lie, edge_field}
use Rattle.segments.specs.declared.segment.Edge.{Edge}
use Rattle.segments.specs.DirectionsLemmas.{gcd_neg, turned_back, direction_from}

between_is : (x y p q tx ty : ℤ) → p ≡ x +ℤ tx → q ≡ y +ℤ ty → between x y p q ≡ oriented x y tx ty
between_is x y p q tx ty h k =
    let a : p -ℤ x ≡ tx = omega (arith, ints) in
    let b : q -ℤ y ≡ ty = omega (arith, ints) in
    let c : x -ℤ p ≡ neg_ℤ tx = omega (arith, ints) in
    let d : y -ℤ q ≡ neg_ℤ ty = omega (arith, ints) in
    λ i. cond (forward (a i) (b i)) (edge x y (a i) (b i)) (edge (h i) (k i) (c i) (d i))

last_first : (a b u : ℤ) → (a +ℤ b) +ℤ u ≡ (a +ℤ u) +ℤ b
last_first a b u = omega (arith, ints)

pub image_is : (s : ℕ) (u v : ℤ) (a : Edge) → s < 8 → edge_image s u v a ≡ oriented (across s a.x a.y +ℤ u) (upward s a.x a.y +ℤ v) (across s a.dx a.dy) (upward s a.dx a.dy)
image_is s u v a l =
    between_is (across s a.x a.y +ℤ u) (upward s a.x a.y +ℤ v) (across s (a.x +ℤ a.dx) (a.y +ℤ a.dy) +ℤ u) (upward s (a.x +ℤ a.dx) (a.y +ℤ a.dy) +ℤ v) (across s a.dx a.dy) (upward s a.dx a.dy)
    (ap (λ (z : ℤ). z +ℤ u) (across_plus a.x a.y a.dx a.dy s l) ∙ last_first (across s a.x a.y) (across s a.dx a.dy) u)
    (ap (λ (z : ℤ). z +ℤ v) (upward_plus a.x a.y a.dx a.dy s l) ∙ last_first (upward s a.x a.y) (upward s a.dx a.dy) v)

-- the image of a point further on
pub across_along : (s : ℕ) (x y dx dy k u : ℤ) → s < 8 → across s (x +ℤ k *ℤ dx) (y +ℤ k *ℤ dy) +ℤ u ≡ (across s x y +ℤ u) +ℤ k *ℤ across s dx dy
across_along s x y dx dy k u l = ap (λ (z : ℤ). z +ℤ u) (across_plus x y (k *ℤ dx) (k *ℤ dy) s l ∙ ap (λ (z : ℤ). across s x y +ℤ z) (across_times k dx dy s l)) ∙ last_first (across s x y) (k *ℤ across s dx dy) u

pub upward_along : (s : ℕ) (x y dx dy k v : ℤ) → s < 8 → upward s (x +ℤ k *ℤ dx) (y +ℤ k *ℤ dy) +ℤ v ≡ (upward s x y +ℤ v) +ℤ k *ℤ upward s dx dy
upward_along s x y dx dy k v l = ap (λ (z : ℤ). z +ℤ v) (upward_plus x y (k *ℤ dx) (k *ℤ dy) s l ∙ ap (λ (z : ℤ). upward s x y +ℤ z) (upward_times k dx dy s l)) ∙ last_first (upward s x y) (k *ℤ upward s dx dy) v

pub image_along : (s : ℕ) (u v k : ℤ) (a : Edge) → s < 8 → edge_image s u v (along a k) ≡ oriented ((across s a.x a.y +ℤ u) +ℤ k *ℤ across s a.dx a.dy) ((upward s a.x a.y +ℤ v) +ℤ k *ℤ upward s a.dx a.dy) (across s a.dx a.dy) (upward s a.dx a.dy)
image_along s u v k a l =
    let x = across_along s a.x a.y a.dx a.dy k u l in
    let y = upward_along s a.x a.y a.dx a.dy k v l in
    image_is s u v (along a k) l ∙ (λ i. oriented (x i) (y i) (across s a.dx a.dy) (upward s a.dx a.dy))

pub kept : (x y tx ty k : ℤ) → forward tx ty ≡ true → oriented (x +ℤ k *ℤ tx) (y +ℤ k *ℤ ty) tx ty ≡ along (edge x y tx ty) k
kept x y tx ty k h = cond-true (forward tx ty) _ _ h

back : (x t n k : ℤ) → (x +ℤ k *ℤ t) +ℤ t ≡ (x +ℤ n *ℤ t) +ℤ ((n -ℤ pos 1) -ℤ k) *ℤ neg_ℤ t
back x t n k =
    let p = times_neg ((n -ℤ pos 1) -ℤ k) t in
    let q = plus_times (n -ℤ pos 1) (neg_ℤ k) t in
    let r = plus_times n (negsuc 0) t in
    let w = neg_times k t in
    let o : negsuc 0 *ℤ t ≡ neg_ℤ t = omega (arith, ints) in
    sums x t (n *ℤ t) (k *ℤ t) _ _ _ _ _ p q r w o where
      sums : (x t n k a b c d e : ℤ) → a ≡ neg_ℤ b → b ≡ c +ℤ d → c ≡ n +ℤ e → d ≡ neg_ℤ k → e ≡ neg_ℤ t → (x +ℤ k) +ℤ t ≡ (x +ℤ n) +ℤ a
      sums x t n k a b c d e p q r w o = omega (arith, ints)

pub flipped : (x y tx ty n k : ℤ) → forward tx ty ≡ false → oriented (x +ℤ k *ℤ tx) (y +ℤ k *ℤ ty) tx ty ≡ along (edge (x +ℤ n *ℤ tx) (y +ℤ n *ℤ ty) (neg_ℤ tx) (neg_ℤ ty)) ((n -ℤ pos 1) -ℤ k)
flipped x y tx ty n k h =
    let a = back x tx n k in
    let b = back y ty n k in
    cond-false (forward tx ty) _ _ h ∙ (λ i. edge (a i) (b i) (neg_ℤ tx) (neg_ℤ ty))

-- both ends of an edge of the field lie in the field
pub record Ends (x y tx ty : ℤ) : Type 0 where
  pub left : ranged x ≡ true
  pub low : ranged y ≡ true
  pub right : ranged (x +ℤ tx) ≡ true
  pub high : ranged (y +ℤ ty) ≡ true

there_back : (x t : ℤ) → (x +ℤ t) +ℤ neg_ℤ t ≡ x
there_back x t = omega (arith, ints)

pub ends_of : (a : Edge) → ends_lie a ≡ true → Ends a.x a.y a.dx a.dy
ends_of a h =
    let q = and_parts (ranged a.x && ranged a.y) _ h in
    let r = and_parts (ranged a.x) _ q.0 in
    let t = and_parts (ranged (a.x +ℤ a.dx)) _ q.1 in
    record { left = r.0; low = r.1; right = t.0; high = t.1 }

pub edge_ends : (a : Edge) → edge_field a ≡ true → Ends a.x a.y a.dx a.dy
edge_ends a h = ends_of a (and_parts (ends_lie a) _ h).0

pub oriented_ends : (x y tx ty : ℤ) → edge_field (oriented x y tx ty) ≡ true → Ends x y tx ty
oriented_ends x y tx ty h = go (forward tx ty) h where
  go : (b : Bool) → edge_field (cond b (edge x y tx ty) (edge (x +ℤ tx) (y +ℤ ty) (neg_ℤ tx) (neg_ℤ ty))) ≡ true → Ends x y tx ty
  go true h = edge_ends (edge x y tx ty) h
  go false h =
      let t = edge_ends (edge (x +ℤ tx) (y +ℤ ty) (neg_ℤ tx) (neg_ℤ ty)) h in
      record { left = ap ranged (sym (there_back x tx)) ∙ t.right; low = ap ranged (sym (there_back y ty)) ∙ t.high; right = t.left; high = t.low }

pub oriented_proper : (x y tx ty : ℤ) → gcd (unsigned_abs tx) (unsigned_abs ty) ≡ 1 → edge_proper (oriented x y tx ty) ≡ true
oriented_proper x y tx ty g = go (forward tx ty) refl where
  go : (b : Bool) → forward tx ty ≡ b → edge_proper (cond b (edge x y tx ty) (edge (x +ℤ tx) (y +ℤ ty) (neg_ℤ tx) (neg_ℤ ty))) ≡ true
  go true h = direction_from tx ty h g
  go false h = direction_from (neg_ℤ tx) (neg_ℤ ty) (turned_back tx ty h g) (gcd_neg tx ty ∙ g)

-- ---- shifts
shift_last : (x u t : ℤ) → (x +ℤ u) +ℤ t ≡ ((x +ℤ pos 0) +ℤ t) +ℤ u
shift_last x u t = omega (arith, ints)

shift_first : (x u : ℤ) → x +ℤ u ≡ (x +ℤ pos 0) +ℤ u
shift_first x u = omega (arith, ints)

-- a shift moves the turned edge, and leaves its direction
pub image_shift : (s : ℕ) (u v : ℤ) (a : Edge) → s < 8 → edge_image s u v a ≡ edge ((edge_image s (pos 0) (pos 0) a).x +ℤ u) ((edge_image s (pos 0) (pos 0) a).y +ℤ v) (edge_image s (pos 0) (pos 0) a).dx (edge_image s (pos 0) (pos 0) a).dy
image_shift s u v a l =
    image_is s u v a l ∙ go (forward (across s a.dx a.dy) (upward s a.dx a.dy)) (across s a.x a.y) (upward s a.x a.y) (across s a.dx a.dy) (upward s a.dx a.dy) ∙ ap (λ (o : Edge). edge (o.x +ℤ u) (o.y +ℤ v) o.dx o.dy) (sym (image_is s (pos 0) (pos 0) a l)) where
      go : (b : Bool) (x y tx ty : ℤ) → cond b (edge (x +ℤ u) (y +ℤ v) tx ty) (edge ((x +ℤ u) +ℤ tx) ((y +ℤ v) +ℤ ty) (neg_ℤ tx) (neg_ℤ ty)) ≡ edge ((cond b (edge (x +ℤ pos 0) (y +ℤ pos 0) tx ty) (edge ((x +ℤ pos 0) +ℤ tx) ((y +ℤ pos 0) +ℤ ty) (neg_ℤ tx) (neg_ℤ ty))).x +ℤ u) ((cond b (edge (x +ℤ pos 0) (y +ℤ pos 0) tx ty) (edge ((x +ℤ pos 0) +ℤ tx) ((y +ℤ pos 0) +ℤ ty) (neg_ℤ tx) (neg_ℤ ty))).y +ℤ v) (cond b (edge (x +ℤ pos 0) (y +ℤ pos 0) tx ty) (edge ((x +ℤ pos 0) +ℤ tx) ((y +ℤ pos 0) +ℤ ty) (neg_ℤ tx) (neg_ℤ ty))).dx (cond b (edge (x +ℤ pos 0) (y +ℤ pos 0) tx ty) (edge ((x +ℤ pos 0) +ℤ tx) ((y +ℤ pos 0) +ℤ ty) (neg_ℤ tx) (neg_ℤ ty))).dy
      go true x y tx ty = let p = shift_first x u in let q = shift_first y v in λ i. edge (p i) (q i) tx ty
      go false x y tx ty = let p = shift_last x u tx in let q = shift_last y v ty in λ i. edge (p i) (q i) (neg_ℤ tx) (neg_ℤ ty)
