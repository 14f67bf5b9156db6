-- Where placements take segments.
use Rattle.std.specs.Prelude.{◌≡◌, ℕ, ◌<◌, true, false, ◌↔◌, ℤ, pos, negsuc, ◌+ℤ◌, ◌-ℤ◌, ◌*ℤ◌, neg_ℤ, ◌≤ℤ◌, ◌<ℤ◌, Some, None, ◌≢◌, unsigned_abs, refl}
use Rattle.std.proofs.Common.{sym, ap, subst, ◌∙◌, ⊎_elim, arith}
use Rattle.std.proofs.lemmas.Int.{ints}
use Rattle.std.proofs.lemmas.Bool.{cond-true, cond-false, cases_Bool}
use Rattle.numbers.specs.Gcd.{gcd}
use Rattle.numbers.proofs.Ring.{plus_times, times_neg}
use Rattle.lattice.specs.Field.{ranged}
use Rattle.lattice.specs.Turns.{across, upward}
use Rattle.kinds.specs.Rules.{Covers}
use Rattle.segments.specs.Directions.{forward, direction}
use Rattle.segments.specs.Edges.{edge, along, edge_image, edge_field}
use Rattle.segments.specs.Segments.{first, upper_x, upper_y, segment, segment_image, segment_model}
use Rattle.segments.specs.declared.segment.Edge.{Edge}
use Rattle.segments.specs.declared.segment.Segment.{Segment}
use Rattle.segments.specs.Covers.{along_covered, covered_along}
use Rattle.segments.specs.DirectionsLemmas.{gcd_neg, gcd_of, gcd_turned, turned_back, direction_from}
use Rattle.segments.specs.Fitting.{segment_some, segment_refused}
use Rattle.segments.specs.Images.{kept, flipped, across_along, upward_along, image_along, oriented_ends}

-- r covers exactly the images of what e covers
abbrev pub Placed : ℕ → ℤ → ℤ → Segment → Segment → Type 0
Placed s u v e r = (b : Edge) → Covers segment_model r b ↔ ((a : Edge) × Covers segment_model e a × (edge_image s u v a ≡ b))

-- the unit edges are taken to unit edges, in this or the other order
placed_by : (e r : Segment) (s : ℕ) (u v : ℤ) (to : ℤ → ℤ) → ((k : ℤ) → pos 0 ≤ℤ k → k <ℤ e.edges → (pos 0 ≤ℤ to k) × (to k <ℤ e.edges)) → ((k : ℤ) → to (to k) ≡ k) → r.edges ≡ e.edges → ((k : ℤ) → edge_image s u v (along (first e) k) ≡ along (first r) (to k)) → Placed s u v e r
placed_by e r s u v to within twice n image b = (
  λ c.
      let t = covered_along r b c in
      let h : t.k <ℤ e.edges = subst (λ (z : ℤ). t.k <ℤ z) n t.high in
      let w = within t.k t.low h in
      (along (first e) (to t.k), along_covered e (to t.k) w.0 w.1, image (to t.k) ∙ ap (along (first r)) (twice t.k) ∙ sym t.is),
  λ w.
      let t = covered_along e w.0 w.1 in
      let i = within t.k t.low t.high in
      let h : to t.k <ℤ r.edges = subst (λ (z : ℤ). to t.k <ℤ z) (sym n) i.1 in
      subst (Covers segment_model r) (sym (image t.k) ∙ ap (edge_image s u v) (sym t.is) ∙ w.2) (along_covered r (to t.k) i.0 h),
)

-- an end outside the field
pub place_none : (e : Segment) (s : ℕ) (u v : ℤ) → s < 8 →
    (ranged (across s e.x e.y +ℤ u) ≡ true → ranged (upward s e.x e.y +ℤ v) ≡ true → ranged ((across s e.x e.y +ℤ u) +ℤ e.edges *ℤ across s e.dx e.dy) ≡ true → ranged ((upward s e.x e.y +ℤ v) +ℤ e.edges *ℤ upward s e.dx e.dy) ≢ true) →
    (a : Edge) × Covers segment_model e a × (edge_field (edge_image s u v a) ≡ false)
place_none e s u v l bad =
    ⊎_elim (λ t. ⊎_elim (λ w. absurd (all t w)) (λ w. (along (first e) (e.edges -ℤ pos 1), along_covered e (e.edges -ℤ pos 1) low' high', w)) (cases_Bool (edge_field (edge_image s u v (along (first e) (e.edges -ℤ pos 1))))))
    (λ t. (along (first e) (pos 0), along_covered e (pos 0) (record { le = tt }) some, t))
    (cases_Bool (edge_field (edge_image s u v (along (first e) (pos 0))))) where
      some : pos 0 <ℤ e.edges
      some = omega (arith, ints, e.some)

      low' : pos 0 ≤ℤ (e.edges -ℤ pos 1)
      low' = omega (arith, ints, e.some)

      high' : (e.edges -ℤ pos 1) <ℤ e.edges
      high' = omega (arith, ints)

      none : (x t : ℤ) → x ≡ x +ℤ pos 0 *ℤ t
      none x t = omega (arith, ints)

      to_end : (x t n : ℤ) → x +ℤ n *ℤ t ≡ (x +ℤ (n -ℤ pos 1) *ℤ t) +ℤ t
      to_end x t n = let p = plus_times n (negsuc 0) t in let o : negsuc 0 *ℤ t ≡ neg_ℤ t = omega (arith, ints) in omega (arith, ints)

      all : edge_field (edge_image s u v (along (first e) (pos 0))) ≡ true → edge_field (edge_image s u v (along (first e) (e.edges -ℤ pos 1))) ≢ true
      all t w =
          let x = across s e.x e.y +ℤ u in
          let y = upward s e.x e.y +ℤ v in
          let tx = across s e.dx e.dy in
          let ty = upward s e.dx e.dy in
          let m = e.edges -ℤ pos 1 in
          let a = oriented_ends (x +ℤ pos 0 *ℤ tx) (y +ℤ pos 0 *ℤ ty) tx ty (ap edge_field (sym (image_along s u v (pos 0) (first e) l)) ∙ t) in
          let b = oriented_ends (x +ℤ m *ℤ tx) (y +ℤ m *ℤ ty) tx ty (ap edge_field (sym (image_along s u v m (first e) l)) ∙ w) in
          bad (ap ranged (none x tx) ∙ a.left) (ap ranged (none y ty) ∙ a.low) (ap ranged (to_end x tx e.edges) ∙ b.right) (ap ranged (to_end y ty e.edges) ∙ b.high)

-- ---- the placed segment
pub back_again : (x n t : ℤ) → (x +ℤ n *ℤ t) +ℤ n *ℤ neg_ℤ t ≡ x
back_again x n t = go (n *ℤ t) (n *ℤ neg_ℤ t) (times_neg n t) where
  go : (a b : ℤ) → b ≡ neg_ℤ a → (x +ℤ a) +ℤ b ≡ x
  go a b h = omega (arith, ints)

pub turned_gcd : (e : Segment) (s : ℕ) → s < 8 → gcd (unsigned_abs (across s e.dx e.dy)) (unsigned_abs (upward s e.dx e.dy)) ≡ 1
turned_gcd e s l = gcd_turned e.dx e.dy s l ∙ gcd_of e.dx e.dy e.proper

pub turned_direction : (e : Segment) (s : ℕ) → s < 8 → forward (across s e.dx e.dy) (upward s e.dx e.dy) ≡ true → direction (across s e.dx e.dy) (upward s e.dx e.dy) ≡ true
turned_direction e s l f = direction_from (across s e.dx e.dy) (upward s e.dx e.dy) f (turned_gcd e s l)

pub back_direction : (e : Segment) (s : ℕ) → s < 8 → forward (across s e.dx e.dy) (upward s e.dx e.dy) ≡ false → direction (neg_ℤ (across s e.dx e.dy)) (neg_ℤ (upward s e.dx e.dy)) ≡ true
back_direction e s l f =
    let g = turned_gcd e s l in
    let x = across s e.dx e.dy in
    let y = upward s e.dx e.dy in
    direction_from (neg_ℤ x) (neg_ℤ y) (turned_back x y f g) (gcd_neg x y ∙ g)

module _ (e : Segment) (s : ℕ) (u v : ℤ) (l : s < 8) where
  abbrev tx : ℤ
  tx = across s e.dx e.dy

  abbrev ty : ℤ
  ty = upward s e.dx e.dy

  abbrev px : ℤ
  px = across s e.x e.y +ℤ u

  abbrev py : ℤ
  py = upward s e.x e.y +ℤ v

  abbrev qx : ℤ
  qx = across s (upper_x e) (upper_y e) +ℤ u

  abbrev qy : ℤ
  qy = upward s (upper_x e) (upper_y e) +ℤ v

  ahead : forward tx ty ≡ true → segment_image s u v e ≡ segment px py tx ty e.edges
  ahead f = cond-true (forward tx ty) _ _ f

  behind : forward tx ty ≡ false → segment_image s u v e ≡ segment qx qy (neg_ℤ tx) (neg_ℤ ty) e.edges
  behind f = cond-false (forward tx ty) _ _ f

  right_is : qx ≡ px +ℤ e.edges *ℤ tx
  right_is = across_along s e.x e.y e.dx e.dy e.edges u l

  high_is : qy ≡ py +ℤ e.edges *ℤ ty
  high_is = upward_along s e.x e.y e.dx e.dy e.edges v l

  pub place_kept : (r : Segment) → r.edges ≡ e.edges → forward tx ty ≡ true → first r ≡ edge px py tx ty → Placed s u v e r
  place_kept r n f g = placed_by e r s u v (λ k. k) (λ k a b. (a, b)) (λ k. refl) n (λ k. image_along s u v k (first e) l ∙ kept px py tx ty k f ∙ ap (λ (a : Edge). along a k) (sym g))

  pub place_flipped : (r : Segment) → r.edges ≡ e.edges → forward tx ty ≡ false → first r ≡ edge (px +ℤ e.edges *ℤ tx) (py +ℤ e.edges *ℤ ty) (neg_ℤ tx) (neg_ℤ ty) → Placed s u v e r
  place_flipped r n f g = placed_by e r s u v (λ k. (e.edges -ℤ pos 1) -ℤ k) (λ k a b. (omega (arith, ints), omega (arith, ints))) (λ k. omega (arith, ints)) n (λ k. image_along s u v k (first e) l ∙ flipped px py tx ty e.edges k f ∙ ap (λ (a : Edge). along a ((e.edges -ℤ pos 1) -ℤ k)) (sym g))

  pub image_placed : (r : Segment) → segment_image s u v e ≡ Some r → Placed s u v e r
  image_placed r h = ⊎_elim
      (λ f.
      let k = segment_some px py tx ty e.edges r (sym (ahead f) ∙ h) in
      let a = k.left in
      let b = k.low in
      let c = k.across in
      let d = k.up in
      place_kept r k.edges f (λ i. edge (a i) (b i) (c i) (d i)))
      (λ f.
      let k = segment_some qx qy (neg_ℤ tx) (neg_ℤ ty) e.edges r (sym (behind f) ∙ h) in
      let a = k.left ∙ right_is in
      let b = k.low ∙ high_is in
      let c = k.across in
      let d = k.up in
      place_flipped r k.edges f (λ i. edge (a i) (b i) (c i) (d i)))
      (cases_Bool (forward tx ty))

  pub image_refused : segment_image s u v e ≡ None → (a : Edge) × Covers segment_model e a × (edge_field (edge_image s u v a) ≡ false)
  image_refused h = place_none e s u v l (λ a b c d. ⊎_elim
      (λ f. segment_refused px py tx ty e.edges (sym (ahead f) ∙ h) (record { proper = turned_direction e s l f; some = e.some; left = a; low = b; right = c; high = d }))
      (λ f. segment_refused qx qy (neg_ℤ tx) (neg_ℤ ty) e.edges (sym (behind f) ∙ h) (record { proper = back_direction e s l f; some = e.some; left = ap ranged right_is ∙ c; low = ap ranged high_is ∙ d; right = ap ranged (ap (λ (z : ℤ). z +ℤ e.edges *ℤ neg_ℤ tx) right_is ∙ back_again px e.edges tx) ∙ a; high = ap ranged (ap (λ (z : ℤ). z +ℤ e.edges *ℤ neg_ℤ ty) high_is ∙ back_again py e.edges ty) ∙ b }))
      (cases_Bool (forward tx ty)))
