-- The best of a part, and of two parts one after the other.
use Rattle.std.proofs.Common.{◌≡◌, ◌⊎◌, Some, None, Option, sym, refl, ◌∙◌, subst, inl, inr, ⊎_elim}
use Rattle.lattice.specs.declared.placement.Placement.{Placement}
use Rattle.lattice.specs.Order.{Triple, triple, Before, Earlier}
use Rattle.grammar.specs.Places.{LeastOf}
use Rattle.grammar.proofs.Numbers.{some_one, none_some}
use Rattle.grammar.proofs.Placements.{before_trans, compared}
use Rattle.search.specs.Steps.{After, Beats, Beaten, Tried, Improves}

pub after_of : (P : Placement → Type 0) (t : Triple) (o : Option Placement) → LeastOf P t o → After t o
after_of P t None h = tt
after_of P t (Some p) h = h.1

pub onward : (p x q : Placement) → (p ≡ x) ⊎ Earlier p x → (x ≡ q) ⊎ Earlier x q → (p ≡ q) ⊎ Earlier p q
onward p x q (inl a) (inl b) = inl (a ∙ b)
onward p x q (inl a) (inr b) = inr (subst (λ (z : Placement). Earlier z q) (sym a) b)
onward p x q (inr a) (inl b) = inr (subst (λ (z : Placement). Earlier p z) b a)
onward p x q (inr a) (inr b) = inr (before_trans (triple p) (triple x) (triple q) a b)

-- the same placements have the same first
pub least_same : (P Q : Placement → Type 0) (t : Triple) (o : Option Placement) → ((p : Placement) → P p → Q p) → ((p : Placement) → Q p → P p) → LeastOf P t o → LeastOf Q t o
least_same P Q t None f g h = λ p q w. h p (g p q) w
least_same P Q t (Some x) f g h = (f x h.0, h.1, λ p q w. h.2 p (g p q) w)

pub improves_same : (P Q : Placement → Type 0) (t : Triple) (b o : Option Placement) → ((p : Placement) → P p → Q p) → ((p : Placement) → Q p → P p) → Improves P t b o → Improves Q t b o
improves_same P Q t b o f g h a = least_same (λ p. P p ⊎ (b ≡ Some p)) (λ p. Q p ⊎ (b ≡ Some p)) t o (λ p. ⊎_elim (λ x. inl (f p x)) (λ x. inr x)) (λ p. ⊎_elim (λ x. inl (g p x)) (λ x. inr x)) (h a)

-- with none handed in
pub improves_none : (P : Placement → Type 0) (t : Triple) (o : Option Placement) → Improves P t None o → LeastOf P t o
improves_none P t o h = least_same (λ p. P p ⊎ (None ≡ Some p)) P t o (λ p. ⊎_elim (λ x. x) (λ x. absurd (none_some x))) (λ p x. inl x) (h tt)

-- nothing new
pub improves_nothing : (P : Placement → Type 0) (t : Triple) (b : Option Placement) → ((p : Placement) → P p → ⊥) → Improves P t b b
improves_nothing P t None n a = λ p h w. ⊎_elim (n p) none_some h
improves_nothing P t (Some x) n a = (inr refl, a, λ p h w. inl (⊎_elim (λ k. absurd (n p k)) some_one h))

-- one part, then another
module _ (P Q R : Placement → Type 0) (t : Triple) (b : Option Placement) (pr : (p : Placement) → P p → R p) (qr : (p : Placement) → Q p → R p) (rs : (p : Placement) → R p → P p ⊎ Q p) where
  sides : (p : Placement) → R p ⊎ (b ≡ Some p) → Q p ⊎ (P p ⊎ (b ≡ Some p))
  sides p (inl r) = ⊎_elim (λ x. inr (inl x)) (λ x. inl x) (rs p r)
  sides p (inr e) = inr (inr e)

  wide : (p : Placement) → P p ⊎ (b ≡ Some p) → R p ⊎ (b ≡ Some p)
  wide p (inl x) = inl (pr p x)
  wide p (inr e) = inr e

  both_least : (m r : Option Placement) → LeastOf (λ p. P p ⊎ (b ≡ Some p)) t m → LeastOf (λ p. Q p ⊎ (m ≡ Some p)) t r → LeastOf (λ p. R p ⊎ (b ≡ Some p)) t r
  both_least None None l k = λ p h w. ⊎_elim (λ x. k p (inl x) w) (λ x. l p x w) (sides p h)
  both_least (Some x) None l k = absurd (k x (inr refl) l.1)
  both_least None (Some p) l k = (
    ⊎_elim (λ y. inl (qr p y)) (λ e. absurd (none_some e)) k.0,
    k.1,
    λ q h w. ⊎_elim (λ x. k.2 q (inl x) w) (λ x. absurd (l q x w)) (sides q h),
  )
  both_least (Some x) (Some p) l k = (
    ⊎_elim (λ y. inl (qr p y)) (λ e. subst (λ (z : Placement). R z ⊎ (b ≡ Some z)) (some_one e) (wide x l.0)) k.0,
    k.1,
    λ q h w. ⊎_elim (λ y. k.2 q (inl y) w) (λ y. onward p x q (k.2 x (inr refl) l.1) (l.2 q y w)) (sides q h),
  )

  pub improves_both : (m r : Option Placement) → Improves P t b m → Improves Q t m r → Improves R t b r
  improves_both m r h k a = both_least m r (h a) (k (after_of (λ p. P p ⊎ (b ≡ Some p)) t m (h a)))

-- one candidate
module _ (P : Placement → Type 0) (t : Triple) (q : Placement) (F : Type 0) (to : F → P q) (only : (p : Placement) → P p → (q ≡ p) × F) where
  taken : (b : Option Placement) → F → Before t (triple q) → Beats q b → LeastOf (λ p. P p ⊎ (b ≡ Some p)) t (Some q)
  taken None f w k = (inl (to f), w, λ p h v. inl (⊎_elim (λ x. (only p x).0) (λ e. absurd (none_some e)) h))
  taken (Some x) f w k = (inl (to f), w, λ p h v. ⊎_elim (λ y. inl (only p y).0) (λ e. inr (subst (λ (z : Placement). Earlier q z) (some_one e) k)) h)

  left : (b : Option Placement) → After t b → (F → Before t (triple q) → Beaten q b) → LeastOf (λ p. P p ⊎ (b ≡ Some p)) t b
  left None a n = λ p h w. ⊎_elim (λ x. let y = only p x in n y.1 (subst (λ (z : Placement). Before t (triple z)) (sym y.0) w)) none_some h
  left (Some x) a n = (inr refl, a, λ p h w. ⊎_elim (λ k. let y = only p k in onward x q p (n y.1 (subst (λ (z : Placement). Before t (triple z)) (sym y.0) w)) (inl y.0)) (λ e. inl (some_one e)) h)

  pub improves_tried : (b r : Option Placement) → Tried t b q F r → Improves P t b r
  improves_tried b r (inl x) a = subst (λ (o : Option Placement). LeastOf (λ p. P p ⊎ (b ≡ Some p)) t o) (sym x.0) (taken b x.1 x.2 x.3)
  improves_tried b r (inr x) a = subst (λ (o : Option Placement). LeastOf (λ p. P p ⊎ (b ≡ Some p)) t o) (sym x.0) (left b a x.1)

pub beaten : (q b : Placement) → (Earlier q b → ⊥) → Beaten q (Some b)
beaten q b n = ⊎_elim (λ h. absurd (n h)) (⊎_elim (λ e. inl (sym e)) (λ h. inr h)) (compared q b)
