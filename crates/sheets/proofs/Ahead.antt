-- One element before another.
use Rattle.std.proofs.Common.{◌≡◌, true, false, ◌&&◌, ◌||◌, ◌⊎◌, ◌≤ℤ◌, ◌<ℤ◌, Ordering, Less, Equal, Greater, sym, refl, ap, ◌∙◌, inl, inr, ⊎_elim, arith}
use lib.Signed.{lt_z}
use Rattle.std.specs.Ordering.{is_lt, is_eq, ordering_reverse}
use Rattle.std.proofs.lemmas.Bool.{false≢true, true≢false}
use Rattle.std.proofs.lemmas.Int.{ints}
use Rattle.kinds.specs.Model.{KindModel}
use Rattle.kinds.specs.Rules.{Rules, Touch}
use Rattle.kinds.proofs.Numbers.{lt_from, lt_to, cases_lt_z}
use Rattle.kinds.proofs.Having.{Has}
use Rattle.kinds.proofs.Standing.{nonempty}
use Rattle.sheets.specs.Cover.{ahead}

pub less_equal : {o : Ordering} → o ≡ Less → o ≡ Equal → ⊥
less_equal p q = let z : ◌≡◌ {A = Ordering} Less Equal = sym p ∙ q in let y : true ≡ false = ap is_lt z in true≢false y

module _ {E A C : Type 0} (m : KindModel E A C) where
  abbrev pub Ahead : E → E → Type 0
  Ahead x y = (m.order (m.carrier x) (m.carrier y) ≡ Less) ⊎ ((m.carrier x ≡ m.carrier y) × (m.end x <ℤ m.start y))

  module _ (r : Rules m) where
    ahead_by : (x y : E) (o : Ordering) → m.order (m.carrier x) (m.carrier y) ≡ o → (is_lt o || (is_eq o && lt_z (m.end x) (m.start y))) ≡ true → Ahead x y
    ahead_by x y Less q h = inl q
    ahead_by x y Equal q h = inr (r.ordered.same _ _ q, lt_from _ _ h)
    ahead_by x y Greater q h = absurd (false≢true h)

    pub ahead_from : (x y : E) → ahead m x y ≡ true → Ahead x y
    unfolding ahead
    ahead_from x y h = ahead_by x y (m.order (m.carrier x) (m.carrier y)) refl h

    pub ahead_to : (x y : E) → Ahead x y → ahead m x y ≡ true
    unfolding ahead
    ahead_to x y (inl q) = ap (λ o. is_lt o || (is_eq o && lt_z (m.end x) (m.start y))) q
    ahead_to x y (inr p) =
        let q : m.order (m.carrier x) (m.carrier y) ≡ Equal = ap (λ c. m.order (m.carrier x) c) (sym p.0) ∙ r.ordered.self (m.carrier x) in
        ap (λ o. is_lt o || (is_eq o && lt_z (m.end x) (m.start y))) q ∙ lt_to _ _ p.1

    ahead_trans_by : (x y z : E) → Ahead x y → Ahead y z → Ahead x z
    ahead_trans_by x y z (inl p) (inl q) = inl (r.ordered.trans _ _ _ p q)
    ahead_trans_by x y z (inl p) (inr q) = inl (ap (λ c. m.order (m.carrier x) c) (sym q.0) ∙ p)
    ahead_trans_by x y z (inr p) (inl q) = inl (ap (λ c. m.order c (m.carrier z)) p.0 ∙ q)
    ahead_trans_by x y z (inr p) (inr q) = let n = nonempty m r y in inr (p.0 ∙ q.0, omega (arith, ints, p.1, q.1))

    pub ahead_trans : (x y z : E) → ahead m x y ≡ true → ahead m y z ≡ true → ahead m x z ≡ true
    ahead_trans x y z h k = ahead_to x z (ahead_trans_by x y z (ahead_from x y h) (ahead_from y z k))

    -- on one carrier, what stands after x lies past its end
    gap_by : (x y : E) → Ahead x y → m.carrier x ≡ m.carrier y → m.end x <ℤ m.start y
    gap_by x y (inl q) c = absurd (less_equal q (ap (λ d. m.order (m.carrier x) d) (sym c) ∙ r.ordered.self (m.carrier x)))
    gap_by x y (inr p) c = p.1

    pub gap : (x y : E) → ahead m x y ≡ true → m.carrier x ≡ m.carrier y → m.end x <ℤ m.start y
    gap x y h c = gap_by x y (ahead_from x y h) c

    pub ahead_self : (x : E) → ahead m x x ≡ true → ⊥
    ahead_self x h = let n = nonempty m r x in let g = gap x x h refl in omega (arith, ints)

    pub ahead_turn : (x y : E) → ahead m x y ≡ true → ahead m y x ≡ true → ⊥
    ahead_turn x y h k = ahead_self x (ahead_trans x y x h k)

    pub past : (x y : E) (a : A) → ahead m x y ≡ true → m.carrier x ≡ m.on a → Has m y a → m.end x <ℤ m.at a
    past x y a h c k = let g = gap x y h (c ∙ sym k.on) in omega (arith, ints, k.from)

    -- what does not touch w stands before it or after it
    apart_by : (a b : E) (o : Ordering) → m.order (m.carrier a) (m.carrier b) ≡ o → (Touch m a b → ⊥) → Ahead a b ⊎ Ahead b a
    apart_by a b Less q h = inl (inl q)
    apart_by a b Equal q h =
        let s = r.ordered.same _ _ q in
        ⊎_elim (λ l. inl (inr (s, l))) (λ l. ⊎_elim (λ k. inr (inr (sym s, k))) (λ k. absurd (h (record { same = s; left = k; right = l }))) (cases_lt_z (m.end b) (m.start a))) (cases_lt_z (m.end a) (m.start b))
    apart_by a b Greater q h = inr (inl (r.ordered.turn (m.carrier a) (m.carrier b) ∙ ap ordering_reverse q))

    pub apart : (a b : E) → (Touch m a b → ⊥) → (ahead m a b ≡ true) ⊎ (ahead m b a ≡ true)
    apart a b h = ⊎_elim (λ p. inl (ahead_to a b p)) (λ p. inr (ahead_to b a p)) (apart_by a b (m.order (m.carrier a) (m.carrier b)) refl h)

    -- what lies in y from its start on stands after x too, and what lies in y up to its end before t
    later_by : (x y p : E) → Ahead x y → m.carrier p ≡ m.carrier y → m.start y ≤ℤ m.start p → Ahead x p
    later_by x y p (inl q) c h = inl (ap (λ d. m.order (m.carrier x) d) c ∙ q)
    later_by x y p (inr k) c h = let l = k.1 in inr (k.0 ∙ sym c, omega (arith, ints))

    pub ahead_later : (x y p : E) → ahead m x y ≡ true → m.carrier p ≡ m.carrier y → m.start y ≤ℤ m.start p → ahead m x p ≡ true
    ahead_later x y p k c h = ahead_to x p (later_by x y p (ahead_from x y k) c h)

    sooner_by : (y t p : E) → Ahead y t → m.carrier p ≡ m.carrier y → m.end p ≤ℤ m.end y → Ahead p t
    sooner_by y t p (inl q) c h = inl (ap (λ d. m.order d (m.carrier t)) c ∙ q)
    sooner_by y t p (inr k) c h = let l = k.1 in inr (c ∙ k.0, omega (arith, ints))

    pub ahead_sooner : (y t p : E) → ahead m y t ≡ true → m.carrier p ≡ m.carrier y → m.end p ≤ℤ m.end y → ahead m p t ≡ true
    ahead_sooner y t p k c h = ahead_to p t (sooner_by y t p (ahead_from y t k) c h)
