-- Numbers of a list, and lists that rise.
use Rattle.std.proofs.Common.{◌≡◌, ℕ, zero, suc, ◌<◌, ◌⊎◌, ◌↔◌, List, [], ◌∷◌, Some, None, sym, refl, ap, ◌∙◌, subst, inl, inr, arith}
use Rattle.std.proofs.lemmas.Bool.{cases_order}
use Rattle.lattice.specs.declared.placement.Placement.{Placement}
use Rattle.lattice.specs.Order.{triple, Earlier}
use Rattle.grammar.specs.Numbers.{nth}
use Rattle.grammar.proofs.Placements.{before_asym, never}

pub some_one : {A : Type 0} {x y : A} → Some x ≡ Some y → x ≡ y
some_one h = cc

pub none_some : {A : Type 0} {x : A} → None ≡ Some x → ⊥
none_some h = let z : ◌≡◌ {A = ℕ} 0 1 = cc in omega arith

-- membership, by numbers
abbrev pub Mem : {A : Type 0} → List A → A → Type 0
Mem xs x = (k : ℕ) × (nth xs k ≡ Some x)

abbrev pub Rises : List Placement → Type 0
Rises ps = (j k : ℕ) (p q : Placement) → nth ps j ≡ Some p → nth ps k ≡ Some q → j < k → Earlier p q

module _ {A : Type 0} where
  pub nth_zero : (xs : List A) → nth xs zero ≡ None
  nth_zero [] = refl
  nth_zero (x ∷ xs) = refl

  pub zero_none : (xs : List A) {x : A} → nth xs zero ≡ Some x → ⊥
  zero_none xs h = none_some (sym (nth_zero xs) ∙ h)

  pub later : (x : A) (xs : List A) (k : ℕ) (y : A) → nth xs k ≡ Some y → nth (x ∷ xs) (suc k) ≡ Some y
  later x xs zero y h = absurd (zero_none xs h)
  later x xs (suc k) y h = h

  -- the first, or one of the others
  pub split : (x : A) (xs : List A) (k : ℕ) (y : A) → nth (x ∷ xs) k ≡ Some y → ((k ≡ 1) × (x ≡ y)) ⊎ ((j : ℕ) × (k ≡ suc (suc j)) × (nth xs (suc j) ≡ Some y))
  split x xs zero y h = absurd (none_some h)
  split x xs (suc zero) y h = inl (refl, some_one h)
  split x xs (suc (suc k)) y h = inr (k, refl, h)

  pub mem_cons : (x : A) (xs : List A) (y : A) → Mem (x ∷ xs) y ↔ ((x ≡ y) ⊎ Mem xs y)
  mem_cons x xs y = (λ m. fore (split x xs m.0 y m.1), back)
    where
      fore : {k : ℕ} → ((k ≡ 1) × (x ≡ y)) ⊎ ((j : ℕ) × (k ≡ suc (suc j)) × (nth xs (suc j) ≡ Some y)) → (x ≡ y) ⊎ Mem xs y
      fore (inl h) = inl h.1
      fore (inr h) = inr (suc h.0, h.2)

      back : (x ≡ y) ⊎ Mem xs y → Mem (x ∷ xs) y
      back (inl h) = (1, ap Some h)
      back (inr m) = (suc m.0, later x xs m.0 y m.1)

pub rises_tail : (p : Placement) (ps : List Placement) → Rises (p ∷ ps) → Rises ps
rises_tail p ps h j k x y a b l = h (suc j) (suc k) x y (later p ps j x a) (later p ps k y b) (omega arith)

-- the first is earlier than all others
pub rises_head : (p : Placement) (ps : List Placement) → Rises (p ∷ ps) → (q : Placement) → Mem ps q → Earlier p q
rises_head p ps h q m = go m.0 m.1
  where
    go : (k : ℕ) → nth ps k ≡ Some q → Earlier p q
    go zero e = absurd (zero_none ps e)
    go (suc k) e = h 1 (suc (suc k)) p q refl e (omega arith)

-- a placement has one number at most
pub one_number : (ps : List Placement) → Rises ps → (j k : ℕ) (p : Placement) → nth ps j ≡ Some p → nth ps k ≡ Some p → j ≡ k
one_number ps h j k p a b = go (cases_order j k)
  where
    go : (j ≡ k) ⊎ ((j < k) ⊎ (k < j)) → j ≡ k
    go (inl e) = e
    go (inr (inl l)) = absurd (never p (h j k p p a b l))
    go (inr (inr l)) = absurd (never p (h k j p p b a l))

-- two rising lists with the same members are equal
pub same_list : (ps qs : List Placement) → Rises ps → Rises qs → ((p : Placement) → Mem ps p → Mem qs p) → ((p : Placement) → Mem qs p → Mem ps p) → ps ≡ qs
same_list [] [] h k f g = refl
same_list [] (q ∷ qs) h k f g = absurd (none_some (g q (1, refl)).1)
same_list (p ∷ ps) [] h k f g = absurd (none_some (f p (1, refl)).1)
same_list (p ∷ ps) (q ∷ qs) h k f g =
    let e : p ≡ q = heads ((mem_cons q qs p).0 (f p (1, refl))) ((mem_cons p ps q).0 (g q (1, refl))) in
    let r : ps ≡ qs = same_list ps qs (rises_tail p ps h) (rises_tail q qs k) (λ x m. fore e x m ((mem_cons q qs x).0 (f x ((mem_cons p ps x).1 (inr m))))) (λ x m. back e x m ((mem_cons p ps x).0 (g x ((mem_cons q qs x).1 (inr m))))) in
    λ i. e i ∷ r i
  where
    heads : ((q ≡ p) ⊎ Mem qs p) → ((p ≡ q) ⊎ Mem ps q) → p ≡ q
    heads (inl a) b = sym a
    heads (inr a) (inl b) = b
    heads (inr a) (inr b) = absurd (before_asym (triple p) (triple q) (rises_head p ps h q b) (rises_head q qs k p a))

    fore : p ≡ q → (x : Placement) → Mem ps x → ((q ≡ x) ⊎ Mem qs x) → Mem qs x
    fore e x m (inl a) = absurd (never x (subst (λ y. Earlier y x) (e ∙ a) (rises_head p ps h x m)))
    fore e x m (inr a) = a

    back : p ≡ q → (x : Placement) → Mem qs x → ((p ≡ x) ⊎ Mem ps x) → Mem ps x
    back e x m (inl a) = absurd (never x (subst (λ y. Earlier y x) (sym e ∙ a) (rises_head q qs k x m)))
    back e x m (inr a) = a
