-- The list of places is one, and depends on the covered sets alone; refusals by rows.
use Rattle.std.proofs.Common.{◌≡◌, ℕ, ◌↔◌, List, [], ◌∷◌, Some, None, Option, sym, refl, ap, ◌∙◌, subst, inl, inr, le_antisymm}
use Rattle.lattice.specs.declared.placement.Placement.{Placement}
use Rattle.lattice.specs.Order.{Triple}
use Rattle.kinds.specs.Model.{KindModel}
use Rattle.grammar.specs.Calls.{Call, stroke, pick, undo, count, next, list, Answer, next_is}
use Rattle.grammar.specs.Moves.{Tells}
use Rattle.grammar.specs.Numbers.{nth}
use Rattle.grammar.specs.Places.{Numbered, Listed, First}
use Rattle.grammar.specs.Refusals.{Row, Refuses, Passes}
use Rattle.grammar.specs.Rules.{Rule, side}
use Rattle.grammar.specs.Sets.{Sets, SameCover}
use Rattle.grammar.proofs.Numbers.{some_one, Rises, same_list}

pub same_sets : {AM Ac : Type 0} {S R : Sets AM Ac} → SameCover S R → S ≡ R
same_sets h = λ i. record { marks = λ a. h.marks a i; cuts = λ a. h.cuts a i }

module _ {EM AM CM EC Ac CC : Type 0} (M : KindModel EM AM CM) (C : KindModel EC Ac CC) where
  pub one_list_of_places : (L S : Sets AM Ac) (ps qs : List Placement) → Numbered M C L S ps → Numbered M C L S qs → ps ≡ qs
  one_list_of_places L S ps qs h k = same_list ps qs h.rise k.rise (λ p m. k.each p (h.only m.0 p m.1)) (λ p m. h.each p (k.only m.0 p m.1))

  pub same_places : (rules : List (Rule EM EC)) (S : Sets AM Ac) (r : ℕ) (l k : Listed M C rules S r) → l.places ≡ k.places
  same_places rules S r l k =
      let e : l.rule ≡ k.rule = some_one (sym l.named ∙ k.named) in
      one_list_of_places (side M C k.rule.left) S l.places k.places (subst (λ (x : Rule EM EC). Numbered M C (side M C x.left) S l.places) e l.numbered) k.numbered

-- the first after t is one
pub one_first : (ps : List Placement) → Rises ps → (t : Triple) (o u : Option Placement) → First ps t o → First ps t u → o ≡ u
one_first ps h t None None a b = refl
one_first ps h t None (Some q) a b = absurd (a b.0 q b.1 b.2)
one_first ps h t (Some p) None a b = absurd (b a.0 p a.1 a.2)
one_first ps h t (Some p) (Some q) a b = sym a.1 ∙ ap (nth ps) (le_antisymm (a.3 b.0 q b.1 b.2) (b.3 a.0 p a.1 a.2)) ∙ b.1

pub one_answer : {EM EC : Type 0} (ps : List Placement) → Rises ps → (c : Call EM EC) (a b : Answer) → Tells ps c a → Tells ps c b → a ≡ b
one_answer ps h (stroke s) a b x y = absurd x
one_answer ps h (pick r k) a b x y = absurd x
one_answer ps h undo a b x y = absurd x
one_answer ps h (count r) a b x y = x ∙ sym y
one_answer ps h (next r t) a b x y = x.1 ∙ ap next_is (one_first ps h t x.0 y.0 x.2 y.2) ∙ sym y.1
one_answer ps h (list r buffer) a b x y = x ∙ sym y

-- the rows of two tables, given together
abbrev pub Level : List Row → List Row → Type 0
Level [] [] = Unit {0}
Level [] (y ∷ ys) = ⊥
Level (x ∷ xs) [] = ⊥
Level (x ∷ xs) (y ∷ ys) = (x.number ≡ y.number) × (x.given ↔ y.given) × Level xs ys

pub level_refuses : (xs ys : List Row) → Level xs ys → (m n : ℕ) → Refuses xs m → Refuses ys n → m ≡ n
level_refuses [] [] l m n a b = absurd a
level_refuses [] (y ∷ ys) l m n a b = absurd a
level_refuses (x ∷ xs) [] l m n a b = absurd b
level_refuses (x ∷ xs) (y ∷ ys) l m n (inl a) (inl b) = a.1 ∙ l.0 ∙ sym b.1
level_refuses (x ∷ xs) (y ∷ ys) l m n (inl a) (inr b) = absurd (b.0 (l.1.0 a.0))
level_refuses (x ∷ xs) (y ∷ ys) l m n (inr a) (inl b) = absurd (a.0 (l.1.1 b.0))
level_refuses (x ∷ xs) (y ∷ ys) l m n (inr a) (inr b) = level_refuses xs ys l.2 m n a.1 b.1

pub level_passes : (xs ys : List Row) → Level xs ys → (n : ℕ) → Refuses xs n → Passes ys → ⊥
level_passes [] [] l n a b = a
level_passes [] (y ∷ ys) l n a b = a
level_passes (x ∷ xs) [] l n a b = l
level_passes (x ∷ xs) (y ∷ ys) l n (inl a) b = b.0 (l.1.0 a.0)
level_passes (x ∷ xs) (y ∷ ys) l n (inr a) b = level_passes xs ys l.2 n a.1 b.1

pub level_self : (xs : List Row) → Level xs xs
level_self [] = tt
level_self (x ∷ xs) = (refl, (λ h. h, λ h. h), level_self xs)

pub level_turned : (xs ys : List Row) → Level xs ys → Level ys xs
level_turned [] [] l = tt
level_turned [] (y ∷ ys) l = l
level_turned (x ∷ xs) [] l = l
level_turned (x ∷ xs) (y ∷ ys) l = (sym l.0, (l.1.1, l.1.0), level_turned xs ys l.2)
