-- The orders that carriers have, of any kind.
use Rattle.std.specs.Prelude.{◌≡◌, true, ◌&&◌, refl}
use Rattle.std.specs.declared.cmp.Ordering.TheVariants.{Less, Equal, Greater}
use Rattle.std.specs.declared.cmp.Ordering.{Ordering}
use Rattle.std.proofs.Common.{arith, rules}
use Rattle.std.specs.Ordering.{is_eq, ordering_then}
use Rattle.std.proofs.lemmas.Int.{ints}
use Rattle.lattice.specs.Compare.{ordering}
use Rattle.kinds.specs.Rules.{Ordered}

pub ordered_numbers : Ordered ordering
ordered_numbers = record {
  same = λ a b h. grind (arith, ints);
  self = λ a. grind (arith, ints);
  turn = λ a b. grind (arith, ints);
  trans = λ a b c h k. grind (arith, ints);
}

-- by one order, and where that finds no difference by another
pub ordered_then : {C A B : Type 0} {one : A → A → Ordering} {two : B → B → Ordering} (f : C → A) (g : C → B) → ((a b : C) → f a ≡ f b → g a ≡ g b → a ≡ b) → Ordered one → Ordered two → Ordered (λ (a b : C). ordering_then (one (f a) (f b)) (two (g a) (g b)))
ordered_then f g apart o p = record {
  same = λ a b h. search rules;
  self = λ a. search rules;
  turn = λ a b. search rules;
  trans = λ a b c h k. search rules;
}

pub equal_from : (o : Ordering) → is_eq o ≡ true → o ≡ Equal
equal_from Less h = absurd (search rules)
equal_from Equal h = refl
equal_from Greater h = absurd (search rules)

pub then_equal : (o p : Ordering) → is_eq (ordering_then o p) ≡ (is_eq o && is_eq p)
then_equal Less p = refl
then_equal Equal p = refl
then_equal Greater p = refl
