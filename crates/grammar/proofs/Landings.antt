-- Every step of a history lands on the images of its rule's sides.
use Rattle.std.proofs.Common.{◌≡◌, ℕ, zero, suc, true, false, ◌⊎◌, ◌↔◌, List, [], ◌∷◌, ◌++◌, Some, None, Option, sym, refl, ap, ◌∙◌, subst, inl, inr}
use Rattle.std.proofs.lemmas.Bool.{false≢true, both_ways, or_cases, or_left, or_right}
use Rattle.lattice.specs.declared.placement.Placement.{Placement}
use Rattle.kinds.specs.Model.{KindModel, covers, moved}
use Rattle.kinds.specs.Rules.{Rules}
use Rattle.sheets.specs.Cover.{cover}
use Rattle.grammar.specs.Calls.{Call, stroke, pick, undo, count, next, list, Answer, refused, done, counted, next_is, listed, Event}
use Rattle.grammar.specs.Moves.{Accepts, Moves, Runs, History}
use Rattle.grammar.specs.Numbers.{nth, ordinal}
use Rattle.grammar.specs.Places.{Place}
use Rattle.grammar.specs.Record.{Step}
use Rattle.grammar.specs.Recorded.{Lands}
use Rattle.grammar.specs.Refusals.{Leaves}
use Rattle.grammar.specs.Rules.{Side, Rule, side}
use Rattle.grammar.specs.Sets.{Set, atoms, placed}
use Rattle.grammar.specs.State.{Setting, State, begun, covered}
use Rattle.grammar.proofs.Numbers.{some_one, none_some}

-- a side that stays in the field lands on the images of its atoms
module _ {E A C : Type 0} (K : KindModel E A C) (R : Rules K) (p : Placement) where
  abbrev Image : Set A → A → Type 0
  Image S b = (a : A) × (S a ≡ true) × (moved K p a ≡ b)

  land_one : (e : E) (o : Option E) → K.place p e ≡ o → ((a : A) → (covers K e a ≡ true) → K.field (moved K p a) ≡ false → ⊥) → (b : A) → (atoms K o b ≡ true) ↔ Image (covers K e) b
  land_one e None h n b = let x = (R.refused p e).0 h in absurd (n x.0 x.1 x.2)
  land_one e (Some f) h n b = R.placed p e f h b

  landing : (es : List E) → ((a : A) → (cover K es a ≡ true) → K.field (moved K p a) ≡ false → ⊥) → (b : A) → (placed K p es b ≡ true) ↔ Image (cover K es) b
  landing [] n b = (λ h. absurd (false≢true h), λ h. absurd (false≢true h.1))
  landing (e ∷ es) n b =
      let one = land_one e (K.place p e) refl (λ a h. n a (or_left (covers K e a) (cover K es a) h)) b in
      let rest = landing es (λ a h. n a (or_right (covers K e a) (cover K es a) h)) b in
      (λ h. fore one.0 rest.0 (or_cases _ _ h), λ h. back one.1 rest.1 h.0 h.2 (or_cases _ _ h.1))
    where
      fore : ((atoms K (K.place p e) b ≡ true) → Image (covers K e) b) → ((placed K p es b ≡ true) → Image (cover K es) b) → (atoms K (K.place p e) b ≡ true) ⊎ (placed K p es b ≡ true) → Image (cover K (e ∷ es)) b
      fore f g (inl h) = let x = f h in (x.0, or_left (covers K e x.0) (cover K es x.0) x.1, x.2)
      fore f g (inr h) = let x = g h in (x.0, or_right (covers K e x.0) (cover K es x.0) x.1, x.2)

      back : (Image (covers K e) b → (atoms K (K.place p e) b ≡ true)) → (Image (cover K es) b → (placed K p es b ≡ true)) → (a : A) → moved K p a ≡ b → (covers K e a ≡ true) ⊎ (cover K es a ≡ true) → (placed K p (e ∷ es) b ≡ true)
      back f g a i (inl h) = or_left (atoms K (K.place p e) b) (placed K p es b) (f (a, h, i))
      back f g a i (inr h) = or_right (atoms K (K.place p e) b) (placed K p es b) (g (a, h, i))

pub covers_field : {E A C : Type 0} (K : KindModel E A C) → Rules K → (es : List E) (a : A) → (cover K es a ≡ true) → (K.field a ≡ true)
covers_field K R [] a h = absurd (false≢true h)
covers_field K R (e ∷ es) a h = go (covers_field K R es a) (or_cases _ _ h)
  where
    go : ((cover K es a ≡ true) → (K.field a ≡ true)) → (covers K e a ≡ true) ⊎ (cover K es a ≡ true) → (K.field a ≡ true)
    go w (inl k) = R.inside e a k
    go w (inr k) = w k

nth_snoc : {A : Type 0} (xs : List A) (x : A) (i : ℕ) (y : A) → nth (xs ++ x ∷ []) i ≡ Some y → (nth xs i ≡ Some y) ⊎ (x ≡ y)
nth_snoc [] x zero y h = absurd (none_some h)
nth_snoc [] x (suc zero) y h = inr (some_one h)
nth_snoc [] x (suc (suc i)) y h = absurd (none_some h)
nth_snoc (z ∷ zs) x zero y h = absurd (none_some h)
nth_snoc (z ∷ zs) x (suc zero) y h = inl h
nth_snoc (z ∷ zs) x (suc (suc i)) y h = nth_snoc zs x (suc i) y h

nth_front : {A : Type 0} (xs : List A) (x : A) (i : ℕ) (y : A) → nth xs i ≡ Some y → nth (xs ++ x ∷ []) i ≡ Some y
nth_front [] x i y h = absurd (none_some h)
nth_front (z ∷ zs) x zero y h = absurd (none_some h)
nth_front (z ∷ zs) x (suc zero) y h = h
nth_front (z ∷ zs) x (suc (suc i)) y h = nth_front zs x (suc i) y h

module _ {EM AM CM EC Ac CC : Type 0} (M : KindModel EM AM CM) (C : KindModel EC Ac CC) (RM : Rules M) (RC : Rules C) where
  lands_both : (p : Placement) (s : Side EM EC) → (Leaves M C p s → ⊥) → Lands M C p s
  lands_both p s n = record { marks = landing M RM p s.marks (λ a h o. n (inl (a, h, o))); cuts = landing C RC p s.cuts (λ a h o. n (inr (a, h, o))) }

  -- a place is in the field
  place_stays : (l : Side EM EC) (d : State EM EC) (p : Placement) → Place M C (side M C l) (covered M C d) p → Leaves M C p l → ⊥
  place_stays l d p h (inl x) = both_ways _ x.2 (covers_field M RM d.marks _ (h.marks x.0 x.1))
  place_stays l d p h (inr x) = both_ways _ x.2 (covers_field C RC d.cuts _ (h.cuts x.0 x.1))

  abbrev Land : List (Rule EM EC) → List Step → Type 0
  Land rules xs = (i : ℕ) (x : Step) (rule : Rule EM EC) → nth xs i ≡ Some x → nth rules x.rule ≡ Some rule → Lands M C x.at rule.left × Lands M C x.at rule.right

  module _ (t : Setting EM EC) where
    keep_land : (xs ys : List Step) → ys ≡ xs → Land t.rules xs → Land t.rules ys
    keep_land xs ys e h = subst (λ (zs : List Step). Land t.rules zs) (sym e) h

    land_does : (d : State EM EC) (c : Call EM EC) (a : Answer) (d' : State EM EC) → Land t.rules d.steps → Accepts M C t d c a d' → Land t.rules d'.steps
    land_does d (stroke s) a d' k h = keep_land _ _ h.1.1.steps k
    land_does d (pick r n) a d' k h = keep_land _ _ h.1.4.steps (λ i y rule e f. go i y rule f (nth_snoc d.steps (record { rule = ordinal r; at = h.1.2 }) i y e))
      where
        here : (rule : Rule EM EC) → nth t.rules (ordinal r) ≡ Some rule → Lands M C h.1.2 rule.left × Lands M C h.1.2 rule.right
        here rule f =
            let l = h.1.1 in
            let P = l.numbered.only (ordinal n) h.1.2 h.1.3 in
            subst (λ (x : Rule EM EC). Lands M C h.1.2 x.left × Lands M C h.1.2 x.right) (some_one (sym l.named ∙ f)) (
              lands_both h.1.2 l.rule.left (place_stays l.rule.left d h.1.2 P),
              lands_both h.1.2 l.rule.right (λ x. h.0.1.1.1.0 (l, h.1.2, h.1.3, x)),
            )

        go : (i : ℕ) (y : Step) (rule : Rule EM EC) → nth t.rules y.rule ≡ Some rule → (nth d.steps i ≡ Some y) ⊎ (record { rule = ordinal r; at = h.1.2 } ≡ y) → Lands M C y.at rule.left × Lands M C y.at rule.right
        go i y rule f (inl e) = k i y rule e f
        go i y rule f (inr e) =
            subst (λ (p : Placement). Lands M C p rule.left × Lands M C p rule.right) (ap (λ (x : Step). x.at) e) (here rule (ap (λ (x : Step). nth t.rules x.rule) e ∙ f))
    land_does d undo a d' k h = keep_land _ _ h.1.4.steps (λ i y rule e f. k i y rule (ap (λ (xs : List Step). nth xs i) h.1.3 ∙ nth_front h.1.1 h.1.2 i y e) f)
    land_does d (count r) a d' k h = keep_land _ _ (ap (λ (x : State EM EC). x.steps) h.1.2) k
    land_does d (next r x) a d' k h = keep_land _ _ (ap (λ (x : State EM EC). x.steps) h.1.2) k
    land_does d (list r x) a d' k h = keep_land _ _ (ap (λ (x : State EM EC). x.steps) h.1.2) k

    land_moves : (d : State EM EC) (c : Call EM EC) (a : Answer) (d' : State EM EC) → Land t.rules d.steps → Moves M C t d c a d' → Land t.rules d'.steps
    land_moves d c (refused n) d' k h = keep_land _ _ (ap (λ (x : State EM EC). x.steps) h.1) k
    land_moves d c done d' k h = land_does d c done d' k h
    land_moves d c (counted n) d' k h = land_does d c (counted n) d' k h
    land_moves d c (next_is o) d' k h = land_does d c (next_is o) d' k h
    land_moves d c (listed n b) d' k h = land_does d c (listed n b) d' k h

    land_runs : (es : List (Event EM EC)) (d d' : State EM EC) → Land t.rules d.steps → Runs M C t d es d' → Land t.rules d'.steps
    land_runs [] d d' k h = keep_land _ _ (ap (λ (x : State EM EC). x.steps) h) k
    land_runs (e ∷ es) d d' k h = land_runs es h.0 d' (land_moves d e.call e.answer h.0 k h.1) h.2

    pub steps_land : (es : List (Event EM EC)) (d : State EM EC) → History M C t es d → Land t.rules d.steps
    steps_land es d h = land_runs es begun d (λ i x rule e f. absurd (none_some e)) h
