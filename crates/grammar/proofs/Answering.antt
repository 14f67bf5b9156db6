-- Every call has one answer.
use Rattle.std.proofs.Common.{◌≡◌, ℕ, zero, suc, ◌+◌, ◌<◌, ◌≤◌, true, false, ◌⊎◌, List, [], ◌∷◌, ◌++◌, length, drop, ℤ, ◌<ℤ◌, Some, None, Option, sym, refl, ap, ◌∙◌, subst, inl, inr, arith}
use native.Mathlib.Decide.{dec_le, dec_lt}
use lib.Signed.{lt_z}
use Rattle.std.proofs.lemmas.Int.{ints}
use Rattle.std.proofs.lemmas.Bool.{false≢true, or_cases, or_left, or_right}
use Rattle.lattice.specs.declared.placement.Placement.{Placement}
use Rattle.lattice.specs.Order.{Triple, triple, Before}
use Rattle.kinds.specs.Model.{KindModel, covers, moved}
use Rattle.kinds.specs.Rules.{Rules}
use Rattle.kinds.proofs.Numbers.{lt_from, lt_to}
use Rattle.sheets.specs.Cover.{cover}
use Rattle.sheets.proofs.Unique.{one_list}
use Rattle.grammar.specs.Answered.{EveryCallHasOneAnswer}
use Rattle.grammar.specs.Calls.{Stroke, Call, stroke, pick, undo, count, next, list, Answer, refused, done, counted, next_is, listed}
use Rattle.grammar.specs.Moves.{Does, Moves}
use Rattle.grammar.specs.Numbers.{nth, ordinal}
use Rattle.grammar.specs.Places.{Listed, First}
use Rattle.grammar.specs.Record.{Step, stroked, replaced, stepped}
use Rattle.grammar.specs.Refusals.{Row, Refuses, Passes, NoRule, EmptyLeft, NoPlace, Leaves, LeavesField, NoRoom, SheetFull, BufferFull, table}
use Rattle.grammar.specs.Rules.{Side, Rule, side, Filled}
use Rattle.grammar.specs.Sets.{Sets}
use Rattle.grammar.specs.State.{Setting, State, covered, started, Holds}
use Rattle.grammar.proofs.Bounds.{Bound, bound_lists, bound_stroked, bound_replaced, bound_stepped}
use Rattle.grammar.proofs.Exists.{decided, dec_by, dec_and, dec_some, dec_or, numbered}
use Rattle.grammar.proofs.Listing.{list_of_set}
use Rattle.grammar.proofs.Numbers.{some_one, none_some, later, split}
use Rattle.grammar.proofs.Placements.{trichotomy}
use Rattle.grammar.proofs.Record.{snoc_one}
use Rattle.grammar.proofs.Settling.{Judged, judged, one_drawing}
use Rattle.grammar.proofs.Uniform.{same_places, one_answer, level_refuses, level_passes, level_self}

dec_not : {P : Type 0} → Dec P → Dec (P → ⊥)
dec_not (yes p) = no (λ h. h p)
dec_not (no h) = yes h

dec_none : {X : Type 0} (o : Option X) → Dec (o ≡ None)
dec_none None = yes refl
dec_none (Some x) = no (λ h. none_some (sym h))

-- a table whose rows are decided
abbrev Known : List Row → Type 0
Known [] = Unit {0}
Known (x ∷ xs) = Dec x.given × Known xs

decide : (xs : List Row) → Known xs → ((n : ℕ) × Refuses xs n) ⊎ Passes xs
decide [] k = inr tt
decide (x ∷ xs) k = go k.0 (decide xs k.1)
  where
    go : Dec x.given → ((n : ℕ) × Refuses xs n) ⊎ Passes xs → ((n : ℕ) × Refuses (x ∷ xs) n) ⊎ Passes (x ∷ xs)
    go (yes h) r = inl (x.number, inl (h, refl))
    go (no h) (inl r) = inl (r.0, inr (h, r.1))
    go (no h) (inr r) = inr (h, r)

-- the first place after a triple
dec_lt_z : (a b : ℤ) → Dec (a <ℤ b)
dec_lt_z a b = dec_by (decided (lt_z a b)) (lt_from a b) (lt_to a b)

dec_eq : (a b : ℤ) → Dec (a ≡ b)
dec_eq a b = go (trichotomy a b)
  where
    go : (a <ℤ b) ⊎ ((a ≡ b) ⊎ (b <ℤ a)) → Dec (a ≡ b)
    go (inl h) = no (λ e. omega (arith, ints))
    go (inr (inl e)) = yes e
    go (inr (inr h)) = no (λ e. omega (arith, ints))

dec_before : (a b : Triple) → Dec (Before a b)
dec_before a b = dec_or (dec_lt_z a.turn b.turn) (dec_and (dec_eq a.turn b.turn) (dec_or (dec_lt_z a.across b.across) (dec_and (dec_eq a.across b.across) (dec_lt_z a.up b.up))))

first_after : (ps : List Placement) (t : Triple) → (o : Option Placement) × First ps t o
first_after [] t = (None, λ k p e b. none_some e)
first_after (p ∷ ps) t = go (dec_before t (triple p)) (first_after ps t).0 (first_after ps t).1
  where
    at_least : (j : ℕ) (q : Placement) → nth (p ∷ ps) j ≡ Some q → 1 ≤ j
    at_least zero q e = absurd (none_some e)
    at_least (suc j) q e = omega arith

    go : Dec (Before t (triple p)) → (o : Option Placement) → First ps t o → (o : Option Placement) × First (p ∷ ps) t o
    go (yes b) o f = (Some p, (1, refl, b, λ j q e c. at_least j q e))
    go (no n) None f = (None, λ k q e b. case k q b (split p ps k q e))
      where
        case : (k : ℕ) (q : Placement) → Before t (triple q) → ((k ≡ 1) × (p ≡ q)) ⊎ ((j : ℕ) × (k ≡ suc (suc j)) × (nth ps (suc j) ≡ Some q)) → ⊥
        case k q b (inl x) = n (subst (λ (y : Placement). Before t (triple y)) (sym x.1) b)
        case k q b (inr x) = f (suc x.0) q x.2 b
    go (no n) (Some q) f = (Some q, (suc f.0, later p ps f.0 q f.1, f.2, λ j r e b. case j r b (split p ps j r e)))
      where
        case : (j : ℕ) (r : Placement) → Before t (triple r) → ((j ≡ 1) × (p ≡ r)) ⊎ ((i : ℕ) × (j ≡ suc (suc i)) × (nth ps (suc i) ≡ Some r)) → suc f.0 ≤ j
        case j r b (inl x) = absurd (n (subst (λ (y : Placement). Before t (triple y)) (sym x.1) b))
        case j r b (inr x) = let m = f.3 (suc x.0) r x.2 b in let e = x.1 in omega arith

last_of : {A : Type 0} (x : A) (xs : List A) → (ys : List A) × (y : A) × (x ∷ xs ≡ ys ++ y ∷ [])
last_of x [] = ([], x, refl)
last_of x (z ∷ zs) = let r = last_of z zs in (x ∷ r.0, r.1, ap (λ xs. x ∷ xs) r.2)

-- whether a placed list leaves the field
leaves_list : {E A C : Type 0} (K : KindModel E A C) → Rules K → (p : Placement) → (es : List E) → Dec ((a : A) × (cover K es a ≡ true) × (K.field (moved K p a) ≡ false))
leaves_list K R p [] = no (λ h. false≢true h.1)
leaves_list K R p (e ∷ es) = go (K.place p e) refl (leaves_list K R p es)
  where
    go : (o : Option _) → K.place p e ≡ o → Dec ((a : _) × (cover K es a ≡ true) × (K.field (moved K p a) ≡ false)) → Dec ((a : _) × (cover K (e ∷ es) a ≡ true) × (K.field (moved K p a) ≡ false))
    go None q r = let x = (R.refused p e).0 q in yes (x.0, or_left (covers K e x.0) (cover K es x.0) x.1, x.2)
    go (Some f) q (yes x) = yes (x.0, or_right (covers K e x.0) (cover K es x.0) x.1, x.2)
    go (Some f) q (no n) = no (λ h. case h.0 h.2 (or_cases (covers K e h.0) (cover K es h.0) h.1))
      where
        case : (a : _) → K.field (moved K p a) ≡ false → (covers K e a ≡ true) ⊎ (cover K es a ≡ true) → ⊥
        case a i (inl k) = none_some (sym ((R.refused p e).1 (a, k, i)) ∙ q)
        case a i (inr k) = n (a, k, i)

module _ {EM AM CM EC Ac CC : Type 0} (M : KindModel EM AM CM) (C : KindModel EC Ac CC) where
  module _ (RM : Rules M) (RC : Rules C) where
    made : (S S₀ : Sets AM Ac) → Bound M C S → Bound M C S₀ → (xs : List Step) → (d : State EM EC) × Holds M C d S S₀ xs
    made S S₀ h k xs =
        let a = list_of_set M RM h.marks.elements S.marks h.marks.all in
        let b = list_of_set C RC h.cuts.elements S.cuts h.cuts.all in
        let f = list_of_set M RM k.marks.elements S₀.marks k.marks.all in
        let g = list_of_set C RC k.cuts.elements S₀.cuts k.cuts.all in
        (record { marks = a.0; cuts = b.0; start_marks = f.0; start_cuts = g.0; steps = xs }, record { marks = a.1; cuts = b.1; start_marks = f.1; start_cuts = g.1; steps = refl })

    module _ (t : Setting EM EC) (d : State EM EC) where
      bound_now : Bound M C (covered M C d)
      bound_now = bound_lists M C d.marks d.cuts

      bound_start : Bound M C (started M C d)
      bound_start = bound_lists M C d.start_marks d.start_cuts

      dec_listed : (r : ℕ) → Dec (Listed M C t.rules (covered M C d) r)
      dec_listed r = go (nth t.rules r) refl
        where
          go : (o : Option (Rule EM EC)) → nth t.rules r ≡ o → Dec (Listed M C t.rules (covered M C d) r)
          go None e = no (λ l. none_some (sym e ∙ l.named))
          go (Some rule) e = let n = numbered M C RM RC rule.left (covered M C d) in yes (record { rule = rule; named = e; places = n.0; numbered = n.1 })

      -- a rule that is there has its list
      list_of : (r : ℕ) → (NoRule M C t r → ⊥) → Listed M C t.rules (covered M C d) r
      list_of r h = go (nth t.rules r) refl
        where
          go : (o : Option (Rule EM EC)) → nth t.rules r ≡ o → Listed M C t.rules (covered M C d) r
          go None e = absurd (h e)
          go (Some rule) e = let n = numbered M C RM RC rule.left (covered M C d) in record { rule = rule; named = e; places = n.0; numbered = n.1 }

      dec_empty_left : (r : ℕ) → Dec (EmptyLeft M C t r)
      dec_empty_left r = go (nth t.rules r) refl
        where
          go : (o : Option (Rule EM EC)) → nth t.rules r ≡ o → Dec (EmptyLeft M C t r)
          go None e = no (λ h. none_some (sym e ∙ h.1))
          go (Some rule) e = dec_by (dec_not (dec_or (dec_some M RM rule.left.marks) (dec_some C RC rule.left.cuts))) (λ n. (rule, e, n)) (λ h. subst (λ (x : Rule EM EC). Filled M C (side M C x.left) → ⊥) (some_one (sym h.1 ∙ e)) h.2)

      dec_no_place : (r k : ℕ) → Dec (NoPlace M C t d r k)
      dec_no_place r k = go (dec_listed r)
        where
          go : Dec (Listed M C t.rules (covered M C d) r) → Dec (NoPlace M C t d r k)
          go (no n) = no (λ h. n h.0)
          go (yes l) = dec_by (dec_none (nth l.places k)) (λ e. (l, e)) (λ h. ap (λ ps. nth ps k) (same_places M C t.rules (covered M C d) r l h.0) ∙ h.1)

      dec_leaves : (p : Placement) (s : Side EM EC) → Dec (Leaves M C p s)
      dec_leaves p s = dec_or (leaves_list M RM p s.marks) (leaves_list C RC p s.cuts)

      dec_leaves_field : (r k : ℕ) → Dec (LeavesField M C t d r k)
      dec_leaves_field r k = go (dec_listed r)
        where
          same : (l m : Listed M C t.rules (covered M C d) r) → nth l.places k ≡ nth m.places k
          same l m = ap (λ ps. nth ps k) (same_places M C t.rules (covered M C d) r l m)

          at : (l : Listed M C t.rules (covered M C d) r) (o : Option Placement) → nth l.places k ≡ o → Dec (LeavesField M C t d r k)
          at l None e = no (λ h. none_some (sym e ∙ same l h.0 ∙ h.2))
          at l (Some p) e =
              dec_by (dec_leaves p l.rule.right) (λ x. (l, p, e, x))
              (λ h. let q = some_one (sym h.2 ∙ same h.0 l ∙ e) in
              let w = some_one (sym h.0.named ∙ l.named) in
              subst (λ (x : Rule EM EC). Leaves M C p x.right) w (subst (λ (y : Placement). Leaves M C y h.0.rule.right) q h.3))

          go : Dec (Listed M C t.rules (covered M C d) r) → Dec (LeavesField M C t d r k)
          go (no n) = no (λ h. n h.0)
          go (yes l) = at l (nth l.places k) refl

      dec_no_room : (r : ℕ) → Dec (NoRoom M C t d r)
      dec_no_room r = go (nth t.rules r) refl
        where
          go : (o : Option (Rule EM EC)) → nth t.rules r ≡ o → Dec (NoRoom M C t d r)
          go None e = no (λ h. none_some (sym e ∙ h.1))
          go (Some rule) e = dec_by (dec_or (dec_lt _ _) (dec_lt _ _)) (λ x. (rule, e, x)) (λ h. subst (λ (x : Rule EM EC). (t.mark_slots < length d.marks + length x.left.marks + length x.right.marks) ⊎ (t.cut_slots < length d.cuts + length x.left.cuts + length x.right.cuts)) (some_one (sym h.1 ∙ e)) h.2)

      dec_sheet_full : (s : Stroke EM EC) → Dec (SheetFull M C t d s)
      dec_sheet_full s =
          let S = stroked M C (covered M C d) s in
          let b = bound_stroked M C (covered M C d) s bound_now in
          let x = list_of_set M RM b.marks.elements S.marks b.marks.all in
          let y = list_of_set C RC b.cuts.elements S.cuts b.cuts.all in
          dec_or (dec_by (dec_lt t.mark_slots (length x.0)) (λ h. (x.0, x.1, h)) (λ h. subst (λ (es : List EM). t.mark_slots < length es) (one_list M RM _ h.0 x.0 h.1 x.1) h.2))
          (dec_by (dec_lt t.cut_slots (length y.0)) (λ h. (y.0, y.1, h)) (λ h. subst (λ (es : List EC). t.cut_slots < length es) (one_list C RC _ h.0 y.0 h.1 y.1) h.2))

      dec_buffer_full : (r : ℕ) (b : List Placement) → Dec (BufferFull M C t d r b)
      dec_buffer_full r b = go (dec_listed r)
        where
          go : Dec (Listed M C t.rules (covered M C d) r) → Dec (BufferFull M C t d r b)
          go (no n) = no (λ h. n h.0)
          go (yes l) = dec_by (dec_lt (length b) (length l.places)) (λ e. (l, e)) (λ h. subst (λ (ps : List Placement). length b < length ps) (same_places M C t.rules (covered M C d) r h.0 l) h.1)

      dec_stepless : (xs : List Step) → Dec (length xs ≡ 0)
      dec_stepless [] = yes refl
      dec_stepless (x ∷ xs) = no (λ h. omega arith)

      known : (c : Call EM EC) → Known (table M C t d c)
      known (stroke s) = (dec_lt 0 (length d.steps), (dec_sheet_full s, tt))
      known (pick r k) = (dec_none (nth t.rules (ordinal r)), (dec_empty_left (ordinal r), (dec_no_place (ordinal r) (ordinal k), (dec_leaves_field (ordinal r) (ordinal k), (dec_le t.step_slots (length d.steps), (dec_no_room (ordinal r), tt))))))
      known undo = (dec_stepless d.steps, tt)
      known (count r) = (dec_none (nth t.rules (ordinal r)), (dec_empty_left (ordinal r), tt))
      known (next r x) = (dec_none (nth t.rules (ordinal r)), (dec_empty_left (ordinal r), tt))
      known (list r b) = (dec_none (nth t.rules (ordinal r)), (dec_empty_left (ordinal r), (dec_buffer_full (ordinal r) b, tt)))

      pass : (c : Call EM EC) → Passes (table M C t d c) → (a : Answer) × (d' : State EM EC) × Moves M C t d c a d'
      pass (stroke s) h =
          let m = made (stroked M C (covered M C d) s) (stroked M C (started M C d) s) (bound_stroked M C (covered M C d) s bound_now) (bound_stroked M C (started M C d) s bound_start) d.steps in
          (done, m.0, (h, (refl, m.1)))
      pass (pick r k) h = let l = list_of (ordinal r) h.0 in at l (nth l.places (ordinal k)) refl
        where
          at : (l : Listed M C t.rules (covered M C d) (ordinal r)) (o : Option Placement) → nth l.places (ordinal k) ≡ o → (a : Answer) × (d' : State EM EC) × Moves M C t d (pick r k) a d'
          at l None e = absurd (h.1.1.0 (l, e))
          at l (Some p) e =
              let m = made (replaced M C p l.rule (covered M C d)) (started M C d) (bound_replaced M C p l.rule (covered M C d) bound_now) bound_start (d.steps ++ record { rule = ordinal r; at = p } ∷ []) in
              (done, m.0, (h, (refl, l, p, e, m.1)))
      pass undo h = at d.steps refl
        where
          at : (xs : List Step) → d.steps ≡ xs → (a : Answer) × (d' : State EM EC) × Moves M C t d undo a d'
          at [] e = absurd (h.0 (ap length e))
          at (x ∷ xs) e =
              let z = last_of x xs in
              let m = made (stepped M C t.rules (started M C d) z.0) (started M C d) (bound_stepped M C t.rules z.0 (started M C d) bound_start) bound_start z.0 in
              (done, m.0, (h, (refl, z.0, z.1, e ∙ z.2, m.1)))
      pass (count r) h = let l = list_of (ordinal r) h.0 in (counted (length l.places), d, (h, (l, refl, refl)))
      pass (next r x) h = let l = list_of (ordinal r) h.0 in let f = first_after l.places x in (next_is f.0, d, (h, (l, (f.0, refl, f.1), refl)))
      pass (list r b) h = let l = list_of (ordinal r) h.0 in (listed (length l.places) (l.places ++ drop (length l.places) b), d, (h, (l, refl, refl)))

      some_answer : (c : Call EM EC) → (a : Answer) × (d' : State EM EC) × Moves M C t d c a d'
      some_answer c = go (decide (table M C t d c) (known c))
        where
          go : ((n : ℕ) × Refuses (table M C t d c) n) ⊎ Passes (table M C t d c) → (a : Answer) × (d' : State EM EC) × Moves M C t d c a d'
          go (inl x) = (refused x.0, d, (x.1, refl))
          go (inr x) = pass c x

      same_does : (c : Call EM EC) (a b : Answer) (d' e' : State EM EC) → Does M C t d c a d' → Does M C t d c b e' → (a ≡ b) × (d' ≡ e')
      same_does (stroke s) a b d' e' h k = (h.0 ∙ sym k.0, one_drawing M C RM RC d' e' _ _ _ h.1 k.1)
      same_does (pick r n) a b d' e' h k =
          let p : h.2 ≡ k.2 = some_one (sym h.3 ∙ ap (λ ps. nth ps (ordinal n)) (same_places M C t.rules (covered M C d) (ordinal r) h.1 k.1) ∙ k.3) in
          let w : h.1.rule ≡ k.1.rule = some_one (sym h.1.named ∙ k.1.named) in
          (h.0 ∙ sym k.0, one_drawing M C RM RC d' e' _ _ _ (subst (λ (q : Placement). Holds M C d' (replaced M C q k.1.rule (covered M C d)) (started M C d) (d.steps ++ record { rule = ordinal r; at = q } ∷ [])) p (subst (λ (x : Rule EM EC). Holds M C d' (replaced M C h.2 x (covered M C d)) (started M C d) (d.steps ++ record { rule = ordinal r; at = h.2 } ∷ [])) w h.4)) k.4)
      same_does undo a b d' e' h k =
          let o = snoc_one h.1 k.1 h.2 k.2 (sym h.3 ∙ k.3) in
          (h.0 ∙ sym k.0, one_drawing M C RM RC d' e' _ _ _ (subst (λ (xs : List Step). Holds M C d' (stepped M C t.rules (started M C d) xs) (started M C d) xs) o h.4) k.4)
      same_does (count r) a b d' e' h k = let s = same_places M C t.rules (covered M C d) (ordinal r) h.0 k.0 in (h.1 ∙ ap (λ ps. counted (length ps)) s ∙ sym k.1, h.2 ∙ sym k.2)
      same_does (next r x) a b d' e' h k =
          let s = same_places M C t.rules (covered M C d) (ordinal r) h.0 k.0 in
          let f = k.1.2 in
          (one_answer {EM = EM} {EC = EC} h.0.places h.0.numbered.rise (next r x) a b h.1 (k.1.0, k.1.1, subst (λ (ps : List Placement). First ps x k.1.0) (sym s) f), h.2 ∙ sym k.2)
      same_does (list r x) a b d' e' h k = let s = same_places M C t.rules (covered M C d) (ordinal r) h.0 k.0 in (h.1 ∙ ap (λ ps. listed (length ps) (ps ++ drop (length ps) x)) s ∙ sym k.1, h.2 ∙ sym k.2)

      pub one_way : (c : Call EM EC) (a b : Answer) (d' e' : State EM EC) → Moves M C t d c a d' → Moves M C t d c b e' → (a ≡ b) × (d' ≡ e')
      one_way c a b d' e' h k = go (judged M C t d c a d' h) (judged M C t d c b e' k)
        where
          go : Judged M C t d c a d' → Judged M C t d c b e' → (a ≡ b) × (d' ≡ e')
          go (inl x) (inl y) = (x.1 ∙ ap refused (level_refuses (table M C t d c) (table M C t d c) (level_self (table M C t d c)) x.0 y.0 x.2 y.2) ∙ sym y.1, x.3 ∙ sym y.3)
          go (inl x) (inr y) = absurd (level_passes (table M C t d c) (table M C t d c) (level_self (table M C t d c)) x.0 x.2 y.1.0)
          go (inr x) (inl y) = absurd (level_passes (table M C t d c) (table M C t d c) (level_self (table M C t d c)) y.0 y.2 x.1.0)
          go (inr x) (inr y) = same_does c a b d' e' x.1.1 y.1.1

    pub every_call_has_one_answer : EveryCallHasOneAnswer M C
    every_call_has_one_answer t es d h = record { some = some_answer t d; one = one_way t d }
