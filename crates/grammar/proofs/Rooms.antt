-- What stood before a step fits again.
use Rattle.std.proofs.Common.{◌≡◌, ℕ, ◌+◌, ◌<◌, ◌≤◌, ◌⊎◌, List, [], ◌∷◌, ◌++◌, length, Some, sym, refl, ap, ◌∙◌, subst, inl, inr, ⊎_elim, append_assoc, arith}
use Rattle.std.proofs.lemmas.Bool.{cases_lt}
use Rattle.kinds.specs.Model.{KindModel}
use Rattle.kinds.specs.Rules.{Rules}
use Rattle.sheets.proofs.Unique.{one_list}
use Rattle.grammar.specs.Again.{Room, Again}
use Rattle.grammar.specs.Calls.{Call, stroke, pick, undo, count, next, list, Answer, refused, done, counted, next_is, listed, Event}
use Rattle.grammar.specs.Moves.{Accepts, Moves, Runs, History}
use Rattle.grammar.specs.Numbers.{nth, ordinal}
use Rattle.grammar.specs.Record.{Step, Record, blank, stepped}
use Rattle.grammar.specs.Sets.{Sets}
use Rattle.grammar.specs.State.{Setting, State, begun, covered, started}
use Rattle.grammar.proofs.Record.{covered_is, started_is, Keeps, moves, at_first}

cons_none : {A : Type 0} (xs : List A) (x : A) (ys : List A) → [] ≡ xs ++ x ∷ ys → ⊥
cons_none [] x ys h = let z : 0 ≡ length (x ∷ ys) = ap length h in omega arith
cons_none (y ∷ zs) x ys h = let z : 0 ≡ length (y ∷ (zs ++ x ∷ ys)) = ap length h in omega arith

no_steps : {A : Type 0} (xs : List A) → (0 < length xs → ⊥) → xs ≡ []
no_steps [] h = refl
no_steps (x ∷ xs) h = absurd (h (omega arith))

not_more : (m n : ℕ) → (n < m → ⊥) → m ≤ n
not_more m n h = ⊎_elim (λ l. absurd (h l)) (λ l. l) (cases_lt n m)

-- the last of a list is x, or stands behind it
parted : {A : Type 0} (older : List A) (x : A) (newer steps : List A) (y : A) → steps ++ y ∷ [] ≡ older ++ x ∷ newer → ((older ≡ steps) × (x ≡ y)) ⊎ ((more : List A) × (steps ≡ older ++ x ∷ more))
parted [] x newer [] y h = let e : x ≡ y = cc in inl (refl, e)
parted [] x newer (s ∷ ss) y h = let e : s ≡ x = cc in inr (ss, ap (λ z. z ∷ ss) e)
parted (o ∷ os) x newer [] y h = let e : [] ≡ os ++ x ∷ newer = cc in absurd (cons_none os x newer e)
parted (o ∷ os) x newer (s ∷ ss) y h =
    let e : s ≡ o = cc in
    let r : ss ++ y ∷ [] ≡ os ++ x ∷ newer = cc in
    go e (parted os x newer ss y r)
  where
    go : s ≡ o → ((os ≡ ss) × (x ≡ y)) ⊎ ((more : List _) × (ss ≡ os ++ x ∷ more)) → ((o ∷ os ≡ s ∷ ss) × (x ≡ y)) ⊎ ((more : List _) × (s ∷ ss ≡ (o ∷ os) ++ x ∷ more))
    go e (inl k) = let p = k.0 in inl ((λ i. sym e i ∷ p i), k.1)
    go e (inr k) = let p = k.1 in inr (k.0, λ i. e i ∷ p i)

module _ {EM AM CM EC Ac CC : Type 0} (M : KindModel EM AM CM) (C : KindModel EC Ac CC) (RM : Rules M) (RC : Rules C) (t : Setting EM EC) where
  -- the sets of a drawing are those of its start copy and its steps
  pub now_is : (b : Record EM EC) (d : State EM EC) → Keeps M C t.rules b d → covered M C d ≡ stepped M C t.rules (started M C d) d.steps
  now_is b d k = covered_is M C k ∙ ap (λ (S : Sets AM Ac). stepped M C t.rules S b.steps) (sym (started_is M C k)) ∙ ap (stepped M C t.rules (started M C d)) (sym k.steps)

  same_room : (d d' : State EM EC) → d' ≡ d → Again M C t d → Again M C t d'
  same_room d d' e h = subst (λ (x : State EM EC). Again M C t x) (sym e) h

  room_does : (b : Record EM EC) (d : State EM EC) (c : Call EM EC) (a : Answer) (d' : State EM EC) → Keeps M C t.rules b d → Again M C t d → Accepts M C t d c a d' → Again M C t d'
  room_does b d (stroke s) a d' k g h older newer x rule e f = absurd (cons_none older x newer (sym (h.1.1.steps ∙ no_steps d.steps h.0.0) ∙ e))
  room_does b d (pick r n) a d' k g h older newer x rule e f = go (parted older x newer d.steps (record { rule = ordinal r; at = h.1.2 }) (sym h.1.4.steps ∙ e))
    where
      q : started M C d ≡ started M C d'
      q = sym (started_is M C h.1.4)

      go : ((older ≡ d.steps) × (x ≡ record { rule = ordinal r; at = h.1.2 })) ⊎ ((more : List Step) × (d.steps ≡ older ++ x ∷ more)) → Room M C t (stepped M C t.rules (started M C d') older) rule
      go (inr z) = subst (λ (S : Sets AM Ac). Room M C t (stepped M C t.rules S older) rule) q (g older z.0 x rule z.1 f)
      go (inl z) =
          let w : covered M C d ≡ stepped M C t.rules (started M C d') older = now_is b d k ∙ ap (λ (S : Sets AM Ac). stepped M C t.rules S d.steps) q ∙ ap (stepped M C t.rules (started M C d')) (sym z.0) in
          let v : nth t.rules (ordinal r) ≡ Some rule = ap (λ (y : Step). nth t.rules y.rule) (sym z.1) ∙ f in
          let n = h.0.1.1.1.1.1.0 in
          subst (λ (S : Sets AM Ac). Room M C t S rule) w (record {
            marks = λ es m. let s = one_list M RM _ es d.marks m (record { ordered = k.marks.ordered; covering = λ a. refl }) in not_more _ _ (λ l. n (rule, v, inl (subst (λ (xs : List EM). t.mark_slots < length xs + length rule.left.marks + length rule.right.marks) s l)));
            cuts = λ es m. let s = one_list C RC _ es d.cuts m (record { ordered = k.cuts.ordered; covering = λ a. refl }) in not_more _ _ (λ l. n (rule, v, inr (subst (λ (xs : List EC). t.cut_slots < length xs + length rule.left.cuts + length rule.right.cuts) s l)));
          })
  room_does b d undo a d' k g h older newer x rule e f =
      subst (λ (S : Sets AM Ac). Room M C t (stepped M C t.rules S older) rule) (sym (started_is M C h.1.4))
      (g older (newer ++ h.1.2 ∷ []) x rule (h.1.3 ∙ ap (λ (xs : List Step). xs ++ h.1.2 ∷ []) (sym h.1.4.steps ∙ e) ∙ append_assoc older (x ∷ newer) (h.1.2 ∷ [])) f)
  room_does b d (count r) a d' k g h older newer x rule e f = same_room d d' h.1.2 g older newer x rule e f
  room_does b d (next r y) a d' k g h older newer x rule e f = same_room d d' h.1.2 g older newer x rule e f
  room_does b d (list r y) a d' k g h older newer x rule e f = same_room d d' h.1.2 g older newer x rule e f

  room_moves : (b : Record EM EC) (d : State EM EC) (c : Call EM EC) (a : Answer) (d' : State EM EC) → Keeps M C t.rules b d → Again M C t d → Moves M C t d c a d' → Again M C t d'
  room_moves b d c (refused n) d' k g h = same_room d d' h.1 g
  room_moves b d c done d' k g h = room_does b d c done d' k g h
  room_moves b d c (counted n) d' k g h = room_does b d c (counted n) d' k g h
  room_moves b d c (next_is o) d' k g h = room_does b d c (next_is o) d' k g h
  room_moves b d c (listed n x) d' k g h = room_does b d c (listed n x) d' k g h

  room_runs : (es : List (Event EM EC)) (b : Record EM EC) (d d' : State EM EC) → Keeps M C t.rules b d → Again M C t d → Runs M C t d es d' → Again M C t d'
  room_runs [] b d d' k g h = same_room d d' h g
  room_runs (e ∷ es) b d d' k g h =
      let m = moves M C t b d e.call e.answer h.0 k h.1 in
      room_runs es m.0 h.0 d' m.2 (room_moves b d e.call e.answer h.0 k g h.1) h.2

  pub room_again : (es : List (Event EM EC)) (d : State EM EC) → History M C t es d → Again M C t d
  room_again es d h = room_runs es blank begun d (at_first M C t) (λ older newer x rule e f. absurd (cons_none older x newer e)) h
