-- Places and their numbers follow from what a drawing covers, and that from its record.
use Rattle.std.proofs.Common.{◌≡◌, ℕ, zero, suc, ◌<◌, true, false, ◌⊎◌, List, [], ◌∷◌, map, length, Some, None, sym, refl, ap, ◌∙◌, subst, inl, inr}
use Rattle.std.proofs.lemmas.Bool.{true≢false}
use Rattle.lattice.specs.declared.placement.Placement.{Placement}
use Rattle.kinds.specs.Model.{KindModel}
use Rattle.kinds.specs.Rules.{Rules}
use Rattle.sheets.proofs.Unique.{exactly_maximal, one_list}
use Rattle.grammar.specs.Answered.{Determined}
use Rattle.grammar.specs.Calls.{Call, stroke, pick, undo, count, next, list, Answer, refused, done, counted, next_is, listed, is_refused, Event, Seen, seen, Asks}
use Rattle.grammar.specs.Meaning.{Meaning}
use Rattle.grammar.specs.Moves.{Tells, Does, Accepts, Moves, History}
use Rattle.grammar.specs.Numbering.{PlacesNumbered, SameNumbers}
use Rattle.grammar.specs.Numbers.{nth, ordinal}
use Rattle.grammar.specs.Places.{Numbered, Listed}
use Rattle.grammar.specs.Record.{Step, Record, blank, Fed}
use Rattle.grammar.specs.Recorded.{Recorded}
use Rattle.grammar.specs.Refusals.{Refuses, Passes, EmptyLeft, BufferFull, table}
use Rattle.grammar.specs.Rules.{Rule, side, Filled, Alike}
use Rattle.grammar.specs.Sets.{Sets, SameCover}
use Rattle.grammar.specs.State.{Setting, State, begun, covered, Holds}
use Rattle.grammar.proofs.Exists.{numbered}
use Rattle.grammar.proofs.Landings.{steps_land}
use Rattle.grammar.proofs.Numbers.{some_one, none_some, one_number}
use Rattle.grammar.proofs.Record.{relisted, Keeps, runs, at_first, fed_one}
use Rattle.grammar.proofs.Uniform.{same_sets, one_list_of_places, same_places, one_answer, Level, level_refuses, level_passes, level_self, level_turned}

pub refused_one : {m n : ℕ} → refused m ≡ refused n → m ≡ n
refused_one h = cc

module _ {EM AM CM EC Ac CC : Type 0} (M : KindModel EM AM CM) (C : KindModel EC Ac CC) where
  same_turned : {S R : Sets AM Ac} → SameCover S R → SameCover R S
  same_turned h = record { marks = λ a. sym (h.marks a); cuts = λ a. sym (h.cuts a) }

  alike_turned : (rs qs : List (Rule EM EC)) → Alike M C rs qs → Alike M C qs rs
  alike_turned [] [] h = tt
  alike_turned [] (q ∷ qs) h = h
  alike_turned (r ∷ rs) [] h = h
  alike_turned (r ∷ rs) (q ∷ qs) h = (same_turned h.0, same_turned h.1, alike_turned rs qs h.2)

  -- the rule with the same number
  counterpart : (rs qs : List (Rule EM EC)) → Alike M C rs qs → (r : ℕ) (a : Rule EM EC) → nth rs r ≡ Some a → (b : Rule EM EC) × (nth qs r ≡ Some b) × (side M C a.left ≡ side M C b.left)
  counterpart [] [] h r a e = absurd (none_some e)
  counterpart [] (q ∷ qs) h r a e = absurd h
  counterpart (x ∷ rs) [] h r a e = absurd h
  counterpart (x ∷ rs) (q ∷ qs) h zero a e = absurd (none_some e)
  counterpart (x ∷ rs) (q ∷ qs) h (suc zero) a e = (q, refl, ap (λ (y : Rule EM EC). side M C y.left) (sym (some_one e)) ∙ same_sets h.0)
  counterpart (x ∷ rs) (q ∷ qs) h (suc (suc r)) a e = counterpart rs qs h.2 (suc r) a e

  missing : (rs qs : List (Rule EM EC)) → Alike M C rs qs → (r : ℕ) → nth rs r ≡ None → nth qs r ≡ None
  missing [] [] h r e = e
  missing [] (q ∷ qs) h r e = absurd h
  missing (x ∷ rs) [] h r e = absurd h
  missing (x ∷ rs) (q ∷ qs) h zero e = refl
  missing (x ∷ rs) (q ∷ qs) h (suc zero) e = absurd (none_some (sym e))
  missing (x ∷ rs) (q ∷ qs) h (suc (suc r)) e = missing rs qs h.2 (suc r) e

  carried : (rs qs : List (Rule EM EC)) (S R : Sets AM Ac) → Alike M C rs qs → S ≡ R → (r : ℕ) (l : Listed M C rs S r) → (k : Listed M C qs R r) × (k.places ≡ l.places)
  carried rs qs S R h e r l =
      let c = counterpart rs qs h r l.rule l.named in
      (record { rule = c.0; named = c.1; places = l.places; numbered = subst (λ (L : Sets AM Ac). Numbered M C L R l.places) c.2 (subst (λ (X : Sets AM Ac). Numbered M C (side M C l.rule.left) X l.places) e l.numbered) }, refl)

  -- an answer is a refusal by the table, or it passed the table
  abbrev pub Judged : Setting EM EC → State EM EC → Call EM EC → Answer → State EM EC → Type 0
  Judged t d c a d' = ((n : ℕ) × (a ≡ refused n) × Refuses (table M C t d c) n × (d' ≡ d)) ⊎ ((is_refused a ≡ false) × Accepts M C t d c a d')

  pub judged : (t : Setting EM EC) (d : State EM EC) (c : Call EM EC) (a : Answer) (d' : State EM EC) → Moves M C t d c a d' → Judged t d c a d'
  judged t d c (refused n) d' h = inl (n, refl, h.0, h.1)
  judged t d c done d' h = inr (refl, h)
  judged t d c (counted n) d' h = inr (refl, h)
  judged t d c (next_is o) d' h = inr (refl, h)
  judged t d c (listed n b) d' h = inr (refl, h)

  abbrev renumbered : {rules : List (Rule EM EC)} {S : Sets AM Ac} {q r : ℕ} → q ≡ r → Listed M C rules S q → Listed M C rules S r
  renumbered {rules} e l = record { rule = l.rule; named = ap (nth rules) (sym e) ∙ l.named; places = l.places; numbered = l.numbered }

  asked : (t : Setting EM EC) (d : State EM EC) (r : ℕ) (c : Call EM EC) (a : Answer) (d' : State EM EC) → Asks c r → Does M C t d c a d' → (l : Listed M C t.rules (covered M C d) r) × Tells l.places c a
  asked t d r (stroke s) a d' q h = absurd q
  asked t d r (pick n k) a d' q h = absurd q
  asked t d r undo a d' q h = absurd q
  asked t d r (count n) a d' q h = (renumbered q h.0, h.1)
  asked t d r (next n x) a d' q h = (renumbered q h.0, h.1)
  asked t d r (list n x) a d' q h = (renumbered q h.0, h.1)

  module _ (t u : Setting EM EC) (d e : State EM EC) (A : Alike M C t.rules u.rules) (B : covered M C d ≡ covered M C e) where
    empty_left : (r : ℕ) → EmptyLeft M C t r → EmptyLeft M C u r
    empty_left r h = let c = counterpart t.rules u.rules A r h.0 h.1 in (c.0, c.1, subst (λ (L : Sets AM Ac). Filled M C L → ⊥) c.2 h.2)

    buffer_full : (r : ℕ) (b : List Placement) → BufferFull M C t d r b → BufferFull M C u e r b
    buffer_full r b h = let k = carried t.rules u.rules (covered M C d) (covered M C e) A B r h.0 in (k.0, subst (λ (ps : List Placement). length b < length ps) (sym k.1) h.1)

  level : (t u : Setting EM EC) (d e : State EM EC) → Alike M C t.rules u.rules → covered M C d ≡ covered M C e → (r : ℕ) (c : Call EM EC) → Asks c r → Level (table M C t d c) (table M C u e c)
  level t u d e A B r (stroke s) q = absurd q
  level t u d e A B r (pick n k) q = absurd q
  level t u d e A B r undo q = absurd q
  level t u d e A B r (count n) q = let A' = alike_turned t.rules u.rules A in (refl, (missing _ _ A (ordinal n), missing _ _ A' (ordinal n)), (refl, (empty_left t u d e A B (ordinal n), empty_left u t e d A' (sym B) (ordinal n)), tt))
  level t u d e A B r (next n x) q = let A' = alike_turned t.rules u.rules A in (refl, (missing _ _ A (ordinal n), missing _ _ A' (ordinal n)), (refl, (empty_left t u d e A B (ordinal n), empty_left u t e d A' (sym B) (ordinal n)), tt))
  level t u d e A B r (list n x) q = let A' = alike_turned t.rules u.rules A in (refl, (missing _ _ A (ordinal n), missing _ _ A' (ordinal n)), (refl, (empty_left t u d e A B (ordinal n), empty_left u t e d A' (sym B) (ordinal n)), (refl, (buffer_full t u d e A B (ordinal n) x, buffer_full u t e d A' (sym B) (ordinal n) x), tt)))

  answered : (t u : Setting EM EC) (d e : State EM EC) → Alike M C t.rules u.rules → covered M C d ≡ covered M C e → (r : ℕ) (c : Call EM EC) (a b : Answer) (d' e' : State EM EC) → Asks c r → Moves M C t d c a d' → Moves M C u e c b e' → a ≡ b
  answered t u d e A B r c a b d' e' q h k = go (judged t d c a d' h) (judged u e c b e' k)
    where
      go : Judged t d c a d' → Judged u e c b e' → a ≡ b
      go (inl x) (inl y) = x.1 ∙ ap refused (level_refuses (table M C t d c) (table M C u e c) (level t u d e A B r c q) x.0 y.0 x.2 y.2) ∙ sym y.1
      go (inl x) (inr y) = absurd (level_passes (table M C t d c) (table M C u e c) (level t u d e A B r c q) x.0 x.2 y.1.0)
      go (inr x) (inl y) = absurd (level_passes (table M C u e c) (table M C t d c) (level_turned (table M C t d c) (table M C u e c) (level t u d e A B r c q)) y.0 y.2 x.1.0)
      go (inr x) (inr y) =
          let l = asked t d r c a d' q x.1.1 in
          let k = asked u e r c b e' q y.1.1 in
          let m = carried t.rules u.rules (covered M C d) (covered M C e) A B r l.0 in
          let s = same_places M C u.rules (covered M C e) r m.0 k.0 in
          one_answer l.0.places l.0.numbered.rise c a b l.1 (subst (λ (ps : List Placement). Tells ps c b) (sym s ∙ m.1) k.1)

  module _ (RM : Rules M) (RC : Rules C) where
    kept_in : (t : Setting EM EC) (es : List (Event EM EC)) (d : State EM EC) → History M C t es d → (b : Record EM EC) × Fed M C t.rules blank (map seen es) b × Keeps M C t.rules b d
    kept_in t es d h = runs M C t es blank begun d (at_first M C t) h

    pub one_drawing : (d e : State EM EC) (S S₀ : Sets AM Ac) (xs : List Step) → Holds M C d S S₀ xs → Holds M C e S S₀ xs → d ≡ e
    one_drawing d e S S₀ xs h k =
        let a = one_list M RM _ d.marks e.marks h.marks k.marks in
        let b = one_list C RC _ d.cuts e.cuts h.cuts k.cuts in
        let f = one_list M RM _ d.start_marks e.start_marks h.start_marks k.start_marks in
        let g = one_list C RC _ d.start_cuts e.start_cuts h.start_cuts k.start_cuts in
        let s = h.steps ∙ sym k.steps in
        λ i. record { marks = a i; cuts = b i; start_marks = f i; start_cuts = g i; steps = s i }

    numbering : (t : Setting EM EC) (d : State EM EC) → PlacesNumbered M C t d
    numbering t d = record {
      list = λ r rule e. numbered M C RM RC rule.left (covered M C d);
      one = λ r l p h. let x = l.numbered.each p h in (x.0, x.1, λ j e. one_number l.places l.numbered.rise j x.0 p e x.1);
      only = λ r l k p e. l.numbered.only k p e;
      rise = λ r l. l.numbered.rise;
      tells = λ r l c a d' q h w. seen_by r l c a d' q w (judged t d c a d' h);
    }
      where
        seen_by : (r : ℕ) (l : Listed M C t.rules (covered M C d) r) (c : Call EM EC) (a : Answer) (d' : State EM EC) → Asks c r → is_refused a ≡ false → Judged t d c a d' → Tells l.places c a
        seen_by r l c a d' q w (inl x) = absurd (true≢false (ap is_refused (sym x.1) ∙ w))
        seen_by r l c a d' q w (inr x) =
            let k = asked t d r c a d' q x.1.1 in
            subst (λ (ps : List Placement). Tells ps c a) (same_places M C t.rules (covered M C d) r k.0 l) k.1

    agreeing : (t u : Setting EM EC) (es fs : List (Event EM EC)) (d e : State EM EC) → History M C t es d → History M C u fs e → Alike M C t.rules u.rules → SameCover (covered M C d) (covered M C e) → SameNumbers M C t u d e
    agreeing t u es fs d e h k A B =
        let x = (kept_in t es d h).2 in
        let y = (kept_in u fs e k).2 in
        record {
          marks = one_list M RM _ d.marks e.marks (record { ordered = x.marks.ordered; covering = B.marks }) (record { ordered = y.marks.ordered; covering = λ a. refl });
          cuts = one_list C RC _ d.cuts e.cuts (record { ordered = x.cuts.ordered; covering = B.cuts }) (record { ordered = y.cuts.ordered; covering = λ a. refl });
          places = λ r l m. let c = carried t.rules u.rules (covered M C d) (covered M C e) A (same_sets B) r l in sym c.1 ∙ same_places M C u.rules (covered M C e) r c.0 m;
          answers = λ r c a b d' e' q v w. answered t u d e A (same_sets B) r c a b d' e' q v w;
        }

    recording : (t : Setting EM EC) (es : List (Event EM EC)) (d : State EM EC) → History M C t es d → Recorded M C t es d
    recording t es d h =
        let k = kept_in t es d h in
        record {
          kept = k.0;
          fed = k.1;
          sole = λ b f. fed_one M C t.rules (map seen es) blank b k.0 f k.1;
          holds = k.2;
          lands = λ i x rule e f. steps_land M C RM RC t es d h i x rule (ap (λ (xs : List Step). nth xs i) k.2.steps ∙ e) f;
          settles = λ e w. one_drawing e d _ _ _ w k.2;
          refuses = λ c a d' m n. (λ q. by_row c a d' n q (judged t d c a d' m), λ r. of_row c a d' n r (judged t d c a d' m));
          passes = λ c a d' m. (λ q. by_none c a d' q (judged t d c a d' m), λ p. of_none c a d' p (judged t d c a d' m));
          unchanged = λ c a d' m w. still c a d' w (judged t d c a d' m);
        }
      where
        by_row : (c : Call EM EC) (a : Answer) (d' : State EM EC) (n : ℕ) → a ≡ refused n → Judged t d c a d' → Refuses (table M C t d c) n
        by_row c a d' n q (inl x) = subst (λ (m : ℕ). Refuses (table M C t d c) m) (refused_one (sym x.1 ∙ q)) x.2
        by_row c a d' n q (inr x) = absurd (true≢false (ap is_refused (sym q) ∙ x.0))

        of_row : (c : Call EM EC) (a : Answer) (d' : State EM EC) (n : ℕ) → Refuses (table M C t d c) n → Judged t d c a d' → a ≡ refused n
        of_row c a d' n r (inl x) = x.1 ∙ ap refused (level_refuses (table M C t d c) (table M C t d c) (level_self (table M C t d c)) x.0 n x.2 r)
        of_row c a d' n r (inr x) = absurd (level_passes (table M C t d c) (table M C t d c) (level_self (table M C t d c)) n r x.1.0)

        by_none : (c : Call EM EC) (a : Answer) (d' : State EM EC) → is_refused a ≡ false → Judged t d c a d' → Passes (table M C t d c)
        by_none c a d' q (inl x) = absurd (true≢false (ap is_refused (sym x.1) ∙ q))
        by_none c a d' q (inr x) = x.1.0

        of_none : (c : Call EM EC) (a : Answer) (d' : State EM EC) → Passes (table M C t d c) → Judged t d c a d' → is_refused a ≡ false
        of_none c a d' p (inl x) = absurd (level_passes (table M C t d c) (table M C t d c) (level_self (table M C t d c)) x.0 x.2 p)
        of_none c a d' p (inr x) = x.0

        still : (c : Call EM EC) (a : Answer) (d' : State EM EC) → is_refused a ≡ true → Judged t d c a d' → d' ≡ d
        still c a d' w (inl x) = x.3
        still c a d' w (inr x) = absurd (true≢false (sym w ∙ x.0))

    pub meaning : Meaning M C
    meaning = record {
      marks_are_maximal = exactly_maximal M RM;
      cuts_are_maximal = exactly_maximal C RC;
      one_list_of_marks = one_list M RM;
      one_list_of_cuts = one_list C RC;
      every_place_has_one_number = λ t es d h. numbering t d;
      same_cover_same_numbers = agreeing;
      covered_as_recorded = recording;
    }

    pub determined : Determined M C
    determined = record {
      one_list_of_places = one_list_of_places M C;
      same_cover_same_places = λ rules d e h r l k. same_places M C rules (covered M C e) r (relisted M C (same_sets h) l) k;
      one_record = λ rules b m n xs f g. fed_one M C rules xs b m n f g;
      same_calls_same_drawing = same_drawing;
    }
      where
        same_drawing : (t u : Setting EM EC) → t.rules ≡ u.rules → (es fs : List (Event EM EC)) (d e : State EM EC) → History M C t es d → History M C u fs e → map seen es ≡ map seen fs → d ≡ e
        same_drawing t u q es fs d e h k s =
            let x = kept_in t es d h in
            let y = kept_in u fs e k in
            let f = subst (λ (rs : List (Rule EM EC)). Fed M C rs blank (map seen fs) x.0) q (subst (λ (z : List (Seen EM EC)). Fed M C t.rules blank z x.0) s x.1) in
            let w = fed_one M C u.rules (map seen fs) blank x.0 y.0 f y.1 in
            let v = subst (λ (b : Record EM EC). Keeps M C u.rules b d) w (subst (λ (rs : List (Rule EM EC)). Keeps M C rs x.0 d) q x.2) in
            one_drawing d e _ _ _ v y.2
