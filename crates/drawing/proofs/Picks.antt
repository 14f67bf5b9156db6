-- A rule applied at one of its places.
use Rattle.std.proofs.Common.{◌≡◌, ℕ, ◌+◌, ◌<◌, ◌≤◌, Bool, true, false, ◌&&◌, ◌⊎◌, List, [], ◌∷◌, ◌++◌, map, length, take, set, ℤ, Some, sym, refl, ap, ◌∙◌, subst, inl, inr, arith}
use Rattle.std.proofs.lemmas.Bool.{cases_lt}
use Rattle.std.proofs.lemmas.List.{take_more_set, length-set, length-take, map-append}
use Rattle.lattice.specs.declared.placement.Placement.{Placement}
use Rattle.kinds.specs.Model.{KindModel}
use Rattle.kinds.specs.Rules.{Rules}
use Rattle.sheets.specs.Contents.{items, room, Sound}
use Rattle.sheets.specs.Maximal.{Lists}
use Rattle.sheets.specs.declared.sheet.Sheet.{Sheet}
use Rattle.grammar.specs.Calls.{Answer, Event, pick, done, refused}
use Rattle.grammar.specs.Numbers.{nth, ordinal}
use Rattle.grammar.specs.Places.{Place, Numbered, Listed}
use Rattle.grammar.specs.Record.{Step, replaced}
use Rattle.grammar.specs.Refusals.{NoRule, EmptyLeft, NoPlace, Leaves, LeavesField, StepsFull, NoRoom}
use Rattle.grammar.specs.Rules.{Rule, side, Filled}
use Rattle.grammar.specs.State.{Setting, covered, started}
use Rattle.grammar.proofs.Numbers.{some_one, none_some}
use Rattle.grammar.proofs.Uniform.{same_places}
use Rattle.rulebook.specs.Rulebooks.{rules_of, rule_of}
use Rattle.rulebook.specs.declared.records.RuleRecord.{RuleRecord}
use Rattle.drawing.specs.Changes.{stays, Turned}
use Rattle.drawing.specs.Steps.{Fits, Stepped, Listing}
use Rattle.drawing.specs.View.{step_of, taken, state, setting, Lived, Goes}
use Rattle.drawing.specs.declared.drawing.Drawing.{Drawing}
use Rattle.drawing.specs.declared.records.StepRecord.{StepRecord}
use Rattle.drawing.proofs.Lives.{length_map, goes_by, stays_by}
use Rattle.std.proofs.lemmas.Bool.{and_parts}
use Rattle.drawing.proofs.Stays.{stays_in, leaves}
use Rattle.drawing.proofs.Strokes.{own}
use Rattle.drawing.proofs.Turns.{clamped}

steps_more : (xs : List StepRecord) (c n : ℕ) (y : StepRecord) → n ≡ length (take c xs) → n < length xs → map step_of (take (n + 1) (set xs n y)) ≡ map step_of (take c xs) ++ step_of y ∷ []
steps_more xs c n y e h =
    let m = length-take c xs in
    ap (map step_of) (take_more_set xs n y h ∙ ap (λ (zs : List StepRecord). zs ++ y ∷ []) (clamped c n xs (e ∙ m))) ∙ map-append step_of (take c xs) (y ∷ [])

both_false : (x y : Bool) → (x && y) ≡ false → (x ≡ false) ⊎ (y ≡ false)
both_false true y h = inr h
both_false false y h = inl refl

pub turned_lists : {E A C : Type 0} (m : KindModel E A C) {n : ℕ} (set : A → Bool) (s t : Sheet E) → Turned m n set s t → length (items s) + n ≤ room s → Sound m s → Lists m set (items t)
turned_lists m set s t h f k = record { ordered = (h.sound k).ordered; covering = h.covers f k }

module _ {EM AM CM EC Ac CC : Type 0} (M : KindModel EM AM CM) (C : KindModel EC Ac CC) (RM : Rules M) (RC : Rules C)
    (d : Drawing EM EC) (r k : ℤ) (x : RuleRecord) (p : Placement) (f : nth (rules_of d.book.now) (ordinal r) ≡ Some (rule_of d.book.now x)) (at : Listing M C d (ordinal r) (ordinal k) p) where
  abbrev rule : Rule EM EC
  rule = rule_of d.book.now x

  abbrev right_stays : Bool
  right_stays = stays M p rule.right.marks && stays C p rule.right.cuts

  abbrev listed : Listed M C (setting d).rules (covered M C (state d)) (ordinal r)
  listed = record {
    rule = rule;
    named = f;
    places = at.0.places;
    numbered = subst (λ (y : Rule EM EC). Numbered M C (side M C y.left) (covered M C (state d)) at.0.places) (some_one (sym at.0.named ∙ f)) at.0.numbered;
  }

  abbrev place : Place M C (side M C rule.left) (covered M C (state d)) p
  place = listed.numbered.only (ordinal k) p at.1

  found : NoRule M C (setting d) (ordinal r) → ⊥
  found h = none_some (sym h ∙ f)

  not_empty : EmptyLeft M C (setting d) (ordinal r) → ⊥
  not_empty h = h.2 (subst (λ (y : Rule EM EC). Filled M C (side M C y.left)) (some_one (sym f ∙ h.1)) place.filled)

  has_place : NoPlace M C (setting d) (state d) (ordinal r) (ordinal k) → ⊥
  has_place h = none_some (sym h.1 ∙ ap (λ ps. nth ps (ordinal k)) (same_places M C (setting d).rules (covered M C (state d)) (ordinal r) h.0 listed) ∙ at.1)

  not_leaving : right_stays ≡ true → LeavesField M C (setting d) (state d) (ordinal r) (ordinal k) → ⊥
  not_leaving e h =
      let q = some_one (sym h.2 ∙ ap (λ ps. nth ps (ordinal k)) (same_places M C (setting d).rules (covered M C (state d)) (ordinal r) h.0 listed) ∙ at.1) in
      let w = some_one (sym h.0.named ∙ f) in
      let b = and_parts (stays M p rule.right.marks) (stays C p rule.right.cuts) e in
      go b.0 b.1 (subst (λ (y : Rule EM EC). Leaves M C p y.right) w (subst (λ (y : Placement). Leaves M C y h.0.rule.right) q h.3))
    where
      go : stays M p rule.right.marks ≡ true → stays C p rule.right.cuts ≡ true → Leaves M C p rule.right → ⊥
      go u v (inl z) = stays_in M RM p rule.right.marks u z.0 z.1 z.2
      go u v (inr z) = stays_in C RC p rule.right.cuts v z.0 z.1 z.2

  leaving : right_stays ≡ false → Leaves M C p rule.right
  leaving e = go (both_false (stays M p rule.right.marks) (stays C p rule.right.cuts) e)
    where
      go : (stays M p rule.right.marks ≡ false) ⊎ (stays C p rule.right.cuts ≡ false) → Leaves M C p rule.right
      go (inl u) = inl (leaves M RM p rule.right.marks u)
      go (inr u) = inr (leaves C RC p rule.right.cuts u)

  abbrev TooMany : Rule EM EC → Type 0
  TooMany y = (room d.marks < length (items d.marks) + length y.left.marks + length y.right.marks) ⊎ (room d.cuts < length (items d.cuts) + length y.left.cuts + length y.right.cuts)

  crowded : (Fits d x → ⊥) → NoRoom M C (setting d) (state d) (ordinal r)
  crowded n = (rule, f, one (cases_lt (room d.marks) (length (items d.marks) + length rule.left.marks + length rule.right.marks)) (cases_lt (room d.cuts) (length (items d.cuts) + length rule.left.cuts + length rule.right.cuts)))
    where
      one : (room d.marks < length (items d.marks) + length rule.left.marks + length rule.right.marks) ⊎ (length (items d.marks) + length rule.left.marks + length rule.right.marks ≤ room d.marks)
          → (room d.cuts < length (items d.cuts) + length rule.left.cuts + length rule.right.cuts) ⊎ (length (items d.cuts) + length rule.left.cuts + length rule.right.cuts ≤ room d.cuts)
          → TooMany rule
      one (inl u) v = inl u
      one (inr u) (inl v) = inr v
      one (inr u) (inr v) = absurd (n (record { marks = omega arith; cuts = omega arith }))

  not_crowded : Fits d x → NoRoom M C (setting d) (state d) (ordinal r) → ⊥
  not_crowded n h = go (subst TooMany (some_one (sym h.1 ∙ f)) h.2)
    where
      go : TooMany rule → ⊥
      go (inl u) = let a = n.marks in omega arith
      go (inr u) = let a = n.cuts in omega arith

  pub pick_leaves : right_stays ≡ false → Goes M C d (pick r k) (refused 16) d
  pick_leaves e = stays_by M C RM RC d (pick r k) (refused 16) (λ l. (inr (found, inr (not_empty, inr (has_place, inl ((listed, p, at.1, leaving e), refl)))), refl))

  pub pick_full : right_stays ≡ true → length d.steps.now ≤ length (taken d) → Goes M C d (pick r k) (refused 17) d
  pick_full e h = stays_by M C RM RC d (pick r k) (refused 17) (λ l. (inr (found, inr (not_empty, inr (has_place, inr (not_leaving e, inl (subst (λ (n : ℕ). length d.steps.now ≤ n) (sym (length_map step_of (taken d))) h, refl))))), refl))

  not_full : length (taken d) < length d.steps.now → StepsFull M C (setting d) (state d) → ⊥
  not_full h z = let e = length_map step_of (taken d) in omega arith

  pub pick_crowded : right_stays ≡ true → length (taken d) < length d.steps.now → (Fits d x → ⊥) → Goes M C d (pick r k) (refused 18) d
  pick_crowded e h n = stays_by M C RM RC d (pick r k) (refused 18) (λ l. (inr (found, inr (not_empty, inr (has_place, inr (not_leaving e, inr (not_full h, inl (crowded n, refl)))))), refl))

  pub pick_done : right_stays ≡ true → length (taken d) < length d.steps.now → Fits d x
      → (t d' : Drawing EM EC) (n : ℕ) (y : StepRecord) → Stepped M C x p d t → n ≡ length (taken d) → y.rule ≡ r → y.at ≡ p
      → d'.book ≡ t.book → d'.marks ≡ t.marks → d'.cuts ≡ t.cuts → d'.start_marks ≡ t.start_marks → d'.start_cuts ≡ t.start_cuts
      → d'.steps.now ≡ set t.steps.now n y → d'.step_count ≡ n + 1
      → Goes M C d (pick r k) done d'
  pick_done e h n t d' c y s q yr ya eb em ec esm esc es en =
      let rest = s.rest in
      let fb : d'.book ≡ d.book = eb ∙ ap (λ (z : Drawing EM EC). z.book) rest in
      let fm : room d'.marks ≡ room d.marks = ap room em ∙ s.marks.room in
      let fc : room d'.cuts ≡ room d.cuts = ap room ec ∙ s.cuts.room in
      let fs : d'.steps.now ≡ set d.steps.now c y = es ∙ ap (λ (z : Drawing EM EC). set z.steps.now c y) rest in
      let fl : length d'.steps.now ≡ length d.steps.now = ap length fs ∙ length-set d.steps.now c y in
      let gm : d'.start_marks ≡ d.start_marks = esm ∙ ap (λ (z : Drawing EM EC). z.start_marks) rest in
      let gc : d'.start_cuts ≡ d.start_cuts = esc ∙ ap (λ (z : Drawing EM EC). z.start_cuts) rest in
      let small : c < length d.steps.now = omega arith in
      let ys : step_of y ≡ record { rule = ordinal r; at = p } = (λ i. record { rule = ordinal (yr i); at = ya i }) in
      let fn : map step_of (taken d') ≡ map step_of (taken d) ++ record { rule = ordinal r; at = p } ∷ [] =
      (λ i. map step_of (take (en i) (fs i))) ∙ steps_more d.steps.now d.step_count c y q small ∙ ap (λ (z : Step). map step_of (taken d) ++ z ∷ []) ys in
      goes_by M C RM RC d d' (pick r k) done (λ i. record { rules = rules_of (fb i).now; mark_slots = fm i; cut_slots = fc i; step_slots = fl i }) (ap room gm) (ap room gc) (λ l. (
        (found, (not_empty, (has_place, (not_leaving e, (not_full h, (not_crowded n, tt)))))),
        (
          refl,
          listed,
          p,
          at.1,
          record {
            marks = subst (λ (z : Sheet EM). Lists M (replaced M C p rule (covered M C (state d))).marks (items z)) (sym em) (turned_lists M _ d.marks t.marks s.marks n.marks l.marks);
            cuts = subst (λ (z : Sheet EC). Lists C (replaced M C p rule (covered M C (state d))).cuts (items z)) (sym ec) (turned_lists C _ d.cuts t.cuts s.cuts n.cuts l.cuts);
            start_marks = subst (λ (z : Sheet EM). Lists M (started M C (state d)).marks (items z)) (sym gm) (own M d.start_marks l.start_marks);
            start_cuts = subst (λ (z : Sheet EC). Lists C (started M C (state d)).cuts (items z)) (sym gc) (own C d.start_cuts l.start_cuts);
            steps = fn;
          },
        ),
      ))

module _ {EM AM CM EC Ac CC : Type 0} (M : KindModel EM AM CM) (C : KindModel EC Ac CC) (RM : Rules M) (RC : Rules C) where
  -- the same of a rule's number under another name
  pub pick_named : (d d' : Drawing EM EC) (a : Answer) (x : RuleRecord) (p : Placement) (z r : ℤ) → z ≡ r
      → ((k : ℤ) → nth (rules_of d.book.now) (ordinal z) ≡ Some (rule_of d.book.now x) → Listing M C d (ordinal z) (ordinal k) p → Goes M C d (pick z k) a d')
      → nth (rules_of d.book.now) (ordinal z) ≡ Some (rule_of d.book.now x) → (k : ℤ) → Listing M C d (ordinal r) (ordinal k) p → Goes M C d (pick r k) a d'
  pick_named d d' a x p z r e h f = subst (λ (w : ℤ). (k : ℤ) → Listing M C d (ordinal w) (ordinal k) p → Goes M C d (pick w k) a d') e (λ k l. h k f l)

  -- a place that was found, at which the rule was applied
  pub pick_goes : (d d' : Drawing EM EC) (a : Answer) (p : Placement) (z r w n : ℤ) → z ≡ r → w ≡ n
      → ((t : Setting EM EC) (es : List (Event EM EC)) → Lived M C t es d → Listing M C d (ordinal z) (ordinal w) p)
      → ((k : ℤ) → Listing M C d (ordinal z) (ordinal k) p → Goes M C d (pick z k) a d') → Goes M C d (pick r n) a d'
  pick_goes d d' a p z r w n e f l h = subst (λ (x : ℤ). Goes M C d (pick r x) a d') f (subst (λ (x : ℤ). Goes M C d (pick x w) a d') e (λ t es v. h w (l t es v) t es v))
