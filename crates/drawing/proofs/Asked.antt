-- What is asked of a drawing is answered by the list of places.
use Rattle.std.proofs.Common.{◌≡◌, ℕ, ◌<◌, ◌≤◌, Bool, true, ◌||◌, ◌⊎◌, List, [], ◌∷◌, ◌++◌, length, drop, ℤ, Some, None, Ok, Err, Option, Result, sym, refl, ap, ◌∙◌, subst, inl, inr, arith, MatchResult}
use Rattle.std.specs.Option.{ok_or}
use Rattle.lattice.specs.Order.{Triple}
use Rattle.lattice.specs.Refusals.{number}
use Rattle.lattice.specs.declared.placement.Placement.{Placement}
use Rattle.lattice.specs.declared.refusal.Refusal.{Refusal}
use Rattle.lattice.specs.declared.refusal.Refusal.TheVariants.{NoSuchRule, NoSuchPlace, EmptyLeft as EmptyLeftSide}
use Rattle.kinds.specs.Model.{KindModel}
use Rattle.kinds.specs.Rules.{Rules}
use Rattle.sheets.specs.Cover.{cover, canonical}
use Rattle.grammar.specs.Calls.{pick, count, next, list, refused, counted, next_is, listed, Event}
use Rattle.grammar.specs.Numbers.{nth, ordinal}
use Rattle.grammar.specs.Places.{Numbered, Listed, Least}
use Rattle.grammar.specs.Refusals.{NoRule, EmptyLeft}
use Rattle.grammar.specs.Rules.{Rule, side, Filled}
use Rattle.grammar.specs.Sets.{Sets}
use Rattle.grammar.specs.State.{Setting, covered}
use Rattle.grammar.proofs.Exists.{numbered}
use Rattle.grammar.proofs.Numbers.{some_one, none_some}
use Rattle.grammar.proofs.Searching.{least_first}
use Rattle.grammar.proofs.Uniform.{same_places}
use Rattle.rulebook.specs.Rulebooks.{rules_of, rule_of, Finds}
use Rattle.rulebook.specs.declared.records.RuleRecord.{RuleRecord}
use Rattle.search.specs.Scenes.{sought, drawn, Canonical, Listed as Searched}
use Rattle.search.specs.declared.scene.Scene.{Scene}
use Rattle.drawing.specs.Asking.{Shown, Seeks, Barred}
use Rattle.drawing.specs.Steps.{Listing}
use Rattle.drawing.specs.View.{answer, state, setting, Lived, Goes}
use Rattle.drawing.specs.declared.drawing.Drawing.{Drawing}
use Rattle.drawing.proofs.Lives.{Alive, alive, stays_by}

nothing_covered : {E A C : Type 0} (m : KindModel E A C) (xs : List E) (a : A) → length xs ≤ 0 → cover m xs a ≡ true → ⊥
nothing_covered m [] a l h = let w : ◌≡◌ {A = ℕ} 0 1 = cc in omega arith
nothing_covered m (x ∷ xs) a l h = omega arith

something_covered : {E A C : Type 0} (m : KindModel E A C) → Rules m → (xs : List E) → 0 < length xs → (a : A) × (cover m xs a ≡ true)
something_covered m R [] l = absurd (omega arith)
something_covered m R (x ∷ xs) l = let s = R.some x in (s.0, ap (λ (b : Bool). b || cover m xs s.0) s.1)

module _ {EM AM CM EC Ac CC : Type 0} (M : KindModel EM AM CM) (C : KindModel EC Ac CC) (RM : Rules M) (RC : Rules C) (d : Drawing EM EC) where
  pub seeks_marks : (r : ℕ) (x : RuleRecord) (s : Scene EM EC) → nth (rules_of d.book.now) r ≡ Some (rule_of d.book.now x) → Shown d x s → 0 < length s.left_marks.now → Seeks M C d r s
  seeks_marks r x s f h l = record { rule = rule_of d.book.now x; named = f; filled = inl (something_covered M RM _ (subst (λ (es : List EM). 0 < length es) h.left_marks l)); shows = h }

  pub seeks_cuts : (r : ℕ) (x : RuleRecord) (s : Scene EM EC) → nth (rules_of d.book.now) r ≡ Some (rule_of d.book.now x) → Shown d x s → 0 < length s.left_cuts.now → Seeks M C d r s
  seeks_cuts r x s f h l = record { rule = rule_of d.book.now x; named = f; filled = inr (something_covered C RC _ (subst (λ (es : List EC). 0 < length es) h.left_cuts l)); shows = h }

  pub barred_empty : (r : ℕ) (x : RuleRecord) (s : Scene EM EC) → nth (rules_of d.book.now) r ≡ Some (rule_of d.book.now x) → Shown d x s → length s.left_marks.now ≤ 0 → length s.left_cuts.now ≤ 0 → Barred M C d r EmptyLeftSide
  barred_empty r x s f h l k = inr (refl, (rule_of d.book.now x, f, none))
    where
      none : Filled M C (side M C (rule_of d.book.now x).left) → ⊥
      none (inl z) = nothing_covered M _ z.0 (subst (λ (es : List EM). length es ≤ 0) h.left_marks l) z.1
      none (inr z) = nothing_covered C _ z.0 (subst (λ (es : List EC). length es ≤ 0) h.left_cuts k) z.1

  -- the record that was found, where to find none is refused
  pub found_by : (r : ℕ) (o : Option RuleRecord) (x : RuleRecord) → Ok x ≡ ok_or o NoSuchRule → Finds d.book.now r o → Finds d.book.now r (Some x)
  found_by r None x e f = absurd (let z : ◌≡◌ {A = ℕ} 0 1 = cc in omega arith)
  found_by r (Some y) x e f = let z : y ≡ x = cc in subst (λ (w : RuleRecord). Finds d.book.now r (Some w)) z f

  -- the same under another name of the rule's number
  pub seeks_named : (z r : ℤ) (s : Scene EM EC) → z ≡ r → Seeks M C d (ordinal z) s → Seeks M C d (ordinal r) s
  seeks_named z r s e h = subst (λ (w : ℤ). Seeks M C d (ordinal w) s) e h

  pub barred_named : (z r : ℤ) (why : Refusal) → z ≡ r → Barred M C d (ordinal z) why → Barred M C d (ordinal r) why
  barred_named z r why e h = subst (λ (w : ℤ). Barred M C d (ordinal w) why) e h

  -- the first two rows of the table, before any others
  refuses : (r : ℕ) (why : Refusal) (Rest : Type 0) → Barred M C d r why → (NoRule M C (setting d) r × (number why ≡ 13)) ⊎ ((NoRule M C (setting d) r → ⊥) × ((EmptyLeft M C (setting d) r × (number why ≡ 14)) ⊎ ((EmptyLeft M C (setting d) r → ⊥) × Rest)))
  refuses r why Rest (inl h) = inl (h.1, h.0)
  refuses r why Rest (inr h) = inr ((λ z. none_some (sym z ∙ h.1.1)), inl (h.1, h.0))

  pub pick_barred : (r k : ℤ) (why : Refusal) → Barred M C d (ordinal r) why → Goes M C d (pick r k) (refused (number why)) d
  pick_barred r k why h = stays_by M C RM RC d (pick r k) (refused (number why)) (λ l. (refuses (ordinal r) why _ h, refl))

  pub count_barred : (r : ℤ) (why : Refusal) → Barred M C d (ordinal r) why → Goes M C d (count r) (refused (number why)) d
  count_barred r why h = stays_by M C RM RC d (count r) (refused (number why)) (λ l. (refuses (ordinal r) why _ h, refl))

  pub next_barred : (r : ℤ) (t : Triple) (why : Refusal) → Barred M C d (ordinal r) why → Goes M C d (next r t) (refused (number why)) d
  next_barred r t why h = stays_by M C RM RC d (next r t) (refused (number why)) (λ l. (refuses (ordinal r) why _ h, refl))

  pub list_barred : (r : ℤ) (buffer : List Placement) (why : Refusal) → Barred M C d (ordinal r) why → Goes M C d (list r buffer) (refused (number why)) d
  list_barred r buffer why h = stays_by M C RM RC d (list r buffer) (refused (number why)) (λ l. (refuses (ordinal r) why _ h, refl))

  module _ (r : ℤ) (s : Scene EM EC) (k : Seeks M C d (ordinal r) s) where
    found : NoRule M C (setting d) (ordinal r) → ⊥
    found h = none_some (sym h ∙ k.named)

    not_empty : EmptyLeft M C (setting d) (ordinal r) → ⊥
    not_empty h = h.2 (subst (λ (y : Rule EM EC). Filled M C (side M C y.left)) (some_one (sym k.named ∙ h.1)) k.filled)

    abbrev places : Listed M C (setting d).rules (covered M C (state d)) (ordinal r)
    places = let n = numbered M C RM RC k.rule.left (covered M C (state d)) in record { rule = k.rule; named = k.named; places = n.0; numbered = n.1 }

    sorted : Alive M C d → Canonical M C s
    sorted l = record {
      marks = subst (λ (es : List EM). canonical M es ≡ true) (sym k.shows.marks) l.marks.ordered;
      cuts = subst (λ (es : List EC). canonical C es ≡ true) (sym k.shows.cuts) l.cuts.ordered;
    }

    same_left : side M C k.rule.left ≡ sought M C s
    same_left = let a = sym k.shows.left_marks in let b = sym k.shows.left_cuts in λ i. record { marks = cover M (a i); cuts = cover C (b i) }

    same_drawn : covered M C (state d) ≡ drawn M C s
    same_drawn = let a = sym k.shows.marks in let b = sym k.shows.cuts in λ i. record { marks = cover M (a i); cuts = cover C (b i) }

    searched : Alive M C d → Searched M C s places.places
    searched l = record {
      sorted = sorted l;
      numbered = subst (λ (S : Sets AM Ac). Numbered M C (sought M C s) S places.places) same_drawn (subst (λ (L : Sets AM Ac). Numbered M C L (covered M C (state d)) places.places) same_left places.numbered);
    }

    -- a place that the search found
    pub place_found : (n : ℤ) (p : Placement) → ((ps : List Placement) → Searched M C s ps → Some p ≡ nth ps (ordinal n)) → (t : Setting EM EC) (es : List (Event EM EC)) → Lived M C t es d → Listing M C d (ordinal r) (ordinal n) p
    place_found n p h t es v = (places, sym (h places.places (searched (alive M C RM RC t es d v))))

    pub place_missing : (n : ℤ) → ((ps : List Placement) → Searched M C s ps → None ≡ nth ps (ordinal n)) → Goes M C d (pick r n) (refused 15) d
    place_missing n h = stays_by M C RM RC d (pick r n) (refused 15) (λ l. (inr (found, inr (not_empty, inl ((places, sym (h places.places (searched l))), refl))), refl))

    abbrev Told : ℤ → Result Placement Refusal → Type 0
    Told n res = MatchResult res (λ p. (t : Setting EM EC) (es : List (Event EM EC)) → Lived M C t es d → Listing M C d (ordinal r) (ordinal n) p) (λ why. Goes M C d (pick r n) (refused (number why)) d)

    -- the number as it is called for, and as the code has it
    pub place_told : (n z : ℤ) → z ≡ n → (o : Option Placement) (res : Result Placement Refusal) → ((ps : List Placement) → Searched M C s ps → o ≡ nth ps (ordinal z)) → res ≡ ok_or o NoSuchPlace → Told n res
    place_told n z e None res h q = subst (Told n) (sym q) (place_missing n (λ ps k. h ps k ∙ ap (λ (x : ℤ). nth ps (ordinal x)) e))
    place_told n z e (Some p) res h q = subst (Told n) (sym q) (place_found n p (λ ps k. h ps k ∙ ap (λ (x : ℤ). nth ps (ordinal x)) e))

    pub count_done : (n : ℕ) → ((ps : List Placement) → Searched M C s ps → n ≡ length ps) → Goes M C d (count r) (counted n) d
    count_done n h = stays_by M C RM RC d (count r) (counted n) (λ l. ((found, (not_empty, tt)), (places, ap counted (h places.places (searched l)), refl)))

    pub next_done : (t : Triple) (o : Option Placement) → (Canonical M C s → Least M C (sought M C s) (drawn M C s) t o) → Goes M C d (next r t) (next_is o) d
    next_done t o h = stays_by M C RM RC d (next r t) (next_is o) (λ l. ((found, (not_empty, tt)), (places, (o, refl, least_first M C (sought M C s) (drawn M C s) places.places (searched l).numbered t o (h (sorted l))), refl)))

    abbrev Written : Result ℕ Refusal → List Placement → List Placement → List Placement → Type 0
    Written res old new ps = MatchResult res (λ n. (n ≡ length ps) × (length ps ≤ length old) × (new ≡ ps ++ drop (length ps) old)) (λ e. (number e ≡ 20) × (length old < length ps) × (new ≡ old))

    pub list_goes : (res : Result ℕ Refusal) (old new : List Placement) → ((ps : List Placement) → Searched M C s ps → Written res old new ps) → Goes M C d (list r old) (answer res (λ n. listed n new)) d
    list_goes (Ok n) old new h = stays_by M C RM RC d (list r old) (listed n new) (λ l.
        let w = h places.places (searched l) in
        let a = w.0 in
        let b = w.2 in
        ((found, (not_empty, ((λ z. let e = ap length (same_places M C (setting d).rules (covered M C (state d)) (ordinal r) z.0 places) in let y = z.1 in let x = w.1 in omega arith), tt))), (places, (λ i. listed (a i) (b i)), refl)))
    list_goes (Err why) old new h = stays_by M C RM RC d (list r old) (refused (number why)) (λ l.
        let w = h places.places (searched l) in
        (inr (found, inr (not_empty, inl ((places, w.1), w.0))), refl))
