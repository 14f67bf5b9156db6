-- A history keeps its record.
use Rattle.std.proofs.Common.{◌≡◌, ℕ, ◌<◌, Bool, true, false, List, [], ◌∷◌, ◌++◌, map, length, Option, sym, refl, ap, ◌∙◌, subst, arith}
use Rattle.kinds.specs.Model.{KindModel}
use Rattle.sheets.specs.Maximal.{Lists}
use Rattle.grammar.specs.Calls.{Stroke, Call, stroke, pick, undo, count, next, list, Answer, refused, done, counted, next_is, listed, is_refused, Event, Seen, seen}
use Rattle.grammar.specs.Moves.{Accepts, Moves, Runs}
use Rattle.grammar.specs.Numbers.{nth, ordinal}
use Rattle.grammar.specs.Places.{Numbered, Listed}
use Rattle.grammar.specs.Record.{Step, Record, blank, stroked, replaced, replaced_by, drawn, stepped, sets, Accepted, Entered, Fed}
use Rattle.grammar.specs.Rules.{Rule, side}
use Rattle.grammar.specs.Sets.{Sets, empty}
use Rattle.grammar.specs.State.{Setting, State, begun, covered, started, Holds}
use Rattle.grammar.proofs.Numbers.{some_one}
use Rattle.grammar.proofs.Uniform.{same_places}

snoc_none : {A : Type 0} (xs : List A) (x : A) → [] ≡ xs ++ x ∷ [] → ⊥
snoc_none [] x h = let z : 0 ≡ length (x ∷ []) = ap length h in omega arith
snoc_none (y ∷ ys) x h = let z : 0 ≡ length (y ∷ (ys ++ x ∷ [])) = ap length h in omega arith

pub snoc_one : {A : Type 0} (xs ys : List A) (x y : A) → xs ++ x ∷ [] ≡ ys ++ y ∷ [] → xs ≡ ys
snoc_one [] [] x y h = refl
snoc_one [] (z ∷ zs) x y h = let e : [] ≡ zs ++ y ∷ [] = cc in absurd (snoc_none zs y e)
snoc_one (z ∷ zs) [] x y h = let e : [] ≡ zs ++ x ∷ [] = cc in absurd (snoc_none zs x e)
snoc_one (z ∷ zs) (w ∷ ws) x y h =
    let e : zs ++ x ∷ [] ≡ ws ++ y ∷ [] = cc in
    let a : z ≡ w = cc in
    let r = snoc_one zs ws x y e in
    λ i. a i ∷ r i

no_length : {A : Type 0} (xs : List A) → (0 < length xs → ⊥) → xs ≡ []
no_length [] h = refl
no_length (x ∷ xs) h = absurd (h (omega arith))

module _ {EM AM CM EC Ac CC : Type 0} (M : KindModel EM AM CM) (C : KindModel EC Ac CC) where
  pub covered_is : {d : State EM EC} {S S₀ : Sets AM Ac} {xs : List Step} → Holds M C d S S₀ xs → covered M C d ≡ S
  covered_is h = λ i. record { marks = λ a. h.marks.covering a i; cuts = λ a. h.cuts.covering a i }

  pub started_is : {d : State EM EC} {S S₀ : Sets AM Ac} {xs : List Step} → Holds M C d S S₀ xs → started M C d ≡ S₀
  started_is h = λ i. record { marks = λ a. h.start_marks.covering a i; cuts = λ a. h.start_cuts.covering a i }

  transport : (d : State EM EC) {S R S₀ R₀ : Sets AM Ac} {xs ys : List Step} → S ≡ R → S₀ ≡ R₀ → xs ≡ ys → Holds M C d S S₀ xs → Holds M C d R R₀ ys
  transport d p q e h = record {
    marks = subst (λ (X : Sets AM Ac). Lists M X.marks d.marks) p h.marks;
    cuts = subst (λ (X : Sets AM Ac). Lists C X.cuts d.cuts) p h.cuts;
    start_marks = subst (λ (X : Sets AM Ac). Lists M X.marks d.start_marks) q h.start_marks;
    start_cuts = subst (λ (X : Sets AM Ac). Lists C X.cuts d.start_cuts) q h.start_cuts;
    steps = h.steps ∙ e;
  }

  drawn_more : (S : Sets AM Ac) (ss : List (Stroke EM EC)) (s : Stroke EM EC) → drawn M C S (ss ++ s ∷ []) ≡ stroked M C (drawn M C S ss) s
  drawn_more S [] s = refl
  drawn_more S (x ∷ xs) s = drawn_more (stroked M C S x) xs s

  pub stepped_more : (rules : List (Rule EM EC)) (S : Sets AM Ac) (xs : List Step) (x : Step) → stepped M C rules S (xs ++ x ∷ []) ≡ replaced_by M C x.at (nth rules x.rule) (stepped M C rules S xs)
  stepped_more rules S [] x = refl
  stepped_more rules S (y ∷ ys) x = stepped_more rules (replaced_by M C y.at (nth rules y.rule) S) ys x

  -- the same list, on sets that are the same
  abbrev pub relisted : {rules : List (Rule EM EC)} {S R : Sets AM Ac} {r : ℕ} → S ≡ R → Listed M C rules S r → Listed M C rules R r
  relisted e l = record { rule = l.rule; named = l.named; places = l.places; numbered = subst (λ (X : Sets AM Ac). Numbered M C (side M C l.rule.left) X l.places) e l.numbered }

  -- b is the record of d
  abbrev pub Keeps : List (Rule EM EC) → Record EM EC → State EM EC → Type 0
  Keeps rules b d = Holds M C d (sets M C rules b) (drawn M C empty b.strokes) b.steps

  module _ (t : Setting EM EC) where
    abbrev pub Next : Record EM EC → Call EM EC → Bool → State EM EC → Type 0
    Next b c w d = (m : Record EM EC) × Entered M C t.rules b c w m × Keeps t.rules m d

    same_record : (b : Record EM EC) (d d' : State EM EC) → Keeps t.rules b d → d' ≡ d → Keeps t.rules b d'
    same_record b d d' k e = subst (λ (x : State EM EC). Keeps t.rules b x) (sym e) k

    does : (b : Record EM EC) (d : State EM EC) (c : Call EM EC) (a : Answer) (d' : State EM EC) → Keeps t.rules b d → Accepts M C t d c a d' → Next b c false d'
    does b d (stroke s) a d' k h =
        let e : b.steps ≡ [] = sym k.steps ∙ no_length d.steps h.0.0 in
        let w : List Step → Sets AM Ac = λ xs. stepped M C t.rules (drawn M C empty b.strokes) xs in
        let v : List Step → Sets AM Ac = λ xs. stepped M C t.rules (drawn M C empty (b.strokes ++ s ∷ [])) xs in
        let f : stroked M C (drawn M C empty b.strokes) s ≡ drawn M C empty (b.strokes ++ s ∷ []) = sym (drawn_more empty b.strokes s) in (
          record { strokes = b.strokes ++ s ∷ []; steps = b.steps },
          refl,
          transport d' (ap (λ (X : Sets AM Ac). stroked M C X s) (covered_is k ∙ ap w e) ∙ f ∙ ap v (sym e)) (ap (λ (X : Sets AM Ac). stroked M C X s) (started_is k) ∙ f) k.steps h.1.1,
        )
    does b d (pick r n) a d' k h =
        let l = h.1.1 in
        let p = h.1.2 in
        let x : Step = record { rule = ordinal r; at = p } in (
          record { strokes = b.strokes; steps = b.steps ++ x ∷ [] },
          (relisted (covered_is k) l, p, h.1.3, refl),
          transport d' (ap (replaced M C p l.rule) (covered_is k) ∙ ap (λ (o : Option (Rule EM EC)). replaced_by M C p o (sets M C t.rules b)) (sym l.named) ∙ sym (stepped_more t.rules (drawn M C empty b.strokes) b.steps x)) (started_is k) (ap (λ (xs : List Step). xs ++ x ∷ []) k.steps) h.1.4,
        )
    does b d undo a d' k h =
        let older = h.1.1 in (
          record { strokes = b.strokes; steps = older },
          (h.1.2, sym k.steps ∙ h.1.3, refl),
          transport d' (ap (λ (X : Sets AM Ac). stepped M C t.rules X older) (started_is k)) (started_is k) refl h.1.4,
        )
    does b d (count r) a d' k h = (b, refl, same_record b d d' k h.1.2)
    does b d (next r x) a d' k h = (b, refl, same_record b d d' k h.1.2)
    does b d (list r x) a d' k h = (b, refl, same_record b d d' k h.1.2)

    pub moves : (b : Record EM EC) (d : State EM EC) (c : Call EM EC) (a : Answer) (d' : State EM EC) → Keeps t.rules b d → Moves M C t d c a d' → Next b c (is_refused a) d'
    moves b d c (refused n) d' k h = (b, refl, same_record b d d' k h.1)
    moves b d c done d' k h = does b d c done d' k h
    moves b d c (counted n) d' k h = does b d c (counted n) d' k h
    moves b d c (next_is o) d' k h = does b d c (next_is o) d' k h
    moves b d c (listed n x) d' k h = does b d c (listed n x) d' k h

    pub runs : (es : List (Event EM EC)) (b : Record EM EC) (d d' : State EM EC) → Keeps t.rules b d → Runs M C t d es d' → (m : Record EM EC) × Fed M C t.rules b (map seen es) m × Keeps t.rules m d'
    runs [] b d d' k h = (b, refl, same_record b d d' k h)
    runs (e ∷ es) b d d' k h =
        let x = moves b d e.call e.answer h.0 k h.1 in
        let y = runs es x.0 h.0 d' x.2 h.2 in
        (y.0, (x.0, x.1, y.1), y.2)

    pub at_first : Keeps t.rules blank begun
    at_first = record { marks = record { ordered = refl; covering = λ a. refl }; cuts = record { ordered = refl; covering = λ a. refl }; start_marks = record { ordered = refl; covering = λ a. refl }; start_cuts = record { ordered = refl; covering = λ a. refl }; steps = refl }

  module _ (rules : List (Rule EM EC)) where
    accepted_one : (b : Record EM EC) (c : Call EM EC) (m n : Record EM EC) → Accepted M C rules b c m → Accepted M C rules b c n → m ≡ n
    accepted_one b (stroke s) m n h k = h ∙ sym k
    accepted_one b (pick r j) m n h k =
        let p : h.1 ≡ k.1 = some_one (sym h.2 ∙ ap (λ ps. nth ps (ordinal j)) (same_places M C rules (sets M C rules b) (ordinal r) h.0 k.0) ∙ k.2) in
        h.3 ∙ (λ i. record { strokes = b.strokes; steps = b.steps ++ record { rule = ordinal r; at = p i } ∷ [] }) ∙ sym k.3
    accepted_one b undo m n h k =
        let e = snoc_one m.steps n.steps h.0 k.0 (sym h.1 ∙ k.1) in
        let f = h.2 ∙ sym k.2 in
        λ i. record { strokes = f i; steps = e i }
    accepted_one b (count r) m n h k = h ∙ sym k
    accepted_one b (next r x) m n h k = h ∙ sym k
    accepted_one b (list r x) m n h k = h ∙ sym k

    entered_one : (b : Record EM EC) (c : Call EM EC) (w : Bool) (m n : Record EM EC) → Entered M C rules b c w m → Entered M C rules b c w n → m ≡ n
    entered_one b c true m n h k = h ∙ sym k
    entered_one b c false m n h k = accepted_one b c m n h k

    pub fed_one : (xs : List (Seen EM EC)) (b m n : Record EM EC) → Fed M C rules b xs m → Fed M C rules b xs n → m ≡ n
    fed_one [] b m n h k = h ∙ sym k
    fed_one (x ∷ xs) b m n h k =
        let e = entered_one b x.call x.refused h.0 k.0 h.1 k.1 in
        fed_one xs k.0 m n (subst (λ (y : Record EM EC). Fed M C rules y xs m) e h.2) k.2
