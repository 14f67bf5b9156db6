-- Recorded steps made again, from the start copies.
use Rattle.std.proofs.Common.{◌≡◌, ℕ, ◌+◌, ◌-◌, ◌<◌, ◌≤◌, min, true, List, [], ◌∷◌, ◌++◌, map, length, get_or, take, Some, None, Ok, Err, Option, Result, sym, refl, ap, ◌∙◌, subst, inl, ⊎_elim, append_assoc, arith, MatchResult}
use Rattle.std.proofs.lemmas.Bool.{cases_lt}
use Rattle.std.proofs.lemmas.List.{take_more, length-take, map-append}
use Rattle.lattice.specs.declared.refusal.Refusal.{Refusal}
use Rattle.kinds.specs.Model.{KindModel}
use Rattle.kinds.specs.Rules.{Rules}
use Rattle.sheets.specs.Contents.{items, room, Sound, Copied, TooMany}
use Rattle.sheets.specs.Cover.{cover, canonical}
use Rattle.sheets.specs.Maximal.{Lists}
use Rattle.sheets.specs.declared.sheet.Sheet.{Sheet}
use Rattle.grammar.specs.Again.{Room, Roomy}
use Rattle.grammar.specs.Calls.{undo, done, refused}
use Rattle.grammar.specs.Numbers.{nth}
use Rattle.grammar.specs.Record.{Step, replaced_by, stepped}
use Rattle.grammar.specs.Rules.{Rule}
use Rattle.grammar.specs.Sets.{Sets}
use Rattle.grammar.specs.State.{Setting, covered, started}
use Rattle.grammar.proofs.Record.{stepped_more}
use Rattle.rulebook.specs.Rulebooks.{rules_of, rule_of}
use Rattle.rulebook.specs.declared.records.RuleRecord.{RuleRecord}
use Rattle.drawing.specs.Steps.{with_sheets, Stepped, Shows, Sheets, Redone, Replayed}
use Rattle.drawing.specs.View.{step_of, taken, state, setting, Goes}
use Rattle.drawing.specs.declared.drawing.Drawing.{Drawing}
use Rattle.drawing.specs.declared.records.StepRecord.{StepRecord}
use Rattle.drawing.proofs.Lives.{length_map, goes_by, stays_by}
use Rattle.drawing.proofs.Picks.{turned_lists}
use Rattle.drawing.proofs.Strokes.{own}
use Rattle.drawing.proofs.Turns.{clamped, within}

map_more : (xs : List StepRecord) (i : ℕ) (d : StepRecord) → i < length xs → map step_of (take (i + 1) xs) ≡ map step_of (take i xs) ++ step_of (get_or xs i d) ∷ []
map_more xs i d h = ap (map step_of) (take_more xs i d h) ∙ map-append step_of (take i xs) (get_or xs i d ∷ [])

-- a list that has something has a first
some_of : {X : Type 0} (xs : List X) → 0 < length xs → X
some_of [] h = absurd (omega arith)
some_of (x ∷ xs) h = x

one_more : (n : ℕ) → (n ≡ 0 → ⊥) → n ≡ (n - 1) + 1
one_more n h = ⊎_elim (λ l. omega arith) (λ l. absurd (h (omega arith))) (cases_lt 0 n)

not_zero : (n k c : ℕ) → (n ≡ 0 → ⊥) → n ≡ min c k → n - 1 < k
not_zero n k c h e = ⊎_elim (λ l. omega arith) (λ l. absurd (h (omega arith))) (cases_lt 0 n)

-- what holds before an element, with one more behind
longer : {A : Type 0} (xs ys older newer : List A) (x y : A) → ys ≡ xs ++ y ∷ [] → xs ≡ older ++ x ∷ newer → ys ≡ older ++ x ∷ (newer ++ y ∷ [])
longer xs ys older newer x y e f = e ∙ ap (λ zs. zs ++ y ∷ []) f ∙ append_assoc older (x ∷ newer) (y ∷ [])

module _ {E A C : Type 0} (m : KindModel E A C) (res : Result (Unit {0}) Refusal) (other s t : Sheet E) where
  -- the copy fits, since both have the same slots
  pub copied_items : MatchResult res (λ _. Copied m other s t) (λ why. TooMany other s t why) → room other ≡ room s → items t ≡ items other
  copied_items = go res
    where
      go : (r : Result (Unit {0}) Refusal) → MatchResult r (λ _. Copied m other s t) (λ why. TooMany other s t why) → room other ≡ room s → items t ≡ items other
      go (Ok x) h e = h.items
      go (Err x) h e = let f = h.full in let w = within other in absurd (omega arith)

  pub copied_room : MatchResult res (λ _. Copied m other s t) (λ why. TooMany other s t why) → room t ≡ room s
  copied_room = go res
    where
      go : (r : Result (Unit {0}) Refusal) → MatchResult r (λ _. Copied m other s t) (λ why. TooMany other s t why) → room t ≡ room s
      go (Ok x) h = h.room
      go (Err x) h = ap room h.same

module _ {EM AM CM EC Ac CC : Type 0} (M : KindModel EM AM CM) (C : KindModel EC Ac CC) (RM : Rules M) (RC : Rules C) where
  pub redone_some : (d t : Drawing EM EC) (y : StepRecord) (x : RuleRecord) → nth (rules_of d.book.now) (step_of y).rule ≡ Some (rule_of d.book.now x) → Stepped M C x y.at d t → Redone M C y d t
  redone_some d t y x f s = record {
    sheets = record { rest = s.rest; marks = s.marks.room; cuts = s.cuts.room; sound_marks = s.marks.sound; sound_cuts = s.cuts.sound };
    shows = λ hm hc space.
        let r = space (rule_of d.book.now x) f in
        let a = r.marks (items d.marks) (own M d.marks hm) in
        let b = r.cuts (items d.cuts) (own C d.cuts hc) in
        subst (λ (o : Option (Rule EM EC)). Shows M C (replaced_by M C y.at o (covered M C (state d))) t) (sym f) (record { marks = turned_lists M _ d.marks t.marks s.marks (omega arith) hm; cuts = turned_lists C _ d.cuts t.cuts s.cuts (omega arith) hc });
  }

  pub redone_none : (d : Drawing EM EC) (y : StepRecord) → nth (rules_of d.book.now) (step_of y).rule ≡ None → Redone M C y d d
  redone_none d y f = record {
    sheets = record { rest = refl; marks = refl; cuts = refl; sound_marks = λ h. h; sound_cuts = λ h. h };
    shows = λ hm hc space. subst (λ (o : Option (Rule EM EC)). Shows M C (replaced_by M C y.at o (covered M C (state d))) d) (sym f) (record { marks = own M d.marks hm; cuts = own C d.cuts hc });
  }

  shown : (S : Sets AM Ac) (d : Drawing EM EC) → Shows M C S d → covered M C (state d) ≡ S
  shown S d h = λ i. record { marks = λ a. h.marks.covering a i; cuts = λ a. h.cuts.covering a i }

  same_setting : (d t : Drawing EM EC) → Sheets M C d t → setting t ≡ setting d
  same_setting d t s =
      let b = ap (λ (z : Drawing EM EC). z.book) s.rest in
      let m = s.marks in
      let c = s.cuts in
      let x = ap (λ (z : Drawing EM EC). length z.steps.now) s.rest in
      λ i. record { rules = rules_of (b i).now; mark_slots = m i; cut_slots = c i; step_slots = x i }

  abbrev Gives : StepRecord → Drawing EM EC → Setting EM EC → Sets AM Ac → Type 0
  Gives y u t S = ((rule : Rule EM EC) → nth t.rules (step_of y).rule ≡ Some rule → Room M C t S rule) → Shows M C (replaced_by M C y.at (nth t.rules (step_of y).rule) S) u

  pub replayed_none : (d : Drawing EM EC) → Replayed M C 0 d d
  replayed_none d = record {
    sheets = record { rest = refl; marks = refl; cuts = refl; sound_marks = λ h. h; sound_cuts = λ h. h };
    shows = λ hm hc space. record { marks = own M d.marks hm; cuts = own C d.cuts hc };
  }

  pub replayed_more : (d t u : Drawing EM EC) (i : ℕ) (y z : StepRecord) → i < length d.steps.now → y ≡ get_or t.steps.now i z → Replayed M C i d t → Redone M C y t u → Replayed M C (i + 1) d u
  replayed_more d t u i y z l is h k =
      let S = covered M C (state d) in
      let xs = map step_of (take i d.steps.now) in
      let at : y ≡ get_or d.steps.now i z = is ∙ ap (λ (w : Drawing EM EC). get_or w.steps.now i z) h.sheets.rest in
      let e : map step_of (take (i + 1) d.steps.now) ≡ xs ++ step_of y ∷ [] = map_more d.steps.now i z l ∙ ap (λ (w : StepRecord). xs ++ step_of w ∷ []) (sym at) in
      record {
        sheets = record {
          rest = k.sheets.rest ∙ ap (λ (w : Drawing EM EC). with_sheets w u.marks u.cuts) h.sheets.rest;
          marks = k.sheets.marks ∙ h.sheets.marks;
          cuts = k.sheets.cuts ∙ h.sheets.cuts;
          sound_marks = λ w. k.sheets.sound_marks (h.sheets.sound_marks w);
          sound_cuts = λ w. k.sheets.sound_cuts (h.sheets.sound_cuts w);
        };
        shows = λ hm hc space.
            let p : Shows M C (stepped M C (setting d).rules S xs) t = h.shows hm hc (λ older newer x rule f n. space older (newer ++ step_of y ∷ []) x rule (longer xs _ older newer x (step_of y) e f) n) in
            let g : Gives y u (setting t) (covered M C (state t)) = k.shows (h.sheets.sound_marks hm) (h.sheets.sound_cuts hc) in
            let g2 : Gives y u (setting d) (stepped M C (setting d).rules S xs) = subst (λ (T : Setting EM EC). Gives y u T (stepped M C (setting d).rules S xs)) (same_setting d t h.sheets) (subst (λ (W : Sets AM Ac). Gives y u (setting t) W) (shown _ t p) g) in
            subst (λ (W : Sets AM Ac). Shows M C W u) (sym (ap (stepped M C (setting d).rules S) e ∙ stepped_more M C (setting d).rules S xs (step_of y)))
            (g2 (λ rule n. space xs [] (step_of y) rule e n));
      }

  pub undo_none : (d : Drawing EM EC) → length (taken d) ≡ 0 → Goes M C d undo (refused 12) d
  undo_none d e = stays_by M C RM RC d undo (refused 12) (λ l. (inl (length_map step_of (taken d) ∙ e, refl), refl))

  abbrev Plays : Drawing EM EC → Setting EM EC → Sets AM Ac → List Step → Type 0
  Plays u t S xs = Roomy M C t S xs → Shows M C (stepped M C t.rules S xs) u

  pub undo_done : (d t u : Drawing EM EC) (n : ℕ) → n ≡ length (taken d) → (n ≡ 0 → ⊥)
      → t.book ≡ d.book → t.start_marks ≡ d.start_marks → t.start_cuts ≡ d.start_cuts → t.steps ≡ d.steps → t.step_count ≡ n - 1
      → room t.marks ≡ room d.marks → room t.cuts ≡ room d.cuts
      → (room d.start_marks ≡ room d.marks → items t.marks ≡ items d.start_marks)
      → (room d.start_cuts ≡ room d.cuts → items t.cuts ≡ items d.start_cuts)
      → Replayed M C (n - 1) t u → Goes M C d undo done u
  undo_done d t u n q nz eb esm esc es en rm rc im ic z =
      let rest = z.sheets.rest in
      let fb : u.book ≡ d.book = ap (λ (w : Drawing EM EC). w.book) rest ∙ eb in
      let fm : room u.marks ≡ room d.marks = z.sheets.marks ∙ rm in
      let fc : room u.cuts ≡ room d.cuts = z.sheets.cuts ∙ rc in
      let fs : u.steps ≡ d.steps = ap (λ (w : Drawing EM EC). w.steps) rest ∙ es in
      let fn : u.step_count ≡ n - 1 = ap (λ (w : Drawing EM EC). w.step_count) rest ∙ en in
      let gm : u.start_marks ≡ d.start_marks = ap (λ (w : Drawing EM EC). w.start_marks) rest ∙ esm in
      let gc : u.start_cuts ≡ d.start_cuts = ap (λ (w : Drawing EM EC). w.start_cuts) rest ∙ esc in
      let older = map step_of (take (n - 1) d.steps.now) in
      let len = length-take d.step_count d.steps.now in
      let less : n - 1 < length d.steps.now = not_zero n (length d.steps.now) d.step_count nz (q ∙ len) in
      let any : StepRecord = some_of d.steps.now (omega arith) in
      let x = step_of (get_or d.steps.now (n - 1) any) in
      let one : n ≡ (n - 1) + 1 = one_more n nz in
      let last : map step_of (taken d) ≡ older ++ x ∷ [] = ap (map step_of) (sym (clamped d.step_count n d.steps.now (q ∙ len)) ∙ ap (λ (k : ℕ). take k d.steps.now) one) ∙ map_more d.steps.now (n - 1) any less in
      let k1 : setting t ≡ setting d = (λ i. record { rules = rules_of (eb i).now; mark_slots = rm i; cut_slots = rc i; step_slots = length (es i).now }) in
      let k2 : map step_of (take (n - 1) t.steps.now) ≡ older = (λ i. map step_of (take (n - 1) (es i).now)) in
      goes_by M C RM RC d u undo done (λ i. record { rules = rules_of (fb i).now; mark_slots = fm i; cut_slots = fc i; step_slots = length (fs i).now }) (ap room gm) (ap room gc)
      (λ l.
      let jm = im l.mark_rooms in
      let jc = ic l.cut_rooms in
      let k3 : covered M C (state t) ≡ started M C (state d) = (λ i. record { marks = cover M (jm i); cuts = cover C (jc i) }) in
      let hm : Sound M t.marks = record { ordered = subst (λ (xs : List EM). canonical M xs ≡ true) (sym jm) l.start_marks.ordered; few = subst (λ (k : ℕ). k ≤ 4096) (sym rm) l.marks.few } in
      let hc : Sound C t.cuts = record { ordered = subst (λ (xs : List EC). canonical C xs ≡ true) (sym jc) l.start_cuts.ordered; few = subst (λ (k : ℕ). k ≤ 4096) (sym rc) l.cuts.few } in
      let play : Plays u (setting t) (covered M C (state t)) (map step_of (take (n - 1) t.steps.now)) = z.shows hm hc in
      let play2 : Plays u (setting d) (started M C (state d)) older =
      subst (λ (T : Setting EM EC). Plays u T (started M C (state d)) older) k1
      (subst (λ (W : Sets AM Ac). Plays u (setting t) W older) k3 (subst (λ (ys : List Step). Plays u (setting t) (covered M C (state t)) ys) k2 play)) in
      let show = play2 (λ o w y rule f m. l.again o (w ++ x ∷ []) y rule (longer older _ o w y x last f) m) in (
        ((λ h. nz (q ∙ sym (length_map step_of (taken d)) ∙ h)), tt),
        (
          refl,
          older,
          x,
          last,
          record {
            marks = show.marks;
            cuts = show.cuts;
            start_marks = subst (λ (w : Sheet EM). Lists M (started M C (state d)).marks (items w)) (sym gm) (own M d.start_marks l.start_marks);
            start_cuts = subst (λ (w : Sheet EC). Lists C (started M C (state d)).cuts (items w)) (sym gc) (own C d.start_cuts l.start_cuts);
            steps = λ i. map step_of (take (fn i) (fs i).now);
          },
        ),
      ))
