-- A stroke on a sheet and its start copy.
use Rattle.std.proofs.Common.{◌≡◌, ℕ, ◌<◌, Bool, not, ◌&&◌, ◌||◌, List, [], ◌∷◌, map, length, IfErr, Ok, Err, Result, sym, refl, ap, ◌∙◌, subst, inl, inr, arith, MatchResult}
use Rattle.lattice.specs.Refusals.{number}
use Rattle.lattice.specs.declared.refusal.Refusal.{Refusal}
use Rattle.kinds.specs.Model.{KindModel, covers}
use Rattle.kinds.specs.Rules.{Rules}
use Rattle.sheets.specs.Contents.{items, room, Sound, covered as covered_by, Became, Refused}
use Rattle.sheets.specs.Maximal.{Lists}
use Rattle.sheets.specs.declared.sheet.Sheet.{Sheet}
use Rattle.sheets.proofs.Added.{refused_any}
use Rattle.sheets.proofs.Joined.{or_none}
use Rattle.sheets.proofs.Unique.{one_list}
use Rattle.grammar.specs.Calls.{Stroke, stroke, done, refused}
use Rattle.grammar.specs.Record.{stroked, stepped}
use Rattle.grammar.specs.Refusals.{Stepped, SheetFull}
use Rattle.grammar.specs.Sets.{Sets}
use Rattle.grammar.specs.State.{covered, started}
use Rattle.sheets.specs.Change.{plus, minus}
use Rattle.drawing.specs.Changes.{Both, Neither}
use Rattle.drawing.specs.Strikes.{Strikes}
use Rattle.rulebook.specs.declared.stroke.Stroke.{Stroke as Struck}
use Rattle.rulebook.specs.declared.stroke.Stroke.TheVariants.{Mark, Cut}
use Rattle.drawing.specs.View.{step_of, taken, state, setting, Goes, answer, drawn, rubbed}
use Rattle.drawing.specs.declared.drawing.Drawing.{Drawing}
use Rattle.drawing.proofs.Lives.{length_map, Alive, goes_by, stays_by}
use Rattle.drawing.proofs.Turns.{within}

no_steps : {X : Type 0} (xs : List X) → (0 < length xs → ⊥) → xs ≡ []
no_steps [] h = refl
no_steps (x ∷ xs) h = absurd (h (omega arith))

module _ {E A C : Type 0} (m : KindModel E A C) where
  pub own : (s : Sheet E) → Sound m s → Lists m (covered_by m s) (items s)
  own s h = record { ordered = h.ordered; covering = λ a. refl }

  pub became_lists : (set : A → Bool) (s t : Sheet E) → Became m set s t → Sound m s → Lists m set (items t)
  became_lists set s t b h = record { ordered = (b.sound h).ordered; covering = b.covers h }

  module _ (R : Rules m) where
    -- the sheet itself is a list that fits
    pub none_longer : (s : Sheet E) (set : A → Bool) (es : List E) → Lists m set (items s) → Lists m set es → room s < length es → ⊥
    none_longer s set es h k l = let e = ap length (one_list m R set es (items s) k h) in let w = within s in omega arith

    -- the start copy has room, since the sheet had
    second : (F : (A → Bool) → A → Bool) (res : Result (Unit {0}) Refusal) (s t s' t' : Sheet E) → Became m (F (covered_by m s)) s s'
        → MatchResult res (λ _. Became m (F (covered_by m t)) t t') (λ why. Refused m (F (covered_by m t)) t t' why)
        → room t ≡ room s → Sound m s → Sound m t → covered_by m s ≡ covered_by m t → Lists m (F (covered_by m t)) (items t')
    second F (Ok x) s t s' t' b z r hs ht q = became_lists (F (covered_by m t)) t t' z ht
    second F (Err x) s t s' t' b z r hs ht q =
        let l = subst (λ (S : A → Bool). Lists m (F S) (items s')) q (became_lists (F (covered_by m s)) s s' b hs) in
        let f = refused_any m R (F (covered_by m t)) t t' x z ht (items s') l in
        let w = within s' in
        let y = b.room in
        absurd (omega arith)

    kept_room : (set : A → Bool) (res : Result (Unit {0}) Refusal) (t t' : Sheet E) → MatchResult res (λ _. Became m set t t') (λ why. Refused m set t t' why) → room t' ≡ room t
    kept_room set (Ok x) t t' b = b.room
    kept_room set (Err x) t t' b = ap room b.same

    pub both : (F : (A → Bool) → A → Bool) (res : Result (Unit {0}) Refusal) (s t s' t' : Sheet E) → Became m (F (covered_by m s)) s s'
        → MatchResult res (λ _. Became m (F (covered_by m t)) t t') (λ why. Refused m (F (covered_by m t)) t t' why) → Both m F s t s' t'
    both F res s t s' t' b z = record { first = b; second = second F res s t s' t' b z; room = kept_room (F (covered_by m t)) res t t' z }

    pub neither : (F : (A → Bool) → A → Bool) (why : Refusal) (s t s' : Sheet E) → Refused m (F (covered_by m s)) s s' why → Neither m F why s t s' t
    neither F why s t s' b = record { number = b.number; first = b.same; second = refl; full = b.full }

module _ {EM AM CM EC Ac CC : Type 0} (M : KindModel EM AM CM) (C : KindModel EC Ac CC) (RM : Rules M) (RC : Rules C) where
  abbrev pub with_marks : Drawing EM EC → Sheet EM → Sheet EM → Drawing EM EC
  with_marks d s t = record { book = d.book; marks = s; cuts = d.cuts; start_marks = t; start_cuts = d.start_cuts; steps = d.steps; step_count = d.step_count }

  abbrev pub with_cuts : Drawing EM EC → Sheet EC → Sheet EC → Drawing EM EC
  with_cuts d s t = record { book = d.book; marks = d.marks; cuts = s; start_marks = d.start_marks; start_cuts = t; steps = d.steps; step_count = d.step_count }

  -- before the first step the sheets are their start copies
  unstepped : (d : Drawing EM EC) → Alive M C d → (0 < length (taken d) → ⊥) → covered M C (state d) ≡ started M C (state d)
  unstepped d l n = l.now ∙ ap (λ xs. stepped M C (setting d).rules (started M C (state d)) (map step_of xs)) (no_steps (taken d) n)

  not_stepped : (d : Drawing EM EC) → (0 < length (taken d) → ⊥) → Stepped M C (state d) → ⊥
  not_stepped d n h = n (subst (λ (k : ℕ). 0 < k) (length_map step_of (taken d)) h)

  pub stroke_early : (d : Drawing EM EC) (st : Stroke EM EC) → 0 < length (taken d) → Goes M C d (stroke st) (refused 11) d
  stroke_early d st h = stays_by M C RM RC d (stroke st) (refused 11) (λ l. (inl (subst (λ (k : ℕ). 0 < k) (sym (length_map step_of (taken d))) h, refl), refl))

  -- the stroke changes the marks so, or the cuts
  abbrev OnMarks : Stroke EM EC → ((AM → Bool) → AM → Bool) → Type 0
  OnMarks st F = (S : Sets AM Ac) → stroked M C S st ≡ record { marks = F S.marks; cuts = S.cuts }

  abbrev OnCuts : Stroke EM EC → ((Ac → Bool) → Ac → Bool) → Type 0
  OnCuts st F = (S : Sets AM Ac) → stroked M C S st ≡ record { marks = S.marks; cuts = F S.cuts }

  pub strikes_drawn : (x : Struck EM EC) → Strikes M C plus x (drawn x)
  strikes_drawn (Mark e) = λ S i. record { marks = λ a. S.marks a || or_none (covers M e a) i; cuts = S.cuts }
  strikes_drawn (Cut e) = λ S i. record { marks = S.marks; cuts = λ a. S.cuts a || or_none (covers C e a) i }

  pub strikes_rubbed : (x : Struck EM EC) → Strikes M C minus x (rubbed x)
  strikes_rubbed (Mark e) = λ S i. record { marks = λ a. S.marks a && not (or_none (covers M e a) i); cuts = S.cuts }
  strikes_rubbed (Cut e) = λ S i. record { marks = S.marks; cuts = λ a. S.cuts a && not (or_none (covers C e a) i) }

  pub mark_kept : (d : Drawing EM EC) (F : (AM → Bool) → AM → Bool) (res : Result (Unit {0}) Refusal) (s t : Sheet EM) → MatchResult res (λ _. Both M F d.marks d.start_marks s t) (λ why. Neither M F why d.marks d.start_marks s t) → IfErr res (λ _. with_marks d s t ≡ d)
  mark_kept d F (Ok x) s t h = tt
  mark_kept d F (Err why) s t h = λ i. with_marks d (h.first i) (h.second i)

  pub cut_kept : (d : Drawing EM EC) (F : (Ac → Bool) → Ac → Bool) (res : Result (Unit {0}) Refusal) (s t : Sheet EC) → MatchResult res (λ _. Both C F d.cuts d.start_cuts s t) (λ why. Neither C F why d.cuts d.start_cuts s t) → IfErr res (λ _. with_cuts d s t ≡ d)
  cut_kept d F (Ok x) s t h = tt
  cut_kept d F (Err why) s t h = λ i. with_cuts d (h.first i) (h.second i)

  module _ (d : Drawing EM EC) (st : Stroke EM EC) (n : 0 < length (taken d) → ⊥) where
    module _ (F : (AM → Bool) → AM → Bool) (on : OnMarks st F) where
      mark_lists : (S : Sets AM Ac) (xs : List EM) → Lists M (F S.marks) xs → Lists M (stroked M C S st).marks xs
      mark_lists S xs h = subst (λ (T : Sets AM Ac). Lists M T.marks xs) (sym (on S)) h

      cut_lists : (S : Sets AM Ac) (xs : List EC) → Lists C S.cuts xs → Lists C (stroked M C S st).cuts xs
      cut_lists S xs h = subst (λ (T : Sets AM Ac). Lists C T.cuts xs) (sym (on S)) h

      mark_full : (why : Refusal) (s t : Sheet EM) → Neither M F why d.marks d.start_marks s t → Goes M C d (stroke st) (refused (number why)) (with_marks d s t)
      mark_full why s t b =
          let q : with_marks d s t ≡ d = (λ i. with_marks d (b.first i) (b.second i)) in
          subst (λ (x : Drawing EM EC). Goes M C d (stroke st) (refused (number why)) x) (sym q)
          (stays_by M C RM RC d (stroke st) (refused (number why)) (λ l.
          let w = b.full l.marks in
          let k = w.1.long in
          let z = w.2 in
          (inr (not_stepped d n, inl (inl (w.1.list, mark_lists (covered M C (state d)) w.1.list w.1.lists, omega arith), b.number)), refl)))

      mark_done : (s t : Sheet EM) → Both M F d.marks d.start_marks s t → Goes M C d (stroke st) done (with_marks d s t)
      mark_done s t b =
          goes_by M C RM RC d (with_marks d s t) (stroke st) done
          (ap (λ (k : ℕ). record { rules = (setting d).rules; mark_slots = k; cut_slots = (setting d).cut_slots; step_slots = (setting d).step_slots }) b.first.room)
          b.room refl
          (λ l. let same = unstepped d l n in (
            (not_stepped d n, (over l, tt)),
            (
              refl,
              record {
                marks = mark_lists (covered M C (state d)) (items s) (became_lists M (F (covered_by M d.marks)) d.marks s b.first l.marks);
                cuts = cut_lists (covered M C (state d)) (items d.cuts) (own C d.cuts l.cuts);
                start_marks = mark_lists (started M C (state d)) (items t) (b.second l.mark_rooms l.marks l.start_marks (ap (λ (S : Sets AM Ac). S.marks) same));
                start_cuts = cut_lists (started M C (state d)) (items d.start_cuts) (own C d.start_cuts l.start_cuts);
                steps = refl;
              },
            ),
          ))
        where
          over : Alive M C d → SheetFull M C (setting d) (state d) st → ⊥
          over l (inl x) =
              none_longer M RM s (stroked M C (covered M C (state d)) st).marks x.0 (mark_lists (covered M C (state d)) (items s) (became_lists M (F (covered_by M d.marks)) d.marks s b.first l.marks)) x.1
              (subst (λ (k : ℕ). k < length x.0) (sym b.first.room) x.2)
          over l (inr x) = none_longer C RC d.cuts (stroked M C (covered M C (state d)) st).cuts x.0 (cut_lists (covered M C (state d)) (items d.cuts) (own C d.cuts l.cuts)) x.1 x.2

      pub mark_goes : (res : Result (Unit {0}) Refusal) (s t : Sheet EM) → MatchResult res (λ _. Both M F d.marks d.start_marks s t) (λ why. Neither M F why d.marks d.start_marks s t) → Goes M C d (stroke st) (answer res (λ _. done)) (with_marks d s t)
      mark_goes (Ok x) s t h = mark_done s t h
      mark_goes (Err why) s t h = mark_full why s t h

    module _ (F : (Ac → Bool) → Ac → Bool) (on : OnCuts st F) where
      lists_mark : (S : Sets AM Ac) (xs : List EM) → Lists M S.marks xs → Lists M (stroked M C S st).marks xs
      lists_mark S xs h = subst (λ (T : Sets AM Ac). Lists M T.marks xs) (sym (on S)) h

      lists_cut : (S : Sets AM Ac) (xs : List EC) → Lists C (F S.cuts) xs → Lists C (stroked M C S st).cuts xs
      lists_cut S xs h = subst (λ (T : Sets AM Ac). Lists C T.cuts xs) (sym (on S)) h

      cut_full : (why : Refusal) (s t : Sheet EC) → Neither C F why d.cuts d.start_cuts s t → Goes M C d (stroke st) (refused (number why)) (with_cuts d s t)
      cut_full why s t b =
          let q : with_cuts d s t ≡ d = (λ i. with_cuts d (b.first i) (b.second i)) in
          subst (λ (x : Drawing EM EC). Goes M C d (stroke st) (refused (number why)) x) (sym q)
          (stays_by M C RM RC d (stroke st) (refused (number why)) (λ l.
          let w = b.full l.cuts in
          let k = w.1.long in
          let z = w.2 in
          (inr (not_stepped d n, inl (inr (w.1.list, lists_cut (covered M C (state d)) w.1.list w.1.lists, omega arith), b.number)), refl)))

      cut_done : (s t : Sheet EC) → Both C F d.cuts d.start_cuts s t → Goes M C d (stroke st) done (with_cuts d s t)
      cut_done s t b =
          goes_by M C RM RC d (with_cuts d s t) (stroke st) done
          (ap (λ (k : ℕ). record { rules = (setting d).rules; mark_slots = (setting d).mark_slots; cut_slots = k; step_slots = (setting d).step_slots }) b.first.room)
          refl b.room
          (λ l. let same = unstepped d l n in (
            (not_stepped d n, (over l, tt)),
            (
              refl,
              record {
                marks = lists_mark (covered M C (state d)) (items d.marks) (own M d.marks l.marks);
                cuts = lists_cut (covered M C (state d)) (items s) (became_lists C (F (covered_by C d.cuts)) d.cuts s b.first l.cuts);
                start_marks = lists_mark (started M C (state d)) (items d.start_marks) (own M d.start_marks l.start_marks);
                start_cuts = lists_cut (started M C (state d)) (items t) (b.second l.cut_rooms l.cuts l.start_cuts (ap (λ (S : Sets AM Ac). S.cuts) same));
                steps = refl;
              },
            ),
          ))
        where
          over : Alive M C d → SheetFull M C (setting d) (state d) st → ⊥
          over l (inl x) = none_longer M RM d.marks (stroked M C (covered M C (state d)) st).marks x.0 (lists_mark (covered M C (state d)) (items d.marks) (own M d.marks l.marks)) x.1 x.2
          over l (inr x) =
              none_longer C RC s (stroked M C (covered M C (state d)) st).cuts x.0 (lists_cut (covered M C (state d)) (items s) (became_lists C (F (covered_by C d.cuts)) d.cuts s b.first l.cuts)) x.1
              (subst (λ (k : ℕ). k < length x.0) (sym b.first.room) x.2)

      pub cut_goes : (res : Result (Unit {0}) Refusal) (s t : Sheet EC) → MatchResult res (λ _. Both C F d.cuts d.start_cuts s t) (λ why. Neither C F why d.cuts d.start_cuts s t) → Goes M C d (stroke st) (answer res (λ _. done)) (with_cuts d s t)
      cut_goes (Ok x) s t h = cut_done s t h
      cut_goes (Err why) s t h = cut_full why s t h
