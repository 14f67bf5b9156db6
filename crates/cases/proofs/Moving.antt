-- What a call does, tested.
use Rattle.std.proofs.Common.{◌≡◌, ◌+◌, ◌<◌, Bool, true, false, ◌&&◌, ltb, leb, ◌⊎◌, List, [], ◌∷◌, ◌++◌, length, ℤ, is_some, Some, sym, refl, ap, ◌∙◌, subst, inl, inr, ⊎_elim, arith}
use Rattle.std.proofs.lemmas.Bool.{false≢true, ltb-true, leb-true, and_parts, or_cases}
use Rattle.lattice.specs.declared.placement.Placement.{Placement}
use Rattle.kinds.specs.Model.{KindModel, covers, moved}
use Rattle.kinds.specs.Rules.{Rules}
use Rattle.sheets.specs.Cover.{cover}
use Rattle.sheets.proofs.Unique.{one_list}
use Rattle.grammar.specs.Calls.{Stroke, stroke, pick, undo, count, refused, done, counted}
use Rattle.grammar.specs.Moves.{Moves}
use Rattle.grammar.specs.Numbers.{nth, ordinal}
use Rattle.grammar.specs.Places.{Listed}
use Rattle.grammar.specs.Record.{Step, stroked, replaced, stepped}
use Rattle.grammar.specs.Refusals.{NoRule, EmptyLeft, NoPlace, Leaves, LeavesField, StepsFull, NoRoom}
use Rattle.grammar.specs.Rules.{Rule, side, Filled}
use Rattle.grammar.specs.Sets.{Sets}
use Rattle.grammar.specs.State.{Setting, State, covered, started, Holds}
use Rattle.grammar.proofs.Bounds.{Bound, bound_lists, bound_stroked, bound_replaced, bound_stepped}
use Rattle.grammar.proofs.Numbers.{some_one, none_some}
use Rattle.grammar.proofs.Uniform.{same_places}
use Rattle.cases.proofs.Pieces.{lists, lists_from}
use Rattle.cases.proofs.Placing.{Computed, numbers, numbers_from}
use Rattle.cases.proofs.Tests.{every}

module _ {EM AM CM EC Ac CC : Type 0} (M : KindModel EM AM CM) (C : KindModel EC Ac CC) (kM : Computed M) (kC : Computed C) where
  -- the sheets and the start copies are the lists of the sets
  abbrev pub holding : (S S₀ : Sets AM Ac) → Bound M C S → Bound M C S₀ → State EM EC → Bool
  holding S S₀ b b₀ d =
      (lists M kM.pieces b.marks.elements S.marks d.marks && lists C kC.pieces b.cuts.elements S.cuts d.cuts)
      && (lists M kM.pieces b₀.marks.elements S₀.marks d.start_marks && lists C kC.pieces b₀.cuts.elements S₀.cuts d.start_cuts)

  holding_from : (S S₀ : Sets AM Ac) (b : Bound M C S) (b₀ : Bound M C S₀) (d : State EM EC) (xs : List Step) → holding S S₀ b b₀ d ≡ true → d.steps ≡ xs → Holds M C d S S₀ xs
  holding_from S S₀ b b₀ d xs h e =
      let x = and_parts (lists M kM.pieces b.marks.elements S.marks d.marks && lists C kC.pieces b.cuts.elements S.cuts d.cuts) (lists M kM.pieces b₀.marks.elements S₀.marks d.start_marks && lists C kC.pieces b₀.cuts.elements S₀.cuts d.start_cuts) h in
      let y = and_parts (lists M kM.pieces b.marks.elements S.marks d.marks) (lists C kC.pieces b.cuts.elements S.cuts d.cuts) x.0 in
      let z = and_parts (lists M kM.pieces b₀.marks.elements S₀.marks d.start_marks) (lists C kC.pieces b₀.cuts.elements S₀.cuts d.start_cuts) x.1 in
      record {
        marks = lists_from M kM.pieces kM.rules b.marks.elements S.marks d.marks b.marks.all y.0;
        cuts = lists_from C kC.pieces kC.rules b.cuts.elements S.cuts d.cuts b.cuts.all y.1;
        start_marks = lists_from M kM.pieces kM.rules b₀.marks.elements S₀.marks d.start_marks b₀.marks.all z.0;
        start_cuts = lists_from C kC.pieces kC.rules b₀.cuts.elements S₀.cuts d.start_cuts b₀.cuts.all z.1;
        steps = e;
      }

  module _ (t : Setting EM EC) (d : State EM EC) where
    -- what the drawing and its start copies cover lies within their elements
    abbrev pub now : Bound M C (covered M C d)
    now = bound_lists M C d.marks d.cuts

    abbrev pub start : Bound M C (started M C d)
    start = bound_lists M C d.start_marks d.start_cuts

    -- no more elements than slots
    abbrev pub slotted : State EM EC → Bool
    slotted e = leb (length e.marks) t.mark_slots && leb (length e.cuts) t.cut_slots

    -- a stroke on a drawing with no step
    abbrev pub strokes : Stroke EM EC → State EM EC → Bool
    strokes s e = holding (stroked M C (covered M C d) s) (stroked M C (started M C d) s) (bound_stroked M C (covered M C d) s now) (bound_stroked M C (started M C d) s start) e && slotted e

    pub stroke_done : (s : Stroke EM EC) (e : State EM EC) → d.steps ≡ [] → e.steps ≡ [] → strokes s e ≡ true → Moves M C t d (stroke s) done e
    stroke_done s e q w h =
        let x = and_parts (holding (stroked M C (covered M C d) s) (stroked M C (started M C d) s) (bound_stroked M C (covered M C d) s now) (bound_stroked M C (started M C d) s start) e) (slotted e) h in
        let y = and_parts (leb (length e.marks) t.mark_slots) (leb (length e.cuts) t.cut_slots) x.1 in
        let k = holding_from (stroked M C (covered M C d) s) (stroked M C (started M C d) s) (bound_stroked M C (covered M C d) s now) (bound_stroked M C (started M C d) s start) e d.steps x.0 (w ∙ sym q) in (
          (
            λ l. let z : length d.steps ≡ 0 = ap length q in omega arith,
            (⊎_elim (λ f. let o = one_list M kM.rules _ f.0 e.marks f.1 k.marks in let z = leb-true _ _ y.0 in let l = f.2 in omega (arith, ap length o)) (λ f. let o = one_list C kC.rules _ f.0 e.cuts f.1 k.cuts in let z = leb-true _ _ y.1 in let l = f.2 in omega (arith, ap length o)), tt),
          ),
          (refl, k),
        )

    -- the last step taken back
    pub undo_done : (older : List Step) (x : Step) (e : State EM EC) → d.steps ≡ older ++ x ∷ [] → e.steps ≡ older → holding (stepped M C t.rules (started M C d) older) (started M C d) (bound_stepped M C t.rules older (started M C d) start) start e ≡ true → Moves M C t d undo done e
    undo_done older x e q w h = (
      (λ l. snoc_long older x (sym l ∙ ap length q), tt),
      (refl, older, x, q, holding_from (stepped M C t.rules (started M C d) older) (started M C d) (bound_stepped M C t.rules older (started M C d) start) start e older h w),
    )
      where
        snoc_long : (xs : List Step) (y : Step) → 0 ≡ length (xs ++ y ∷ []) → ⊥
        snoc_long [] y f = omega arith
        snoc_long (z ∷ zs) y f = omega arith

    -- how many places the rule with number r has
    pub count_done : (r : ℤ) (rule : Rule EM EC) → nth t.rules (ordinal r) ≡ Some rule → (ps : List Placement) → numbers M C kM kC rule.left (record { marks = d.marks; cuts = d.cuts }) ps ≡ true → Moves M C t d (count r) (counted (length ps)) d
    count_done r rule named ps found =
        let f = numbers_from M C kM kC rule.left (record { marks = d.marks; cuts = d.cuts }) ps found in (
          (λ h. none_some (sym h ∙ named), (λ h. h.2 (subst (λ (x : Rule EM EC). Filled M C (side M C x.left)) (some_one (sym named ∙ h.1)) f.filled), tt)),
          (record { rule = rule; named = named; places = ps; numbered = f.numbered }, refl, refl),
        )

    -- picking a place of the rule with number r
    module _ (r k : ℤ) (rule : Rule EM EC) (named : nth t.rules (ordinal r) ≡ Some rule) (ps : List Placement) (found : numbers M C kM kC rule.left (record { marks = d.marks; cuts = d.cuts }) ps ≡ true) (p : Placement) (kth : nth ps (ordinal k) ≡ Some p) where
      abbrev listed : Listed M C t.rules (covered M C d) (ordinal r)
      listed = record { rule = rule; named = named; places = ps; numbered = (numbers_from M C kM kC rule.left (record { marks = d.marks; cuts = d.cuts }) ps found).numbered }

      same : (l : Listed M C t.rules (covered M C d) (ordinal r)) → l.places ≡ ps
      same l = same_places M C t.rules (covered M C d) (ordinal r) l listed

      one_rule : (x : Rule EM EC) → nth t.rules (ordinal r) ≡ Some x → x ≡ rule
      one_rule x e = some_one (sym e ∙ named)

      -- rows 13, 14 and 15 are not given
      there : NoRule M C t (ordinal r) → ⊥
      there h = none_some (sym h ∙ named)

      full : EmptyLeft M C t (ordinal r) → ⊥
      full h = h.2 (subst (λ (x : Rule EM EC). Filled M C (side M C x.left)) (sym (one_rule h.0 h.1)) (numbers_from M C kM kC rule.left (record { marks = d.marks; cuts = d.cuts }) ps found).filled)

      numbered : NoPlace M C t d (ordinal r) (ordinal k) → ⊥
      numbered h = none_some (sym h.1 ∙ ap (λ (qs : List Placement). nth qs (ordinal k)) (same h.0) ∙ kth)

      -- row 16, tested
      abbrev pub stays : Bool
      stays = every (λ e. is_some (M.place p e)) rule.right.marks && every (λ e. is_some (C.place p e)) rule.right.cuts

      inside : stays ≡ true → LeavesField M C t d (ordinal r) (ordinal k) → ⊥
      inside h l =
          let x = and_parts (every (λ e. is_some (M.place p e)) rule.right.marks) (every (λ e. is_some (C.place p e)) rule.right.cuts) h in
          let q : l.1 ≡ p = some_one (sym l.2 ∙ ap (λ (qs : List Placement). nth qs (ordinal k)) (same l.0) ∙ kth) in
          let w = one_rule l.0.rule l.0.named in
          ⊎_elim (stay M kM.rules p rule.right.marks x.0) (stay C kC.rules p rule.right.cuts x.1)
          (subst (λ (z : Rule EM EC). Leaves M C p z.right) w (subst (λ (z : Placement). Leaves M C z l.0.rule.right) q l.3))
        where
          stay : {E A K : Type 0} (m : KindModel E A K) → Rules m → (p : Placement) (es : List E) → every (λ e. is_some (m.place p e)) es ≡ true → (a : A) × (cover m es a ≡ true) × (m.field (moved m p a) ≡ false) → ⊥
          stay m ru p [] h f = false≢true f.1
          stay m ru p (e ∷ es) h f =
              let x = and_parts (is_some (m.place p e)) (every (λ e. is_some (m.place p e)) es) h in
              ⊎_elim (λ c. false≢true (ap is_some (sym ((ru.refused p e).1 (f.0, c, f.2))) ∙ x.0)) (λ c. stay m ru p es x.1 (f.0, c, f.2)) (or_cases (covers m e f.0) (cover m es f.0) f.1)

      pub pick_leaves : Leaves M C p rule.right → Moves M C t d (pick r k) (refused 16) d
      pick_leaves h = (inr (there, inr (full, inr (numbered, inl ((listed, p, kth, h), refl)))), refl)

      -- rows 17 and 18, tested
      abbrev pub roomy : Bool
      roomy = leb (length d.marks + length rule.left.marks + length rule.right.marks) t.mark_slots && leb (length d.cuts + length rule.left.cuts + length rule.right.cuts) t.cut_slots

      wide : roomy ≡ true → NoRoom M C t d (ordinal r) → ⊥
      wide h f =
          let x = and_parts (leb (length d.marks + length rule.left.marks + length rule.right.marks) t.mark_slots) (leb (length d.cuts + length rule.left.cuts + length rule.right.cuts) t.cut_slots) h in
          let a = leb-true _ _ x.0 in
          let b = leb-true _ _ x.1 in
          ⊎_elim (λ l. omega arith) (λ l. omega arith)
          (subst (λ (z : Rule EM EC). (t.mark_slots < length d.marks + length z.left.marks + length z.right.marks) ⊎ (t.cut_slots < length d.cuts + length z.left.cuts + length z.right.cuts)) (one_rule f.0 f.1) f.2)

      unfilled : ltb (length d.steps) t.step_slots ≡ true → StepsFull M C t d → ⊥
      unfilled h l = let a = ltb-true _ _ h in omega arith

      pub pick_no_room : stays ≡ true → ltb (length d.steps) t.step_slots ≡ true → t.cut_slots < length d.cuts + length rule.left.cuts + length rule.right.cuts → Moves M C t d (pick r k) (refused 18) d
      pick_no_room s f h = (inr (there, inr (full, inr (numbered, inr (inside s, inr (unfilled f, inl ((rule, named, inr h), refl)))))), refl)

      pub pick_done : (e : State EM EC) → stays ≡ true → ltb (length d.steps) t.step_slots ≡ true → roomy ≡ true → e.steps ≡ d.steps ++ record { rule = ordinal r; at = p } ∷ []
          → holding (replaced M C p rule (covered M C d)) (started M C d) (bound_replaced M C p rule (covered M C d) now) start e ≡ true → Moves M C t d (pick r k) done e
      pick_done e s f h q w = (
        (there, (full, (numbered, (inside s, (unfilled f, (wide h, tt)))))),
        (refl, listed, p, kth, holding_from (replaced M C p rule (covered M C d)) (started M C d) (bound_replaced M C p rule (covered M C d) now) start e (d.steps ++ record { rule = ordinal r; at = p } ∷ []) w q),
      )
