-- What a record covers lies within finitely many elements, which compute.
use Rattle.std.proofs.Common.{◌≡◌, true, false, not, List, [], ◌∷◌, ◌++◌, Some, None, Option, ◌∙◌, ⊎_elim}
use Rattle.std.proofs.lemmas.Bool.{and_parts, or_cases, or_left, or_right}
use Rattle.lattice.specs.declared.placement.Placement.{Placement}
use Rattle.kinds.specs.Model.{KindModel, covers}
use Rattle.sheets.specs.Cover.{union, difference, cover}
use Rattle.sheets.proofs.Joined.{cover_append}
use Rattle.grammar.specs.Calls.{Stroke, draw_mark, rub_mark, draw_cut, rub_cut}
use Rattle.grammar.specs.Numbers.{nth}
use Rattle.grammar.specs.Record.{Step, stroked, replaced, replaced_by, stepped}
use Rattle.grammar.specs.Rules.{Rule}
use Rattle.grammar.specs.Sets.{Set, atoms, placed, Sets}

module _ {E A C : Type 0} (K : KindModel E A C) where
  pub record Within (S : Set A) : Type 0 where
    pub elements : List E
    pub all : (a : A) → (S a ≡ true) → (cover K elements a ≡ true)

  abbrev difference_within : (S R : Set A) → Within S → Within (difference S R)
  difference_within S R h = record { elements = h.elements; all = λ a x. h.all a (and_parts (S a) (not (R a)) x).0 }

  abbrev union_within : (S R : Set A) → Within S → Within R → Within (union S R)
  union_within S R h k = record {
    elements = h.elements ++ k.elements;
    all = λ a x. cover_append K h.elements k.elements a ∙ ⊎_elim (λ l. or_left _ _ (h.all a l)) (λ l. or_right _ _ (k.all a l)) (or_cases (S a) (R a) x);
  }

  abbrev atoms_within : (o : Option E) → Within (atoms K o)
  atoms_within None = record { elements = []; all = λ a h. h }
  atoms_within (Some f) = record { elements = f ∷ []; all = λ a h. or_left (covers K f a) false h }

  abbrev placed_within : (p : Placement) (es : List E) → Within (placed K p es)
  placed_within p [] = record { elements = []; all = λ a h. h }
  placed_within p (e ∷ es) = union_within (atoms K (K.place p e)) (placed K p es) (atoms_within (K.place p e)) (placed_within p es)

module _ {EM AM CM EC Ac CC : Type 0} (M : KindModel EM AM CM) (C : KindModel EC Ac CC) where
  pub record Bound (S : Sets AM Ac) : Type 0 where
    pub marks : Within M S.marks
    pub cuts : Within C S.cuts

  abbrev pub bound_lists : (ms : List EM) (cs : List EC) → Bound (record { marks = cover M ms; cuts = cover C cs })
  bound_lists ms cs = record { marks = record { elements = ms; all = λ a h. h }; cuts = record { elements = cs; all = λ a h. h } }

  abbrev pub bound_stroked : (S : Sets AM Ac) (s : Stroke EM EC) → Bound S → Bound (stroked M C S s)
  bound_stroked S (draw_mark e) h = record { marks = union_within M S.marks (cover M (e ∷ [])) h.marks (record { elements = e ∷ []; all = λ a x. x }); cuts = h.cuts }
  bound_stroked S (rub_mark e) h = record { marks = difference_within M S.marks (cover M (e ∷ [])) h.marks; cuts = h.cuts }
  bound_stroked S (draw_cut e) h = record { marks = h.marks; cuts = union_within C S.cuts (cover C (e ∷ [])) h.cuts (record { elements = e ∷ []; all = λ a x. x }) }
  bound_stroked S (rub_cut e) h = record { marks = h.marks; cuts = difference_within C S.cuts (cover C (e ∷ [])) h.cuts }

  abbrev pub bound_replaced : (p : Placement) (rule : Rule EM EC) (S : Sets AM Ac) → Bound S → Bound (replaced M C p rule S)
  bound_replaced p rule S h = record {
    marks = union_within M (difference S.marks (placed M p rule.left.marks)) (placed M p rule.right.marks) (difference_within M S.marks (placed M p rule.left.marks) h.marks) (placed_within M p rule.right.marks);
    cuts = union_within C (difference S.cuts (placed C p rule.left.cuts)) (placed C p rule.right.cuts) (difference_within C S.cuts (placed C p rule.left.cuts) h.cuts) (placed_within C p rule.right.cuts);
  }

  abbrev bound_by : (p : Placement) (o : Option (Rule EM EC)) (S : Sets AM Ac) → Bound S → Bound (replaced_by M C p o S)
  bound_by p None S h = h
  bound_by p (Some rule) S h = bound_replaced p rule S h

  abbrev pub bound_stepped : (rules : List (Rule EM EC)) (xs : List Step) (S : Sets AM Ac) → Bound S → Bound (stepped M C rules S xs)
  bound_stepped rules [] S h = h
  bound_stepped rules (x ∷ xs) S h = bound_stepped rules xs (replaced_by M C x.at (nth rules x.rule) S) (bound_by x.at (nth rules x.rule) S h)
