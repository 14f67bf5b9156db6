-- The list of places, tested: only finitely many placements take an atom of the left side to an atom of the drawing.
-- a placement of these numbers is in the list
use Rattle.std.proofs.Common.{◌≡◌, ℕ, zero, suc, ◌<◌, Bool, true, false, not, ◌&&◌, ◌||◌, eqb, List, [], ◌∷◌, ℤ, Some, sym, refl, ap, subst, inl, inr, ⊎_elim, arith}
use Rattle.std.proofs.lemmas.Bool.{false≢true, and_parts, and_from, eqb-true}
use Rattle.lattice.specs.declared.placement.Placement.{Placement}
use Rattle.lattice.specs.Order.{triple}
use Rattle.lattice.proofs.Same.{same_placement}
use Rattle.kinds.specs.Model.{KindModel, moved}
use Rattle.kinds.specs.Rules.{Rules}
use Rattle.sheets.specs.Census.{Belongs}
use Rattle.sheets.specs.Cover.{cover}
use Rattle.grammar.specs.Places.{Place, Numbered}
use Rattle.grammar.specs.Rules.{Side, side, Filled}
use Rattle.grammar.specs.Sets.{Set, Sets}
use Rattle.grammar.proofs.Exists.{Sorted, sorted_rises}
use Rattle.grammar.proofs.Numbers.{none_some, Mem, mem_cons}
use Rattle.grammar.proofs.Placements.{turn_below}
use Rattle.grammar.proofs.Tests.{or_not}
use Rattle.cases.specs.Cases.{rest}
use Rattle.cases.proofs.Pieces.{whole, pieces_of, piece_of, piece_covered}
use Rattle.cases.proofs.Tests.{every, some, every_one, some_one_of, equal_z, equal_z_from, before, before_from, all_pass}
use Rattle.lattice.specs.Turns.{index}

abbrev pub is_listed : ℕ → ℤ → ℤ → List Placement → Bool
is_listed s u v ps = some (λ p. eqb (index p.turn) s && (equal_z p.across u && equal_z p.up v)) ps

abbrev pub rising : List Placement → Bool
rising [] = true
rising (p ∷ ps) = every (λ q. before (triple p) (triple q)) ps && rising ps

-- each of the turns
abbrev pub turns : List ℕ
turns = 0 ∷ 1 ∷ 2 ∷ 3 ∷ 4 ∷ 5 ∷ 6 ∷ 7 ∷ []

pub a_turn : (s : ℕ) → s < 8 → Belongs s turns
a_turn zero h = inl refl
a_turn (suc zero) h = inr (inl refl)
a_turn (suc (suc zero)) h = inr (inr (inl refl))
a_turn (suc (suc (suc zero))) h = inr (inr (inr (inl refl)))
a_turn (suc (suc (suc (suc zero)))) h = inr (inr (inr (inr (inl refl))))
a_turn (suc (suc (suc (suc (suc zero))))) h = inr (inr (inr (inr (inr (inl refl)))))
a_turn (suc (suc (suc (suc (suc (suc zero)))))) h = inr (inr (inr (inr (inr (inr (inl refl))))))
a_turn (suc (suc (suc (suc (suc (suc (suc zero))))))) h = inr (inr (inr (inr (inr (inr (inr (inl refl)))))))
a_turn (suc (suc (suc (suc (suc (suc (suc (suc s)))))))) h = absurd (omega arith)

pub to_mem : (ps : List Placement) (p : Placement) → Belongs p ps → Mem ps p
to_mem [] p b = absurd b
to_mem (q ∷ qs) p (inl e) = (1, ap Some e)
to_mem (q ∷ qs) p (inr b) = (mem_cons q qs p).1 (inr (to_mem qs p b))

pub from_mem : (ps : List Placement) (p : Placement) → Mem ps p → Belongs p ps
from_mem [] p n = absurd (none_some n.1)
from_mem (q ∷ qs) p n = ⊎_elim (λ e. inl e) (λ k. inr (from_mem qs p k)) ((mem_cons q qs p).0 n)

pub rising_from : (ps : List Placement) → rising ps ≡ true → Sorted ps
rising_from [] h = tt
rising_from (p ∷ ps) h =
    let k = and_parts (every (λ q. before (triple p) (triple q)) ps) (rising ps) h in
    (λ q n. before_from (triple p) (triple q) (every_one (λ z. before (triple p) (triple z)) ps k.0 q (from_mem ps q n)), rising_from ps k.1)

listed_from : (p : Placement) (ps : List Placement) → is_listed (index p.turn) p.across p.up ps ≡ true → Mem ps p
listed_from p ps h =
    let x = some_one_of (λ q. eqb (index q.turn) (index p.turn) && (equal_z q.across p.across && equal_z q.up p.up)) ps h in
    let q = x.0 in
    let a = and_parts (eqb (index q.turn) (index p.turn)) (equal_z q.across p.across && equal_z q.up p.up) x.2 in
    let b = and_parts (equal_z q.across p.across) (equal_z q.up p.up) a.1 in
    to_mem ps p (subst (λ (z : Placement). Belongs z ps) (same_placement q p (eqb-true _ _ a.0) (equal_z_from _ _ b.0) (equal_z_from _ _ b.1)) x.1)

-- a kind with its pieces, and the only shifts that can take one atom to another
pub record Computed {E A C : Type 0} (m : KindModel E A C) : Type 0 where
  pub rules : Rules m
  pub pieces : E → List A
  pub shifts : ℕ → A → A → ℤ × ℤ
  pub only : (s : ℕ) (u v : ℤ) (a b : A) → m.image s u v a ≡ b → ((shifts s a b).0 ≡ u) × ((shifts s a b).1 ≡ v)

module _ {E A C : Type 0} (m : KindModel E A C) (k : Computed m) where
  -- the placement of these numbers takes each atom of the list into the set
  abbrev pub onto : Set A → List A → ℕ → ℤ → ℤ → Bool
  onto S xs s u v = every (λ a. S (m.image s u v a)) xs

  -- whatever takes the atom to one of bs, and passes the test, is listed
  abbrev pub tried : A → List A → (ℕ → ℤ → ℤ → Bool) → List Placement → Bool
  tried from bs test ps = every (λ s. every (λ b. not (test s (k.shifts s from b).0 (k.shifts s from b).1) || is_listed s (k.shifts s from b).0 (k.shifts s from b).1 ps) bs) turns

  pub tried_from : (from : A) (bs : List A) (test : ℕ → ℤ → ℤ → Bool) (ps : List Placement) → tried from bs test ps ≡ true → (p : Placement) → Belongs (moved m p from) bs → test (index p.turn) p.across p.up ≡ true → Mem ps p
  tried_from from bs test ps h p b t =
      let s = (index p.turn) in
      let x = every_one (λ s. every (λ b. not (test s (k.shifts s from b).0 (k.shifts s from b).1) || is_listed s (k.shifts s from b).0 (k.shifts s from b).1 ps) bs) turns h s (a_turn s (turn_below p)) in
      let y = every_one (λ b. not (test s (k.shifts s from b).0 (k.shifts s from b).1) || is_listed s (k.shifts s from b).0 (k.shifts s from b).1 ps) bs x (moved m p from) b in
      let o = k.only s p.across p.up from (moved m p from) refl in
      let z = subst (λ (u : ℤ). (not (test s u (k.shifts s from (moved m p from)).1) || is_listed s u (k.shifts s from (moved m p from)).1 ps) ≡ true) o.0 y in
      let w = subst (λ (v : ℤ). (not (test s p.across v) || is_listed s p.across v ps) ≡ true) o.1 z in
      listed_from p ps (or_not (test s p.across p.up) (is_listed s p.across p.up ps) w t)

module _ {EM AM CM EC Ac CC : Type 0} (M : KindModel EM AM CM) (C : KindModel EC Ac CC) (kM : Computed M) (kC : Computed C) where
  -- the placement of these numbers puts the left side on the sets
  abbrev pub fits : Side EM EC → Sets AM Ac → ℕ → ℤ → ℤ → Bool
  fits l S s u v = onto M kM S.marks (pieces_of M kM.pieces l.marks) s u v && onto C kC S.cuts (pieces_of C kC.pieces l.cuts) s u v

  -- some atom of the left side is tried on all atoms of the drawing
  abbrev pub all_tried : List AM → List Ac → List AM → List Ac → (ℕ → ℤ → ℤ → Bool) → List Placement → Bool
  all_tried (a ∷ rest) cs bs ds test ps = tried M kM a bs test ps
  all_tried [] (c ∷ cs) bs ds test ps = tried C kC c ds test ps
  all_tried [] [] bs ds test ps = false

  abbrev pub wholes : Side EM EC → Bool
  wholes s = every (whole M kM.pieces) s.marks && every (whole C kC.pieces) s.cuts

  -- ps are the places of the left side on the drawing
  abbrev pub numbers : Side EM EC → Side EM EC → List Placement → Bool
  numbers l d ps =
      wholes l && (wholes d && (rising ps && (every (λ p. fits l (side M C d) (index p.turn) p.across p.up) ps
      && all_tried (pieces_of M kM.pieces l.marks) (pieces_of C kC.pieces l.cuts) (pieces_of M kM.pieces d.marks) (pieces_of C kC.pieces d.cuts) (fits l (side M C d)) ps)))

  module _ (l d : Side EM EC) (wl : wholes l ≡ true) (wd : wholes d ≡ true) where
    left_marks : every (whole M kM.pieces) l.marks ≡ true
    left_marks = (and_parts (every (whole M kM.pieces) l.marks) (every (whole C kC.pieces) l.cuts) wl).0

    left_cuts : every (whole C kC.pieces) l.cuts ≡ true
    left_cuts = (and_parts (every (whole M kM.pieces) l.marks) (every (whole C kC.pieces) l.cuts) wl).1

    drawn_marks : every (whole M kM.pieces) d.marks ≡ true
    drawn_marks = (and_parts (every (whole M kM.pieces) d.marks) (every (whole C kC.pieces) d.cuts) wd).0

    drawn_cuts : every (whole C kC.pieces) d.cuts ≡ true
    drawn_cuts = (and_parts (every (whole M kM.pieces) d.marks) (every (whole C kC.pieces) d.cuts) wd).1

    -- a place passes the test, and what passes it puts the left side on the drawing
    place_fits : (p : Placement) → Place M C (side M C l) (side M C d) p → fits l (side M C d) (index p.turn) p.across p.up ≡ true
    place_fits p h = and_from _ _
        (all_pass (λ a. cover M d.marks (moved M p a)) (pieces_of M kM.pieces l.marks) (λ a b. h.marks a (piece_covered M kM.pieces kM.rules l.marks a left_marks b)))
        (all_pass (λ a. cover C d.cuts (moved C p a)) (pieces_of C kC.pieces l.cuts) (λ a b. h.cuts a (piece_covered C kC.pieces kC.rules l.cuts a left_cuts b)))

    fits_place : (p : Placement) → Filled M C (side M C l) → fits l (side M C d) (index p.turn) p.across p.up ≡ true → Place M C (side M C l) (side M C d) p
    fits_place p f h =
        let x = and_parts (onto M kM (cover M d.marks) (pieces_of M kM.pieces l.marks) (index p.turn) p.across p.up) (onto C kC (cover C d.cuts) (pieces_of C kC.pieces l.cuts) (index p.turn) p.across p.up) h in
        record {
          filled = f;
          marks = λ a c. every_one (λ b. cover M d.marks (moved M p b)) (pieces_of M kM.pieces l.marks) x.0 a (piece_of M kM.pieces kM.rules l.marks a left_marks c);
          cuts = λ a c. every_one (λ b. cover C d.cuts (moved C p b)) (pieces_of C kC.pieces l.cuts) x.1 a (piece_of C kC.pieces kC.rules l.cuts a left_cuts c);
        }

    pub record Sought (ps : List Placement) : Type 0 where
      pub filled : Filled M C (side M C l)
      pub found : (p : Placement) → Place M C (side M C l) (side M C d) p → Mem ps p

    sought : (ps : List Placement) (xs : List AM) (cs : List Ac) → pieces_of M kM.pieces l.marks ≡ xs → pieces_of C kC.pieces l.cuts ≡ cs
        → all_tried xs cs (pieces_of M kM.pieces d.marks) (pieces_of C kC.pieces d.cuts) (fits l (side M C d)) ps ≡ true → Sought ps
    sought ps (a ∷ rest) cs e f h =
        let b : Belongs a (pieces_of M kM.pieces l.marks) = subst (λ (xs : List AM). Belongs a xs) (sym e) (inl refl) in
        let c = piece_covered M kM.pieces kM.rules l.marks a left_marks b in
        record {
          filled = inl (a, c);
          found = λ p w. tried_from M kM a (pieces_of M kM.pieces d.marks) (fits l (side M C d)) ps h p (piece_of M kM.pieces kM.rules d.marks (moved M p a) drawn_marks (w.marks a c)) (place_fits p w);
        }
    sought ps [] (a ∷ rest) e f h =
        let b : Belongs a (pieces_of C kC.pieces l.cuts) = subst (λ (xs : List Ac). Belongs a xs) (sym f) (inl refl) in
        let c = piece_covered C kC.pieces kC.rules l.cuts a left_cuts b in
        record {
          filled = inr (a, c);
          found = λ p w. tried_from C kC a (pieces_of C kC.pieces d.cuts) (fits l (side M C d)) ps h p (piece_of C kC.pieces kC.rules d.cuts (moved C p a) drawn_cuts (w.cuts a c)) (place_fits p w);
        }
    sought ps [] [] e f h = absurd (false≢true h)

  pub record Found (l d : Side EM EC) (ps : List Placement) : Type 0 where
    pub filled : Filled M C (side M C l)
    pub numbered : Numbered M C (side M C l) (side M C d) ps

  pub numbers_from : (l d : Side EM EC) (ps : List Placement) → numbers l d ps ≡ true → Found l d ps
  numbers_from l d ps h =
      let test = fits l (side M C d) in
      let tries = all_tried (pieces_of M kM.pieces l.marks) (pieces_of C kC.pieces l.cuts) (pieces_of M kM.pieces d.marks) (pieces_of C kC.pieces d.cuts) test ps in
      let good = every (λ p. test (index p.turn) p.across p.up) ps in
      let a = and_parts (wholes l) (wholes d && (rising ps && (good && tries))) h in
      let b = and_parts (wholes d) (rising ps && (good && tries)) a.1 in
      let c = and_parts (rising ps) (good && tries) b.1 in
      let e = and_parts good tries c.1 in
      let s = sought l d a.0 b.0 ps _ _ refl refl e.1 in
      record {
        filled = s.filled;
        numbered = record {
          each = s.found;
          only = λ k p q. fits_place l d a.0 b.0 p s.filled (every_one (λ p. test (index p.turn) p.across p.up) ps e.0 p (from_mem ps p (k, q)));
          rise = sorted_rises ps (rising_from ps c.0);
        };
      }
