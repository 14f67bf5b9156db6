-- Sides of rules, when the latest is closed and when it grows.
use Rattle.std.proofs.Common.{◌≡◌, ℕ, ◌-◌, List, [], ◌∷◌, ◌++◌, map, take, drop, sym, refl, ap, ◌∙◌, subst, arith, MutBor}
use mathlib.Core.List.{map-append}
use Rattle.std.specs.List.{AllByRecursion}
use Rattle.kinds.specs.Model.{KindModel, covers}
use Rattle.sheets.specs.Cover.{union, cover}
use Rattle.sheets.specs.Maximal.{Lists}
use Rattle.rulebook.specs.Growing.{latest_record, Closed, SideGrew, Widens}
use Rattle.rulebook.specs.Rulebooks.{side_of, KeptTable, KeptSide}
use Rattle.rulebook.specs.Tables.{stretch_of, latest}
use Rattle.rulebook.specs.declared.records.SideRecord.{SideRecord}
use Rattle.rulebook.specs.declared.rulebook.SideTables.{SideTables}
use Rattle.rulebook.specs.declared.stroke.Stroke.{Stroke}
use Rattle.rulebook.specs.declared.stroke.Stroke.TheVariants.{Mark, Cut}
use Rattle.rulebook.specs.declared.table.Stretch.{Stretch}
use Rattle.rulebook.specs.declared.table.Table.{Table}
use Rattle.rulebook.proofs.Chaining.{grown_before, grown_kept, closed_kept, last_is, stayed_kept}

abbrev mark_stretch : SideRecord → Stretch
mark_stretch s = s.marks

abbrev cut_stretch : SideRecord → Stretch
cut_stretch s = s.cuts

-- sides of which the stretches are the same are the same
same_sides : {EM EC : Type 0} (t u : SideTables EM EC) (ss : List SideRecord)
    → AllByRecursion (λ r. stretch_of u.marks.slots.now r ≡ stretch_of t.marks.slots.now r) (map mark_stretch ss)
    → AllByRecursion (λ r. stretch_of u.cuts.slots.now r ≡ stretch_of t.cuts.slots.now r) (map cut_stretch ss)
    → map (side_of u) ss ≡ map (side_of t) ss
same_sides t u [] p q = refl
same_sides t u (s ∷ ss) p q =
    let h = p.0 in
    let k = q.0 in
    let r = same_sides t u ss p.1 q.1 in
    λ i. record { marks = h i; cuts = k i } ∷ r i

all_refl : {E : Type 0} (xs : List E) (ss : List Stretch) → AllByRecursion (λ r. stretch_of xs r ≡ stretch_of xs r) ss
all_refl xs [] = tt
all_refl xs (s ∷ ss) = (refl, all_refl xs ss)

all_is : {E : Type 0} (xs ys : List E) (ss : List Stretch) → xs ≡ ys → AllByRecursion (λ r. stretch_of xs r ≡ stretch_of ys r) ss
all_is xs ys ss e = subst (λ zs. AllByRecursion (λ r. stretch_of xs r ≡ stretch_of zs r) ss) e (all_refl xs ss)

module _ {EM AM CM EC Ac CC : Type 0} (M : KindModel EM AM CM) (C : KindModel EC Ac CC) where
  -- the two chains of the sides before the latest, and of the latest
  pub parted_marks : (ss : List SideRecord) (s : SideRecord) (t : SideTables EM EC) → KeptSide M C (ss ++ (s ∷ [])) t → KeptTable M (map mark_stretch ss ++ (s.marks ∷ [])) t.marks
  parted_marks ss s t k = subst (λ rs. KeptTable M rs t.marks) (map-append mark_stretch ss (s ∷ [])) k.marks

  pub parted_cuts : (ss : List SideRecord) (s : SideRecord) (t : SideTables EM EC) → KeptSide M C (ss ++ (s ∷ [])) t → KeptTable C (map cut_stretch ss ++ (s.cuts ∷ [])) t.cuts
  parted_cuts ss s t k = subst (λ rs. KeptTable C rs t.cuts) (map-append cut_stretch ss (s ∷ [])) k.cuts

  joined_side : (ss : List SideRecord) (s : SideRecord) (t : SideTables EM EC) → KeptTable M (map mark_stretch ss ++ (s.marks ∷ [])) t.marks → KeptTable C (map cut_stretch ss ++ (s.cuts ∷ [])) t.cuts → KeptSide M C (ss ++ (s ∷ [])) t
  joined_side ss s t p q = record {
    marks = subst (λ rs. KeptTable M rs t.marks) (sym (map-append mark_stretch ss (s ∷ []))) p;
    cuts = subst (λ rs. KeptTable C rs t.cuts) (sym (map-append cut_stretch ss (s ∷ []))) q;
  }

  -- what is known when the latest side grew
  pub record SideResult (stroke : Stroke EM EC) (ss : List SideRecord) (s : SideRecord) (t u : SideTables EM EC) : Type 0 where
    pub kept : KeptSide M C (ss ++ (latest_record u ∷ [])) u
    pub before : map (side_of u) ss ≡ map (side_of t) ss
    pub widens : Widens M C stroke (side_of t s) (side_of u (latest_record u))

  pub side_grown : (stroke : Stroke EM EC) (ss : List SideRecord) (s : SideRecord) (t u : SideTables EM EC) → KeptSide M C (ss ++ (s ∷ [])) t → SideGrew M C stroke t u → SideResult stroke ss s t u
  side_grown (Mark e) ss s t u k g =
      let p = parted_marks ss s t k in
      let q = parted_cuts ss s t k in
      let same = g.1 in
      record {
        kept = joined_side ss (latest_record u) u (grown_kept M _ _ e _ _ p g.0) (stayed_kept C _ _ _ _ same q);
        before = same_sides t u ss (grown_before M _ _ e _ _ p g.0) (all_is _ _ _ (ap (λ (v : Table EC). v.slots.now) same));
        widens = (
          subst (λ (xs : List EM). Lists M (union (cover M xs) (covers M e)) (latest u.marks)) (sym (last_is M _ _ _ p)) (g.0.list p.tidy),
          ap latest same ∙ sym (last_is C _ _ _ q),
        );
      }
  side_grown (Cut e) ss s t u k g =
      let p = parted_marks ss s t k in
      let q = parted_cuts ss s t k in
      let same = g.0 in
      record {
        kept = joined_side ss (latest_record u) u (stayed_kept M _ _ _ _ same p) (grown_kept C _ _ e _ _ q g.1);
        before = same_sides t u ss (all_is _ _ _ (ap (λ (v : Table EM). v.slots.now) same)) (grown_before C _ _ e _ _ q g.1);
        widens = (
          ap latest same ∙ sym (last_is M _ _ _ p),
          subst (λ (xs : List EC). Lists C (union (cover C xs) (covers C e)) (latest u.cuts)) (sym (last_is C _ _ _ q)) (g.1.list q.tidy),
        );
      }

  -- and when the latest side was closed
  pub record ClosedResult (ss : List SideRecord) (t u : SideTables EM EC) : Type 0 where
    pub kept : KeptSide M C (ss ++ (latest_record u ∷ [])) u
    pub before : map (side_of u) ss ≡ map (side_of t) ss
    pub empty : side_of u (latest_record u) ≡ record { marks = []; cuts = [] }

  pub side_closed : (ss : List SideRecord) (t u : SideTables EM EC) → KeptSide M C ss t → Closed t u → ClosedResult ss t u
  side_closed ss t u k h =
      let p = ap (λ (r : MutBor (List EM)). r.now) h.mark_slots in
      let q = ap (λ (r : MutBor (List EC)). r.now) h.cut_slots in
      let mz : u.marks.used - u.marks.from ≡ 0 = omega (arith, h.marks.0, h.marks.1) in
      let cz : u.cuts.used - u.cuts.from ≡ 0 = omega (arith, h.cuts.0, h.cuts.1) in
      let me = ap (λ (i : ℕ). take i (drop u.marks.from u.marks.slots.now)) mz in
      let ce = ap (λ (i : ℕ). take i (drop u.cuts.from u.cuts.slots.now)) cz in
      record {
        kept = joined_side ss (latest_record u) u (closed_kept M _ _ _ p h.marks.0 h.marks.1 k.marks) (closed_kept C _ _ _ q h.cuts.0 h.cuts.1 k.cuts);
        before = same_sides t u ss (all_is _ _ _ p) (all_is _ _ _ q);
        empty = λ i. record { marks = me i; cuts = ce i };
      }
