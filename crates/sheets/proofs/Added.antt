-- A canonical list with the atoms of one element more.
use Rattle.std.proofs.Common.{◌≡◌, ℕ, min, ◌+◌, ◌-◌, ◌^◌, ◌<◌, ◌≤◌, Bool, true, false, ◌||◌, List, ◌∷◌, ◌++◌, length, get_or, take, drop, Ok, Err, Result, sym, refl, ap, ◌∙◌, subst, ⊎_elim, arith, MatchResult}
use Rattle.std.specs.List.{between, AllByRecursion}
use Rattle.std.proofs.lemmas.Bool.{cases_lt}
use Rattle.std.proofs.lemmas.List.{length-take, take-append-drop, drop-drop, drop_more, drop_all}
use Rattle.std.proofs.lemmas.List.Edits.{split_between}
use Rattle.lattice.specs.declared.refusal.Refusal.{Refusal}
use Rattle.kinds.specs.Model.{KindModel, covers}
use Rattle.kinds.specs.Rules.{Rules, Touch}
use Rattle.sheets.specs.declared.sheet.Sheet.{Sheet}
use Rattle.sheets.specs.Cover.{cover, ahead, canonical}
use Rattle.sheets.specs.Maximal.{Lists, Counts}
use Rattle.sheets.specs.Finding.{Parted, Whole}
use Rattle.sheets.specs.Contents.{covered, items, room, Sound, Became, Refused}
use Rattle.sheets.specs.Put.{Put, NoPut, Makes, news}
use Rattle.sheets.specs.declared.splice.Splice.{Splice}
use Rattle.sheets.proofs.Order.{Pairs, pairs_from, pairs_to}
use Rattle.sheets.proofs.Joined.{Clear, joined_pairs, joined_cover}
use Rattle.sheets.proofs.Spliced.{length_with}
use Rattle.sheets.proofs.Unique.{one_list}

pub split_rest : {E : Type 0} (xs : List E) (from to : ℕ) → from ≤ to → drop from xs ≡ between from to xs ++ drop to xs
split_rest xs from to low =
    let index : from + (to - from) ≡ to = omega arith in
    sym (take-append-drop (to - from) (drop from xs)) ∙ ap (λ l. between from to xs ++ l) (drop-drop (to - from) from xs ∙ ap (λ k. drop k xs) index)

module _ {E A C : Type 0} (m : KindModel E A C) (r : Rules m) where
  -- p, found for the elements of a sheet and e, makes of them the list of what the operation makes of both
  module _ (op : (A → Bool) → (A → Bool) → A → Bool) (e : E) (xs : List E) (p : Splice E) (s : Sheet E) (is : xs ≡ items s) (h : Makes m (op (cover m xs) (covers m e)) xs p) where
    made : Makes m (op (covered m s) (covers m e)) (items s) p
    made = subst (λ l. Makes m (op (cover m l) (covers m e)) l p) is h

    -- the sheet covers that then, or there was no room
    pub settled : {V : Type 0} (t : Sheet E) (res : Result V Refusal)
        → MatchResult res (λ _. Put p s t) (λ e. NoPut p s t e)
        → MatchResult res (λ _. Became m (op (covered m s) (covers m e)) s t) (λ why. Refused m (op (covered m s) (covers m e)) s t why)
    settled t (Ok v) put = record {
      sound = λ k. record { ordered = ap (canonical m) put.items ∙ (made.lists k.ordered).ordered; few = (let f = k.few in let q = put.room in omega arith) };
      covers = λ k a. ap (λ l. cover m l a) put.items ∙ (made.lists k.ordered).covering a;
      room = put.room;
    }
    settled t (Err v) put = record {
      number = put.number;
      same = put.same;
      full = λ k. (_, record { list = _; lists = made.lists k.ordered; long = refl }, put.full);
    }

    -- and has so many elements then
    pub counted : (n : ℕ) → n ≡ min (length xs - (p.to - p.from) + length (news p)) (2 ^ 64 - 1) → Sound m s → Counts m (op (covered m s) (covers m e)) n
    counted n q k =
        let few = k.few in
        let more = made.few in
        let l = ap length is in
        let within = length-take s.count s.slots.now in
        let long : n ≡ length (items s) - (p.to - p.from) + length (news p) = omega arith in
        record { list = _; lists = made.lists k.ordered; long = length_with (items s) (news p) p.from p.to made.low made.high ∙ sym long }

  -- what the search and the gathering found
  pub record Gathered (xs : List E) (e w : E) (from to : ℕ) : Type 0 where
    pub low : from ≤ to
    pub high : to ≤ length xs
    pub parted : canonical m xs ≡ true → Parted (λ x. ahead m x e) xs from
    pub whole : Whole m e (between from to xs) w
    pub ends : (d : E) → to < length xs → Touch m w (get_or xs to d) → ⊥

  module _ (xs : List E) (e w : E) (from to : ℕ) (f : Gathered xs e w from to) where
    clear : Clear m r w (drop to xs)
    clear = ⊎_elim (λ h. subst (Clear m r w) (sym (drop_more xs to w h)) (f.ends w h)) (λ h. subst (Clear m r w) (sym (drop_all to xs h)) tt) (cases_lt to (length xs))

    pub added_canonical : canonical m xs ≡ true → canonical m (take from xs ++ (w ∷ drop to xs)) ≡ true
    added_canonical h =
        let p = f.parted h in
        let back = subst (AllByRecursion (λ x. ahead m x e ≡ false)) (split_rest xs from to f.low) p.back in
        let three = subst (Pairs m) (split_between xs from to f.low) (pairs_from m r xs h) in
        pairs_to m _ (joined_pairs m r e w (take from xs) (between from to xs) (drop to xs) three p.front back f.whole clear)

    pub added_cover : (a : A) → cover m (take from xs ++ (w ∷ drop to xs)) a ≡ (cover m xs a || covers m e a)
    added_cover a = joined_cover m r e w (take from xs) (between from to xs) (drop to xs) a f.whole ∙ ap (λ l. cover m l a || covers m e a) (sym (split_between xs from to f.low))

  -- of a refusal: every list of the set is longer than there are slots
  pub refused_any : (set : A → Bool) (s t : Sheet E) (why : Refusal) → Refused m set s t why → Sound m s → (ys : List E) → Lists m set ys → room s < length ys
  refused_any set s t why h k ys l =
      let f = h.full k in
      let n = f.1.long in
      let e = ap length (one_list m r set f.1.list ys f.1.lists l) in
      omega (arith, f.2)
