-- Changes of a sheet one after the other.
use Rattle.std.proofs.Common.{◌≡◌, ℕ, ◌+◌, ◌<◌, ◌≤◌, min, Bool, false, ◌||◌, List, [], ◌∷◌, ◌++◌, length, get_or, take, IfErr, Ok, Err, Result, sym, refl, ap, ◌∙◌, subst, ⊎_elim, arith, MatchResult}
use Rattle.std.proofs.lemmas.Bool.{cases_lt}
use Rattle.std.proofs.lemmas.List.{take_all, take_more, length-take}
use Rattle.lattice.specs.declared.placement.Placement.{Placement}
use Rattle.lattice.specs.declared.refusal.Refusal.{Refusal}
use Rattle.kinds.specs.Model.{KindModel}
use Rattle.sheets.specs.Contents.{items, room, Sound, covered, Became, Refused}
use Rattle.sheets.specs.Change.{by, Lawful}
use Rattle.sheets.specs.Maximal.{Same}
use Rattle.sheets.specs.declared.sheet.Sheet.{Sheet}
use Rattle.sheets.proofs.Joined.{or_assoc, or_none}
use Rattle.grammar.specs.Sets.{atoms, placed}
use Rattle.drawing.specs.Changes.{Turned}

-- what lies past the end is not counted
pub clamped : {X : Type 0} (n k : ℕ) (xs : List X) → k ≡ min n (length xs) → take k xs ≡ take n xs
clamped n k xs e = ⊎_elim (λ h. ap (λ (j : ℕ). take j xs) (omega arith)) (λ h. take_all k xs (omega arith) ∙ sym (take_all n xs h)) (cases_lt n (length xs))

pub within : {E : Type 0} (s : Sheet E) → length (items s) ≤ room s
within s = simp length-take (omega arith)

module _ {E A C : Type 0} (m : KindModel E A C) where
  placed_append : (p : Placement) (xs ys : List E) (a : A) → placed m p (xs ++ ys) a ≡ (placed m p xs a || placed m p ys a)
  placed_append p [] ys a = refl
  placed_append p (x ∷ xs) ys a = ap (λ (b : Bool). atoms m (m.place p x) a || b) (placed_append p xs ys a) ∙ sym (or_assoc (atoms m (m.place p x) a) (placed m p xs a) (placed m p ys a))

  placed_more : (p : Placement) (xs : List E) (i : ℕ) (x : E) → i < length xs → x ≡ get_or xs i x → (a : A) → placed m p (take (i + 1) xs) a ≡ (placed m p (take i xs) a || atoms m (m.place p x) a)
  placed_more p xs i x l is a =
      ap (λ (zs : List E). placed m p zs a) (take_more xs i x l ∙ ap (λ (z : E). take i xs ++ z ∷ []) (sym is)) ∙ placed_append p (take i xs) (x ∷ []) a
      ∙ ap (λ (b : Bool). placed m p (take i xs) a || b) (or_none (atoms m (m.place p x) a))

  -- one change after another: room for both is room for each
  pub turned_then : {a b : ℕ} {s t u : Sheet E} (F G : (A → Bool) → A → Bool) → Turned m a (F (covered m s)) s t → Turned m b (G (covered m t)) t u → Turned m (a + b) (G (F (covered m s))) s u
  turned_then {a = a} {b = b} {s = s} {t = t} {u = u} F G p q = record {
    sound = λ h. q.sound (p.sound h);
    covers = λ r h.
        let k = p.covers (omega arith) h in
        let l = p.more in
        let e = p.room in
        subst (λ (S : A → Bool). Same (covered m u) (G S)) (λ i x. k x i) (q.covers (omega arith) (p.sound h));
    more = let l = p.more in let k = q.more in omega arith;
    room = q.room ∙ p.room;
  }

  pub turned_as : {n : ℕ} {s t : Sheet E} {S R : A → Bool} → Same S R → Turned m n S s t → Turned m n R s t
  turned_as {n = n} {s = s} {t = t} e p = subst (λ (X : A → Bool). Turned m n X s t) (λ i x. e x i) p

  -- a single change: a refusal would mean that all slots are taken
  pub turned_one : {V : Type 0} (res : Result V Refusal) (S : A → Bool) (s t : Sheet E) → MatchResult res (λ _. Became m S s t) (λ why. Refused m S s t why)
      → length (items t) ≤ length (items s) + 1 → IfErr res (λ _. length (items s) ≡ room s) → Turned m 1 S s t
  turned_one (Ok v) S s t b l k = record { sound = b.sound; covers = λ r h. b.covers h; more = l; room = b.room }
  turned_one (Err v) S s t b l k = record {
    sound = λ h. subst (λ (x : Sheet E). Sound m x) (sym b.same) h;
    covers = λ r h. absurd (omega arith);
    more = l;
    room = ap room b.same;
  }

  pub turned_none : (S : A → Bool) (s : Sheet E) → Same (covered m s) S → Turned m 1 S s s
  turned_none S s e = record { sound = λ h. h; covers = λ r h. e; more = omega arith; room = refl }

  module _ (op : Bool → Bool → Bool) (law : Lawful op) where
    pub changed_none : (S : A → Bool) → Same S (by op S (λ x. false))
    changed_none S a = sym (law.none (S a))

    -- the change by one element more
    pub changed_more : (p : Placement) (xs : List E) (i : ℕ) (x : E) → i < length xs → x ≡ get_or xs i x → (s t u : Sheet E)
        → Turned m i (by op (covered m s) (placed m p (take i xs))) s t → Turned m 1 (by op (covered m t) (atoms m (m.place p x))) t u → Turned m (i + 1) (by op (covered m s) (placed m p (take (i + 1) xs))) s u
    changed_more p xs i x l is s t u h k =
        turned_as (λ a. sym (law.both (covered m s a) (placed m p (take i xs) a) (atoms m (m.place p x) a)) ∙ ap (op (covered m s a)) (sym (placed_more p xs i x l is a)))
        (turned_then (λ (S : A → Bool). by op S (placed m p (take i xs))) (λ (S : A → Bool). by op S (atoms m (m.place p x))) h k)

  pub turned_all : (F : (A → Bool) → A → Bool) (p : Placement) (xs : List E) (i : ℕ) (s t : Sheet E) → i ≡ length xs → Turned m i (F (placed m p (take i xs))) s t → Turned m (length xs) (F (placed m p xs)) s t
  turned_all F p xs i s t e h = subst (λ (ys : List E). Turned m (length xs) (F (placed m p ys)) s t) (take_all (length xs) xs (omega arith)) (subst (λ (j : ℕ). Turned m j (F (placed m p (take j xs))) s t) e h)
