-- A sum on the end of a table.
use Rattle.std.proofs.Common.{◌≡◌, ℕ, ◌-◌, ◌≤◌, min, List, length, take, drop, sym, ap, ◌∙◌, subst, arith, length-drop}
use borrow.Rule.Slice.PartMut.{put_mid, same_len_mid, put_same}
use borrow.Rule.Slice.Mut.{set_vals}
use Rattle.std.proofs.lemmas.List.{take_rest}
use Rattle.std.proofs.lemmas.Slice.{between-put_mid}
use Rattle.lattice.specs.declared.refusal.Refusal.{Refusal}
use Rattle.kinds.specs.Model.{KindModel, covers}
use Rattle.sheets.specs.Cover.{union, cover, canonical}
use Rattle.sheets.specs.Maximal.{Counts}
use Rattle.sheets.specs.Slots.{SlotsStayed}
use Rattle.rulebook.specs.Tables.{latest, Tidy, Stayed}
use Rattle.rulebook.specs.declared.table.Table.{Table}

-- the end of a list from a on
abbrev tail_of : {X : Type 0} → ℕ → List X → List X
tail_of a xs = take (length xs - a) (drop a xs)

tail_length : {X : Type 0} (a : ℕ) (xs : List X) → length (tail_of a xs) ≡ length xs - a
tail_length a xs = ap length (take_rest xs a) ∙ length-drop a xs

-- a list with another end
abbrev with_tail : {X : Type 0} → ℕ → List X → List X → List X
with_tail a xs ys = put_mid a (length xs - a) xs ys

with_tail_length : {X : Type 0} (a : ℕ) (xs ys : List X) → length ys ≡ length (tail_of a xs) → length (with_tail a xs ys) ≡ length xs
with_tail_length a xs ys h = same_len_mid a (length xs - a) xs ys h

tail_with : {X : Type 0} (a : ℕ) (xs ys : List X) → a ≤ length xs → length ys ≡ length (tail_of a xs) → drop a (with_tail a xs ys) ≡ ys
tail_with a xs ys h l =
    let n = with_tail_length a xs ys l in
    sym (take_rest (with_tail a xs ys) a) ∙ ap (λ (k : ℕ). take (k - a) (drop a (with_tail a xs ys))) n ∙
    between-put_mid a (length xs - a) xs ys (length xs) h (l ∙ tail_length a xs)

module _ {E A C : Type 0} (m : KindModel E A C) where
  -- where the latest stretch is, in the words of the code
  abbrev Start : Table E → ℕ → Type 0
  Start t f = f ≡ min t.from (length t.slots.now)

  abbrev Count : Table E → ℕ → ℕ → Type 0
  Count t f count = count ≡ t.used - f

  was_latest : (t : Table E) (f count : ℕ) → Start t f → Count t f count → Tidy m t → take count (tail_of f t.slots.now) ≡ latest t
  was_latest t f count h k d =
      let l = d.low in
      let g = d.high in
      let same : f ≡ t.from = omega arith in
      ap (take count) (take_rest t.slots.now f) ∙ ap (λ (n : ℕ). take n (drop f t.slots.now)) (omega arith) ∙ ap (λ (n : ℕ). take (t.used - t.from) (drop n t.slots.now)) same

  pub sum_stayed : (e : E) (why : Refusal) (t u : Table E) (f count : ℕ) (sub : List E) → Start t f → Count t f count → SlotsStayed m count e why (tail_of f t.slots.now) sub → u ≡ record { slots = set_vals (with_tail f t.slots.now sub) t.slots; from = t.from; used = t.used } → Stayed m e why t u
  sum_stayed e why t u f count sub h k b now = record {
    number = b.number;
    same = now ∙ ap (λ (z : List E). record { slots = set_vals z t.slots; from = t.from; used = t.used }) (ap (with_tail f t.slots.now) b.same ∙ put_same f (length t.slots.now - f) t.slots.now);
    full = λ d.
        let w = was_latest t f count h k d in
        let lo = d.low in
        let hi = d.high in
        let p = d.few in
        let full = b.full (ap (canonical m) w ∙ d.ordered) (omega (arith, tail_length f t.slots.now)) in
        (full.0, subst (λ (z : List E). Counts m (union (cover m z) (covers m e)) full.0) w full.1, omega (arith, full.2, tail_length f t.slots.now));
  }
