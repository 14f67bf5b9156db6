-- The atoms of elements, one by one: sets that agree on finitely many atoms, and lie within them, are the same.
use Rattle.std.proofs.Common.{◌≡◌, Bool, true, ◌&&◌, List, [], ◌∷◌, ◌++◌, ℤ, pos, negsuc, ◌+ℤ◌, ◌-ℤ◌, nat_abs, sym, refl, ◌∙◌, subst, ⊎_elim, arith}
use Rattle.std.specs.Ordering.{is_eq}
use Rattle.std.proofs.lemmas.Int.{ints}
use Rattle.std.proofs.lemmas.Bool.{false≢true, and_parts, or_cases, or_left, or_right}
use Rattle.kinds.specs.Model.{KindModel, covers}
use Rattle.kinds.specs.Rules.{Rules}
use Rattle.kinds.proofs.Having.{same_tests, has_from}
use Rattle.kinds.proofs.Standing.{nonempty}
use Rattle.elements.specs.Orders.{equal_from}
use Rattle.sheets.specs.Census.{Belongs}
use Rattle.sheets.specs.Cover.{cover, canonical}
use Rattle.sheets.specs.Maximal.{Lists}
use Rattle.sheets.proofs.Order.{belongs_append, belongs_left, belongs_right}
use Rattle.grammar.specs.Sets.{Set}
use Rattle.cases.proofs.Tests.{alike, alike_from, every, some, every_one, some_one_of, upto, upto_one, equal_z, equal_z_from}

module _ {E A C : Type 0} (m : KindModel E A C) (pieces : E → List A) where
  -- the atom stands at a position of the element's carrier
  abbrev pub stands : E → ℤ → A → Bool
  stands x i a = m.proper a && (is_eq (m.order (m.carrier x) (m.on a)) && equal_z (m.at a) i)

  -- the pieces of the element have an atom at each of its positions, and are all covered by it
  abbrev pub whole : E → Bool
  whole x = upto (m.start x) (nat_abs (m.end x -ℤ m.start x)) (λ i. some (stands x i) (pieces x)) && every (covers m x) (pieces x)

  abbrev pub pieces_of : List E → List A
  pieces_of [] = []
  pieces_of (x ∷ xs) = pieces x ++ pieces_of xs

  -- es is the list of the set, which lies within ws
  abbrev pub lists : List E → Set A → List E → Bool
  lists ws S es = canonical m es && (every whole es && (every whole ws && (every (λ a. alike (cover m es a) (S a)) (pieces_of es) && every (λ a. alike (cover m es a) (S a)) (pieces_of ws))))

  module _ (r : Rules m) where
    spans : (x : E) → m.start x +ℤ pos (nat_abs (m.end x -ℤ m.start x)) ≡ m.end x
    spans x = go (m.end x -ℤ m.start x) refl
      where
        go : (z : ℤ) → m.end x -ℤ m.start x ≡ z → m.start x +ℤ pos (nat_abs z) ≡ m.end x
        go (pos n) e = omega (arith, ints)
        go (negsuc n) e = let h = nonempty m r x in absurd (omega (arith, ints))

    pub one_piece : (x : E) (a : A) → whole x ≡ true → covers m x a ≡ true → Belongs a (pieces x)
    one_piece x a w c =
        let h = has_from m r.ordered x a c in
        let l = h.from in
        let t = h.to in
        let s = spans x in
        let u = (and_parts (upto (m.start x) (nat_abs (m.end x -ℤ m.start x)) (λ i. some (stands x i) (pieces x))) (every (covers m x) (pieces x)) w).0 in
        let k = upto_one (nat_abs (m.end x -ℤ m.start x)) (m.start x) (λ i. some (stands x i) (pieces x)) u (m.at a) l (omega (arith, ints, s)) in
        let b = some_one_of (stands x (m.at a)) (pieces x) k in
        let p = and_parts (m.proper b.0) (is_eq (m.order (m.carrier x) (m.on b.0)) && equal_z (m.at b.0) (m.at a)) b.2 in
        let q = and_parts (is_eq (m.order (m.carrier x) (m.on b.0))) (equal_z (m.at b.0) (m.at a)) p.1 in
        let o : m.carrier x ≡ m.on b.0 = r.ordered.same _ _ (equal_from _ q.0) in
        let e : b.0 ≡ a = r.apart b.0 a p.0 h.proper (sym o ∙ h.on) (equal_z_from _ _ q.1) in
        subst (λ (z : A). Belongs z (pieces x)) e b.1

    pub piece_of : (xs : List E) (a : A) → every whole xs ≡ true → cover m xs a ≡ true → Belongs a (pieces_of xs)
    piece_of [] a w c = absurd (false≢true c)
    piece_of (x ∷ xs) a w c =
        let p = and_parts (whole x) (every whole xs) w in
        ⊎_elim (λ k. belongs_left (pieces x) (pieces_of xs) a (one_piece x a p.0 k)) (λ k. belongs_right (pieces x) (pieces_of xs) a (piece_of xs a p.1 k)) (or_cases (covers m x a) (cover m xs a) c)

    pub piece_covered : (xs : List E) (a : A) → every whole xs ≡ true → Belongs a (pieces_of xs) → cover m xs a ≡ true
    piece_covered [] a w b = absurd b
    piece_covered (x ∷ xs) a w b =
        let p = and_parts (whole x) (every whole xs) w in
        let q = (and_parts (upto (m.start x) (nat_abs (m.end x -ℤ m.start x)) (λ i. some (stands x i) (pieces x))) (every (covers m x) (pieces x)) p.0).1 in
        ⊎_elim (λ k. or_left (covers m x a) (cover m xs a) (every_one (covers m x) (pieces x) q a k)) (λ k. or_right (covers m x a) (cover m xs a) (piece_covered xs a p.1 k)) (belongs_append (pieces x) (pieces_of xs) a b)

    pub lists_from : (ws : List E) (S : Set A) (es : List E) → ((a : A) → S a ≡ true → cover m ws a ≡ true) → lists ws S es ≡ true → Lists m S es
    lists_from ws S es w h =
        let p = and_parts (canonical m es) (every whole es && (every whole ws && (every (λ a. alike (cover m es a) (S a)) (pieces_of es) && every (λ a. alike (cover m es a) (S a)) (pieces_of ws)))) h in
        let q = and_parts (every whole es) (every whole ws && (every (λ a. alike (cover m es a) (S a)) (pieces_of es) && every (λ a. alike (cover m es a) (S a)) (pieces_of ws))) p.1 in
        let s = and_parts (every whole ws) (every (λ a. alike (cover m es a) (S a)) (pieces_of es) && every (λ a. alike (cover m es a) (S a)) (pieces_of ws)) q.1 in
        let t = and_parts (every (λ a. alike (cover m es a) (S a)) (pieces_of es)) (every (λ a. alike (cover m es a) (S a)) (pieces_of ws)) s.1 in
        let at : (us : List E) → every (λ a. alike (cover m es a) (S a)) (pieces_of us) ≡ true → every whole us ≡ true → (a : A) → cover m us a ≡ true → cover m es a ≡ S a
        = λ us k v a c. alike_from (cover m es a) (S a) (every_one (λ b. alike (cover m es b) (S b)) (pieces_of us) k a (piece_of us a v c)) in
        record {
          ordered = p.0;
          covering = λ a. same_tests (cover m es a) (S a) (λ c. sym (at es t.0 q.0 a c) ∙ c) (λ c. at ws t.1 s.0 a (w a c) ∙ c);
        }
