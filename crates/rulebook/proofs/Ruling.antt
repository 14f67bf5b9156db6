-- The calls on a rulebook, from what they do to its records and tables.
use Rattle.std.proofs.Common.{◌≡◌, ℕ, ◌+◌, ◌<◌, ◌≤◌, List, [], ◌∷◌, ◌++◌, map, length, get_or, take, set, Ok, Err, Result, sym, refl, ap, ◌∙◌, subst, inr, arith, MatchResult}
use mathlib.Core.List.{map-append}
use Rattle.std.proofs.lemmas.List.{length-take, length-map, length-set, set-get_or}
use Rattle.lattice.specs.declared.refusal.Refusal.{Refusal}
use Rattle.kinds.specs.Model.{KindModel}
use Rattle.grammar.specs.Rules.{Side, Rule}
use Rattle.lattice.specs.Refusals.{number}
use Rattle.rulebook.specs.Growing.{latest_record, Closed, SideGrew, TableStayed, Widens, LatestGrew, Grown, Added, left_side, right_side, with_left, with_right, Full, NotGrown}
use Rattle.rulebook.specs.Rulebooks.{side_of, rule_of, rules_of, kept, bare, KeptSide, Kept}
use Rattle.rulebook.specs.declared.records.RuleRecord.{RuleRecord}
use Rattle.rulebook.specs.declared.records.SideRecord.{SideRecord}
use Rattle.rulebook.specs.declared.rulebook.Rulebook.{Rulebook}
use Rattle.rulebook.specs.declared.rulebook.SideTables.{SideTables}
use Rattle.rulebook.specs.declared.stroke.Stroke.{Stroke}
use Rattle.rulebook.proofs.Books.{kept_before, kept_after, rule_at, same_rules, parted_side, side_again, overflows}
use Rattle.rulebook.proofs.Sides.{SideResult, side_grown, ClosedResult, side_closed}

abbrev pub blank : RuleRecord
blank = record { left = record { marks = record { from = 0; to = 0 }; cuts = record { from = 0; to = 0 } }; right = record { marks = record { from = 0; to = 0 }; cuts = record { from = 0; to = 0 } } }

module _ {EM AM CM EC Ac CC : Type 0} (M : KindModel EM AM CM) (C : KindModel EC Ac CC) where
  -- a side of the rules of a rulebook, and the other side
  pub record Half : Type 0 where
    pub this : RuleRecord → SideRecord
    pub that : RuleRecord → SideRecord
    pub mine : Rulebook EM EC → SideTables EM EC
    pub other : Rulebook EM EC → SideTables EM EC
    pub build : Side EM EC → Side EM EC → Rule EM EC
    pub read : Rule EM EC → Side EM EC
    pub with : Rule EM EC → Side EM EC → Rule EM EC
    pub reads : (a b : Side EM EC) → read (build a b) ≡ a
    pub withs : (a b s : Side EM EC) → with (build a b) s ≡ build s b
    pub rules : (b : Rulebook EM EC) → rule_of b ≡ rule_at M C this that build (mine b) (other b)
    pub taken : (b : Rulebook EM EC) → Kept M C b → KeptSide M C (map this (kept b)) (mine b)
    pub left : (b : Rulebook EM EC) → Kept M C b → KeptSide M C (map that (kept b)) (other b)
    pub one : (x y : RuleRecord) → this x ≡ this y → that x ≡ that y → x ≡ y
    pub same : (b c : Rulebook EM EC) → b.records ≡ c.records → b.count ≡ c.count → mine b ≡ mine c → other b ≡ other c → b ≡ c
    pub makes : (b : Rulebook EM EC) → b.count ≤ 32 → length b.records ≡ 32 → KeptSide M C (map this (kept b)) (mine b) → KeptSide M C (map that (kept b)) (other b) → Kept M C b

  abbrev pub left_half : Half
  left_half = record {
    this = λ r. r.left;
    that = λ r. r.right;
    mine = λ b. b.left;
    other = λ b. b.right;
    build = λ a b. record { left = a; right = b };
    read = left_side;
    with = with_left;
    reads = λ a b. refl;
    withs = λ a b s. refl;
    rules = λ b. refl;
    taken = λ b k. k.left;
    left = λ b k. k.right;
    one = λ x y p q i. record { left = p i; right = q i };
    same = λ b c r n p q i. record { records = r i; count = n i; left = p i; right = q i };
    makes = λ b f n p q. record { few = f; slots = n; left = p; right = q };
  }

  abbrev pub right_half : Half
  right_half = record {
    this = λ r. r.right;
    that = λ r. r.left;
    mine = λ b. b.right;
    other = λ b. b.left;
    build = λ a b. record { left = b; right = a };
    read = right_side;
    with = with_right;
    reads = λ a b. refl;
    withs = λ a b s. refl;
    rules = λ b. refl;
    taken = λ b k. k.right;
    left = λ b k. k.left;
    one = λ x y p q i. record { left = q i; right = p i };
    same = λ b c r n p q i. record { records = r i; count = n i; left = q i; right = p i };
    makes = λ b f n p q. record { few = f; slots = n; left = q; right = p };
  }

  module _ (H : Half) where
    -- a rule as the tables have it
    abbrev seen : SideTables EM EC → SideTables EM EC → RuleRecord → Rule EM EC
    seen t w r = rule_at M C H.this H.that H.build t w r

    -- the record i of a rulebook with i + 1 rules was read as x, and written as y
    pub record Rewritten (b c : Rulebook EM EC) (i : ℕ) (x y : RuleRecord) : Type 0 where
      pub last : b.count ≡ i + 1
      pub within : i < length b.records
      pub default : RuleRecord
      pub was : x ≡ get_or b.records i default
      pub is : c.records ≡ set b.records i y
      pub this : H.this y ≡ latest_record (H.mine c)
      pub that : H.that y ≡ H.that x
      pub count : c.count ≡ b.count
      pub other : H.other c ≡ H.other b

    kept_was : (b c : Rulebook EM EC) (i : ℕ) (x y : RuleRecord) → Rewritten b c i x y → kept b ≡ take i b.records ++ (x ∷ [])
    kept_was b c i x y h = kept_before b.records b.count i x h.default h.last h.within h.was

    kept_is : (b c : Rulebook EM EC) (i : ℕ) (x y : RuleRecord) → Rewritten b c i x y → kept c ≡ take i b.records ++ (y ∷ [])
    kept_is b c i x y h = ap (λ (k : ℕ). take k c.records) h.count ∙ ap (take b.count) h.is ∙ kept_after b.records b.count i y h.last h.within

    mine_parted : (b c : Rulebook EM EC) (i : ℕ) (x y : RuleRecord) → Rewritten b c i x y → Kept M C b → KeptSide M C (map H.this (take i b.records ++ (x ∷ []))) (H.mine b)
    mine_parted b c i x y h k = subst (λ (xs : List RuleRecord). KeptSide M C (map H.this xs) (H.mine b)) (kept_was b c i x y h) (H.taken b k)

    abbrev Wider : Stroke EM EC → Rulebook EM EC → Rulebook EM EC → ℕ → RuleRecord → Type 0
    Wider stroke b c i x = SideResult M C stroke (map H.this (take i b.records)) (H.this x) (H.mine b) (H.mine c)

    keeps : (stroke : Stroke EM EC) (b c : Rulebook EM EC) (i : ℕ) (x y : RuleRecord) → Rewritten b c i x y → Kept M C b → Wider stroke b c i x → Kept M C c
    keeps stroke b c i x y h k q =
        let is = kept_is b c i x y h in
        let f = k.few in
        H.makes c (omega (arith, h.count)) (ap length h.is ∙ length-set b.records i y ∙ k.slots)
        (subst (λ (xs : List RuleRecord). KeptSide M C (map H.this xs) (H.mine c)) (sym is) (side_again M C H.this H.that H.build (take i b.records) y (latest_record (H.mine c)) (H.mine c) h.this q.kept))
        (subst (λ (v : SideTables EM EC). KeptSide M C (map H.that (kept c)) v) (sym h.other)
        (subst (λ (xs : List RuleRecord). KeptSide M C (map H.that xs) (H.other b)) (sym is)
        (side_again M C H.that H.this H.build (take i b.records) y (H.that x) (H.other b) h.that
        (parted_side M C H.that H.this H.build (take i b.records) x (H.other b) (subst (λ (xs : List RuleRecord). KeptSide M C (map H.that xs) (H.other b)) (kept_was b c i x y h) (H.left b k))))))

    -- the rules before the latest, and with it
    rules_were : (b c : Rulebook EM EC) (i : ℕ) (x y : RuleRecord) → Rewritten b c i x y → rules_of b ≡ map (rule_of b) (take i b.records) ++ (H.build (side_of (H.mine b) (H.this x)) (side_of (H.other b) (H.that x)) ∷ [])
    rules_were b c i x y h =
        ap (map (rule_of b)) (kept_was b c i x y h) ∙ map-append (rule_of b) (take i b.records) (x ∷ []) ∙
        ap (λ (f : RuleRecord → Rule EM EC). map (rule_of b) (take i b.records) ++ (f x ∷ [])) (H.rules b)

    rules_are : (stroke : Stroke EM EC) (b c : Rulebook EM EC) (i : ℕ) (x y : RuleRecord) → Rewritten b c i x y → Wider stroke b c i x → rules_of c ≡ map (rule_of b) (take i b.records) ++ (H.build (side_of (H.mine c) (latest_record (H.mine c))) (side_of (H.other b) (H.that x)) ∷ [])
    rules_are stroke b c i x y h q =
        let rs = take i b.records in
        ap (map (rule_of c)) (kept_is b c i x y h) ∙ map-append (rule_of c) rs (y ∷ []) ∙
        ap (λ (f : RuleRecord → Rule EM EC). map f rs ++ (f y ∷ [])) (H.rules c) ∙
        ap (λ (v : SideTables EM EC). map (seen (H.mine c) v) rs ++ (seen (H.mine c) v y ∷ [])) h.other ∙
        ap (λ (es : List (Rule EM EC)). es ++ (seen (H.mine c) (H.other b) y ∷ [])) (same_rules M C H.this H.that H.build (H.mine b) (H.mine c) (H.other b) rs q.before ∙ sym (ap (λ (f : RuleRecord → Rule EM EC). map f rs) (H.rules b))) ∙
        ap (λ (z : SideRecord). map (rule_of b) rs ++ (H.build (side_of (H.mine c) z) (side_of (H.other b) (H.that y)) ∷ [])) h.this ∙
        ap (λ (z : SideRecord). map (rule_of b) rs ++ (H.build (side_of (H.mine c) (latest_record (H.mine c))) (side_of (H.other b) z) ∷ [])) h.that

    -- a side of the latest rule grew
    pub grown : (stroke : Stroke EM EC) (b c : Rulebook EM EC) (i : ℕ) (x y : RuleRecord) → Rewritten b c i x y → SideGrew M C stroke (H.mine b) (H.mine c) → Grown M C H.read H.with stroke b c
    grown stroke b c i x y h g = record { rules = λ k. grew (result k); kept = λ k. keeps stroke b c i x y h k (result k) } where
      result : Kept M C b → Wider stroke b c i x
      result k = side_grown M C stroke (map H.this (take i b.records)) (H.this x) (H.mine b) (H.mine c) (parted_side M C H.this H.that H.build (take i b.records) x (H.mine b) (mine_parted b c i x y h k)) g

      grew : Wider stroke b c i x → LatestGrew M C H.read H.with stroke b c
      grew q =
          let old = side_of (H.mine b) (H.this x) in
          let new = side_of (H.mine c) (latest_record (H.mine c)) in
          let rest = side_of (H.other b) (H.that x) in
          record {
            earlier = map (rule_of b) (take i b.records);
            latest = H.build old rest;
            wider = new;
            before = rules_were b c i x y h;
            after = rules_are stroke b c i x y h q ∙ ap (λ (r : Rule EM EC). map (rule_of b) (take i b.records) ++ (r ∷ [])) (sym (H.withs old rest new));
            widens = subst (λ (s : Side EM EC). Widens M C stroke s new) (sym (H.reads old rest)) q.widens;
          }

    -- it had no room to grow
    pub full : (stroke : Stroke EM EC) (why : Refusal) (b : Rulebook EM EC) (i : ℕ) (x d : RuleRecord) (u : SideTables EM EC) → b.count ≡ i + 1 → i < length b.records → x ≡ get_or b.records i d → TableStayed M C stroke why (H.mine b) u → Kept M C b → (number why ≡ 19) × Full M C H.read (H.mine b) stroke b
    full stroke why b i x d u n l r s k =
        let rs = take i b.records in
        let was = kept_before b.records b.count i x d n l r in
        let o = overflows M C H.this H.that H.build (H.mine b) (H.other b) H.read H.reads stroke why rs x u (subst (λ (xs : List RuleRecord). KeptSide M C (map H.this xs) (H.mine b)) was (H.taken b k)) s in (
          o.0,
          record {
            earlier = map (seen (H.mine b) (H.other b)) rs;
            latest = seen (H.mine b) (H.other b) x;
            before = ap (λ (f : RuleRecord → Rule EM EC). map f (kept b)) (H.rules b) ∙ ap (map (seen (H.mine b) (H.other b))) was ∙ map-append (seen (H.mine b) (H.other b)) rs (x ∷ []);
            overflows = o.1;
          },
        )

    -- the side of the latest rule was to grow, and did or did not
    pub latest_grows : (stroke : Stroke EM EC) (res : Result (Unit {0}) Refusal) (b c : Rulebook EM EC) (i : ℕ) (x y d : RuleRecord)
        → b.count ≡ i + 1 → i < 32 → x ≡ get_or b.records i d → i < length b.records → c.records ≡ set b.records i y → H.that y ≡ H.that x → c.count ≡ b.count → H.other c ≡ H.other b
        → MatchResult res (λ _. SideGrew M C stroke (H.mine b) (H.mine c) × (H.this y ≡ latest_record (H.mine c))) (λ why. (H.mine c ≡ H.mine b) × (H.this y ≡ H.this x) × TableStayed M C stroke why (H.mine b) (H.mine c))
        → MatchResult res (λ _. Grown M C H.read H.with stroke b c) (λ why. NotGrown M C H.read (H.mine b) stroke why b c)
    latest_grows stroke (Ok v) b c i x y d last few was within is that count other h =
        grown stroke b c i x y (record { last = last; within = within; default = d; was = was; is = is; this = h.1; that = that; count = count; other = other }) h.0
    latest_grows stroke (Err why) b c i x y d last few was within is that count other h = record {
      same = H.same c b (is ∙ ap (set b.records i) (H.one y x h.1 that ∙ was) ∙ set-get_or b.records i d) count h.0 other;
      cause = λ k. inr (full stroke why b i x d (H.mine c) last within was h.2 k);
    }

  -- a rule was added behind the others
  pub record Appended (b c : Rulebook EM EC) (y : RuleRecord) : Type 0 where
    pub within : b.count < length b.records
    pub few : b.count < 32
    pub is : c.records ≡ set b.records b.count y
    pub count : c.count ≡ b.count + 1
    pub left : y.left ≡ latest_record c.left
    pub right : y.right ≡ latest_record c.right
    pub left_closed : Closed b.left c.left
    pub right_closed : Closed b.right c.right

  kept_more : (b c : Rulebook EM EC) (y : RuleRecord) → Appended b c y → kept c ≡ kept b ++ (y ∷ [])
  kept_more b c y h = ap (λ (k : ℕ). take k c.records) h.count ∙ ap (take (b.count + 1)) h.is ∙ kept_after b.records (b.count + 1) b.count y refl h.within

  module _ (H : Half) where
    side_added : (b c : Rulebook EM EC) (y : RuleRecord) → Appended b c y → H.this y ≡ latest_record (H.mine c) → ClosedResult M C (map H.this (kept b)) (H.mine b) (H.mine c) → KeptSide M C (map H.this (kept c)) (H.mine c)
    side_added b c y h e q =
        subst (λ (xs : List RuleRecord). KeptSide M C (map H.this xs) (H.mine c)) (sym (kept_more b c y h))
        (side_again M C H.this H.that H.build (kept b) y (latest_record (H.mine c)) (H.mine c) e q.kept)

  pub added : (b c : Rulebook EM EC) (y : RuleRecord) → Appended b c y → Added M C b c
  added b c y h = record { rules = rules; kept = keeps_all } where
    left_result : Kept M C b → ClosedResult M C (map (λ (r : RuleRecord). r.left) (kept b)) b.left c.left
    left_result k = side_closed M C (map (λ (r : RuleRecord). r.left) (kept b)) b.left c.left k.left h.left_closed

    right_result : Kept M C b → ClosedResult M C (map (λ (r : RuleRecord). r.right) (kept b)) b.right c.right
    right_result k = side_closed M C (map (λ (r : RuleRecord). r.right) (kept b)) b.right c.right k.right h.right_closed

    keeps_all : Kept M C b → Kept M C c
    keeps_all k = record {
      few = (let f = h.few in omega (arith, h.count));
      slots = ap length h.is ∙ length-set b.records b.count y ∙ k.slots;
      left = side_added left_half b c y h h.left (left_result k);
      right = side_added right_half b c y h h.right (right_result k);
    }

    rules : Kept M C b → rules_of c ≡ rules_of b ++ (bare ∷ [])
    rules k =
        let l = left_result k in
        let r = right_result k in
        let le = ap (side_of c.left) h.left ∙ l.empty in
        let re = ap (side_of c.right) h.right ∙ r.empty in
        let last : rule_of c y ≡ bare = λ i. record { left = le i; right = re i } in
        ap (map (rule_of c)) (kept_more b c y h) ∙ map-append (rule_of c) (kept b) (y ∷ []) ∙
        ap (λ (es : List (Rule EM EC)). es ++ (rule_of c y ∷ []))
        (same_rules M C left_half.this left_half.that left_half.build b.left c.left c.right (kept b) l.before ∙
        same_rules M C right_half.this right_half.that right_half.build b.right c.right b.left (kept b) r.before) ∙
        ap (λ (z : Rule EM EC). rules_of b ++ (z ∷ [])) last

  pub no_more_rules : (b : Rulebook EM EC) → 32 ≤ b.count → Kept M C b → length (rules_of b) ≡ 32
  no_more_rules b h k = let f = k.few in let n = k.slots in length-map (kept b) (rule_of b) ∙ length-take b.count b.records ∙ omega arith
