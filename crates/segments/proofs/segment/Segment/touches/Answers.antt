use Rattle.std.proofs.Common.{◌≡◌, Bool, true, false, not, ◌&&◌, ℤ, ◌≤ℤ◌, sym, refl, ◌∙◌, arith, w32, SFits, to_z, of_z, rules}
use lib.Signed.{le_z}
use Rattle.std.specs.Ordering.{int_eq}
use Rattle.std.proofs.lemmas.Bool.{true≢false, and_parts}
use Rattle.std.proofs.lemmas.Bool.Decides.{Decides-int_eq}
use Rattle.std.proofs.lemmas.Int.{ints, to_z-of_z}
use Rattle.numbers.proofs.Tested.{le_test}
use Rattle.segments.specs.Stretches.{starting, ending}
use Rattle.segments.proofs.segment.Segment.touches.Goals as goal

unless : (x : Bool) → not x ≡ false → x ≡ true
unless true h = refl
unless false h = absurd (true≢false h)

-- triples in which no two numbers differ
alike : (a b : ℤ × ℤ × ℤ) (r : Bool) → r ≡ not ((int_eq a.0 b.0 && int_eq a.1 b.1) && int_eq a.2 b.2) → r ≡ false → a ≡ b
alike a b r e h =
    let p = and_parts (int_eq a.0 b.0 && int_eq a.1 b.1) (int_eq a.2 b.2) (unless _ (sym e ∙ h)) in
    let q = and_parts (int_eq a.0 b.0) (int_eq a.1 b.1) p.0 in
    let x = (Decides-int_eq a.0 b.0).0 q.0 in
    let y = (Decides-int_eq a.1 b.1).0 q.1 in
    let z = (Decides-int_eq a.2 b.2).0 p.1 in
    λ i. (x i, y i, z i)

up_to : (a b : ℤ) → le_z a b ≡ true → a ≤ℤ b
up_to a b h = omega (arith, ints)

pub returns-then-begins-ends : goal.returns-then-begins-ends
returns-then-begins-ends c =
    let d = c.args.self.now in
    let e = c.args.other.now in
    let g1 : SFits w32 c.begins.result = search rules in
    let g2 : SFits w32 c.ends.result = search rules in
    let g3 : SFits w32 c.begins-then-begins-ends.result = search rules in
    let g4 : SFits w32 c.ends-then-begins-ends.result = search rules in
    let one = sym c.carrier.ensures ∙ alike c.carrier.result c.carrier-2.result c.ne.result c.ne.ensures c.if-ne.false ∙ c.carrier-2.ensures in
    let s : to_z w32 (of_z w32 c.begins.result) ≡ starting d = to_z-of_z w32 c.begins.result g1 ∙ c.begins.ensures.value in
    let t : to_z w32 (of_z w32 c.ends.result) ≡ ending e = to_z-of_z w32 c.ends.result g2 ∙ c.ends.ensures.value in
    let u : to_z w32 (of_z w32 c.begins-then-begins-ends.result) ≡ starting e = to_z-of_z w32 c.begins-then-begins-ends.result g3 ∙ c.begins-then-begins-ends.ensures.value in
    let v : to_z w32 (of_z w32 c.ends-then-begins-ends.result) ≡ ending d = to_z-of_z w32 c.ends-then-begins-ends.result g4 ∙ c.ends-then-begins-ends.ensures.value in
    let left = up_to (starting d) (ending e) ((λ i. le_z (sym s i) (sym t i)) ∙ c.if-begins-ends.true) in
    (λ h. record { same = one; left = left; right = up_to (starting e) (ending d) ((λ i. le_z (sym u i) (sym v i)) ∙ h) }, λ h. (λ i. le_z (u i) (v i)) ∙ le_test (starting e) (ending d) h.right)
