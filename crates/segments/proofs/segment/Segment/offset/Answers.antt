use Rattle.std.proofs.Common.{◌≡◌, ℤ, pos, negsuc, ◌+ℤ◌, ◌-ℤ◌, ◌≤ℤ◌, sym, ◌∙◌, subst, arith, w32, SFits, to_z, of_z, rules}
use Rattle.std.proofs.lemmas.Int.{ints, to_z-of_z}
use Rattle.segments.specs.Edges.{edge_position}
use Rattle.segments.specs.Segments.{first}
use Rattle.segments.specs.Positions.{start_low, end_high}
use Rattle.segments.proofs.segment.Segment.offset.Goals as goal

sums : (s n a b r : ℤ) → negsuc 1999 ≤ℤ s → (s +ℤ n) ≤ℤ pos 2001 → s ≤ℤ a → a ≤ℤ (s +ℤ n) → r ≡ a -ℤ s → (pos 0 ≤ℤ r) × (r ≤ℤ n) × (r ≤ℤ pos 10000) × SFits w32 r
sums s n a b r h k l m e = (omega (arith, ints), omega (arith, ints), omega (arith, ints), omega (arith, ints))

pub overflow_sub-result : goal.overflow_sub-result
overflow_sub-result c =
    let e = c.args.self.now in
    let fa : SFits w32 c.args.at = search rules in
    let fb : SFits w32 c.begins.result = search rules in
    (sums (edge_position (first e)) e.edges c.args.at (pos 0) (to_z w32 (of_z w32 c.args.at) -ℤ to_z w32 (of_z w32 c.begins.result)) (start_low e) (end_high e) c.requires.low c.requires.high (λ i. to_z-of_z w32 c.args.at fa i -ℤ (to_z-of_z w32 c.begins.result fb ∙ c.begins.ensures.value) i)).3

pub returns : goal.returns
returns c =
    let e = c.args.self.now in
    let fa : SFits w32 c.args.at = search rules in
    let fb : SFits w32 c.begins.result = search rules in
    let v : to_z w32 (of_z w32 c.args.at) -ℤ to_z w32 (of_z w32 c.begins.result) ≡ c.args.at -ℤ edge_position (first e) = (λ i. to_z-of_z w32 c.args.at fa i -ℤ (to_z-of_z w32 c.begins.result fb ∙ c.begins.ensures.value) i) in
    let r = sums (edge_position (first e)) e.edges c.args.at (pos 0) (to_z w32 (of_z w32 c.args.at) -ℤ to_z w32 (of_z w32 c.begins.result)) (start_low e) (end_high e) c.requires.low c.requires.high v in
    let W = to_z-of_z w32 (to_z w32 (of_z w32 c.args.at) -ℤ to_z w32 (of_z w32 c.begins.result)) r.3 in
    record { value = W ∙ v; low = subst (λ (z : ℤ). pos 0 ≤ℤ z) (sym W) r.0; high = subst (λ (z : ℤ). z ≤ℤ e.edges) (sym W) r.1; small = subst (λ (z : ℤ). z ≤ℤ pos 10000) (sym W) r.2 }
