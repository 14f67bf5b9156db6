use Rattle.std.proofs.Common.{◌≡◌, ℤ, pos, negsuc, ◌+ℤ◌, ◌≤ℤ◌, ◌<ℤ◌, sym, ◌∙◌, subst, arith, w32, SFits, to_z, of_z, rules}
use Rattle.std.proofs.lemmas.Int.{ints, to_z-of_z}
use Rattle.segments.specs.Edges.{edge_position}
use Rattle.segments.specs.Segments.{first}
use Rattle.segments.specs.Positions.{start_low, end_high}
use Rattle.segments.proofs.segment.Segment.ends.Goals as goal

sums : (s n r : ℤ) → pos 0 <ℤ n → negsuc 1999 ≤ℤ s → (s +ℤ n) ≤ℤ pos 2001 → r ≡ s +ℤ n → (negsuc 1999 ≤ℤ r) × (r ≤ℤ pos 2001) × SFits w32 r
sums s n r a b c e = (omega (arith, ints), omega (arith, ints), omega (arith, ints))

pub overflow_add-result : goal.overflow_add-result
overflow_add-result c =
    let e = c.args.self.now in
    let fb : SFits w32 c.begins.result = search rules in
    let fn : SFits w32 c.args.self.now.edges = search rules in
    let some : pos 0 <ℤ e.edges = omega (arith, ints, e.some) in
    (sums (edge_position (first e)) e.edges (to_z w32 (of_z w32 c.begins.result) +ℤ to_z w32 (of_z w32 e.edges)) some (start_low e) (end_high e) (λ i. (to_z-of_z w32 c.begins.result fb ∙ c.begins.ensures.value) i +ℤ to_z-of_z w32 e.edges fn i)).2

pub returns : goal.returns
returns c =
    let e = c.args.self.now in
    let fb : SFits w32 c.begins.result = search rules in
    let fn : SFits w32 c.args.self.now.edges = search rules in
    let some : pos 0 <ℤ e.edges = omega (arith, ints, e.some) in
    let v : to_z w32 (of_z w32 c.begins.result) +ℤ to_z w32 (of_z w32 e.edges) ≡ edge_position (first e) +ℤ e.edges = (λ i. (to_z-of_z w32 c.begins.result fb ∙ c.begins.ensures.value) i +ℤ to_z-of_z w32 e.edges fn i) in
    let r = sums (edge_position (first e)) e.edges (to_z w32 (of_z w32 c.begins.result) +ℤ to_z w32 (of_z w32 e.edges)) some (start_low e) (end_high e) v in
    let w = to_z-of_z w32 (to_z w32 (of_z w32 c.begins.result) +ℤ to_z w32 (of_z w32 e.edges)) r.2 in
    record { value = w ∙ v; low = subst (λ (z : ℤ). negsuc 1999 ≤ℤ z) (sym w) r.0; high = subst (λ (z : ℤ). z ≤ℤ pos 2001) (sym w) r.1 }
