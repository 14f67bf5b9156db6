use Rattle.std.proofs.Common.{◌≡◌, false, ℤ, pos, ◌+ℤ◌, ◌-ℤ◌, ◌≤ℤ◌, ◌<ℤ◌, sym, ap, ◌∙◌, subst, arith, w32, SFits, to_z, of_z, rules}
use lib.Signed.{lt_z, le_z}
use Rattle.std.proofs.lemmas.Int.{ints, to_z-of_z}
use Rattle.kinds.specs.Rules.{Covers}
use Rattle.segments.specs.Edges.{along, edge_position}
use Rattle.segments.specs.Segments.{first, segment_model}
use Rattle.segments.specs.Covers.{along_covered}
use Rattle.segments.specs.EdgeFacts.{along_at}
use Rattle.segments.specs.Stretches.{starting, again}
use Rattle.segments.proofs.segment.kind.SegmentKind.atom.Goals as goal

low : (s at : ℤ) → lt_z at s ≡ false → pos 0 ≤ℤ (at -ℤ s)
low s at h = grind (arith, ints)

high : (s n at : ℤ) → le_z (s +ℤ n) at ≡ false → (at -ℤ s) <ℤ n
high s n at h = grind (arith, ints)

pub returns : goal.returns
returns c =
    let e = c.args.self.now in
    let s = starting e in
    let fa : SFits w32 c.args.at = search rules in
    let fb : SFits w32 c.begins.result = search rules in
    let fe : SFits w32 c.ends.result = search rules in
    let fo : SFits w32 c.offset.result = search rules in
    let A = to_z-of_z w32 c.args.at fa in
    let B = to_z-of_z w32 c.begins.result fb ∙ c.begins.ensures.value in
    let E = to_z-of_z w32 c.ends.result fe ∙ c.ends.ensures.value in
    let V : to_z w32 (of_z w32 c.offset.result) ≡ c.args.at -ℤ s = to_z-of_z w32 c.offset.result fo ∙ c.offset.ensures.value ∙ (λ i. A i -ℤ s) in
    let R : c.nth.result ≡ along (first e) (c.args.at -ℤ s) = c.nth.ensures ∙ ap (along (first e)) V in
    let l = low s c.args.at ((λ i. lt_z (sym A i) (sym B i)) ∙ c.if-at-begins.false) in
    let h = high s e.edges c.args.at ((λ i. le_z (sym E i) (sym A i)) ∙ c.if-ends-at.false) in
    (subst (Covers segment_model e) (sym R) (along_covered e (c.args.at -ℤ s) l h), ap edge_position R ∙ along_at (first e) (c.args.at -ℤ s) e.proper ∙ again c.args.at s)
