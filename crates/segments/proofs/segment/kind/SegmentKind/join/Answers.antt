use Rattle.std.proofs.Common.{◌≡◌, true, false, sym, ◌∙◌, subst, w32, SFits, to_z, of_z, rules}
use lib.Signed.{lt_z}
use Rattle.std.specs.Int.{int_max}
use Rattle.std.proofs.lemmas.Int.{to_z-of_z}
use Rattle.kinds.specs.Rules.{Touch}
use Rattle.segments.specs.Segments.{segment_model}
use Rattle.segments.specs.Stretches.{starting, ending, Reaches, reaches_left, reaches_right, join_left, join_right}
use Rattle.segments.proofs.segment.kind.SegmentKind.join.Goals as goal

pub reaching-requires : goal.reaching-requires
reaching-requires c =
    let d = c.args.self in
    let e = c.args.other in
    let fa : SFits w32 c.ends.result = search rules in
    let fb : SFits w32 c.ends-2.result = search rules in
    let fm : SFits w32 c.max-end.result = search rules in
    let t : Touch segment_model c.args.self c.args.other = c.touches.ensures.0 c.if-not-touches.false in
    let M : to_z w32 (of_z w32 c.max-end.result) ≡ int_max (ending d) (ending e) = to_z-of_z w32 c.max-end.result fm ∙ c.max-end.ensures.value ∙ (λ i. int_max ((to_z-of_z w32 c.ends.result fa ∙ c.ends.ensures.value) i) ((to_z-of_z w32 c.ends-2.result fb ∙ c.ends-2.ensures.value) i)) in
    let r = subst (Reaches e) (sym M) (reaches_right d e t.same) in
    record { some = r.some; small = r.small; right = r.right; high = r.high }

pub reaching-requires-else-begins : goal.reaching-requires-else-begins
reaching-requires-else-begins c =
    let d = c.args.self in
    let e = c.args.other in
    let fa : SFits w32 c.ends.result = search rules in
    let fb : SFits w32 c.ends-2.result = search rules in
    let fm : SFits w32 c.max-end.result = search rules in
    let t : Touch segment_model c.args.self c.args.other = c.touches.ensures.0 c.if-not-touches.false in
    let M : to_z w32 (of_z w32 c.max-end.result) ≡ int_max (ending d) (ending e) = to_z-of_z w32 c.max-end.result fm ∙ c.max-end.ensures.value ∙ (λ i. int_max ((to_z-of_z w32 c.ends.result fa ∙ c.ends.ensures.value) i) ((to_z-of_z w32 c.ends-2.result fb ∙ c.ends-2.ensures.value) i)) in
    let r = subst (Reaches d) (sym M) (reaches_left d e t.same) in
    record { some = r.some; small = r.small; right = r.right; high = r.high }

pub returns-then-begins : goal.returns-then-begins
returns-then-begins c =
    let d = c.args.self in
    let e = c.args.other in
    let fa : SFits w32 c.ends.result = search rules in
    let fb : SFits w32 c.ends-2.result = search rules in
    let fm : SFits w32 c.max-end.result = search rules in
    let t : Touch segment_model c.args.self c.args.other = c.touches.ensures.0 c.if-not-touches.false in
    let M : to_z w32 (of_z w32 c.max-end.result) ≡ int_max (ending d) (ending e) = to_z-of_z w32 c.max-end.result fm ∙ c.max-end.ensures.value ∙ (λ i. int_max ((to_z-of_z w32 c.ends.result fa ∙ c.ends.ensures.value) i) ((to_z-of_z w32 c.ends-2.result fb ∙ c.ends-2.ensures.value) i)) in
    let fp : SFits w32 c.begins.result = search rules in
    let fq : SFits w32 c.begins-2.result = search rules in
    let E = to_z-of_z w32 c.begins.result fp ∙ c.begins.ensures.value in
    let D = to_z-of_z w32 c.begins-2.result fq ∙ c.begins-2.ensures.value in
    let h : lt_z (starting e) (starting d) ≡ true = (λ i. lt_z (sym E i) (sym D i)) ∙ c.if-begins.true in
    (t, join_right d e c.reaching.result t (c.reaching.ensures.end ∙ M) h c.reaching.ensures.first)

pub returns-else-begins : goal.returns-else-begins
returns-else-begins c =
    let d = c.args.self in
    let e = c.args.other in
    let fa : SFits w32 c.ends.result = search rules in
    let fb : SFits w32 c.ends-2.result = search rules in
    let fm : SFits w32 c.max-end.result = search rules in
    let t : Touch segment_model c.args.self c.args.other = c.touches.ensures.0 c.if-not-touches.false in
    let M : to_z w32 (of_z w32 c.max-end.result) ≡ int_max (ending d) (ending e) = to_z-of_z w32 c.max-end.result fm ∙ c.max-end.ensures.value ∙ (λ i. int_max ((to_z-of_z w32 c.ends.result fa ∙ c.ends.ensures.value) i) ((to_z-of_z w32 c.ends-2.result fb ∙ c.ends-2.ensures.value) i)) in
    let fp : SFits w32 c.begins.result = search rules in
    let fq : SFits w32 c.begins-2.result = search rules in
    let E = to_z-of_z w32 c.begins.result fp ∙ c.begins.ensures.value in
    let D = to_z-of_z w32 c.begins-2.result fq ∙ c.begins-2.ensures.value in
    let h : lt_z (starting e) (starting d) ≡ false = (λ i. lt_z (sym E i) (sym D i)) ∙ c.if-begins.false in
    (t, join_left d e c.reaching-else-begins.result t (c.reaching-else-begins.ensures.end ∙ M) h c.reaching-else-begins.ensures.first)
