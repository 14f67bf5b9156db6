-- The one candidate at a position.
use Rattle.std.proofs.Common.{◌≡◌, ℤ, Some, None, ap, ◌∙◌, subst, w32}
use Rattle.std.proofs.lemmas.Int.{to_z-of_z}
use Rattle.std.proofs.lemmas.Bool.{both_ways}
use Rattle.kinds.specs.Answers.{AtomAt}
use Rattle.search.specs.Scenes.{Fits}
use Rattle.search.specs.Steps.{bound}
use Rattle.search.proofs.Best.{improves_nothing, improves_tried}
use Rattle.search.proofs.Searched.{At, no_atom, no_shifts, in_range, good_at, only_at}
use Rattle.search.proofs.scene.Scene.best_at.Goals as goal
use Rattle.lattice.specs.Turns.{index}

pub returns-in_default : goal.returns-in_default
returns-in_default g c =
    let m = g.K.Kind.model in
    let h : AtomAt m c.args.e.now c.args.at None = subst (λ (z : ℤ). AtomAt m c.args.e.now z None) (to_z-of_z w32 c.args.at c.ranges.at) c.in_default.ensures in
    record { least = λ can ins. improves_nothing _ (bound c.args.after) c.args.best (no_atom m g.met.K.Kind.rules (Fits g.M.Kind.model g.C.Kind.model c.args.self.now) c.args.from c.args.turn c.args.e.now c.args.at h); later = λ a. a }

pub returns-in_default-shifts : goal.returns-in_default-shifts
returns-in_default-shifts g c =
    let m = g.K.Kind.model in
    let h : AtomAt m c.args.e.now c.args.at (Some c.in-Some.to) = subst (λ (z : ℤ). AtomAt m c.args.e.now z (Some c.in-Some.to)) (to_z-of_z w32 c.args.at c.ranges.at) c.in-Some.ensures in
    record { least = λ can ins. improves_nothing _ (bound c.args.after) c.args.best (no_shifts m g.met.K.Kind.rules (Fits g.M.Kind.model g.C.Kind.model c.args.self.now) c.args.from c.args.turn c.args.e.now c.args.at c.in-Some.to h.0 h.1 ins c.in_default-shifts.ensures); later = λ a. a }

pub returns-in-Some-shifted : goal.returns-in-Some-shifted
returns-in-Some-shifted g c =
    let m = g.K.Kind.model in
    let r = g.met.K.Kind.rules in
    let F = Fits g.M.Kind.model g.C.Kind.model c.args.self.now in
    let to = c.in-Some.to in
    let q = c.in-Some-shifted.q in
    let h : AtomAt m c.args.e.now c.args.at (Some to) = subst (λ (z : ℤ). AtomAt m c.args.e.now z (Some to)) (to_z-of_z w32 c.args.at c.ranges.at) c.in-Some.ensures in
    let s = c.in-Some-shifts.ensures in
    let w = c.in-Some-shifted.ensures in
    let k : m.image (index c.args.turn) q.across q.up c.args.from ≡ to = (λ i. m.image (index c.args.turn) (w.1 i) (w.2 i) c.args.from) ∙ s.2 in
    let t : (index q.turn) ≡ (index c.args.turn) = ap index w.0 in
    record {
      least = λ can ins. improves_tried (At m r F c.args.from c.args.turn c.args.e.now c.args.at) (bound c.args.after) q (F q)
          (good_at m r F c.args.from c.args.turn c.args.e.now c.args.at to h.0 h.1 ins q t k)
          (only_at m r F c.args.from c.args.turn c.args.e.now c.args.at to h.0 h.1 ins q t k) c.args.best c.improved.result (c.improved.ensures.least can);
      later = c.improved.ensures.later;
    }

pub returns-in-None : goal.returns-in-None
returns-in-None g c =
    let m = g.K.Kind.model in
    let h : AtomAt m c.args.e.now c.args.at (Some c.in-Some.to) = subst (λ (z : ℤ). AtomAt m c.args.e.now z (Some c.in-Some.to)) (to_z-of_z w32 c.args.at c.ranges.at) c.in-Some.ensures in
    let s = c.in-Some-shifts.ensures in
    record { least = λ can ins. absurd (both_ways _ c.in-None.ensures (in_range m g.met.K.Kind.rules (Fits g.M.Kind.model g.C.Kind.model c.args.self.now) c.args.from c.args.turn c.args.e.now c.args.at c.in-Some.to h.0 h.1 ins _ _ s.2)); later = λ a. a }
