use Rattle.std.proofs.Common.{sym, refl, ◌∙◌, arith, to_z-of_z}
use Rattle.std.proofs.lemmas.Bool.{false≢true}
use Rattle.drawing.proofs.Picks.{pick_leaves, pick_full, pick_crowded, pick_done}
use Rattle.drawing.proofs.drawing.Drawing.apply_found.Goals as goal

pub returns-then-not-right_stays : goal.returns-then-not-right_stays
returns-then-not-right_stays g c = record {
  goes = λ k f at. pick_leaves g.M.Kind.model g.C.Kind.model g.met.M.Kind.rules g.met.C.Kind.rules c.args.self.now c.args.rule k c.args.found c.args.p f at (sym c.right_stays.ensures ∙ c.if-not-right_stays.true);
  kept = refl;
}

pub returns-then-n-self : goal.returns-then-n-self
returns-then-n-self g c = record {
  goes = λ k f at. pick_full g.M.Kind.model g.C.Kind.model g.met.M.Kind.rules g.met.C.Kind.rules c.args.self.now c.args.rule k c.args.found c.args.p f at (sym c.right_stays.ensures ∙ c.if-not-right_stays.false) (omega (arith, c.recorded-n.ensures.value, c.if-n-self.true));
  kept = refl;
}

pub returns-then-not-is_roomy : goal.returns-then-not-is_roomy
returns-then-not-is_roomy g c = record {
  goes = λ k f at. pick_crowded g.M.Kind.model g.C.Kind.model g.met.M.Kind.rules g.met.C.Kind.rules c.args.self.now c.args.rule k c.args.found c.args.p f at (sym c.right_stays.ensures ∙ c.if-not-right_stays.false) (omega (arith, c.recorded-n.ensures.value, c.if-n-self.false)) (λ h. false≢true (sym c.if-not-is_roomy.true ∙ c.is_roomy.ensures.1 h));
  kept = refl;
}

pub returns : goal.returns
returns g c = record {
  goes = λ k f at. pick_done g.M.Kind.model g.C.Kind.model g.met.M.Kind.rules g.met.C.Kind.rules c.args.self.now c.args.rule k c.args.found c.args.p f at (sym c.right_stays.ensures ∙ c.if-not-right_stays.false) (omega (arith, c.recorded-n.ensures.value, c.if-n-self.false)) (c.is_roomy.ensures.0 c.if-not-is_roomy.false)
      c.turn.new.self _ c.recorded-n.result _ c.turn.ensures c.recorded-n.ensures.value (to_z-of_z c.ranges.rule) refl refl refl refl refl refl refl refl;
  kept = tt;
}
