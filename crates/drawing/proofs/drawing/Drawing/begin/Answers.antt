use Rattle.std.proofs.Common.{◌≡◌, ℕ, ◌≤◌, [], length, sym, refl, ◌∙◌, subst}
use Rattle.kinds.specs.Model.{KindModel}
use Rattle.kinds.specs.Rules.{Rules}
use Rattle.sheets.specs.Contents.{items, room, Sound}
use Rattle.grammar.specs.State.{Setting}
use Rattle.drawing.specs.View.{taken, setting, Tables, Lived}
use Rattle.drawing.specs.declared.drawing.Drawing.{Drawing}
use Rattle.drawing.proofs.Lives.{begun_lived}
use Rattle.drawing.proofs.drawing.Drawing.begin.Goals as goal

-- a drawing on empty sheets, over tables of the lengths a and b with their copies, and n
module _ {EM AM CM EC Ac CC : Type 0} (M : KindModel EM AM CM) (C : KindModel EC Ac CC) (RM : Rules M) (RC : Rules C) (d : Drawing EM EC) (a b x y n : ℕ) where
  begins : taken d ≡ [] → length d.steps.now ≡ n → n ≤ 1024 → x ≡ a → y ≡ b
      → Sound M d.marks → items d.marks ≡ [] → room d.marks ≡ a → Sound C d.cuts → items d.cuts ≡ [] → room d.cuts ≡ b
      → items d.start_marks ≡ [] → room d.start_marks ≡ x → items d.start_cuts ≡ [] → room d.start_cuts ≡ y
      → Lived M C (record { rules = (setting d).rules; mark_slots = a; cut_slots = b; step_slots = n }) [] d × Tables a b x y n
  begins t sn few ex ey hm em ra hc ec rb es rx et ry =
      let q : setting d ≡ record { rules = (setting d).rules; mark_slots = a; cut_slots = b; step_slots = n } = (λ i. record { rules = (setting d).rules; mark_slots = ra i; cut_slots = rb i; step_slots = sn i }) in
      let z : Tables a b x y n = record { few_marks = subst (λ (k : ℕ). k ≤ 4096) ra hm.few; few_cuts = subst (λ (k : ℕ). k ≤ 4096) rb hc.few; marks_again = ex; cuts_again = ey; few_steps = few } in
      let w : Tables (room d.marks) (room d.cuts) (room d.start_marks) (room d.start_cuts) (length d.steps.now) =
      record { few_marks = hm.few; few_cuts = hc.few; marks_again = rx ∙ ex ∙ sym ra; cuts_again = ry ∙ ey ∙ sym rb; few_steps = subst (λ (k : ℕ). k ≤ 1024) (sym sn) few } in
      (subst (λ (u : Setting _ _). Lived M C u [] d) q (begun_lived M C RM RC d t em ec es et w), z)

pub returns : goal.returns
returns g c =
    let m = c.in_ok-marks.ensures in
    let k = c.in_ok-cuts.ensures in
    let sm = c.in_ok-start_marks.ensures in
    let sk = c.in_ok-start_cuts.ensures in
    let d : Drawing g.row.M.Denot g.row.C.Denot = record { book = c.args.book; marks = c.in_ok-marks.marks; cuts = c.in_ok-cuts.cuts; start_marks = c.in_ok-start_marks.start_marks; start_cuts = c.in_ok-start_cuts.start_cuts; steps = c.args.steps; step_count = 0 } in
    begins g.M.Kind.model g.C.Kind.model g.met.M.Kind.rules g.met.C.Kind.rules d _ _ _ _ _ refl refl c.if-steps-gt-MOST_STEPS.false c.if-start_marks-marks.false c.if-start_cuts-cuts.false m.0 m.1 m.2 k.0 k.1 k.2 sm.1 sm.2 sk.1 sk.2
