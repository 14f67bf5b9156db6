use Rattle.std.proofs.Common.{◌≡◌, Bool, Decides, nat_eq, length, refl, ap, rules, tests}
use Rattle.std.proofs.lemmas.Iterator.{YieldsList-from_slice, YieldsList-from_zip, same_from_all}
use Rattle.kinds.specs.Model.{KindModel}
use Rattle.kinds.specs.Rules.{Rules}
use Rattle.sheets.specs.Cover.{cover}
use Rattle.sheets.specs.Maximal.{Same}
use Rattle.sheets.specs.Contents.{items, covered, Sound}
use Rattle.sheets.specs.declared.sheet.Sheet.{Sheet}
use Rattle.sheets.proofs.Unique.{one_list}
use Rattle.sheets.proofs.sheet.Sheet.same.Goals as goal

-- of sound sheets, the same list is the same cover
by_list : {E A C : Type 0} (m : KindModel E A C) (r : Rules m) (s t : Sheet E) (b : Bool) → Decides b (items s ≡ items t) → Sound m s → Sound m t → Decides b (Same (covered m s) (covered m t))
by_list m r s t b d h k = (λ e a. ap (λ l. cover m l a) (d.0 e), λ same. d.1 (one_list m r (covered m t) (items s) (items t) (record { ordered = h.ordered; covering = same }) (record { ordered = k.ordered; covering = λ a. refl })))

pub returns-then-xs-ys : goal.returns-then-xs-ys
returns-then-xs-ys g c =
    let d = rw (c.elements-xs.ensures.value, c.elements-ys.ensures.value) at (same_from_all c.all.new.self _ _ c.elements-xs.result.now c.elements-ys.result.now c.all.ensures.ran (YieldsList-from_zip (YieldsList-from_slice c.elements-xs.result.now cc) (YieldsList-from_slice c.elements-ys.result.now cc)) (search rules) (λ x q k. search (rules, tests)) (λ x q k. search (rules, tests))) in
    record { cover = by_list g.K.Kind.model g.met.K.Kind.rules c.args.self.now c.args.other.now _ d; list = d }

pub returns-else-xs-ys-clause-cover : goal.returns-else-xs-ys-clause-cover
returns-else-xs-ys-clause-cover g c =
    let d : Decides (nat_eq (length c.elements-xs.result.now) (length c.elements-ys.result.now)) (items c.args.self.now ≡ items c.args.other.now) = search rules in
    by_list g.K.Kind.model g.met.K.Kind.rules c.args.self.now c.args.other.now _ d
