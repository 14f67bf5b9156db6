-- The main statement of grammar, said of drawings in memory.
use Rattle.std.proofs.Common.{◌≡◌, Bool, true, false, List, Decides, sym, refl, ap, ◌∙◌}
use Rattle.std.proofs.lemmas.Bool.{false≢true}
use Rattle.kinds.specs.Model.{KindModel}
use Rattle.kinds.specs.Rules.{Rules}
use Rattle.sheets.specs.Contents.{items}
use Rattle.sheets.specs.Cover.{cover}
use Rattle.sheets.proofs.Unique.{one_list}
use Rattle.grammar.specs.Calls.{Event}
use Rattle.grammar.specs.Numbering.{SameNumbers}
use Rattle.grammar.specs.Rules.{Alike}
use Rattle.grammar.specs.Sets.{SameCover}
use Rattle.grammar.specs.State.{Setting, covered}
use Rattle.grammar.proofs.Rooms.{room_again}
use Rattle.grammar.proofs.Settling.{meaning}
use Rattle.drawing.specs.PlacesFollow.{OneDrawing, PlacesFollowCover}
use Rattle.drawing.specs.View.{state, setting, Lived}
use Rattle.drawing.specs.declared.drawing.Drawing.{Drawing}
use Rattle.drawing.proofs.Lives.{history, alive}

module _ {EM AM CM EC Ac CC : Type 0} (M : KindModel EM AM CM) (C : KindModel EC Ac CC) (RM : Rules M) (RC : Rules C) where
  one_drawing : (t : Setting EM EC) (es : List (Event EM EC)) (d : Drawing EM EC) → Lived M C t es d → OneDrawing M C es d
  one_drawing u es d h =
      let t = meaning M C RM RC in
      let past = history M C u es d h in
      record { places = t.every_place_has_one_number (setting d) es (state d) past; recorded = t.covered_as_recorded (setting d) es (state d) past; again = room_again M C RM RC (setting d) es (state d) past }

  agrees : (t u : Setting EM EC) (es fs : List (Event EM EC)) (d e : Drawing EM EC) → Lived M C t es d → Lived M C u fs e → Alike M C (setting d).rules (setting e).rules → SameCover (covered M C (state d)) (covered M C (state e)) → SameNumbers M C (setting d) (setting e) (state d) (state e)
  agrees t u es fs d e h k = (meaning M C RM RC).same_cover_same_numbers (setting d) (setting e) es fs (state d) (state e) (history M C t es d h) (history M C u fs e k)

  follows : (same : Bool) (d e : Drawing EM EC) → Decides same ((items d.marks ≡ items e.marks) × (items d.cuts ≡ items e.cuts)) → PlacesFollowCover M C same d e
  follows same d e w = record {
    marks_are_maximal = (meaning M C RM RC).marks_are_maximal;
    cuts_are_maximal = (meaning M C RM RC).cuts_are_maximal;
    one_list_of_marks = (meaning M C RM RC).one_list_of_marks;
    one_list_of_cuts = (meaning M C RM RC).one_list_of_cuts;
    whatever_led_there = λ t u es fs h k.
        let l = alive M C RM RC t es d h in
        let m = alive M C RM RC u fs e k in
        let there : same ≡ true → SameCover (covered M C (state d)) (covered M C (state e)) = λ t. let z = w.0 t in record { marks = λ a. ap (λ (xs : List EM). cover M xs a) z.0; cuts = λ a. ap (λ (xs : List EC). cover C xs a) z.1 } in
        record {
          first = one_drawing t es d h;
          second = one_drawing u fs e k;
          tells = (
            there,
            λ s. w.1 (
              one_list M RM (cover M (items e.marks)) (items d.marks) (items e.marks) (record { ordered = l.marks.ordered; covering = s.marks }) (record { ordered = m.marks.ordered; covering = λ a. refl }),
              one_list C RC (cover C (items e.cuts)) (items d.cuts) (items e.cuts) (record { ordered = l.cuts.ordered; covering = s.cuts }) (record { ordered = m.cuts.ordered; covering = λ a. refl }),
            ),
          );
          agree = λ z r. agrees t u es fs d e h k r (there z);
        };
  }

  pub follows_not : (d e : Drawing EM EC) (x : Bool) → x ≡ false → Decides x (items d.marks ≡ items e.marks) → PlacesFollowCover M C false d e
  follows_not d e x f w = follows false d e (λ t. absurd (false≢true t), λ z. absurd (false≢true (sym f ∙ w.1 z.0)))

  pub follows_then : (d e : Drawing EM EC) (x y : Bool) → x ≡ true → Decides x (items d.marks ≡ items e.marks) → Decides y (items d.cuts ≡ items e.cuts) → PlacesFollowCover M C y d e
  follows_then d e x y f w v = follows y d e (λ t. (w.0 f, v.0 t), λ z. v.1 z.1)
