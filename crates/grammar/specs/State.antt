-- What a drawing holds, and what it stands on.
use Rattle.std.specs.Prelude.{◌≡◌, ℕ, List, []}
use Rattle.kinds.specs.Model.{KindModel}
use Rattle.sheets.specs.Cover.{cover}
use Rattle.sheets.specs.Maximal.{Lists}
use Rattle.grammar.specs.Record.{Step}
use Rattle.grammar.specs.Rules.{Rule}
use Rattle.grammar.specs.Sets.{Sets}

-- the rules and the sizes of the tables, which stay as they are while a drawing lasts
pub record Setting (EM EC : Type 0) : Type 0 where
  pub rules : List (Rule EM EC)
  pub mark_slots : ℕ
  pub cut_slots : ℕ
  pub step_slots : ℕ

-- the two sheets, their copies from before the first step, and the steps
pub record State (EM EC : Type 0) : Type 0 where
  pub marks : List EM
  pub cuts : List EC
  pub start_marks : List EM
  pub start_cuts : List EC
  pub steps : List Step

abbrev pub begun : {EM EC : Type 0} → State EM EC
begun = record { marks = []; cuts = []; start_marks = []; start_cuts = []; steps = [] }

module _ {EM AM CM EC Ac CC : Type 0} (M : KindModel EM AM CM) (C : KindModel EC Ac CC) where
  -- what a drawing covers, and what its start copies cover
  abbrev pub covered : State EM EC → Sets AM Ac
  covered d = record { marks = cover M d.marks; cuts = cover C d.cuts }

  abbrev pub started : State EM EC → Sets AM Ac
  started d = record { marks = cover M d.start_marks; cuts = cover C d.start_cuts }

  -- the sheets of d are those of S, its start copies those of S₀, and these are its steps
  pub record Holds (d : State EM EC) (S S₀ : Sets AM Ac) (xs : List Step) : Type 0 where
    pub marks : Lists M S.marks d.marks
    pub cuts : Lists C S.cuts d.cuts
    pub start_marks : Lists M S₀.marks d.start_marks
    pub start_cuts : Lists C S₀.cuts d.start_cuts
    pub steps : d.steps ≡ xs
