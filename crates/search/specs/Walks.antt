-- A walk from place to place.
use Rattle.std.specs.Prelude.{◌≡◌, pos, negsuc, Some, None, Option, MatchOption}
use Rattle.lattice.specs.declared.placement.Placement.{Placement}
use Rattle.lattice.specs.Order.{Triple, read, triple}
use Rattle.kinds.specs.Model.{KindModel}
use Rattle.grammar.specs.Places.{Least}
use Rattle.search.specs.Scenes.{Canonical, sought, drawn}
use Rattle.search.specs.Steps.{After}
use Rattle.search.specs.declared.places.Places.{Places}

-- the numbers of the last place; before the first, numbers before those of all
abbrev pub reached : Option Placement → Triple
reached None = read (negsuc 0) (pos 0) (pos 0)
reached (Some p) = triple p

module _ {EM AM CM EC Ac CC : Type 0} (M : KindModel EM AM CM) (C : KindModel EC Ac CC) where
  -- a step from s to t gives the first place after those that were given, if there is one; where there is none the walk stays
  pub record Gives (s : Places EM EC) (r : Option Placement) (t : Places EM EC) : Type 0 where
    pub scene : t.scene.now ≡ s.scene.now
    pub least : Canonical M C s.scene.now → Least M C (sought M C s.scene.now) (drawn M C s.scene.now) (reached s.last) r
    pub later : After (reached s.last) r
    pub last : MatchOption r (t.last ≡ s.last) (λ p. t.last ≡ Some p)
