-- A part of a list, or of a sheet's elements, that gives way to others.
use Rattle.std.specs.Prelude.{◌≡◌, ℕ, ◌+◌, ◌-◌, ◌<◌, ◌≤◌, Bool, true, List, ◌++◌, length, take, drop}
use Rattle.lattice.specs.Refusals.{number}
use Rattle.lattice.specs.declared.refusal.Refusal.{Refusal}
use Rattle.kinds.specs.Model.{KindModel}
use Rattle.sheets.specs.declared.sheet.Sheet.{Sheet}
use Rattle.sheets.specs.declared.splice.Splice.{Splice}
use Rattle.sheets.specs.Contents.{items, room}
use Rattle.sheets.specs.Cover.{canonical}
use Rattle.sheets.specs.Finding.{listed}
use Rattle.sheets.specs.Maximal.{Lists}

-- the elements with those from `from` up to `to` given way to ps
abbrev pub with_put : {E : Type 0} → ℕ → ℕ → List E → List E → List E
with_put from to ps xs = take from xs ++ (ps ++ drop to xs)

-- the elements that others give way to
abbrev pub news : {E : Type 0} → Splice E → List E
news p = listed p.left p.right

abbrev pub spliced : {E : Type 0} → Splice E → List E → List E
spliced p xs = with_put p.from p.to (news p) xs

-- p lies in the list and makes it longer by one at most, and of a list in canonical form it makes the list of the set
pub record Makes {E A C : Type 0} (m : KindModel E A C) (set : A → Bool) (xs : List E) (p : Splice E) : Type 0 where
  pub low : p.from ≤ p.to
  pub high : p.to ≤ length xs
  pub few : length (news p) ≤ p.to - p.from + 1
  pub lists : canonical m xs ≡ true → Lists m set (spliced p xs)

-- s became t, with p carried out
pub record Put {E : Type 0} (p : Splice E) (s t : Sheet E) : Type 0 where
  pub items : items t ≡ spliced p (items s)
  pub room : room t ≡ room s

-- s stayed as it was, for want of room
pub record NoPut {E : Type 0} (p : Splice E) (s t : Sheet E) (why : Refusal) : Type 0 where
  pub number : number why ≡ 19
  pub same : t ≡ s
  pub full : room s < length (spliced p (items s))
