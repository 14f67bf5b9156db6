-- What a change by one set makes of another, atom by atom.
use Rattle.std.specs.Prelude.{◌≡◌, Bool, false, not, ◌&&◌, ◌||◌}

-- whether an atom is covered after the sum, and after the difference
abbrev pub plus : Bool → Bool → Bool
plus s t = s || t

abbrev pub minus : Bool → Bool → Bool
minus s t = s && not t

-- one set changed by another
abbrev pub by : {A : Type 0} → (Bool → Bool → Bool) → (A → Bool) → (A → Bool) → A → Bool
by op s t a = op (s a) (t a)

-- taking no atom changes nothing, and taking two sets together is taking one after the other
pub record Lawful (op : Bool → Bool → Bool) : Type 0 where
  pub none : (s : Bool) → op s false ≡ s
  pub both : (s t u : Bool) → op s (t || u) ≡ op (op s t) u
