-- Values that are valid by type: one is made only of fields that pass its tests.
use Rattle.std.specs.Prelude.{◌≡◌, Bool, true, false, None, Option, refl}

-- what is made from a test passed, or nothing
abbrev pub tested : {X : Type 0} → (b : Bool) → (b ≡ true → Option X) → Option X
tested true made = made refl
tested false made = None
