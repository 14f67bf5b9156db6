-- How a grammar file opens, and what a file that does not is refused by.
use Rattle.std.specs.Prelude.{◌≡◌, ℕ, ◌≤◌, List, length, take, codes}
use Rattle.lattice.specs.declared.refusal.Refusal.TheVariants.{NotAGrammar}
use Rattle.notation.specs.declared.refused.Refused.{Refused}

-- by its first line, with no more bytes than a file may have
abbrev pub OpensGrammar : List ℕ → Type 0
OpensGrammar file = (length file ≤ 65536) × (take 10 file ≡ codes "lattice 1\n")

-- number 1, in line 1
abbrev pub not_a_grammar : Refused
not_a_grammar = record { refusal = NotAGrammar; line = 1 }
