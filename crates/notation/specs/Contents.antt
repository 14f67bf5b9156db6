-- The contents of a file: `start N`, then one to 32 times `rule N`, then `steps N`, then `body`, each on a line.
use Rattle.std.specs.Prelude.{◌≡◌, ℕ, ◌^◌, ◌<◌, Bool, true, false, ◌&&◌, ◌||◌, List, [], ◌∷◌, ◌++◌, map, take, Some, None, codes, decimal, Option, ◌≢◌, nat_lt}
use Rattle.std.specs.List.{concat}
use Rattle.notation.specs.declared.contents.Entry.{Entry}
use Rattle.notation.specs.declared.contents.Entry.TheVariants.{Start, Rule, Steps, Body}
use Rattle.notation.specs.declared.contents.Stage.{Stage}
use Rattle.notation.specs.declared.contents.Stage.TheVariants as stage
use Rattle.notation.specs.declared.contents.Contents.{Contents}

-- an entry as text
abbrev pub entry_text : Entry → List ℕ
entry_text (Start n) = codes "start " ++ decimal n
entry_text (Rule n) = codes "rule " ++ decimal n
entry_text (Steps n) = codes "steps " ++ decimal n
entry_text Body = codes "body"

-- a length has one to nine digits
abbrev pub ShortEntry : Entry → Type 0
ShortEntry (Start n) = n < 10 ^ 9
ShortEntry (Rule n) = n < 10 ^ 9
ShortEntry (Steps n) = n < 10 ^ 9
ShortEntry Body = Unit {0}

-- the line is the text of an entry, or of none
abbrev pub EntryIs : List ℕ → Option Entry → Type 0
EntryIs line (Some e) = ShortEntry e × (line ≡ entry_text e)
EntryIs line None = (e : Entry) → ShortEntry e → line ≢ entry_text e

-- entries on lines
abbrev pub entry_line : Entry → List ℕ
entry_line e = entry_text e ++ (10 ∷ [])

abbrev pub entry_lines : List Entry → List ℕ
entry_lines es = concat (map entry_line es)

-- the lengths of the rules, in order
abbrev pub rule_lengths : Contents → List ℕ
rule_lengths c = take c.count c.rules

-- the entries that the contents have so far, in order
abbrev pub entries_at : Stage → ℕ → List ℕ → ℕ → List Entry
entries_at stage.Start start rules steps = []
entries_at stage.Rules start rules steps = Start start ∷ map Rule rules
entries_at stage.Body start rules steps = Start start ∷ (map Rule rules ++ (Steps steps ∷ []))
entries_at stage.Whole start rules steps = Start start ∷ (map Rule rules ++ (Steps steps ∷ Body ∷ []))

abbrev pub entries : Contents → List Entry
entries c = entries_at c.stage c.start (rule_lengths c) c.steps

-- before the rules there is none, behind them one at least
abbrev pub Counts : Stage → ℕ → Type 0
Counts stage.Start n = n ≡ 0
Counts stage.Rules n = Unit {0}
Counts stage.Body n = 0 < n
Counts stage.Whole n = 0 < n

abbrev pub Proper : Contents → Type 0
Proper c = Counts c.stage c.count

abbrev pub is_start : Entry → Bool
is_start (Start n) = true
is_start (Rule n) = false
is_start (Steps n) = false
is_start Body = false

abbrev pub is_rule : Entry → Bool
is_rule (Start n) = false
is_rule (Rule n) = true
is_rule (Steps n) = false
is_rule Body = false

abbrev pub is_steps : Entry → Bool
is_steps (Start n) = false
is_steps (Rule n) = false
is_steps (Steps n) = true
is_steps Body = false

abbrev pub is_body : Entry → Bool
is_body (Start n) = false
is_body (Rule n) = false
is_body (Steps n) = false
is_body Body = true

-- which entry may come next, where n rules have come
abbrev pub may_follow : Stage → ℕ → Entry → Bool
may_follow stage.Start n e = is_start e
may_follow stage.Rules n e = (is_rule e && nat_lt n 32) || (is_steps e && nat_lt 0 n)
may_follow stage.Body n e = is_body e
may_follow stage.Whole n e = false

-- the entry was taken: it stands behind the others
pub record Takes (c d : Contents) (e : Entry) : Type 0 where
  pub may : may_follow c.stage c.count e ≡ true
  pub entries : Proper c → entries d ≡ entries c ++ (e ∷ [])
  pub proper : Proper c → Proper d

-- what `admit` answers
abbrev pub Admits : Contents → Contents → Entry → Bool → Type 0
Admits c d e true = Takes c d e
Admits c d e false = (may_follow c.stage c.count e ≡ false) × (d ≡ c)
