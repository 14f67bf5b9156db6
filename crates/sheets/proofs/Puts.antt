-- A part of a sheet's elements that gave way to others.
use Rattle.std.proofs.Common.{◌≡◌, ◌+◌, ◌-◌, ◌≤◌, min, List, ◌++◌, length, take, drop, ap, ◌∙◌, arith}
use lib.Seq.{paste}
use Rattle.std.proofs.lemmas.List.{length-take}
use Rattle.sheets.specs.declared.sheet.Sheet.{Sheet}
use Rattle.sheets.specs.declared.splice.Splice.{Splice}
use Rattle.sheets.specs.Contents.{items, room}
use Rattle.sheets.specs.Put.{Put, news, with_put}
use Rattle.sheets.proofs.Spliced.{clamped, spliced, length_spliced}

module _ {E : Type 0} (p : Splice E) (s u : Sheet E) where
  -- the slots of s after the copy
  abbrev pub opened : List E
  opened = paste s.slots.now (p.from + length (news p)) (drop p.to s.slots.now) (length (items s) - p.to)

  -- u is s with the new elements written into its slots after the copy
  pub puts : p.from ≤ p.to → p.to ≤ length (items s) → length (items s) - (p.to - p.from) + length (news p) ≤ room s → u.slots.now ≡ take p.from opened ++ (news p ++ drop (p.from + length (news p)) opened) → u.count ≡ length (items s) - (p.to - p.from) + length (news p) → Put p s u
  puts low high fits w k =
      let n = length (items s) in
      let xs = s.slots.now in
      let len : n ≡ min s.count (length xs) = length-take s.count xs in
      let within : n ≤ length xs = omega arith in
      let counted : take n xs ≡ items s = clamped s.count n xs len in
      record {
        items = (λ i. take (k i) (w i)) ∙ spliced xs (news p) p.from p.to n low high within fits ∙ ap (with_put p.from p.to (news p)) counted;
        room = ap length w ∙ length_spliced xs (news p) p.from p.to n low high within fits;
      }
