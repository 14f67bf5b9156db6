use Rattle.std.proofs.Common.{◌+◌, ◌-◌, ◌++◌, length, take, drop, ap, ◌∙◌, arith}
use lib.Seq.{paste}
use Rattle.sheets.specs.Put.{news}
use Rattle.sheets.proofs.Puts.{puts}
use Rattle.sheets.proofs.Spliced.{written}
use Rattle.sheets.proofs.sheet.Sheet.put.Goals as goal

pub returns-clause-cases : goal.returns-clause-cases
returns-clause-cases g c =
    let s = c.args.self.now in
    let p = c.args.part in
    let n = ap length c.elements-n.ensures.value in
    let more = c.how_many-more.ensures in
    let within = c.elements-n.ensures.within in
    let copied = c.move_to.ensures ∙ (λ i. paste s.slots.now (p.from + more i) (drop p.to s.slots.now) (n i - p.to)) in
    puts p s _ c.requires.low c.requires.high (omega arith) (written _ (news p) _ p.from c.write.ensures ∙ ap (λ l. take p.from l ++ (news p ++ drop (p.from + length (news p)) l)) copied) (λ i. n i - (p.to - p.from) + more i)
