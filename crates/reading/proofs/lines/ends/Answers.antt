use Rattle.std.proofs.Common.{◌≡◌, arith, rules}
use Rattle.std.proofs.lemmas.List.Sums.{count_by-le-length}
use Rattle.notation.specs.Lines.{newlines, ends_line}
use Rattle.reading.proofs.lines.ends.Goals as goal

pub returns-clause-few : goal.returns-clause-few
returns-clause-few c =
    let value : c.sum.result ≡ newlines c.args.bytes.now = search rules in
    omega (arith, c.requires, value, count_by-le-length ends_line c.args.bytes.now)
