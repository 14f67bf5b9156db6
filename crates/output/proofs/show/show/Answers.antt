use Rattle.std.proofs.Common.{arith, length-append}
use Rattle.output.specs.Lines.{lines, mark_line, cut_line}
use Rattle.output.proofs.Writing.{wrote_then}
use Rattle.output.proofs.show.show.Goals as goal

pub returns : goal.returns
returns c =
    let marks = lines mark_line c.args.marks.now in
    let cuts = lines cut_line c.args.cuts.now in
    let l = length-append marks cuts in
    (grind arith, grind arith, wrote_then 0 c.write_lines-at.result c.write_lines.result marks cuts c.args.out.now c.write_lines-at.new.out c.write_lines.new.out (grind arith) (grind arith) (grind arith) c.write_lines-at.ensures.written c.write_lines.ensures.written)
