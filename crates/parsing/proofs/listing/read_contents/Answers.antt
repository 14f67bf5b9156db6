use Rattle.std.proofs.Common.{◌≡◌, ℕ, ◌+◌, Bool, cond, List, ◌++◌, sym, ap, ◌∙◌, subst, inl, inr, arith, rules}
use Rattle.std.proofs.lemmas.Result.{err_from_is_err_and}
use Rattle.std.proofs.lemmas.Bool.{true≢false}
use Rattle.lattice.specs.Refusals.{number}
use Rattle.notation.specs.Contents.{entry_lines, entries}
use Rattle.notation.specs.declared.refused.Refused.{Refused}
use Rattle.reading.specs.Readers.{rest, NextLine}
use Rattle.parsing.specs.Listing.{Breaks}
use Rattle.parsing.proofs.Growing.{goes_on, one_longer}
use Rattle.parsing.proofs.listing.read_contents.Goals as goal

pub returns-in_err-line : goal.returns-in_err-line
returns-in_err-line c =
    let p = err_from_is_err_and c.from_residual.result c.from_residual.ensures.1 in
    let inv = c.loop-reader.invariant in
    let none = subst (NextLine c.loop-reader.reader c.next_line.new.self) c.in_err-line.ensures.ok_part c.next_line.ensures in
    let same : c.in_err-line.field-0.0 ≡ c.broken.result = search rules in
    rw (p.1, p.2) record {
      number = ap (λ (r : Refused). number r.refusal) same ∙ c.broken.ensures.refusal;
      contents = c.loop-reader.contents;
      proper = inv.0;
      partial = λ w. true≢false (sym (c.loop-reader-test.ensures.1 w));
      tail = rest c.loop-reader.reader;
      text = inv.1;
      fault = inl (none.0, ap (λ (r : Refused). r.line) same ∙ omega (arith, c.broken.ensures.line, c.saturating_sub-last.ensures, c.line.ensures, inv.2));
    }

pub loop-reader-preserved : goal.loop-reader-preserved
loop-reader-preserved c =
    let t = subst (NextLine c.loop-reader.reader c.next_line.new.self) c.in_ok-line.ensures.ok_part c.next_line.ensures in
    let e = c.in_ok-take_entry.ensures in
    let inv = c.loop-reader.invariant in
    let grown = e.4 inv.0 in
    let ended = sym t.ended ∙ e.0 in
    let longer = one_longer _ _ _ grown.0 in
    let line = t.line ∙ ap (λ (b : Bool). c.loop-reader.reader.line + cond b 1 0) ended in (
      grown.1,
      goes_on _ (rest c.loop-reader.reader) _ _ e.1 inv.1 ended (sym t.text ∙ e.3) grown.0 ∙ ap (λ (r : List ℕ). entry_lines (entries c.take_entry.new.contents) ++ r) (sym t.after),
      omega (arith, line, longer, inv.2),
    )

pub returns-in_err-take_entry : goal.returns-in_err-take_entry
returns-in_err-take_entry c =
    let p = err_from_is_err_and c.from_residual-in_err-take_entry.result c.from_residual-in_err-take_entry.ensures.1 in
    let inv = c.loop-reader.invariant in
    let t = subst (NextLine c.loop-reader.reader c.next_line.new.self) c.in_ok-line.ensures.ok_part c.next_line.ensures in
    let l = c.in_err-take_entry.ensures in
    rw (p.1, p.2) record {
      number = l.0;
      contents = c.loop-reader.contents;
      proper = inv.0;
      partial = λ w. true≢false (sym (c.loop-reader-test.ensures.1 w));
      tail = rest c.loop-reader.reader;
      text = inv.1;
      fault = inr (t.some, omega (arith, l.1, t.number, inv.2), λ h. subst (Breaks c.loop-reader.contents) t.text (l.2 (t.ended ∙ h)));
    }
