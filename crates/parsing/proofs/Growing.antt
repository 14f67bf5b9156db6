-- Contents that grow by a line.
use Rattle.std.proofs.Common.{◌≡◌, ℕ, ◌+◌, ◌<◌, true, List, [], ◌∷◌, ◌++◌, length, sym, ap, ◌∙◌, append_assoc, append-nil, arith, length-append, length-drop}
use Rattle.notation.specs.Contents.{entry_text, entry_line, entry_lines}
use Rattle.notation.specs.Lines.{first_line, is_ended, after_line, line_length}
use Rattle.notation.specs.declared.contents.Entry.{Entry}
use Rattle.reading.proofs.Counting.{cut_line}

-- one entry more is one line more
pub entry_lines_more : (es : List Entry) (e : Entry) → entry_lines (es ++ (e ∷ [])) ≡ entry_lines es ++ entry_line e
entry_lines_more [] e = append-nil (entry_line e)
entry_lines_more (d ∷ es) e = ap (λ (bs : List ℕ). entry_line d ++ bs) (entry_lines_more es e) ∙ sym (append_assoc (entry_line d) (entry_lines es) (entry_line e))

pub goes_on : (bytes rest : List ℕ) (es ds : List Entry) (e : Entry) → bytes ≡ entry_lines es ++ rest → is_ended rest ≡ true → first_line rest ≡ entry_text e → ds ≡ es ++ (e ∷ []) → bytes ≡ entry_lines ds ++ after_line rest
goes_on bytes rest es ds e h l t g =
    let line : rest ≡ entry_line e ++ after_line rest = cut_line rest l ∙ ap (λ (x : List ℕ). x ++ (10 ∷ after_line rest)) t ∙ sym (append_assoc (entry_text e) (10 ∷ []) (after_line rest)) in
    h ∙ ap (λ (x : List ℕ). entry_lines es ++ x) line ∙ sym (append_assoc (entry_lines es) (entry_line e) (after_line rest)) ∙
    ap (λ (x : List ℕ). x ++ after_line rest) (sym (entry_lines_more es e) ∙ sym (ap entry_lines g))

pub one_longer : (es ds : List Entry) (e : Entry) → ds ≡ es ++ (e ∷ []) → length ds ≡ length es + 1
one_longer es ds e g = ap length g ∙ length-append es (e ∷ [])

-- a line taken leaves less
pub less_left : (rest : List ℕ) → 0 < length rest → length (after_line rest) < length rest
less_left rest h = omega (arith, length-drop (line_length rest + 1) rest)
