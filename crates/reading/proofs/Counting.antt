-- How many lines end before a place of a text.
use Rattle.std.proofs.Common.{◌≡◌, ℕ, suc, ◌+◌, ◌<◌, ◌≤◌, Bool, true, false, cond, List, [], ◌∷◌, ◌++◌, length, take, drop, refl, ap, ◌∙◌, one-add, arith, take-add, ltb, ltb-true}
use mir.Val.{bool_byte}
use Rattle.std.proofs.lemmas.List.Sums.{sum_by-append, sum_by-cons}
use Rattle.std.proofs.lemmas.Bool.Decides.{nat_tests}
use Rattle.notation.specs.Lines.{ends_line, newlines, in_line, line_length, is_ended, first_line, after_line}
use Rattle.reading.proofs.Cutting.{cut_at}

not_end : (x : ℕ) → in_line x ≡ true → ends_line x ≡ false
not_end x h = grind (arith, nat_tests)

an_end : (x : ℕ) → in_line x ≡ false → ends_line x ≡ true
an_end x h = grind (arith, nat_tests)

count_cons : (x : ℕ) (xs : List ℕ) → newlines (x ∷ xs) ≡ cond (ends_line x) 1 0 + newlines xs
count_cons x xs = sum_by-cons (λ y. cond (ends_line y) 1 0) x xs

front_step : (x : ℕ) (xs : List ℕ) (b : Bool) → in_line x ≡ b → newlines (take (line_length xs) xs) ≡ 0 → newlines (take (cond b (1 + line_length xs) 0) (x ∷ xs)) ≡ 0
front_step x xs true e h =
    let n = not_end x e in
    rw one-add (count_cons x (take (line_length xs) xs) ∙ simp n (omega (arith, h)))
front_step x xs false e h = refl

-- a line has no end within
front_none : (xs : List ℕ) → newlines (take (line_length xs) xs) ≡ 0
front_none [] = refl
front_none (x ∷ xs) = front_step x xs (in_line x) refl (front_none xs)

end_step : (x : ℕ) (xs : List ℕ) (b : Bool) → in_line x ≡ b → cond b (1 + line_length xs) 0 < suc (length xs) → (line_length xs < length xs → newlines (take (line_length xs + 1) xs) ≡ 1) → newlines (take (cond b (1 + line_length xs) 0 + 1) (x ∷ xs)) ≡ 1
end_step x xs true e l h =
    let n = not_end x e in
    let k = h (omega arith) in
    let s : 1 + line_length xs + 1 ≡ suc (line_length xs + 1) = omega arith in
    rw s (count_cons x (take (line_length xs + 1) xs) ∙ simp n (omega (arith, k)))
end_step x xs false e l h = let n = an_end x e in count_cons x [] ∙ simp n

-- a line with its end has that one
front_one : (xs : List ℕ) → line_length xs < length xs → newlines (take (line_length xs + 1) xs) ≡ 1
front_one [] h = let no : ⊥ = omega arith in absurd no
front_one (x ∷ xs) h = end_step x xs (in_line x) refl h (front_one xs)

count_add : (xs : List ℕ) (i n : ℕ) → newlines (take (i + n) xs) ≡ newlines (take i xs) + newlines (take n (drop i xs))
count_add xs i n = rw take-add (sum_by-append (λ y. cond (ends_line y) 1 0) (take i xs) (take n (drop i xs)))

-- the count goes on by one over a line with its end, and by none over the last line without it
pub count_line : (xs : List ℕ) (i n : ℕ) → n ≡ line_length (drop i xs) → newlines (take (i + n) xs) ≡ newlines (take i xs)
count_line xs i n e = rw e (count_add xs i (line_length (drop i xs)) ∙ omega (arith, front_none (drop i xs)))

pub count_ended : (xs : List ℕ) (i n : ℕ) → n ≡ line_length (drop i xs) → n < length (drop i xs) → newlines (take (i + (n + 1)) xs) ≡ newlines (take i xs) + 1
count_ended xs i n e h =
    rw e (count_add xs i (line_length (drop i xs) + 1) ∙ omega (arith, front_one (drop i xs) (omega (arith, e, h))))

-- by one or by none, as the line has its end
pub count_next : (xs : List ℕ) (i n b : ℕ) (t : Bool) → n ≡ line_length (drop i xs) → ltb n (length (drop i xs)) ≡ t → b ≡ bool_byte t → newlines (take (i + (n + b)) xs) ≡ newlines (take i xs) + b
count_next xs i n b true e h k =
    ap (λ (m : ℕ). newlines (take (i + (n + m)) xs)) k ∙ count_ended xs i n e (ltb-true n (length (drop i xs)) h) ∙ omega (arith, k)
count_next xs i n b false e h k =
    let z : i + (n + b) ≡ i + n = omega (arith, k) in
    ap (λ (m : ℕ). newlines (take m xs)) z ∙ count_line xs i n e ∙ omega (arith, k)

-- with its end, if it has one, a line lies within the text
pub end_within : (n l b : ℕ) (t : Bool) → n ≤ l → ltb n l ≡ t → b ≡ bool_byte t → n + b ≤ l
end_within n l b true w h k = let s = ltb-true n l h in omega (arith, k)
end_within n l b false w h k = omega (arith, k)

-- a line with its end, and the bytes after it
pub cut_line : (xs : List ℕ) → is_ended xs ≡ true → xs ≡ first_line xs ++ (10 ∷ after_line xs)
cut_line xs h = cut_at 10 xs (ltb-true (line_length xs) (length xs) h)
