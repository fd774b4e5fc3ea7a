-- The lines of texts that are put together line by line.
use Rattle.std.proofs.Common.{◌≡◌, ◌≢◌, ℕ, ◌+◌, ◌<◌, ◌≤◌, Bool, false, cond, eqb, List, [], ◌∷◌, ◌++◌, length, take, refl, sym, ap, ◌∙◌, arith, append_assoc}
use Rattle.std.specs.Prelude.{All, count_by, Some, slice_get}
use Rattle.std.specs.List.{onto_first}
use Rattle.std.proofs.lemmas.Bool.{ne_eqb}
use Rattle.std.proofs.lemmas.List.{append-nil}
use Rattle.std.proofs.lemmas.List.Sums.{sum_by-cons}
use Rattle.std.proofs.lemmas.List.Elements.{All-head, All-tail}
use Rattle.scripts.specs.Lines.{newline, lines_of, whole_lines_of}
use Rattle.scripts.specs.Reading.{IsPlainLine}
use Rattle.scripts.specs.Turns.{text_of}

-- a byte that is no newline
no_newline : (b : ℕ) → b ≢ newline → eqb b newline ≡ false
no_newline b ne = ne_eqb b newline ne

-- a plain line before a newline
pub lines_of-line : (line rest : List ℕ) → IsPlainLine line → lines_of (line ++ newline ∷ rest) ≡ line ∷ lines_of rest
lines_of-line [] rest plain = refl
lines_of-line (b ∷ line) rest plain =
    let others : cond (eqb b newline) ([] ∷ lines_of (line ++ newline ∷ rest)) (onto_first b (lines_of (line ++ newline ∷ rest))) ≡ onto_first b (lines_of (line ++ newline ∷ rest))
    = ap (λ v. cond v ([] ∷ lines_of (line ++ newline ∷ rest)) (onto_first b (lines_of (line ++ newline ∷ rest)))) (no_newline b (All-head (λ x. x ≢ newline) b line plain)) in
    others ∙ ap (onto_first b) (lines_of-line line rest (All-tail (λ x. x ≢ newline) b line plain))

-- whole lines before a rest
pub lines_of-text : (lines : List (List ℕ)) (rest : List ℕ) → All IsPlainLine lines → lines_of (text_of lines ++ rest) ≡ lines ++ lines_of rest
lines_of-text [] rest plain = refl
lines_of-text (line ∷ lines) rest plain =
    ap lines_of (append_assoc (line ++ newline ∷ []) (text_of lines) rest ∙ append_assoc line (newline ∷ []) (text_of lines ++ rest))
    ∙ lines_of-line line (text_of lines ++ rest) (All-head IsPlainLine line lines plain)
    ∙ ap (λ ls. line ∷ ls) (lines_of-text lines rest (All-tail IsPlainLine line lines plain))

-- the first line of a text that begins with plain bytes begins with these
pub record FirstLine (front text : List ℕ) : Type 0 where
  pub line : List ℕ
  pub lines : List (List ℕ)
  pub are : lines_of text ≡ line ∷ lines
  pub long : length front ≤ length line

onto_line : (b : ℕ) (text : List ℕ) → b ≢ newline → lines_of (b ∷ text) ≡ onto_first b (lines_of text)
onto_line b text ne = ap (λ v. cond v ([] ∷ lines_of text) (onto_first b (lines_of text))) (no_newline b ne)

onto_any : (b : ℕ) (text : List ℕ) (parts : List (List ℕ)) → lines_of (b ∷ text) ≡ onto_first b parts → FirstLine (b ∷ []) (b ∷ text)
onto_any b text [] e = record { line = b ∷ []; lines = []; are = e; long = omega arith }
onto_any b text (part ∷ parts) e = record { line = b ∷ part; lines = parts; are = e; long = omega arith }

pub first_line : (front more : List ℕ) → IsPlainLine front → 0 < length front → FirstLine front (front ++ more)
first_line [] more plain some = absurd (omega arith)
first_line (b ∷ []) more plain some = onto_any b more (lines_of more) (onto_line b more (All-head (λ x. x ≢ newline) b [] plain))
first_line (b ∷ c ∷ front) more plain some =
    let next = first_line (c ∷ front) more (All-tail (λ x. x ≢ newline) b (c ∷ front) plain) (omega arith) in
    record {
      line = b ∷ next.line;
      lines = next.lines;
      are = onto_line b ((c ∷ front) ++ more) (All-head (λ x. x ≢ newline) b (c ∷ front) plain) ∙ ap (onto_first b) next.are;
      long = let h = next.long in omega arith;
    }

-- a last line, which lacks its newline
pub lines_of-last : (line : List ℕ) → IsPlainLine line → 0 < length line → lines_of line ≡ line ∷ []
lines_of-last [] plain some = absurd (omega arith)
lines_of-last (b ∷ []) plain some = onto_line b [] (All-head (λ x. x ≢ newline) b [] plain)
lines_of-last (b ∷ c ∷ line) plain some =
    onto_line b (c ∷ line) (All-head (λ x. x ≢ newline) b (c ∷ line) plain)
    ∙ ap (onto_first b) (lines_of-last (c ∷ line) (All-tail (λ x. x ≢ newline) b (c ∷ line) plain) (omega arith))

-- how many newlines a text has, by its first byte
newlines-cons : (b : ℕ) (text : List ℕ) → count_by (λ x. eqb x newline) (b ∷ text) ≡ cond (eqb b newline) 1 0 + count_by (λ x. eqb x newline) text
newlines-cons b text = sum_by-cons (λ x. cond (eqb x newline) 1 0) b text

counted : (v : Bool) (n : ℕ) → v ≡ false → cond v 1 0 + n ≡ n
counted v n e = ap (λ w. cond w 1 0 + n) e ∙ none n
  where
    none : (k : ℕ) → 0 + k ≡ k
    none k = omega arith

one_more : (n : ℕ) → 1 + n ≡ n + 1
one_more n = omega arith

newlines-plain : (line : List ℕ) → IsPlainLine line → count_by (λ b. eqb b newline) line ≡ 0
newlines-plain [] plain = refl
newlines-plain (b ∷ line) plain =
    newlines-cons b line ∙ counted (eqb b newline) (count_by (λ x. eqb x newline) line) (no_newline b (All-head (λ x. x ≢ newline) b line plain))
    ∙ newlines-plain line (All-tail (λ x. x ≢ newline) b line plain)

newlines-line : (line rest : List ℕ) → IsPlainLine line → count_by (λ b. eqb b newline) (line ++ newline ∷ rest) ≡ count_by (λ b. eqb b newline) rest + 1
newlines-line [] rest plain = newlines-cons newline rest ∙ one_more (count_by (λ x. eqb x newline) rest)
newlines-line (b ∷ line) rest plain =
    newlines-cons b (line ++ newline ∷ rest) ∙ counted (eqb b newline) (count_by (λ x. eqb x newline) (line ++ newline ∷ rest)) (no_newline b (All-head (λ x. x ≢ newline) b line plain))
    ∙ newlines-line line rest (All-tail (λ x. x ≢ newline) b line plain)

newlines-text : (lines : List (List ℕ)) (part : List ℕ) → All IsPlainLine lines → IsPlainLine part → count_by (λ b. eqb b newline) (text_of lines ++ part) ≡ length lines
newlines-text [] part plain p = newlines-plain part p
newlines-text (line ∷ lines) part plain p =
    ap (count_by (λ b. eqb b newline)) (append_assoc (line ++ newline ∷ []) (text_of lines) part ∙ append_assoc line (newline ∷ []) (text_of lines ++ part))
    ∙ newlines-line line (text_of lines ++ part) (All-head IsPlainLine line lines plain)
    ∙ (let rest = newlines-text lines part (All-tail IsPlainLine line lines plain) p in omega (arith, rest))

pub take-front : {A : Type 0} (xs ys : List A) → take (length xs) (xs ++ ys) ≡ xs
take-front [] ys = refl
take-front (x ∷ xs) ys = ap (λ zs. x ∷ zs) (take-front xs ys)

-- the whole lines before a part of a line
pub whole_lines_of-text : (lines : List (List ℕ)) (part : List ℕ) → All IsPlainLine lines → IsPlainLine part → whole_lines_of (text_of lines ++ part) ≡ lines
whole_lines_of-text lines part plain p =
    ap (λ n. take n (lines_of (text_of lines ++ part))) (newlines-text lines part plain p)
    ∙ ap (take (length lines)) (lines_of-text lines part plain)
    ∙ take-front lines (lines_of part)

-- the element behind a front
pub at-front : {A : Type 0} (xs ys : List A) (y : A) → slice_get (xs ++ y ∷ ys) (length xs) ≡ Some y
at-front [] ys y = refl
at-front (x ∷ xs) ys y = at-front xs ys y

pub text_of-push : (lines : List (List ℕ)) (line : List ℕ) → text_of (lines ++ line ∷ []) ≡ text_of lines ++ (line ++ newline ∷ [])
text_of-push [] line = append-nil (line ++ newline ∷ [])
text_of-push (l ∷ lines) line = ap (λ t. (l ++ newline ∷ []) ++ t) (text_of-push lines line) ∙ sym (append_assoc (l ++ newline ∷ []) (text_of lines) (line ++ newline ∷ []))
