-- What was read of an input, as its lines.
use Rattle.std.proofs.Common.{◌≡◌, ℕ, ◌+◌, ◌<◌, List, [], ◌∷◌, ◌++◌, length, refl, sym, ap, ◌∙◌, subst, arith, append_assoc}
use Rattle.std.specs.Prelude.{All, Option, Some, None}
use Rattle.std.specs.List.{AllZip}
use Rattle.std.specs.Io.KnownBytes.{Consumes, IsAtEnd}
use Rattle.std.proofs.lemmas.List.{append-nil}
use Rattle.std.proofs.lemmas.List.Elements.{All-nil, All-cons, All-append}
use Rattle.heap_spec.specs.declared.event.Event.{Event}
use Rattle.scripts.specs.Grammar.{IsLineOf}
use Rattle.scripts.specs.Lines.{newline, IsShort, lines_of}
use Rattle.scripts.specs.Reading.{left_of, IsPlainLine}
use Rattle.scripts.specs.Turns.{text_of}
use Rattle.scripts.proofs.Texts.{lines_of-text, lines_of-line, lines_of-last}

-- one pair more
pub zip_push : {A B : Type 0} (R : A → B → Type 0) (xs : List A) (ys : List B) (x : A) (y : B) → AllZip R xs ys → R x y → AllZip R (xs ++ x ∷ []) (ys ++ y ∷ [])
zip_push R [] [] x y h r = (r, tt)
zip_push R [] (b ∷ ys) x y h r = absurd h
zip_push R (a ∷ xs) [] x y h r = absurd h
zip_push R (a ∷ xs) (b ∷ ys) x y h r = (h.0, zip_push R xs ys x y h.1 r)

pub length-push : {A : Type 0} (xs : List A) (x : A) → length (xs ++ x ∷ []) ≡ length xs + 1
length-push [] x = refl
length-push (y ∷ xs) x = let h = length-push xs x in omega (arith, h)

-- What is left, where a reader tells that its bytes are the input.
pub record Known (input : List ℕ) (rem : Option (List ℕ)) (buffer text : List ℕ) : Type 0 where
  pub left : List ℕ
  pub is_left : rem ≡ Some left
  pub is_input : input ≡ (text ++ buffer) ++ left

pub known : (input b0 buffer text : List ℕ) (rem0 rem : Option (List ℕ)) → b0 ≡ [] → rem0 ≡ Some input → Consumes (left_of b0 rem0) (left_of buffer rem) text → Known input rem buffer text
known input b0 buffer text rem0 rem none tells reads =
    let P : Option (List ℕ) → Type 0 = λ x. Consumes x (left_of buffer rem) text in
    by_rest rem (subst P (ap (λ b. left_of b rem0) none ∙ ap (λ r. left_of [] r) tells) reads)
  where
    by_rest : (rest : Option (List ℕ)) → Consumes (Some input) (left_of buffer rest) text → Known input rest buffer text
    by_rest None h = absurd h
    by_rest (Some left) h = record { left = left; is_left = refl; is_input = h ∙ sym (append_assoc text buffer left) }

pub at_end : (buffer left : List ℕ) (rem : Option (List ℕ)) → rem ≡ Some left → IsAtEnd (left_of buffer rem) → buffer ++ left ≡ []
at_end buffer left rem is h = let P : Option (List ℕ) → Type 0 = λ r. IsAtEnd (left_of buffer r) in subst P is h

pub no_buffer : (buffer left : List ℕ) → buffer ++ left ≡ [] → buffer ≡ []
no_buffer [] left e = refl
no_buffer (b ∷ buffer) left e = let h : ⊥ = cc in absurd h

pub no_left : (buffer left : List ℕ) → buffer ++ left ≡ [] → left ≡ []
no_left [] left e = e
no_left (b ∷ buffer) left e = let h : ⊥ = cc in absurd h

-- the lines of an input that begins with some lines and one more
pub more_lines : (lines : List (List ℕ)) (line buffer left : List ℕ) → All IsPlainLine lines → IsPlainLine line → lines_of (((text_of lines ++ (line ++ newline ∷ [])) ++ buffer) ++ left) ≡ lines ++ line ∷ lines_of (buffer ++ left)
more_lines lines line buffer left plain p =
    ap lines_of (append_assoc (text_of lines ++ (line ++ newline ∷ [])) buffer left ∙ append_assoc (text_of lines) (line ++ newline ∷ []) (buffer ++ left))
    ∙ lines_of-text lines ((line ++ newline ∷ []) ++ (buffer ++ left)) plain
    ∙ ap (λ t. lines ++ lines_of t) (append_assoc line (newline ∷ []) (buffer ++ left))
    ∙ ap (λ ls. lines ++ ls) (lines_of-line line (buffer ++ left) p)

-- the same, where the last line lacks its newline
pub last_line : (lines : List (List ℕ)) (line buffer left : List ℕ) → All IsPlainLine lines → IsPlainLine line → 0 < length line → buffer ++ left ≡ [] → lines_of (((text_of lines ++ line) ++ buffer) ++ left) ≡ lines ++ line ∷ []
last_line lines line buffer left plain p some end =
    ap lines_of (append_assoc (text_of lines ++ line) buffer left ∙ ap (λ t. (text_of lines ++ line) ++ t) end ∙ append-nil (text_of lines ++ line))
    ∙ lines_of-text lines line plain ∙ ap (λ ls. lines ++ ls) (lines_of-last line p some)

-- the lines of commands are short
commands_short : (lines : List (List ℕ)) (events : List Event) → AllZip IsLineOf lines events → All IsShort lines
commands_short [] [] are = All-nil IsShort
commands_short [] (e ∷ events) are = absurd are
commands_short (line ∷ lines) [] are = absurd are
commands_short (line ∷ lines) (e ∷ events) are = All-cons IsShort line lines are.0.short (commands_short lines events are.1)

part_short : (part : List ℕ) → IsPlainLine part → IsShort part → All IsShort (lines_of part)
part_short [] plain short = All-nil IsShort
part_short (b ∷ part) plain short =
    subst (All IsShort) (sym (lines_of-last (b ∷ part) plain (omega arith))) (All-cons IsShort (b ∷ part) [] short (All-nil IsShort))

-- no line of what was read is too long, where the lines before a part are commands'
pub all_short : (lines : List (List ℕ)) (events : List Event) (part buffer : List ℕ) → AllZip IsLineOf lines events → All IsPlainLine lines → IsPlainLine part → IsShort part → buffer ≡ []
    → All IsShort (lines_of ((text_of lines ++ part) ++ buffer))
all_short lines events part buffer are plain p short empty =
    let text : lines_of ((text_of lines ++ part) ++ buffer) ≡ lines ++ lines_of part
    = ap lines_of (ap (λ b. (text_of lines ++ part) ++ b) empty ∙ append-nil (text_of lines ++ part)) ∙ lines_of-text lines part plain in
    subst (All IsShort) (sym text) (All-append IsShort lines (lines_of part) (commands_short lines events are) (part_short part p short))
