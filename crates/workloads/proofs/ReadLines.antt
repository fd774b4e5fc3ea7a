-- How a workload's lines end: at the input's end, at a line that breaks a rule, or at a fault.
use Rattle.std.proofs.Common.{◌≡◌, ℕ, ◌+◌, ◌-◌, ◌<◌, ◌≤◌, List, [], ◌∷◌, ◌++◌, length, take, refl, sym, ap, ◌∙◌, subst, arith, append_assoc, inl, inr}
use Rattle.std.specs.Prelude.{All, Option, Some, Result, Ok, Err, slice_get, ⊤, ◌⊎◌}
use Rattle.std.specs.Io.KnownBytes.{Consumes}
use Rattle.std.proofs.lemmas.List.{append-nil}
use Rattle.std.proofs.lemmas.List.Elements.{All-push, All-nil}
use Rattle.scripts.specs.declared.limits.TheConstants.{LAST_LINE, LINE_BYTES}
use Rattle.scripts.specs.declared.errors.ScriptError.{ScriptError}
use Rattle.scripts.specs.declared.errors.ScriptError.TheVariants.{BadLine, Read, Write, Memory}
use Rattle.scripts.specs.declared.line.LineRead.{LineRead}
use Rattle.scripts.specs.declared.line.LineRead.TheVariants.{Line, Last, End, TooLong}
use Rattle.scripts.specs.Lines.{newline, IsShort, lines_of, whole_lines_of}
use Rattle.scripts.specs.Reading.{left_of, IsPlainLine, IsLineRead}
use Rattle.scripts.specs.Turns.{text_of}
use Rattle.scripts.proofs.Bytes.{Consumes-none, Consumes-more}
use Rattle.scripts.proofs.Inputs.{length-push, known, at_end, no_buffer, no_left, more_lines, last_line, all_short}
use Rattle.scripts.proofs.Texts.{lines_of-text, first_line, whole_lines_of-text, take-front, at-front, text_of-push}
use Rattle.workloads.specs.Workloads.{ActorLines, AreWorkload, MayFollow, BreaksRule, BreaksAt}
use Rattle.workloads.specs.Reading.{IsReadAs, ReadsWorkload}
use Rattle.workloads.specs.Taking.{IsLineTaken, answered, no_lines}
use Rattle.workloads.proofs.Taking.{none_taken, taken}

-- The lines before this number are a workload, and were read since the start.
pub record IsUpTo (number : ℕ) (lists : ActorLines) (input left : Option (List ℕ)) : Type 0 where
  pub lines : List (List ℕ)
  pub plain : All IsPlainLine lines
  pub are : AreWorkload lines lists
  pub count : length lines + 1 ≡ number
  pub read : Consumes input left (text_of lines)

-- before the first line
pub starts : (lists : ActorLines) (left : Option (List ℕ)) → lists ≡ no_lines → IsUpTo 1 lists left left
starts lists left new = record { lines = []; plain = All-nil IsPlainLine; are = subst (AreWorkload []) (sym new) none_taken; count = refl; read = Consumes-none left }

-- line n is the first that breaks a rule, however the input goes on
breaks : (number : ℕ) (lists : ActorLines) (lines more : List (List ℕ)) (bad text : List ℕ) → number ≤ LAST_LINE → length lines + 1 ≡ number → AreWorkload lines lists → lines_of text ≡ lines ++ bad ∷ more
    → BreaksRule (number - 1) (length lists.mutators) bad ⊎ (number ≡ LAST_LINE) → BreaksAt (lines_of text) number
breaks number lists lines more bad text few count are is why =
    let before : number - 1 ≡ length lines = omega (arith, count) in
    let front : take (number - 1) (lines_of text) ≡ lines = ap (λ n. take n (lines_of text)) before ∙ ap (take (length lines)) is ∙ take-front lines (bad ∷ more) in
    let there : slice_get (lines_of text) (number - 1) ≡ Some bad = ap (slice_get (lines_of text)) before ∙ ap (λ ls. slice_get ls (length lines)) is ∙ at-front lines more bad in
    record { line = bad; lists = lists; counted = omega (arith, count); is_line = there; before = subst (λ ls. AreWorkload ls lists) (sym front) are; breaks = why }

-- One line more of the workload, and what was read with it.
module _ (number : ℕ) (lists : ActorLines) (b0 buffer buffer' line : List ℕ) (rem0 rem rem' : Option (List ℕ)) (u : IsUpTo number lists (left_of b0 rem0) (left_of buffer rem)) (plain : IsPlainLine line) (new : ActorLines) (done : ⊤) (few : number < LAST_LINE) where
  before_is : length u.lines ≡ number - 1
  before_is = let count = u.count in omega (arith, count)

  pub one_more : IsLineTaken number line lists new (Ok done) → AreWorkload (u.lines ++ line ∷ []) new
  one_more turn =
      subst (AreWorkload (u.lines ++ line ∷ [])) (sym turn.3)
      (taken u.lines lists line turn.0 u.are turn.1 (subst (λ n. MayFollow n (length lists.mutators) turn.0) (sym before_is) turn.2) (let count = u.count in omega (arith, count)))

  -- there are more lines
  pub line_taken : IsLineRead Line line (left_of buffer rem) (left_of buffer' rem') → IsLineTaken number line lists new (Ok done) → IsUpTo (number + 1) new (left_of b0 rem0) (left_of buffer' rem')
  line_taken found turn = record {
    lines = u.lines ++ line ∷ [];
    plain = All-push IsPlainLine u.lines line u.plain plain;
    are = one_more turn;
    count = ap (λ n. n + 1) (length-push u.lines line ∙ u.count);
    read = subst (λ t. Consumes (left_of b0 rem0) (left_of buffer' rem') t) (sym (text_of-push u.lines line)) (Consumes-more _ _ _ (text_of u.lines) (line ++ newline ∷ []) u.read found);
  }

module _ (number : ℕ) (lists : ActorLines) (input b0 buffer buffer' line : List ℕ) (rem0 rem rem' : Option (List ℕ)) (empty : b0 ≡ []) (tells : rem0 ≡ Some input) (u : IsUpTo number lists (left_of b0 rem0) (left_of buffer rem)) (plain : IsPlainLine line) where
  -- what was read behind the lines before
  reads : (text : List ℕ) (result : Result ActorLines ScriptError) → Consumes (left_of buffer rem) (left_of buffer' rem') text
      → ((left : List ℕ) → rem' ≡ Some left → IsReadAs ((text_of u.lines ++ text) ++ buffer') left result) → ReadsWorkload input rem' result
  reads text result h answer =
      let k = known input b0 buffer' (text_of u.lines ++ text) rem0 rem' empty tells (Consumes-more _ _ _ (text_of u.lines) text u.read h) in
      record { read = (text_of u.lines ++ text) ++ buffer'; left = k.left; is_input = k.is_input; is_left = k.is_left; answer = answer k.left k.is_left }

  -- no further line
  pub end_reads : IsLineRead End line (left_of buffer rem) (left_of buffer' rem') → ReadsWorkload input rem' (Ok lists)
  end_reads found = reads [] (Ok lists) found.0 (λ left is.
      let e = at_end buffer' left rem' is found.1 in
      let all : lines_of ((text_of u.lines ++ []) ++ buffer') ≡ u.lines
      = ap (λ b. lines_of ((text_of u.lines ++ []) ++ b)) (no_buffer buffer' left e) ∙ ap lines_of (append_assoc (text_of u.lines) [] []) ∙ lines_of-text u.lines [] u.plain ∙ append-nil u.lines in
      (subst (λ ls. AreWorkload ls lists) (sym all) u.are, no_left buffer' left e))

  -- a line that is too long
  pub too_long_reads : number ≤ LAST_LINE → IsLineRead TooLong line (left_of buffer rem) (left_of buffer' rem') → ReadsWorkload input rem' (Err (BadLine number))
  too_long_reads few found =
      let front : List ℕ = line ++ found.0 ∷ [] in
      let long : length front ≡ LINE_BYTES + 1 = length-push line found.0 ∙ ap (λ n. n + 1) found.3 in
      let no-newline : IsPlainLine front = All-push (λ b. b ≡ newline → ⊥) line found.0 plain found.2 in
      reads front (Err (BadLine number)) found.1 (λ left is.
      let first = first_line front (buffer' ++ left) no-newline (omega (arith, long)) in
      breaks number lists u.lines first.lines first.line (((text_of u.lines ++ front) ++ buffer') ++ left) few u.count u.are
      (ap lines_of (append_assoc (text_of u.lines ++ front) buffer' left ∙ append_assoc (text_of u.lines) front (buffer' ++ left)) ∙ lines_of-text u.lines (front ++ (buffer' ++ left)) u.plain ∙ ap (λ ls. u.lines ++ ls) first.are)
      (inl (inl (λ command l. let short = l.short in let h = first.long in omega (arith, short, h, long)))))

  -- the reader failed within a line
  pub read_fails : IsShort line → buffer' ≡ [] → Consumes (left_of buffer rem) (left_of buffer' rem') line → ReadsWorkload input rem' (Err Read)
  read_fails short none h = reads line (Err Read) h (λ left is.
      let all : whole_lines_of ((text_of u.lines ++ line) ++ buffer') ≡ u.lines
      = ap whole_lines_of (ap (λ b. (text_of u.lines ++ line) ++ b) none ∙ append-nil (text_of u.lines ++ line)) ∙ whole_lines_of-text u.lines line u.plain plain in
      ((lists, subst (λ ls. AreWorkload ls lists) (sym all) u.are), all_short u.lines _ line buffer' u.are.are u.plain plain short none))

  -- a line that was not taken
  pub line_fails : (new : ActorLines) (fault : ScriptError) → number < LAST_LINE → IsLineRead Line line (left_of buffer rem) (left_of buffer' rem') → IsLineTaken number line lists new (Err fault) → ReadsWorkload input rem' (Err fault)
  line_fails new (BadLine n) few found turn =
      subst (λ k. ReadsWorkload input rem' (Err (BadLine k))) (sym turn.0) (reads (line ++ newline ∷ []) (Err (BadLine number)) found (λ left is.
      breaks number lists u.lines (lines_of (buffer' ++ left)) line (((text_of u.lines ++ (line ++ newline ∷ [])) ++ buffer') ++ left) (omega (arith, few)) u.count u.are (more_lines u.lines line buffer' left u.plain plain) (inl turn.1)))
  line_fails new Memory few found turn = reads (line ++ newline ∷ []) (Err Memory) found (λ left is. tt)
  line_fails new Read few found turn = absurd turn
  line_fails new Write few found turn = absurd turn

  -- the last line, which lacks its newline
  pub last_reads : (new : ActorLines) (result : Result ⊤ ScriptError) → number < LAST_LINE → IsLineRead Last line (left_of buffer rem) (left_of buffer' rem') → IsLineTaken number line lists new result
      → ReadsWorkload input rem' (answered result new)
  last_reads new (Ok done) few found turn = reads line (Ok new) found.0 (λ left is.
      let e = at_end buffer' left rem' is found.1 in
      let all : lines_of ((text_of u.lines ++ line) ++ buffer') ≡ u.lines ++ line ∷ []
      = ap lines_of (sym (append-nil ((text_of u.lines ++ line) ++ buffer')) ∙ ap (λ l. ((text_of u.lines ++ line) ++ buffer') ++ l) (sym (no_left buffer' left e))) ∙ last_line u.lines line buffer' left u.plain plain found.2 e in
      (subst (λ ls. AreWorkload ls new) (sym all) (one_more number lists b0 buffer buffer' line rem0 rem rem' u plain new done few turn), no_left buffer' left e))
  last_reads new (Err (BadLine n)) few found turn =
      subst (λ k. ReadsWorkload input rem' (Err (BadLine k))) (sym turn.0) (reads line (Err (BadLine number)) found.0 (λ left is.
      breaks number lists u.lines [] line (((text_of u.lines ++ line) ++ buffer') ++ left) (omega (arith, few)) u.count u.are (last_line u.lines line buffer' left u.plain plain found.2 (at_end buffer' left rem' is found.1)) (inl turn.1)))
  last_reads new (Err Memory) few found turn = reads line (Err Memory) found.0 (λ left is. tt)
  last_reads new (Err Read) few found turn = absurd turn
  last_reads new (Err Write) few found turn = absurd turn

  -- a line of the last number
  pub last_number_reads : number ≡ LAST_LINE → (found : LineRead) → IsLineRead found line (left_of buffer rem) (left_of buffer' rem') → (found ≡ End → ⊥) → ReadsWorkload input rem' (Err (BadLine LAST_LINE))
  last_number_reads same Line h other =
      subst (λ k. ReadsWorkload input rem' (Err (BadLine k))) same (reads (line ++ newline ∷ []) (Err (BadLine number)) h (λ left is.
      breaks number lists u.lines (lines_of (buffer' ++ left)) line (((text_of u.lines ++ (line ++ newline ∷ [])) ++ buffer') ++ left) (omega (arith, same)) u.count u.are (more_lines u.lines line buffer' left u.plain plain) (inr same)))
  last_number_reads same Last h other =
      subst (λ k. ReadsWorkload input rem' (Err (BadLine k))) same (reads line (Err (BadLine number)) h.0 (λ left is.
      breaks number lists u.lines [] line (((text_of u.lines ++ line) ++ buffer') ++ left) (omega (arith, same)) u.count u.are (last_line u.lines line buffer' left u.plain plain h.2 (at_end buffer' left rem' is h.1)) (inr same)))
  last_number_reads same End h other = absurd (other refl)
  last_number_reads same TooLong h other = subst (λ k. ReadsWorkload input rem' (Err (BadLine k))) same (too_long_reads (omega (arith, same)) h)

-- the same of the line that was lent
pub turn_is : (number : ℕ) (lent line : List ℕ) (old new : ActorLines) (result : Result ⊤ ScriptError) → lent ≡ line → IsLineTaken number lent old new result → IsLineTaken number line old new result
turn_is number lent line old new result is h = subst (λ l. IsLineTaken number l old new result) is h
