-- A run of lines is answered: one line more, and each way to end.
use Rattle.std.proofs.Common.{◌≡◌, ℕ, ◌+◌, ◌-◌, ◌<◌, ◌≤◌, List, [], ◌∷◌, ◌++◌, length, take, map, refl, sym, ap, ◌∙◌, subst, arith, append_assoc, inl, inr, suc}
use Rattle.std.specs.Prelude.{Option, Some, Result, Ok, Err, slice_get, ⊤, ◌⊎◌}
use Rattle.std.specs.List.{AllZip}
use Rattle.std.specs.Io.KnownBytes.{Consumes, Appends, IsAtEnd}
use Rattle.std.proofs.lemmas.List.{map_push, append-nil}
use Rattle.std.proofs.lemmas.List.Elements.{All-push, All-nil}
use Rattle.heap_spec.specs.Runs.{Start, Told, Run, opening_start}
use Rattle.heap_spec.specs.Transcripts.{LegalTranscript, LineOf, ends, on}
use Rattle.heap_core.specs.CoreContents.{CoreContents}
use Rattle.heap_core.specs.Opening.{IsNew}
use Rattle.scripts.specs.declared.limits.TheConstants.{LAST_LINE, LINE_BYTES}
use Rattle.scripts.specs.declared.errors.ScriptError.{ScriptError}
use Rattle.scripts.specs.declared.errors.ScriptError.TheVariants.{BadLine, Read, Write, Memory}
use Rattle.scripts.specs.declared.line.LineRead.{LineRead}
use Rattle.scripts.specs.declared.line.LineRead.TheVariants.{Line, Last, End, TooLong}
use Rattle.scripts.specs.Grammar.{IsLineOf, IsBad}
use Rattle.scripts.specs.Lines.{newline, IsShort, lines_of, whole_lines_of}
use Rattle.scripts.specs.Reading.{left_of, IsPlainLine, IsLineRead}
use Rattle.scripts.specs.Printing.{reply_line, printed}
use Rattle.scripts.specs.Answers.{Answers, BeginsAnswer, IsAnswered, Serves}
use Rattle.scripts.specs.Turns.{IsLineRun, IsTurn, text_of}
use Rattle.scripts.proofs.Turns.{HasRun, IsUpTo}
use Rattle.scripts.proofs.Cores.{no_calls, call_on}
use Rattle.heap_core.proofs.Opening.{new_follows}
use Rattle.scripts.proofs.Bytes.{Appends-none, Appends-more, Consumes-none, Consumes-more}
use Rattle.scripts.proofs.Inputs.{zip_push, length-push, known, at_end, no_buffer, no_left, more_lines, last_line, all_short}
use Rattle.scripts.proofs.Texts.{lines_of-text, lines_of-last, first_line, whole_lines_of-text, take-front, at-front, text_of-push}

-- one line more of a transcript
legal_on : (start : Start) {run mid last : Run} {lines : List Told} (told : Told) → LegalTranscript start run lines mid → LineOf start mid told.event told.reply last → LegalTranscript start run (lines ++ told ∷ []) last
legal_on start told ends l = on l ends
legal_on start told (on m g) l = on m (legal_on start told g l)

printed-push : (pages : ℕ) (lines : List Told) (told : Told) → printed pages (lines ++ told ∷ []) ≡ printed pages lines ++ reply_line pages told.reply
printed-push pages [] told = append-nil (reply_line pages told.reply)
printed-push pages (l ∷ lines) told = ap (λ x. reply_line pages l.reply ++ x) (printed-push pages lines told) ∙ sym (append_assoc (reply_line pages l.reply) (printed pages lines) (reply_line pages told.reply))

-- before the first line
none_run : (pages : ℕ) (core : CoreContents) → IsNew pages core → HasRun pages core [] []
none_run pages core new = record {
  told = [];
  last = [];
  plain = All-nil IsPlainLine;
  commands = tt;
  legal = ends;
  calls = no_calls pages core new;
  prints = refl;
  follows = new_follows pages core new;
}

-- one line more
pub run_on : (pages : ℕ) (old new : CoreContents) (lines : List (List ℕ)) (out line o : List ℕ) → HasRun pages old lines out → IsPlainLine line → IsLineRun pages line old new o → HasRun pages new (lines ++ line ∷ []) (out ++ o)
run_on pages old new lines out line o r plain turn =
    let next = turn.does (opening_start pages) r.last r.follows in
    let told : Told = record { event = turn.command; reply = turn.reply } in
    record {
      told = r.told ++ told ∷ [];
      last = next.0;
      plain = All-push IsPlainLine lines line r.plain plain;
      commands = subst (λ es. AllZip IsLineOf (lines ++ line ∷ []) es) (sym (map_push (λ (t : Told). t.event) r.told told)) (zip_push IsLineOf lines (map (λ (t : Told). t.event) r.told) line turn.command r.commands turn.is_line);
      legal = legal_on (opening_start pages) told r.legal next.1;
      calls = call_on pages old new r.told told r.calls turn.acts turn.core;
      prints = ap (λ x. x ++ o) r.prints ∙ ap (λ x. printed pages r.told ++ x) turn.prints ∙ sym (printed-push pages r.told told);
      follows = next.2;
    }

answers : (pages : ℕ) (core : CoreContents) (lines : List (List ℕ)) (out : List ℕ) → HasRun pages core lines out → length lines < LAST_LINE → Answers pages lines out
answers pages core lines out r few = record {
  told = r.told;
  last = r.last;
  core = core;
  commands = r.commands;
  few = few;
  legal = r.legal;
  calls = r.calls;
  prints = r.prints;
}

-- each end, from what is known of the input
serves : (pages : ℕ) (input b0 buffer text out : List ℕ) (rem0 rem w0 w : Option (List ℕ)) (result : Result ⊤ ScriptError) → b0 ≡ [] → rem0 ≡ Some input
    → Consumes (left_of b0 rem0) (left_of buffer rem) text → Appends w0 w out
    → ((left : List ℕ) → rem ≡ Some left → IsAnswered pages (text ++ buffer) left result out) → Serves pages input rem w0 w result
serves pages input b0 buffer text out rem0 rem w0 w result none tells reads wrote answered =
    let k = known input b0 buffer text rem0 rem none tells reads in
    record { read = text ++ buffer; left = k.left; wrote = out; is_input = k.is_input; is_left = k.is_left; is_written = wrote; answered = answered k.left k.is_left }

-- the run came to the end of the input
pub end_serves : (pages number : ℕ) (core : CoreContents) (input b0 buffer buffer' : List ℕ) (rem0 rem rem' w0 w : Option (List ℕ)) (done : ⊤) → number ≤ LAST_LINE → b0 ≡ [] → rem0 ≡ Some input
    → IsUpTo pages number core (left_of b0 rem0) (left_of buffer rem) w0 w → Consumes (left_of buffer rem) (left_of buffer' rem') [] → IsAtEnd (left_of buffer' rem') → Serves pages input rem' w0 w (Ok done)
end_serves pages number core input b0 buffer buffer' rem0 rem rem' w0 w done few none tells u reads end =
    let lines = u.lines in
    let same : text_of lines ++ [] ≡ text_of lines = append-nil (text_of lines) in
    serves pages input b0 buffer' (text_of lines ++ []) u.out rem0 rem' w0 w (Ok done) none tells
    (Consumes-more _ _ _ (text_of lines) [] u.read reads) u.wrote
    (λ left is. let e = at_end buffer' left rem' is end in
    let all : lines_of ((text_of lines ++ []) ++ buffer') ≡ lines
    = ap (λ b. lines_of ((text_of lines ++ []) ++ b)) (no_buffer buffer' left e) ∙ ap lines_of (append_assoc (text_of lines) [] []) ∙ lines_of-text lines [] u.run.plain ∙ append-nil lines in
    let P : List (List ℕ) → Type 0 = λ ls. Answers pages ls u.out in
    (subst P (sym all) (answers pages core lines u.out u.run (let c = u.count in omega (arith, c))), no_left buffer' left e))

-- a bad line, however the input goes on
bad_answered : (pages number : ℕ) (core : CoreContents) (lines more : List (List ℕ)) (bad out read left : List ℕ) → number ≤ LAST_LINE → length lines + 1 ≡ number → HasRun pages core lines out
    → lines_of (read ++ left) ≡ lines ++ bad ∷ more → IsBad bad ⊎ (number ≡ LAST_LINE) → IsAnswered pages read left (Err (BadLine number)) out
bad_answered pages number core lines more bad out read left few count run is why =
    let before : number - 1 ≡ length lines = omega (arith, count) in
    let front : take (number - 1) (lines_of (read ++ left)) ≡ lines = ap (λ n. take n (lines_of (read ++ left))) before ∙ ap (take (length lines)) is ∙ take-front lines (bad ∷ more) in
    let there : slice_get (lines_of (read ++ left)) (number - 1) ≡ Some bad = ap (slice_get (lines_of (read ++ left))) before ∙ ap (λ ls. slice_get ls (length lines)) is ∙ at-front lines more bad in
    let P : List (List ℕ) → Type 0 = λ ls. Answers pages ls out in
    (subst P (sym front) (answers pages core lines out run (omega (arith, count))), record { line = bad; counted = omega (arith, count); is_line = there; bad = why })

-- a line that is too long
pub too_long_serves : (pages number : ℕ) (core : CoreContents) (input b0 buffer buffer' line : List ℕ) (rem0 rem rem' w0 w : Option (List ℕ)) → number ≤ LAST_LINE → b0 ≡ [] → rem0 ≡ Some input
    → IsUpTo pages number core (left_of b0 rem0) (left_of buffer rem) w0 w → IsPlainLine line → IsLineRead TooLong line (left_of buffer rem) (left_of buffer' rem') → Serves pages input rem' w0 w (Err (BadLine number))
too_long_serves pages number core input b0 buffer buffer' line rem0 rem rem' w0 w few none tells u plain found =
    let lines = u.lines in
    let front : List ℕ = line ++ found.0 ∷ [] in
    let long : length front ≡ LINE_BYTES + 1 = length-push line found.0 ∙ ap (λ n. n + 1) found.3 in
    let no : IsPlainLine front = All-push (λ b. b ≡ newline → ⊥) line found.0 plain found.2 in
    serves pages input b0 buffer' (text_of lines ++ front) u.out rem0 rem' w0 w (Err (BadLine number)) none tells
    (Consumes-more _ _ _ (text_of lines) front u.read found.1) u.wrote
    (λ left is. let first = first_line front (buffer' ++ left) no (omega (arith, long)) in
    bad_answered pages number core lines first.lines first.line u.out ((text_of lines ++ front) ++ buffer') left few u.count u.run
    (ap lines_of (append_assoc (text_of lines ++ front) buffer' left ∙ append_assoc (text_of lines) front (buffer' ++ left)) ∙ lines_of-text lines (front ++ (buffer' ++ left)) u.run.plain ∙ ap (λ ls. lines ++ ls) first.are)
    (inl (λ command l. let short = l.short in let h = first.long in omega (arith, short, h, long))))

-- the reader failed within a line
pub read_serves : (pages number : ℕ) (core : CoreContents) (input b0 buffer buffer' part : List ℕ) (rem0 rem rem' w0 w : Option (List ℕ)) → IsShort part → number ≤ LAST_LINE → b0 ≡ [] → rem0 ≡ Some input
    → IsUpTo pages number core (left_of b0 rem0) (left_of buffer rem) w0 w → IsPlainLine part → buffer' ≡ [] → Consumes (left_of buffer rem) (left_of buffer' rem') part → Serves pages input rem' w0 w (Err Read)
read_serves pages number core input b0 buffer buffer' part rem0 rem rem' w0 w short few none tells u plain empty reads =
    let lines = u.lines in
    serves pages input b0 buffer' (text_of lines ++ part) u.out rem0 rem' w0 w (Err Read) none tells
    (Consumes-more _ _ _ (text_of lines) part u.read reads) u.wrote
    (λ left is. let all : whole_lines_of ((text_of lines ++ part) ++ buffer') ≡ lines
    = ap whole_lines_of (ap (λ b. (text_of lines ++ part) ++ b) empty ∙ append-nil (text_of lines ++ part)) ∙ whole_lines_of-text lines part u.run.plain plain in
    let P : List (List ℕ) → Type 0 = λ ls. Answers pages ls u.out in
    (subst P (sym all) (answers pages core lines u.out u.run (let c = u.count in omega (arith, c))), all_short lines _ part buffer' u.run.commands u.run.plain plain short empty))

-- a line was answered, and there are more
pub line_on : (pages number : ℕ) (old new : CoreContents) (line : List ℕ) (input left left' w0 w w' : Option (List ℕ)) → IsUpTo pages number old input left w0 w → IsPlainLine line → IsLineRead Line line left left'
    → (out : List ℕ) × IsLineRun pages line old new out × Appends w w' out → IsUpTo pages (number + 1) new input left' w0 w'
line_on pages number old new line input left left' w0 w w' u plain reads turn = record {
  lines = u.lines ++ line ∷ [];
  out = u.out ++ turn.0;
  run = run_on pages old new u.lines u.out line turn.0 u.run plain turn.1;
  count = ap (λ n. n + 1) (length-push u.lines line ∙ u.count);
  read = let P : List ℕ → Type 0 = λ t. Consumes input left' t in subst P (sym (text_of-push u.lines line)) (Consumes-more input left left' (text_of u.lines) (line ++ newline ∷ []) u.read reads);
  wrote = Appends-more w0 w w' u.out turn.0 u.wrote turn.2;
}

take-on : (xs ys : List ℕ) (n : ℕ) → xs ++ take n ys ≡ take (length xs + n) (xs ++ ys)
take-on [] ys n = let same : 0 + n ≡ n = omega arith in ap (λ k. take k ys) (sym same)
take-on (x ∷ xs) ys n = let same : length (x ∷ xs) + n ≡ suc (length xs + n) = omega arith in ap (λ zs. x ∷ zs) (take-on xs ys n) ∙ ap (λ k. take k (x ∷ (xs ++ ys))) (sym same)

-- the front of the answer to a line was written
write_answered : (pages number : ℕ) (old new : CoreContents) (lines more : List (List ℕ)) (line out o whole : List ℕ) (n : ℕ) → number < LAST_LINE → length lines + 1 ≡ number → HasRun pages old lines out → IsPlainLine line
    → IsLineRun pages line old new o → lines_of whole ≡ lines ++ line ∷ more → BeginsAnswer pages (lines_of whole) (out ++ take n o)
write_answered pages number old new lines more line out o whole n few count run plain turn is =
    let front : take number (lines_of whole) ≡ lines ++ line ∷ []
    = ap (λ k. take k (lines_of whole)) (sym (length-push lines line ∙ count)) ∙ ap (take (length (lines ++ line ∷ []))) (is ∙ sym (append_assoc lines (line ∷ []) more)) ∙ take-front (lines ++ line ∷ []) more in
    let P : List (List ℕ) → Type 0 = λ ls. Answers pages ls (out ++ o) in
    record {
      answered = number;
      bytes = length out + n;
      out = out ++ o;
      answers = subst P (sym front) (answers pages new (lines ++ line ∷ []) (out ++ o) (run_on pages old new lines out line o run plain turn) (let h = length-push lines line in omega (arith, h, count)));
      begins = take-on out o n;
    }

-- a line that was not answered in full
pub fault_serves : (pages number : ℕ) (old new : CoreContents) (input b0 buffer buffer' line : List ℕ) (rem0 rem rem' w0 w w' : Option (List ℕ)) (fault : ScriptError) → number < LAST_LINE → b0 ≡ [] → rem0 ≡ Some input
    → IsUpTo pages number old (left_of b0 rem0) (left_of buffer rem) w0 w → IsPlainLine line → IsLineRead Line line (left_of buffer rem) (left_of buffer' rem') → IsTurn pages number line old new w w' (Err fault)
    → Serves pages input rem' w0 w' (Err fault)
fault_serves pages number old new input b0 buffer buffer' line rem0 rem rem' w0 w w' (BadLine n) few none tells u plain reads turn =
    let P : ℕ → Type 0 = λ k. Serves pages input rem' w0 w' (Err (BadLine k)) in
    let text : List ℕ = text_of u.lines ++ (line ++ newline ∷ []) in
    subst P (sym turn.0) (serves pages input b0 buffer' text (u.out ++ []) rem0 rem' w0 w' (Err (BadLine number)) none tells
    (Consumes-more _ _ _ (text_of u.lines) (line ++ newline ∷ []) u.read reads) (Appends-more w0 w w' u.out [] u.wrote turn.2)
    (λ left is. let Q : List ℕ → Type 0 = λ o. IsAnswered pages (text ++ buffer') left (Err (BadLine number)) o in
    subst Q (sym (append-nil u.out)) (bad_answered pages number old u.lines (lines_of (buffer' ++ left)) line u.out (text ++ buffer') left (omega (arith, few)) u.count u.run (more_lines u.lines line buffer' left u.run.plain plain) (inl turn.1))))
fault_serves pages number old new input b0 buffer buffer' line rem0 rem rem' w0 w w' Write few none tells u plain reads turn =
    let text : List ℕ = text_of u.lines ++ (line ++ newline ∷ []) in
    serves pages input b0 buffer' text (u.out ++ take turn.1 turn.0) rem0 rem' w0 w' (Err Write) none tells
    (Consumes-more _ _ _ (text_of u.lines) (line ++ newline ∷ []) u.read reads) (Appends-more w0 w w' u.out (take turn.1 turn.0) u.wrote turn.3)
    (λ left is. write_answered pages number old new u.lines (lines_of (buffer' ++ left)) line u.out turn.0 ((text ++ buffer') ++ left) turn.1 few u.count u.run plain turn.2 (more_lines u.lines line buffer' left u.run.plain plain))
fault_serves pages number old new input b0 buffer buffer' line rem0 rem rem' w0 w w' Read few none tells u plain reads turn = absurd turn
fault_serves pages number old new input b0 buffer buffer' line rem0 rem rem' w0 w w' Memory few none tells u plain reads turn = absurd turn

-- the last line, which lacks its newline
pub last_serves : (pages number : ℕ) (old new : CoreContents) (input b0 buffer buffer' line : List ℕ) (rem0 rem rem' w0 w w' : Option (List ℕ)) (result : Result ⊤ ScriptError) → number < LAST_LINE → b0 ≡ [] → rem0 ≡ Some input
    → IsUpTo pages number old (left_of b0 rem0) (left_of buffer rem) w0 w → IsPlainLine line → IsLineRead Last line (left_of buffer rem) (left_of buffer' rem') → IsTurn pages number line old new w w' result
    → Serves pages input rem' w0 w' result
last_serves pages number old new input b0 buffer buffer' line rem0 rem rem' w0 w w' (Ok done) few none tells u plain found turn =
    serves pages input b0 buffer' (text_of u.lines ++ line) (u.out ++ turn.0) rem0 rem' w0 w' (Ok done) none tells
    (Consumes-more _ _ _ (text_of u.lines) line u.read found.0) (Appends-more w0 w w' u.out turn.0 u.wrote turn.2)
    (λ left is. let e = at_end buffer' left rem' is found.1 in
    let all : lines_of ((text_of u.lines ++ line) ++ buffer') ≡ u.lines ++ line ∷ []
    = ap lines_of (ap (λ b. (text_of u.lines ++ line) ++ b) (no_buffer buffer' left e) ∙ append-nil (text_of u.lines ++ line)) ∙ lines_of-text u.lines line u.run.plain ∙ ap (λ ls. u.lines ++ ls) (lines_of-last line plain found.2) in
    let P : List (List ℕ) → Type 0 = λ ls. Answers pages ls (u.out ++ turn.0) in
    (subst P (sym all) (answers pages new (u.lines ++ line ∷ []) (u.out ++ turn.0) (run_on pages old new u.lines u.out line turn.0 u.run plain turn.1) (let h = length-push u.lines line in let c = u.count in omega (arith, h, c))), no_left buffer' left e))
last_serves pages number old new input b0 buffer buffer' line rem0 rem rem' w0 w w' (Err (BadLine n)) few none tells u plain found turn =
    let P : ℕ → Type 0 = λ k. Serves pages input rem' w0 w' (Err (BadLine k)) in
    subst P (sym turn.0) (serves pages input b0 buffer' (text_of u.lines ++ line) (u.out ++ []) rem0 rem' w0 w' (Err (BadLine number)) none tells
    (Consumes-more _ _ _ (text_of u.lines) line u.read found.0) (Appends-more w0 w w' u.out [] u.wrote turn.2)
    (λ left is. let Q : List ℕ → Type 0 = λ o. IsAnswered pages ((text_of u.lines ++ line) ++ buffer') left (Err (BadLine number)) o in
    subst Q (sym (append-nil u.out)) (bad_answered pages number old u.lines [] line u.out _ left (omega (arith, few)) u.count u.run (last_line u.lines line buffer' left u.run.plain plain found.2 (at_end buffer' left rem' is found.1)) (inl turn.1))))
last_serves pages number old new input b0 buffer buffer' line rem0 rem rem' w0 w w' (Err Write) few none tells u plain found turn =
    serves pages input b0 buffer' (text_of u.lines ++ line) (u.out ++ take turn.1 turn.0) rem0 rem' w0 w' (Err Write) none tells
    (Consumes-more _ _ _ (text_of u.lines) line u.read found.0) (Appends-more w0 w w' u.out (take turn.1 turn.0) u.wrote turn.3)
    (λ left is. write_answered pages number old new u.lines [] line u.out turn.0 (((text_of u.lines ++ line) ++ buffer') ++ left) turn.1 few u.count u.run plain turn.2 (last_line u.lines line buffer' left u.run.plain plain found.2 (at_end buffer' left rem' is found.1)))
last_serves pages number old new input b0 buffer buffer' line rem0 rem rem' w0 w w' (Err Read) few none tells u plain found turn = absurd turn
last_serves pages number old new input b0 buffer buffer' line rem0 rem rem' w0 w w' (Err Memory) few none tells u plain found turn = absurd turn

-- a line of the last number
pub last_number_serves : (pages : ℕ) (core : CoreContents) (input b0 buffer buffer' line : List ℕ) (rem0 rem rem' w0 w : Option (List ℕ)) (found : LineRead) → b0 ≡ [] → rem0 ≡ Some input
    → IsUpTo pages LAST_LINE core (left_of b0 rem0) (left_of buffer rem) w0 w → IsPlainLine line → IsLineRead found line (left_of buffer rem) (left_of buffer' rem') → (found ≡ End → ⊥) → Serves pages input rem' w0 w (Err (BadLine LAST_LINE))
last_number_serves pages core input b0 buffer buffer' line rem0 rem rem' w0 w Line none tells u plain reads more =
    serves pages input b0 buffer' (text_of u.lines ++ (line ++ newline ∷ [])) u.out rem0 rem' w0 w (Err (BadLine LAST_LINE)) none tells
    (Consumes-more _ _ _ (text_of u.lines) (line ++ newline ∷ []) u.read reads) u.wrote
    (λ left is. bad_answered pages LAST_LINE core u.lines (lines_of (buffer' ++ left)) line u.out _ left (omega arith) u.count u.run (more_lines u.lines line buffer' left u.run.plain plain) (inr refl))
last_number_serves pages core input b0 buffer buffer' line rem0 rem rem' w0 w Last none tells u plain found more =
    serves pages input b0 buffer' (text_of u.lines ++ line) u.out rem0 rem' w0 w (Err (BadLine LAST_LINE)) none tells
    (Consumes-more _ _ _ (text_of u.lines) line u.read found.0) u.wrote
    (λ left is. bad_answered pages LAST_LINE core u.lines [] line u.out _ left (omega arith) u.count u.run (last_line u.lines line buffer' left u.run.plain plain found.2 (at_end buffer' left rem' is found.1)) (inr refl))
last_number_serves pages core input b0 buffer buffer' line rem0 rem rem' w0 w End none tells u plain found more = absurd (more refl)
last_number_serves pages core input b0 buffer buffer' line rem0 rem rem' w0 w TooLong none tells u plain found more =
    too_long_serves pages LAST_LINE core input b0 buffer buffer' line rem0 rem rem' w0 w (omega arith) none tells u plain found

-- before the first line
pub starts : (pages : ℕ) (core : CoreContents) (left w : Option (List ℕ)) → IsNew pages core → IsUpTo pages 1 core left left w w
starts pages core left w new = record { lines = []; out = []; run = none_run pages core new; count = refl; read = Consumes-none left; wrote = Appends-none w }

-- what was found, where it is known
pub found_is : (found which : LineRead) (line : List ℕ) (old new : Option (List ℕ)) → found ≡ which → IsLineRead found line old new → IsLineRead which line old new
found_is found which line old new is h = let P : LineRead → Type 0 = λ f. IsLineRead f line old new in subst P is h

-- the number that stands after the last iteration
pub up_to_last : (pages number : ℕ) (core : CoreContents) (input left held written : Option (List ℕ)) → number ≡ LAST_LINE → IsUpTo pages number core input left held written → IsUpTo pages LAST_LINE core input left held written
up_to_last pages number core input left held written is u = let P : ℕ → Type 0 = λ n. IsUpTo pages n core input left held written in subst P is u

-- the same of the line that was lent
pub turn_is : (pages number : ℕ) (lent line : List ℕ) (old new : CoreContents) (wrote writes : Option (List ℕ)) (result : Result ⊤ ScriptError) → lent ≡ line → IsTurn pages number lent old new wrote writes result → IsTurn pages number line old new wrote writes result
turn_is pages number lent line old new wrote writes result is h = let P : List ℕ → Type 0 = λ l. IsTurn pages number l old new wrote writes result in subst P is h
