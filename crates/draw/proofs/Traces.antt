-- Lines of a text that are drawn, one after another.
use Rattle.std.proofs.Common.{◌≡◌, ◌∙◌, ℕ, ◌+◌, ◌≤◌, List, [], ◌∷◌, ◌++◌, length, take, drop, refl, sym, ap, subst, arith, Bool, true, false, cond, eqb, String}
use Rattle.std.specs.Prelude.{codes, Option, Some, Result, Ok, Err, OnOk, ⊤, not, slice_get}
use Rattle.std.specs.List.{onto_first}
use Rattle.std.specs.declared.alloc.Global.{Global}
use Rattle.std.specs.Io.KnownBytes.{Appends}
use Rattle.std.proofs.lemmas.Grind.{flat_map-append}
use Rattle.std.proofs.lemmas.List.{drop-drop, length-drop, length-take-le, take-append-drop, take_all}
use Rattle.std.proofs.lemmas.List.Elements.{filter-append}
use Rattle.std.proofs.Math.Seq.{take-add}
use Rattle.scripts.specs.Lines.{newline, lines_of}
use Rattle.scripts.specs.Turns.{text_of}
use Rattle.scripts.proofs.Texts.{at-front}
use Rattle.scripts.proofs.Bytes.{Appends-none, Appends-more}
use Rattle.plain_heap.specs.declared.wrongs.Wrong.{Wrong}
use Rattle.replayer.specs.declared.hint.Hint.{Hint}
use Rattle.scripts.specs.Grammar.{IsLineOf}
use Rattle.written_runs.specs.declared.line.Line.{Line}
use Rattle.written_runs.specs.declared.places.Places.TheVariants.{Classes}
use Rattle.written_runs.specs.Reading.{IsBehind, IsHintText, IsRead}
use Rattle.written_runs.specs.Told.{told_lines, is_comment}
use Rattle.written_runs.specs.Written.{IsWritten, answer_of}
use Rattle.tracing.specs.Telling.{TracerContents, IsNewTracer}
use Rattle.draw.specs.RunDrawn.{IsRunDrawn, IsRefusalDrawn, AreSentences}
use Rattle.written_runs.specs.declared.verdict.Judgement.{Judgement}
use Rattle.draw.specs.RunTrace.{AreDrawn, goes_on, stays, PutsRecords, PutsWholeTrace, PutsCutTrace, PutsBrokenTrace, first_text}

-- so many lines of a text are passed, and the rest is behind them
pub record IsPast (text rest : List ℕ) (number : ℕ) : Type 0 where
  pub behind : lines_of rest ≡ drop number (lines_of text)

-- the lines from number n on, where that one is told
pub record IsNext {A : Type 0} (xs : List A) (n : ℕ) (x : A) (behind : List A) : Type 0 where
  pub front : take (n + 1) xs ≡ take n xs ++ x ∷ []
  pub rest : drop (n + 1) xs ≡ behind

pub next_of : {A : Type 0} (xs : List A) (n : ℕ) (x : A) (behind : List A) → drop n xs ≡ x ∷ behind → IsNext xs n x behind
next_of xs n x behind e = record {
  front = take-add n 1 xs ∙ ap (λ ys. take n xs ++ take 1 ys) e;
  rest = sym (drop-drop 1 n xs) ∙ ap (drop 1) e;
}

-- once no line is behind, there are no more than those
pub all_passed : {A : Type 0} (xs : List A) (n m : ℕ) → drop n xs ≡ [] → n ≤ m → take n xs ≡ take m xs
all_passed xs n m e le =
    let few : length xs ≤ n = let h = length-drop n xs in let k = ap length e in omega (arith, h, k) in
    take_all n xs few ∙ sym (take_all m xs (omega (arith, few, le)))

pub told_more : (lines : List (List ℕ)) (line : List ℕ) → told_lines (lines ++ line ∷ []) ≡ told_lines lines ++ told_lines (line ∷ [])
told_more lines line = filter-append (λ l. not (is_comment l)) lines (line ∷ [])

pub drawn_more : (a b c : TracerContents) (lines more texts others : List (List ℕ)) → AreDrawn a lines b texts → AreDrawn b more c others → AreDrawn a (lines ++ more) c (texts ++ others)
drawn_more a b c lines more texts others stays d = d
drawn_more a b c lines more texts others (goes_on {line} {text} one rest) d = goes_on one (drawn_more _ _ _ _ _ _ _ rest d)

pub puts_none : (t : TracerContents) (w : Option (List ℕ)) → PutsRecords t [] t w w
puts_none t w = record { records = []; drawn = stays; written = Appends-none w }

pub puts_more : (a b c : TracerContents) (lines more : List (List ℕ)) (u v w : Option (List ℕ)) → PutsRecords a lines b u v → PutsRecords b more c v w → PutsRecords a (lines ++ more) c u w
puts_more a b c lines more u v w one two = record {
  records = one.records ++ two.records;
  drawn = drawn_more _ _ _ _ _ _ _ one.drawn two.drawn;
  written = subst (λ text. Appends u w text) (sym (flat_map-append (λ line. line ++ newline ∷ []) one.records two.records)) (Appends-more u v w _ _ one.written two.written);
}

-- a text is passed
pub passed_none : (text : List ℕ) → IsPast text text 0
passed_none text = record { behind = refl }

-- one line more is
pub passed_one : (text rest line behind : List ℕ) (n : ℕ) → IsPast text rest n → lines_of rest ≡ line ∷ lines_of behind → IsPast text behind (n + 1)
passed_one text rest line behind n past e = record { behind = sym (next_of (lines_of text) n line (lines_of behind) (sym past.behind ∙ e)).rest }

-- and what is told by them is told by one more
pub told_next : (text rest line behind : List ℕ) (n : ℕ) → IsPast text rest n → lines_of rest ≡ line ∷ lines_of behind → told_lines (take (n + 1) (lines_of text)) ≡ told_lines (take n (lines_of text)) ++ told_lines (line ∷ [])
told_next text rest line behind n past e =
    ap told_lines (next_of (lines_of text) n line (lines_of behind) (sym past.behind ∙ e)).front ∙ told_more (take n (lines_of text)) line

pub empty_of : (xs : List ℕ) → length xs ≡ 0 → xs ≡ []
empty_of [] e = refl
empty_of (x ∷ xs) e = absurd (omega (arith, e))

-- where nothing is left no line is behind
pub no_line_behind : (text rest : List ℕ) (n : ℕ) → IsPast text rest n → length rest ≡ 0 → drop n (lines_of text) ≡ []
no_line_behind text rest n past e = sym past.behind ∙ ap lines_of (empty_of rest e)

-- a line that was read is written of what it was read as
pub read_written : (line : List ℕ) (l : Line) (hint : Hint) (n : ℕ) (asked : List ℕ) → asked ≡ l.command.now → IsRead Classes line l → ((text : List ℕ) → IsBehind Classes text l.behind → IsHintText Classes text hint n)
    → (w : IsWritten line l.event l.reply hint) × (asked ≡ w.parts.command)
read_written line l hint n asked is read of =
    let told = of read.text read.behind in
    let named : read.parts.command ≡ asked = read.names ∙ sym is in (
      record {
        parts = record {
          command = asked;
          is_command = subst (λ text. IsLineOf text l.event) named read.parts.is_command;
          is_line = read.parts.is_line
              ∙ ap (λ text. text ++ (codes " => " ++ (answer_of l.reply ++ read.text))) named
              ∙ ap (λ behind. asked ++ (codes " => " ++ (answer_of l.reply ++ behind))) told.whole;
          answers = read.parts.answers;
        };
        words = told.words;
      },
      refl,
    )

-- a line is drawn, and its record is written, where that goes well
pub puts_one : {E : Type 0} (r : Result ⊤ E) (old new : TracerContents) (line text : List ℕ) (u v : Option (List ℕ)) → IsRunDrawn old line new text → OnOk r (Appends u v (text_of (text ∷ []))) → OnOk r (PutsRecords old (line ∷ []) new u v)
puts_one (Ok done) old new line text u v drawn written = record { records = text ∷ []; drawn = goes_on drawn stays; written = written }
puts_one (Err e) old new line text u v drawn written = tt

pub all_dropped : {A : Type 0} (xs : List A) (n m : ℕ) → drop n xs ≡ [] → n ≤ m → drop n xs ≡ drop m xs
all_dropped xs n m e le =
    let few : length xs ≤ n = let h = length-drop n xs in let k = ap length e in omega (arith, h, k) in
    e ∙ sym (no_item (drop m xs) (let h = length-drop m xs in omega (arith, h, few, le)))
  where
    no_item : {B : Type 0} (ys : List B) → length ys ≡ 0 → ys ≡ []
    no_item [] z = refl
    no_item (y ∷ ys) z = absurd (omega (arith, z))

few_onto : (b : ℕ) (lines : List (List ℕ)) → length (onto_first b lines) ≤ length lines + 1
few_onto b [] = omega arith
few_onto b (line ∷ lines) = omega arith

few_more : (v : Bool) (b : ℕ) (lines : List (List ℕ)) → length (cond v ([] ∷ lines) (onto_first b lines)) ≤ length lines + 1
few_more true b lines = omega arith
few_more false b lines = few_onto b lines

-- a text has no more lines than bytes
pub few_lines : (text : List ℕ) → length (lines_of text) ≤ length text
few_lines [] = omega arith
few_lines (b ∷ text) = omega (arith, few_lines text, few_more (eqb b newline) b (lines_of text))

drawn_length : (a b : TracerContents) (lines texts : List (List ℕ)) → AreDrawn a lines b texts → length texts ≡ length lines
drawn_length a b lines texts stays = refl
drawn_length a b lines texts (goes_on one rest) = omega (arith, drawn_length _ _ _ _ rest)

-- the line behind some
line_at : (lines behind : List (List ℕ)) (n : ℕ) (line : List ℕ) → drop n lines ≡ line ∷ behind → slice_get lines n ≡ Some line
line_at lines behind n line e =
    let some : n ≤ length lines = let h = length-drop n lines in let k = ap length e in omega (arith, h, k) in
    let whole : lines ≡ take n lines ++ line ∷ behind = sym (take-append-drop n lines) ∙ ap (λ ls. take n lines ++ ls) e in
    let at : slice_get (take n lines ++ line ∷ behind) n ≡ Some line = subst (λ k. slice_get (take n lines ++ line ∷ behind) k ≡ Some line) (length-take-le n lines some) (at-front (take n lines) behind line) in
    ap (λ ls. slice_get ls n) whole ∙ at

-- the first line of a trace, and records behind it
pub head_and : (head : List ℕ) (records : List (List ℕ)) (u v w : Option (List ℕ)) → Appends u v (text_of (head ∷ [])) → Appends v w (text_of records) → Appends u w (text_of (head ∷ records))
head_and head records u v w one two = subst (λ text. Appends u w text) (sym (flat_map-append (λ line. line ++ newline ∷ []) (head ∷ []) records)) (Appends-more u v w _ _ one two)

-- the first line and all records are written
pub whole_trace : (pages count most : ℕ) (run : List ℕ) (first last : TracerContents) (u v w : Option (List ℕ)) → IsNewTracer pages first → Appends u v (text_of (first_text pages count ∷ [])) → length run ≤ most → PutsRecords first (told_lines (take most (lines_of run))) last v w → PutsWholeTrace pages (lines_of run) count u w
whole_trace pages count most run first last u v w new head le puts =
    let all : take most (lines_of run) ≡ lines_of run = take_all most (lines_of run) (let h = few_lines run in omega (arith, h, le)) in (
      text_of (first_text pages count ∷ puts.records),
      record {
        records = puts.records;
        are = record { first = first; is_new = new; last = last; drawn = subst (λ lines. AreDrawn first (told_lines lines) last puts.records) all puts.drawn };
        whole = refl;
      },
      head_and (first_text pages count) puts.records u v w head puts.written,
    )

-- the first line, the records of the lines before one, and what is said of that one
pub cut_trace : {E : Type 0} (r : Result ⊤ E) (pages number before told : ℕ) (run rest line behind refusal : List ℕ) (says : List (String Global)) (wrong : Option Wrong) (first last : TracerContents) (t u v w : Option (List ℕ))
    → number ≡ before + 1 → IsNewTracer pages first → told ≡ length (told_lines (take before (lines_of run)))
    → Appends t u (text_of (first_text pages (told + 1) ∷ [])) → PutsRecords first (told_lines (take before (lines_of run))) last u v
    → lines_of rest ≡ drop before (lines_of run) → lines_of rest ≡ line ∷ lines_of behind → IsRefusalDrawn number line says wrong refusal
    → OnOk r (Appends v w (text_of (refusal ∷ []))) → OnOk r (PutsCutTrace pages (lines_of run) number says wrong t w)
cut_trace (Err e) pages number before told run rest line behind refusal says wrong first last t u v w numbered new counted head puts passed next refused end = tt
cut_trace (Ok done) pages number before told run rest line behind refusal says wrong first last t u v w numbered new counted head puts passed next refused end =
    let count : told ≡ length puts.records = counted ∙ sym (drawn_length _ _ _ _ puts.drawn) in
    let front = subst (λ n. Appends t u (text_of (first_text pages (n + 1) ∷ []))) count head in
    let back = subst (λ text. Appends u w text) (sym (flat_map-append (λ l. l ++ newline ∷ []) puts.records (refusal ∷ []))) (Appends-more u v w _ _ puts.written end) in (
      text_of (first_text pages (length puts.records + 1) ∷ (puts.records ++ refusal ∷ [])),
      record {
        before = before;
        numbered = numbered;
        line = line;
        is_line = line_at (lines_of run) (lines_of behind) before line (sym passed ∙ next);
        records = puts.records;
        are = record { first = first; is_new = new; last = last; drawn = puts.drawn };
        refusal = refusal;
        refused = refused;
        whole = refl;
      },
      head_and (first_text pages (length puts.records + 1)) (puts.records ++ refusal ∷ []) t u w front back,
    )

-- with what is said of it
pub broken_trace : {E : Type 0} (r : Result ⊤ E) (pages number : ℕ) (lines : List (List ℕ)) (j : Judgement) (says : List (String Global)) (u w : Option (List ℕ)) → AreSentences j.expected j.wrong says → OnOk r (PutsCutTrace pages lines number says j.wrong u w) → OnOk r (PutsBrokenTrace pages lines number j u w)
broken_trace (Ok done) pages number lines j says u w sentences puts = record { says = says; sentences = sentences; puts = puts }
broken_trace (Err e) pages number lines j says u w sentences puts = tt
