-- Runs that lines lead to.
use Rattle.std.proofs.Common.{◌≡◌, ◌≢◌, get_or, ℕ, ◌+◌, ◌<◌, ◌≤◌, List, [], ◌∷◌, ◌++◌, length, refl, sym, ap, ◌∙◌, subst, arith, append_assoc, length-append, Bool, true, false, inl, inr, ⊎_elim}
use Rattle.std.specs.Prelude.{Option, Some, None, cond, not}
use Rattle.std.specs.Global.{Vec}
use Rattle.std.proofs.lemmas.List.{append-nil}
use Rattle.std.proofs.lemmas.List.Elements.{All-from_get_or, filter-append}
use Rattle.std.proofs.lemmas.Str.Pattern.{IsSplitOnceResult, split_parts}
use Rattle.std.specs.Borrow.{Bor}
use Rattle.scripts.specs.Reading.{IsPlainLine}
use Rattle.heap_spec.specs.declared.reply.Reply.{Reply}
use Rattle.heap_spec.specs.Runs.{Start, Run, opening_start, heap_after}
use Rattle.replayer.specs.ReplayerContents.{ReplayerContents, Follows}
use Rattle.plain_heap.specs.declared.keepers.Keeper.{Keeper}
use Rattle.plain_heap.specs.declared.paths.PathStep.{PathStep}
use Rattle.plain_heap.specs.declared.wrongs.Wrong.{Wrong}
use Rattle.scripts.specs.Lines.{newline, lines_of}
use Rattle.scripts.proofs.Texts.{lines_of-line, lines_of-last}
use Rattle.written_runs.specs.declared.places.Places.{Places}
use Rattle.written_runs.specs.declared.step.Step.{Step}
use Rattle.written_runs.specs.declared.verdict.Verdict.TheVariants.{Legal, NoLines, Bad, Breaks}
use Rattle.written_runs.specs.declared.verdict.Verdict.{Verdict}
use Rattle.written_runs.specs.Finding.{Takes, IsToldAt, IsLineVerdict, IsLineExplained, IsLineBlamed, IsLineTraced, TellsReply}
use Rattle.written_runs.specs.Judging.{Leads, ends, on, IsBroken, HasFault, IsJudged, HadToAnswer, IsExplained, IsWrongLine, IsBlamed, IsWayTo, IsTracedBack}
use Rattle.written_runs.specs.Ranges.{BeginsBy}
use Rattle.written_runs.specs.Steps.{IsOpen, IsReplyTold, IsUnwritten, TakesOn}
use Rattle.written_runs.specs.Told.{is_comment, told_lines}

-- one line more
leads_more : (places : Places) (start : Start) {run mid last : Run} {lines : List (List ℕ)} → Leads places start run lines mid → (line : List ℕ) → TakesOn places start mid line last
    → Leads places start run (lines ++ line ∷ []) last
leads_more places start ends line takes = on takes ends
leads_more places start (on first rest) line takes = on first (leads_more places start rest line takes)

-- what a line tells
abbrev pub told_of : List ℕ → List (List ℕ)
told_of line = told_lines (line ∷ [])

pub told_more : (lines : List (List ℕ)) (line : List ℕ) → told_lines (lines ++ line ∷ []) ≡ told_lines lines ++ told_of line
told_more lines line = filter-append (λ l. not (is_comment l)) lines (line ∷ [])

-- The lines that were read led the replayer from the opening to a run, and the rest is still to be read.
pub record IsUpTo (places : Places) (pages : ℕ) (text rest : List ℕ) (number told : ℕ) (replayer : ReplayerContents) : Type 0 where
  pub lines : List (List ℕ)
  pub run : Run
  pub are : lines_of text ≡ lines ++ lines_of rest
  pub counted : number ≡ length lines
  pub told_are : told ≡ length (told_lines lines)
  pub fewer : told ≤ number
  pub few : number + length rest ≤ length text
  pub leads : Leads places (opening_start pages) [] (told_lines lines) run
  pub follows : Follows replayer (opening_start pages) run
  pub begins : BeginsBy places replayer

pub starts : (places : Places) (pages : ℕ) (text : List ℕ) (replayer : ReplayerContents) → Follows replayer (opening_start pages) [] → BeginsBy places replayer → IsUpTo places pages text text 0 0 replayer
starts places pages text replayer follows begins = record { lines = []; run = []; are = refl; counted = refl; told_are = refl; fewer = omega arith; few = omega arith; leads = ends; follows = follows; begins = begins }

regroup : (places : Places) (pages : ℕ) (text rest behind line : List ℕ) (number told : ℕ) (old : ReplayerContents) (u : IsUpTo places pages text rest number told old) → lines_of rest ≡ line ∷ lines_of behind → lines_of text ≡ (u.lines ++ line ∷ []) ++ lines_of behind
regroup places pages text rest behind line number told old u e = u.are ∙ ap (λ ls. u.lines ++ ls) e ∙ sym (append_assoc u.lines (line ∷ []) (lines_of behind))

-- Where a line takes a run: what it tells leads there.
record IsTaken (places : Places) (start : Start) (run : Run) (tells : List (List ℕ)) (new : ReplayerContents) : Type 0 where
  next : Run
  leads : (before : List (List ℕ)) → Leads places start [] before run → Leads places start [] (before ++ tells) next
  follows : Follows new start next

taken : (places : Places) (start : Start) (run : Run) (old new : ReplayerContents) (line : List ℕ) (comment : Bool) → Follows old start run → Takes places comment old line new → IsTaken places start run (cond (not comment) (line ∷ []) []) new
taken places start run old new line true follows same = record { next = run; leads = λ before leads. subst (λ ls. Leads places start [] ls run) (sym (append-nil before)) leads; follows = subst (λ c. Follows c start run) (sym same) follows }
taken places start run old new line false follows led =
    let next = led.stepped start run follows in
    record { next = next.0; leads = λ before leads. leads_more places start leads line (record { step = led.step; is_written = led.is_written; goes = next.1 }); follows = next.2 }

one_at_most : (line : List ℕ) (comment : Bool) → length (cond (not comment) (line ∷ []) []) ≤ 1
one_at_most line true = omega arith
one_at_most line false = omega arith

pub goes_on : (places : Places) (pages : ℕ) (text rest behind line : List ℕ) (number told : ℕ) (old new : ReplayerContents) → IsUpTo places pages text rest number told old → lines_of rest ≡ line ∷ lines_of behind → length behind < length rest → Takes places (is_comment line) old line new → BeginsBy places new → (more : ℕ) → more ≡ length (told_lines (line ∷ [])) → IsUpTo places pages text behind (number + 1) (told + more) new
goes_on places pages text rest behind line number told old new u e shorter takes begins more is =
    let next = taken places (opening_start pages) u.run old new line (is_comment line) u.follows takes in
    record {
      lines = u.lines ++ line ∷ [];
      run = next.next;
      are = regroup places pages text rest behind line number told old u e;
      counted = let h = u.counted in omega (arith, h, length-append u.lines (line ∷ []));
      told_are = let h = u.told_are in let all = ap length (told_more u.lines line) in omega (arith, h, is, all, length-append (told_lines u.lines) (told_of line));
      fewer = let h = u.fewer in omega (arith, h, is, one_at_most line (is_comment line));
      few = let h = u.few in omega arith;
      leads = subst (λ ls. Leads places (opening_start pages) [] ls next.next) (sym (told_more u.lines line)) (next.leads (told_lines u.lines) u.leads);
      follows = next.follows;
      begins = begins;
    }

all_read : (places : Places) (pages : ℕ) (text rest : List ℕ) (number told : ℕ) (replayer : ReplayerContents) (u : IsUpTo places pages text rest number told replayer) → length rest ≡ 0 → u.lines ≡ lines_of text
all_read places pages text [] number told replayer u none = sym (u.are ∙ append-nil u.lines)
all_read places pages text (b ∷ rest) number told replayer u none = absurd (omega arith)

-- all lines were read
pub ended : (places : Places) (pages : ℕ) (text rest : List ℕ) (number told : ℕ) (replayer : ReplayerContents) → IsUpTo places pages text rest number told replayer → length rest ≡ 0 → 1 ≤ told → IsJudged places pages (lines_of text) (Legal told)
ended places pages text rest number told replayer u none some =
    let all = all_read places pages text rest number told replayer u none in
    record {
      last = u.run;
      leads = subst (λ ls. Leads places (opening_start pages) [] (told_lines ls) u.run) all u.leads;
      counted = u.told_are ∙ ap (λ ls. length (told_lines ls)) all;
      some = some;
    }

-- A line was reached that the replayer doesn't go on by.
module _ (places : Places) (pages : ℕ) (text rest behind line : List ℕ) (number told : ℕ) (old : ReplayerContents) (u : IsUpTo places pages text rest number told old) (parted : lines_of rest ≡ line ∷ lines_of behind) where
  fault : (Fault : Run → List ℕ → Type 0) (n : ℕ) → IsToldAt n (number + 1) line → Fault u.run line → HasFault places Fault (opening_start pages) (lines_of text) n
  fault Fault n at has = record {
    before = u.lines;
    line = line;
    behind = lines_of behind;
    run = u.run;
    are = u.are ∙ ap (λ ls. u.lines ++ ls) parted;
    counted = at.is ∙ ap (λ k. k + 1) u.counted;
    told = at.told;
    leads = u.leads;
    fault = has;
  }

  pub stopped : (verdict : Verdict) → IsLineVerdict places old (number + 1) line verdict → IsJudged places pages (lines_of text) verdict
  stopped (Legal count) is = absurd is
  stopped NoLines is = absurd is
  stopped (Bad n) is = fault (λ run l. IsUnwritten places l) n is.0 is.1
  stopped (Breaks n rule) is = let s = is.1 in fault (IsBroken places (opening_start pages) rule) n is.0 (record {
    step = s.step;
    is_written = s.is_written;
    no_next = λ next goes. s.no_step (opening_start pages) u.run next u.follows goes;
    named = s.named;
  })

  told_here : (step : Step) (expected : Option Reply) → TellsReply places old step expected → IsReplyTold places (opening_start pages) u.run step expected
  told_here step None tells =
      ⊎_elim (λ only. inl (only (opening_start pages) u.run u.follows))
      (λ may. inr (subst (λ marking. IsOpen places marking step.event) u.follows.phase may))
      tells
  told_here step (Some reply) tells = (tells.0, tells.1 (opening_start pages) u.run u.follows)

  pub explained : (verdict : Verdict) (expected : Option Reply) → IsLineVerdict places old (number + 1) line verdict → IsLineExplained places old line verdict expected → IsExplained places pages (lines_of text) verdict expected
  explained (Legal count) expected is why = why
  explained NoLines expected is why = why
  explained (Bad n) expected is why = why
  explained (Breaks n rule) expected is why = fault (HadToAnswer places (opening_start pages) expected) n is.0 (record {
    step = why.step;
    is_written = why.is_written;
    tells = told_here why.step expected why.tells;
  })

  pub blamed : (verdict : Verdict) (wrong : Option Wrong) (keeper : Option Keeper) → IsLineVerdict places old (number + 1) line verdict → IsLineBlamed places old line verdict wrong keeper → IsBlamed places pages (lines_of text) verdict wrong keeper
  blamed (Legal count) wrong keeper is has = has
  blamed NoLines wrong keeper is has = has
  blamed (Bad n) wrong keeper is has = has
  blamed (Breaks n rule) wrong keeper is has = fault (IsWrongLine places (opening_start pages) wrong keeper) n is.0 (record {
    step = has.step;
    is_written = has.is_written;
    tells = has.tells (opening_start pages) u.run u.follows;
    why = has.why (opening_start pages) u.run u.follows;
  })

  pub traced : (why : Bool) (verdict : Verdict) (wrong : Option Wrong) (path : Option (Vec PathStep)) → IsLineVerdict places old (number + 1) line verdict → IsLineTraced old why verdict wrong path → IsTracedBack places pages (lines_of text) why verdict wrong path
  traced why (Legal count) wrong path is has = has
  traced why NoLines wrong path is has = has
  traced why (Bad n) wrong path is has = has
  traced why (Breaks n rule) wrong path is has = fault (λ run l. IsWayTo (heap_after (opening_start pages) run) why wrong path) n is.0 (has (opening_start pages) u.run u.follows)

plain_of : (line : List ℕ) → ((i : ℕ) → i < length line → get_or line i 0 ≢ newline) → IsPlainLine line
plain_of line lacks = All-from_get_or (λ b. b ≢ newline) line 0 lacks

-- the first line of a text, where it was cut at its first newline
pub cut_line : (text : List ℕ) (parts : Bor (List ℕ) × Bor (List ℕ)) → IsSplitOnceResult newline text (Some parts) → lines_of text ≡ parts.0.now ∷ lines_of parts.1.now
cut_line text parts split =
    let cut = split_parts newline text (Some parts) split (omega arith) in
    ap lines_of cut.0 ∙ lines_of-line parts.0.now parts.1.now (plain_of parts.0.now cut.1)

-- where it has none, it is the only one
pub last_line : (text : List ℕ) → 0 < length text → IsSplitOnceResult newline text None → lines_of text ≡ text ∷ []
last_line text some split = lines_of-last text (plain_of text (split_parts newline text None split (omega arith))) some
