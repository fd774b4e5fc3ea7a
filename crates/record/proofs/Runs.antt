-- Lines of a script that are recorded, one after another.
use Rattle.std.proofs.Common.{◌≡◌, ◌∙◌, ℕ, List, [], ◌∷◌, ◌++◌, length, refl, sym, ap, subst, arith, append_assoc}
use Rattle.std.specs.Prelude.{Option, Result, Ok, Err, OnOk, ⊤}
use Rattle.std.specs.Io.KnownBytes.{Appends}
use Rattle.std.proofs.lemmas.Grind.{flat_map-append}
use Rattle.std.proofs.lemmas.List.{append-nil}
use Rattle.heap_core.specs.Opening.{IsNew}
use Rattle.recording.specs.RecorderContents.{RecorderContents}
use Rattle.scripts.specs.Lines.{newline, lines_of}
use Rattle.scripts.specs.Turns.{text_of}
use Rattle.scripts.proofs.Bytes.{Appends-none, Appends-more}
use Rattle.record.specs.Recorded.{IsRecorded, AreRecorded, stays, goes_on, PutsRun, RecordsScript}

run_none : (heap : RecorderContents) (w : Option (List ℕ)) → PutsRun heap [] heap w w
run_none heap w = record { texts = []; recorded = stays; written = Appends-none w }

-- a line is recorded, and put out, where that goes well
pub run_one : {E : Type 0} (r : Result ⊤ E) (heap heap' : RecorderContents) (line text : List ℕ) (u v : Option (List ℕ)) → IsRecorded heap line heap' text → OnOk r (Appends u v (text_of (text ∷ []))) → OnOk r (PutsRun heap (line ∷ []) heap' u v)
run_one (Ok done) heap heap' line text u v recorded written = record { texts = text ∷ []; recorded = goes_on recorded stays; written = written }
run_one (Err e) heap heap' line text u v recorded written = tt

recorded_more : (a b c : RecorderContents) (lines more texts others : List (List ℕ)) → AreRecorded a lines b texts → AreRecorded b more c others → AreRecorded a (lines ++ more) c (texts ++ others)
recorded_more a b c lines more texts others stays d = d
recorded_more a b c lines more texts others (goes_on one rest) d = goes_on one (recorded_more _ _ _ _ _ _ _ rest d)

run_more : (a b c : RecorderContents) (lines more : List (List ℕ)) (u v w : Option (List ℕ)) → PutsRun a lines b u v → PutsRun b more c v w → PutsRun a (lines ++ more) c u w
run_more a b c lines more u v w one two = record {
  texts = one.texts ++ two.texts;
  recorded = recorded_more _ _ _ _ _ _ _ one.recorded two.recorded;
  written = subst (λ text. Appends u w text) (sym (flat_map-append (λ line. line ++ newline ∷ []) one.texts two.texts)) (Appends-more u v w _ _ one.written two.written);
}

-- Some lines of a text are recorded, and the rest is behind them.
pub record IsRecordedTo (heap : RecorderContents) (text rest : List ℕ) (heap' : RecorderContents) (u v : Option (List ℕ)) : Type 0 where
  pub front : List (List ℕ)
  pub are : lines_of text ≡ front ++ lines_of rest
  pub puts : PutsRun heap front heap' u v

pub recorded_none : (heap : RecorderContents) (text : List ℕ) (u : Option (List ℕ)) → IsRecordedTo heap text text heap u u
recorded_none heap text u = record { front = []; are = refl; puts = run_none heap u }

pub recorded_one : (a b c : RecorderContents) (text rest line behind : List ℕ) (u v w : Option (List ℕ)) → IsRecordedTo a text rest b u v → lines_of rest ≡ line ∷ lines_of behind → PutsRun b (line ∷ []) c v w → IsRecordedTo a text behind c u w
recorded_one a b c text rest line behind u v w to parted one = record {
  front = to.front ++ line ∷ [];
  are = to.are ∙ ap (λ ls. to.front ++ ls) parted ∙ sym (append_assoc to.front (line ∷ []) (lines_of behind));
  puts = run_more _ _ _ _ _ _ _ _ to.puts one;
}

empty_of : (xs : List ℕ) → length xs ≡ 0 → xs ≡ []
empty_of [] e = refl
empty_of (x ∷ xs) e = absurd (omega (arith, e))

-- where nothing is left all lines are recorded
pub recorded_all : (a b : RecorderContents) (text rest : List ℕ) (u v : Option (List ℕ)) → IsRecordedTo a text rest b u v → length rest ≡ 0 → PutsRun a (lines_of text) b u v
recorded_all a b text rest u v to none =
    let all : lines_of text ≡ to.front = to.are ∙ ap (λ r. to.front ++ lines_of r) (empty_of rest none) ∙ append-nil to.front in
    subst (λ ls. PutsRun a ls b u v) (sym all) to.puts

-- a new heap was run so
pub script_recorded : {E : Type 0} (r : Result ⊤ E) (pages : ℕ) (lines : List (List ℕ)) (heap last : RecorderContents) (u v : Option (List ℕ)) → IsNew pages heap.core → heap.bases ≡ [] → OnOk r (PutsRun heap lines last u v) → OnOk r (RecordsScript pages lines u v)
script_recorded (Ok done) pages lines heap last u v is_new none puts = record { heap = heap; is_new = is_new; knows_none = none; last = last; puts = puts }
script_recorded (Err e) pages lines heap last u v is_new none puts = tt
