-- Lines of a script that are drawn, one after another.
use Rattle.std.proofs.Common.{◌≡◌, ◌∙◌, ℕ, ◌+◌, List, [], ◌∷◌, ◌++◌, length, take, refl, sym, ap, subst, append_assoc, length-append, ◌⊎◌, inl, inr}
use Rattle.std.specs.Prelude.{Option, Result, Ok, Err, OnOk, IfErr, ⊤, slice_get}
use Rattle.std.specs.Io.KnownBytes.{Appends}
use Rattle.std.proofs.lemmas.Grind.{flat_map-append}
use Rattle.std.proofs.lemmas.List.{append-nil, take_at}
use Rattle.heap_core.specs.Opening.{IsNew}
use Rattle.programs.specs.declared.fault.Fault.{Fault}
use Rattle.recording.specs.RecorderContents.{RecorderContents}
use Rattle.scripts.specs.Lines.{newline, lines_of}
use Rattle.scripts.specs.Turns.{text_of}
use Rattle.scripts.proofs.Bytes.{Appends-none, Appends-more}
use Rattle.scripts.proofs.Texts.{at-front}
use Rattle.tracing.specs.Telling.{TracerContents, IsNewTracer}
use Rattle.draw.specs.Drawn.{IsDrawn, NamesBadLine}
use Rattle.programs.specs.Faults.{IsRefusal}
use Rattle.draw.specs.ScriptTrace.{AreCommandsDrawn, stays, goes_on, PutsCommands, IsNotPut, StopsAtBadLine, PutsScriptTrace, DrawsScript, script_head}
use Rattle.draw.proofs.Traces.{empty_of, head_and}

module _ (pages : ℕ) where
  none_put : (heap : RecorderContents) (tracer : TracerContents) (u : Option (List ℕ)) → PutsCommands pages heap tracer [] heap tracer u u
  none_put heap tracer u = record { records = []; drawn = stays; written = Appends-none u }

  drawn_more : (a b c : RecorderContents) (x y z : TracerContents) (lines more texts others : List (List ℕ)) → AreCommandsDrawn pages a x lines b y texts → AreCommandsDrawn pages b y more c z others
      → AreCommandsDrawn pages a x (lines ++ more) c z (texts ++ others)
  drawn_more a b c x y z lines more texts others stays d = d
  drawn_more a b c x y z lines more texts others (goes_on one rest) d = goes_on one (drawn_more _ _ _ _ _ _ _ _ _ _ rest d)

  more_put : (a b c : RecorderContents) (x y z : TracerContents) (lines more : List (List ℕ)) (u v w : Option (List ℕ)) → PutsCommands pages a x lines b y u v → PutsCommands pages b y more c z v w
      → PutsCommands pages a x (lines ++ more) c z u w
  more_put a b c x y z lines more u v w one two = record {
    records = one.records ++ two.records;
    drawn = drawn_more _ _ _ _ _ _ _ _ _ _ one.drawn two.drawn;
    written = subst (λ text. Appends u w text) (sym (flat_map-append (λ line. line ++ newline ∷ []) one.records two.records)) (Appends-more u v w _ _ one.written two.written);
  }

  -- a line is drawn, and its record is written, where that goes well
  pub one_put : {E : Type 0} (r : Result ⊤ E) (a b : RecorderContents) (x y : TracerContents) (line text : List ℕ) (u v : Option (List ℕ)) → IsDrawn pages a x line b y text → OnOk r (Appends u v (text_of (text ∷ [])))
      → OnOk r (PutsCommands pages a x (line ∷ []) b y u v)
  one_put (Ok done) a b x y line text u v drawn written = record { records = text ∷ []; drawn = goes_on drawn stays; written = written }
  one_put (Err e) a b x y line text u v drawn written = tt

  -- So many lines of a text are drawn, and the rest is behind them.
  pub record IsDrawnTo (heap : RecorderContents) (tracer : TracerContents) (text rest : List ℕ) (number : ℕ) (heap' : RecorderContents) (tracer' : TracerContents) (u v : Option (List ℕ)) : Type 0 where
    pub front : List (List ℕ)
    pub are : lines_of text ≡ front ++ lines_of rest
    pub counted : number ≡ length front
    pub puts : PutsCommands pages heap tracer front heap' tracer' u v

  pub drawn_none : (heap : RecorderContents) (tracer : TracerContents) (text : List ℕ) (u : Option (List ℕ)) → IsDrawnTo heap tracer text text 0 heap tracer u u
  drawn_none heap tracer text u = record { front = []; are = refl; counted = refl; puts = none_put heap tracer u }

  pub drawn_one : (a b c : RecorderContents) (x y z : TracerContents) (text rest line behind : List ℕ) (number : ℕ) (u v w : Option (List ℕ)) → IsDrawnTo a x text rest number b y u v → lines_of rest ≡ line ∷ lines_of behind
      → PutsCommands pages b y (line ∷ []) c z v w → IsDrawnTo a x text behind (number + 1) c z u w
  drawn_one a b c x y z text rest line behind number u v w to parted one = record {
    front = to.front ++ line ∷ [];
    are = to.are ∙ ap (λ ls. to.front ++ ls) parted ∙ sym (append_assoc to.front (line ∷ []) (lines_of behind));
    counted = ap (λ n. n + 1) to.counted ∙ sym (length-append to.front (line ∷ []));
    puts = more_put _ _ _ _ _ _ _ _ _ _ _ to.puts one;
  }

  -- where nothing is left all lines are drawn
  pub drawn_all : (a b : RecorderContents) (x y : TracerContents) (text rest : List ℕ) (number : ℕ) (u v : Option (List ℕ)) → IsDrawnTo a x text rest number b y u v → length rest ≡ 0 → PutsCommands pages a x (lines_of text) b y u v
  drawn_all a b x y text rest number u v to none =
      let all : lines_of text ≡ to.front = to.are ∙ ap (λ r. to.front ++ lines_of r) (empty_of rest none) ∙ append-nil to.front in
      subst (λ ls. PutsCommands pages a x ls b y u v) (sym all) to.puts

  -- where the next line isn't put, it is bad, or memory or a write is refused
  pub stopped : (a b : RecorderContents) (x y : TracerContents) (text rest line behind : List ℕ) (number : ℕ) (u v w : Option (List ℕ)) (fault : Fault) → IsDrawnTo a x text rest number b y u v → lines_of rest ≡ line ∷ lines_of behind
      → IsNotPut (number + 1) line v w fault → StopsAtBadLine pages a x (lines_of text) u w fault ⊎ IsRefusal fault
  stopped a b x y text rest line behind number u v w fault to parted (inr refused) = inr refused
  stopped a b x y text rest line behind number u v w fault to parted (inl bad) =
      let whole : lines_of text ≡ to.front ++ line ∷ lines_of behind = to.are ∙ ap (λ ls. to.front ++ ls) parted in
      let before : take number (lines_of text) ≡ to.front = ap (take number) whole ∙ take_at to.front (line ∷ lines_of behind) number (sym to.counted) in
      inl (record {
        before = number;
        line = line;
        is_line = ap (λ ls. slice_get ls number) whole ∙ ap (slice_get (to.front ++ line ∷ lines_of behind)) to.counted ∙ at-front to.front (lines_of behind) line;
        names = bad.0;
        last = b;
        behind = y;
        puts = subst (λ ls. PutsCommands pages a x ls b y u w) (sym before) (subst (λ t. PutsCommands pages a x to.front b y u t) (sym bad.1) to.puts);
      })

  -- the first line, and the records of all lines, or of those before a bad one
  module _ (count : ℕ) (lines : List (List ℕ)) (heap last : RecorderContents) (tracer behind : TracerContents) (u v w : Option (List ℕ)) (counts : count ≡ length lines) (is_new : IsNew pages heap.core) (none : heap.bases ≡ [])
      (new_tracer : IsNewTracer pages tracer) (head : Appends u v (text_of (script_head pages count ∷ []))) where
    trace : (some : List (List ℕ)) (a : RecorderContents) (x : TracerContents) → PutsCommands pages heap tracer some a x v w → PutsScriptTrace pages (length lines) some u w
    trace some a x puts = record {
      heap = heap;
      is_new = is_new;
      knows_none = none;
      tracer = tracer;
      is_new_tracer = new_tracer;
      last = a;
      behind = x;
      records = puts.records;
      drawn = puts.drawn;
      written = subst (λ n. Appends u w (text_of (script_head pages n ∷ puts.records))) counts (head_and (script_head pages count) puts.records u v w head puts.written);
    }

    pub script_drawn : (r : Result ⊤ Fault) → OnOk r (PutsCommands pages heap tracer lines last behind v w) → IfErr r (λ fault. StopsAtBadLine pages heap tracer lines v w fault ⊎ IsRefusal fault) → DrawsScript pages lines u w r
    script_drawn (Ok done) puts stops = trace lines last behind puts
    script_drawn (Err fault) puts (inr refused) = inr refused
    script_drawn (Err fault) puts (inl bad) = inl (record { before = bad.before; line = bad.line; is_line = bad.is_line; names = bad.names; puts = trace (take bad.before lines) bad.last bad.behind bad.puts })
