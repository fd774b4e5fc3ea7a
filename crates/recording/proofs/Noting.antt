-- How a run goes on as it is noted.
use Rattle.std.proofs.Common.{◌≡◌, ◌⊎◌, ◌<◌, ℕ, List, refl, sym, subst, arith, inl, inr, ⊎_elim}
use Rattle.std.specs.Prelude.{Result, Ok, Err, IfErr}
use Rattle.words.specs.declared.class.Kind.{Kind}
use Rattle.words.specs.declared.refusal.Refusal.{Refusal}
use Rattle.heap_spec.specs.declared.call.Call.{Call}
use Rattle.heap_spec.specs.declared.call.Call.TheVariants.{Alloc, Free}
use Rattle.heap_spec.specs.declared.event.Event.{Event}
use Rattle.heap_spec.specs.declared.event.Event.TheVariants.{Mutator, Finish, Collect}
use Rattle.heap_spec.specs.declared.reply.Reply.{Reply}
use Rattle.heap_spec.specs.declared.reply.Reply.TheVariants.{Done, Count, Refused}
use Rattle.heap_spec.specs.Layout.{word_end}
use Rattle.heap_spec.specs.Cycles.{TakesOut}
use Rattle.heap_spec.specs.Runs.{Start, Run, heap_after}
use Rattle.heap_spec.specs.Steps.{Calls}
use Rattle.heap_spec.specs.Transcripts.{LineOf}
use Rattle.heap_core.specs.CoreContents.{CoreContents}
use Rattle.heap_core.specs.Following.{Follows, IsLine}
use Rattle.heap_core.specs.Standing.{StandsFor}
use Rattle.replayer.specs.declared.hint.Hint.{Hint}
use Rattle.replayer.specs.Replays.{IsReplay, NamesPlace, NamesBases, MayNameBases}
use Rattle.recording.specs.RecorderContents.{RecorderContents}
use Rattle.recording.specs.Noting.{Knows, IsKnown, IsHint, IsNoted, NotesTaken, NotesGone, NotesCall, NotesEvent}
use Rattle.recording.proofs.Knowing.{HasIn, same_known, more_known, stay_known, gone_taken}
use Rattle.recording.proofs.Placing.{IsPlaced, call_places}
use Rattle.recording.proofs.Lines.{line_few, refused_same, line_leaves, IsStill, granted, freed_less, taken_less, same_heap}

module _ (before new : RecorderContents) (start : Start) (run : Run) (k : IsKnown before.bases (heap_after start run)) where
  -- the checker says yes to what is noted, and the objects are known
  abbrev Tells : Event → Reply → Run → Type 0
  Tells event reply next = ((hint : Hint) → IsHint new.note hint → IsReplay hint start run event reply next) × Knows new.bases (heap_after start next)

  few : {event : Event} {reply : Reply} {next : Run} → LineOf start run event reply next → (heap_after start next).births < word_end
  few line = let most = line_few start run line in let room = k.room in omega arith

  -- where the checker asks for no hint
  plain : (event : Event) (reply : Reply) (next : Run) → LineOf start run event reply next → ((slot into words : ℕ) (kind : Kind) → event ≡ Mutator slot (Alloc into words kind) → reply ≡ Done → ⊥)
      → ((n : ℕ) → (event ≡ Finish) ⊎ (event ≡ Collect) → reply ≡ Count n → ⊥) → (hint : Hint) → IsReplay hint start run event reply next
  plain event reply next line no_place no_count hint = record {
    line = line;
    place = λ slot into words kind is done. absurd (no_place slot into words kind is done);
    finished = λ n which is. absurd (no_count n (inl which) is);
    collected = λ n which is. absurd (no_count n (inr which) is);
    births = few line;
  }

  same_tells : (event : Event) (reply : Reply) (next : Run) → LineOf start run event reply next → HasIn (heap_after start run) (heap_after start next) × HasIn (heap_after start next) (heap_after start run) → new.bases ≡ before.bases
      → ((slot into words : ℕ) (kind : Kind) → event ≡ Mutator slot (Alloc into words kind) → reply ≡ Done → ⊥) → ((n : ℕ) → (event ≡ Finish) ⊎ (event ≡ Collect) → reply ≡ Count n → ⊥) → Tells event reply next
  same_tells event reply next line both same no_place no_count = (
    λ hint is. plain event reply next line no_place no_count hint,
    subst (λ l. Knows l (heap_after start next)) (sym same) (same_known before.bases (heap_after start run) (heap_after start next) both.0 both.1 k.knows),
  )

  pub refused_tells : (event : Event) (reply : Reply) (next : Run) (why : Refusal) → reply ≡ Refused why → LineOf start run event reply next → new.bases ≡ before.bases → Tells event reply next
  refused_tells event reply next why is line same = same_tells event reply next line (same_heap _ _ (refused_same start run event reply why is line)) same
      (λ slot into words kind e done. absurd (cc)) (λ n which count. absurd (cc))

  still_tells : (event : Event) (reply : Reply) (next : Run) → IsStill event → LineOf start run event reply next → new.bases ≡ before.bases → Tells event reply next
  still_tells event reply next still line same = same_tells event reply next line (line_leaves start run still line) same
      (λ slot into words kind e done. subst IsStill e still) (λ n which count. ⊎_elim (λ e. subst IsStill e still) (λ e. subst IsStill e still) which)

  module _ (c : CoreContents) where
    placed_tells : (slot into words : ℕ) (kind : Kind) (reply : Reply) (next : Run) → LineOf start run (Mutator slot (Alloc into words kind)) reply next → IsPlaced (heap_after start run) (heap_after start next) before new
        → Tells (Mutator slot (Alloc into words kind)) reply next
    placed_tells slot into words kind reply next line p = (
      λ hint is. record {
        line = line;
        place = λ at d n q e done. subst (λ h. NamesPlace h (heap_after start run) (heap_after start next)) (sym (subst (λ note. IsHint note hint) p.note is)) p.born;
        finished = λ n which count. absurd (cc);
        collected = λ n which count. absurd (cc);
        births = few line;
      },
      subst (λ l. Knows l (heap_after start next)) (sym p.bases) (more_known before.bases (heap_after start run) (heap_after start next) p.base p.object p.free p.after k.knows),
    )

    alloc_tells : (slot into words : ℕ) (kind : Kind) {reply : Reply} {next : Run} → ((why : Refusal) → reply ≡ Refused why → ⊥) → NotesCall c slot (Alloc into words kind) before new
        → LineOf start run (Mutator slot (Alloc into words kind)) reply next → StandsFor c (heap_after start next) → Tells (Mutator slot (Alloc into words kind)) reply next
    alloc_tells slot into words kind fair notes (LineOf.happens {reply = reply} {s' = s'} h) stands =
        let done = granted (heap_after start run) slot into words kind h fair in
        placed_tells slot into words kind reply _ (LineOf.happens h)
        (call_places c slot into words kind before new notes (heap_after start run) s' k.sound (subst (λ q. Calls (heap_after start run) slot (Alloc into words kind) q s') done h) stands)
    alloc_tells slot into words kind fair notes (LineOf.refused wrong) stands = absurd wrong

    free_tells : (slot r : ℕ) {reply : Reply} {next : Run} → NotesCall c slot (Free r) before new → LineOf start run (Mutator slot (Free r)) reply next → StandsFor c (heap_after start next) → Tells (Mutator slot (Free r)) reply next
    free_tells slot r notes (LineOf.happens {reply = reply} {s' = s'} h) stands = (
      λ hint is. plain (Mutator slot (Free r)) reply _ (LineOf.happens h) (λ at into words kind e done. absurd (cc)) (λ n which count. ⊎_elim (λ e. absurd (cc)) (λ e. absurd (cc)) which) hint,
      stay_known c before.bases new.bases notes.0 notes.1 (heap_after start run) s' stands k.knows (freed_less (heap_after start run) slot r h),
    )
    free_tells slot r notes (LineOf.refused wrong) stands = absurd wrong

    taken_tells : (event : Event) (reply : Reply) (next : Run) (bases : List ℕ) → ((slot : ℕ) (call : Call) → event ≡ Mutator slot call → ⊥) → NotesGone c before new → LineOf start run event reply next
        → TakesOut (heap_after start run) bases reply (heap_after start next) → StandsFor c (heap_after start next) → Tells event reply next
    taken_tells event reply next bases other notes line takes stands = (
      λ hint is. record {
        line = line;
        place = λ slot into words kind e done. absurd (other slot (Alloc into words kind) e);
        finished = λ n which count.
            let slice = subst (λ note. IsHint note hint) notes.2 is in
            let gone = gone_taken c before.bases new.bases notes.0 notes.1 (heap_after start run) (heap_after start next) stands k.knows bases n (subst (λ q. TakesOut (heap_after start run) bases q (heap_after start next)) count takes) in
            subst (λ h. NamesBases h n (heap_after start run) (heap_after start next)) (sym slice.1) (subst (λ l. TakesOut (heap_after start run) l (Count n) (heap_after start next)) (sym slice.2) gone);
        collected = λ n which count.
            let slice = subst (λ note. IsHint note hint) notes.2 is in
            let gone = gone_taken c before.bases new.bases notes.0 notes.1 (heap_after start run) (heap_after start next) stands k.knows bases n (subst (λ q. TakesOut (heap_after start run) bases q (heap_after start next)) count takes) in
            subst (λ h. MayNameBases h n (heap_after start run) (heap_after start next)) (sym slice.1) (subst (λ l. TakesOut (heap_after start run) l (Count n) (heap_after start next)) (sym slice.2) gone);
        births = few line;
      },
      stay_known c before.bases new.bases notes.0 notes.1 (heap_after start run) (heap_after start next) stands k.knows (taken_less (heap_after start run) (heap_after start next) bases reply takes),
    )

    finish_tells : {reply : Reply} {next : Run} → ((why : Refusal) → reply ≡ Refused why → ⊥) → NotesGone c before new → LineOf start run Finish reply next → StandsFor c (heap_after start next) → Tells Finish reply next
    finish_tells fair notes (LineOf.happens {reply = reply} h) stands = taken_tells Finish reply _ h.1.bases (λ slot call e. absurd (cc)) notes (LineOf.happens h) h.1.takes stands
    finish_tells fair notes (LineOf.refused wrong) stands = absurd (fair _ refl)

    collect_tells : {reply : Reply} {next : Run} → NotesGone c before new → LineOf start run Collect reply next → StandsFor c (heap_after start next) → Tells Collect reply next
    collect_tells notes (LineOf.happens {reply = reply} h) stands = taken_tells Collect reply _ h.bases (λ slot call e. absurd (cc)) notes (LineOf.happens h) h.takes stands
    collect_tells notes (LineOf.refused wrong) stands = absurd wrong

    call_tells : (slot : ℕ) (call : Call) (reply : Reply) (next : Run) → ((why : Refusal) → reply ≡ Refused why → ⊥) → NotesCall c slot call before new → LineOf start run (Mutator slot call) reply next
        → StandsFor c (heap_after start next) → Tells (Mutator slot call) reply next
    call_tells slot (Alloc into words kind) reply next fair notes line stands = alloc_tells slot into words kind fair notes line stands
    call_tells slot (Free r) reply next fair notes line stands = free_tells slot r notes line stands
    call_tells slot call reply next fair notes line stands = still_tells (Mutator slot call) reply next tt line notes

    pub event_tells : (event : Event) (reply : Reply) (next : Run) → ((why : Refusal) → reply ≡ Refused why → ⊥) → NotesEvent c event before new → LineOf start run event reply next
        → StandsFor c (heap_after start next) → Tells event reply next
    event_tells (Mutator slot call) reply next fair notes line stands = call_tells slot call reply next fair notes line stands
    event_tells Finish reply next fair notes line stands = finish_tells fair notes line stands
    event_tells Collect reply next fair notes line stands = collect_tells notes line stands
    event_tells event reply next fair notes line stands = still_tells event reply next tt line notes

    -- what a full collection took out is noted
    collect_notes : {reply : Reply} {next : Run} → NotesGone c before new → LineOf start run Collect reply next → StandsFor c (heap_after start next)
        → (n : ℕ) → reply ≡ Count n → NotesTaken new.note n (heap_after start run) (heap_after start next)
    collect_notes notes (LineOf.happens {reply = reply} {s' = s'} h) stands n count = record {
      bases = notes.0;
      noted = notes.2;
      takes = gone_taken c before.bases new.bases notes.0 notes.1 (heap_after start run) s' stands k.knows h.bases n (subst (λ q. TakesOut (heap_after start run) h.bases q s') count h.takes);
    }
    collect_notes notes (LineOf.refused wrong) stands n count = absurd wrong

    pub event_notes : (event : Event) (reply : Reply) (next : Run) → NotesEvent c event before new → LineOf start run event reply next → StandsFor c (heap_after start next)
        → (n : ℕ) → event ≡ Collect → reply ≡ Count n → NotesTaken new.note n (heap_after start run) (heap_after start next)
    event_notes event reply next notes line stands n is count =
        collect_notes (subst (λ e. NotesEvent c e before new) is notes) (subst (λ e. LineOf start run e reply next) is line) stands n count

-- so a run goes on, where the event is refused
pub noted_refused : (old new : RecorderContents) (event : Event) (reply : Reply) (why : Refusal) → reply ≡ Refused why → new.bases ≡ old.bases → IsLine old.core event reply new.core → IsNoted old event reply new
noted_refused old new event reply why is same line start run f =
    let x = line start run f in (
      x.0,
      record {
        line = x.1;
        follows = x.2;
        replay = λ k. (refused_tells old new start run k event reply x.0 why is x.1 same).0;
        gone = λ k n which count. absurd (cc);
        knows = λ k. (refused_tells old new start run k event reply x.0 why is x.1 same).1;
      },
    )

-- and where it is not
pub noted : (old before new : RecorderContents) (event : Event) (reply : Reply) → ((why : Refusal) → reply ≡ Refused why → ⊥) → before.bases ≡ old.bases → IsLine old.core event reply before.core → new.core ≡ before.core
    → NotesEvent before.core event before new → IsNoted old event reply new
noted old before new event reply fair same line core notes start run f =
    let x = line start run f in (
      x.0,
      record {
        line = x.1;
        follows = subst (λ c. Follows c start x.0) (sym core) x.2;
        replay = λ k. (event_tells before new start run (known k) before.core event reply x.0 fair notes x.1 x.2.stands).0;
        gone = λ k. event_notes before new start run (known k) before.core event reply x.0 notes x.1 x.2.stands;
        knows = λ k. (event_tells before new start run (known k) before.core event reply x.0 fair notes x.1 x.2.stands).1;
      },
    )
  where
    known : IsKnown old.bases (heap_after start run) → IsKnown before.bases (heap_after start run)
    known k = subst (λ l. IsKnown l (heap_after start run)) (sym same) k

-- of whatever error there is, nothing
pub all_err : {T E : Type 0} → (r : Result T E) → IfErr r (λ error. Unit {0})
all_err (Ok x) = tt
all_err (Err e) = tt
