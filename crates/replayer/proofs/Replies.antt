-- The one reply to an event, from what the plain heap answers.
use Rattle.std.proofs.Common.{◌≡◌, ℕ, true, false, length, refl, sym, ap, ◌∙◌, subst}
use Rattle.std.proofs.lemmas.Bool.{true≢false}
use Rattle.words.specs.declared.refusal.Refusal.TheVariants.{WrongPhase, NeedsFull}
use Rattle.heap_spec.specs.declared.call.Call.{Call}
use Rattle.heap_spec.specs.declared.event.Event.TheVariants.{Attach, Mutator, Begin, BeginPartial, Roots, Finish, Collect, Number}
use Rattle.heap_spec.specs.declared.reply.Reply.{Reply}
use Rattle.heap_spec.specs.declared.reply.Reply.TheVariants.{Done, Count, Refused}
use Rattle.heap_spec.specs.Heap.{Heap}
use Rattle.heap_spec.specs.Cycles.{CollectsFully}
use Rattle.heap_spec.specs.Runs.{Start, Run, heap_after, is_marking, needs_full, goes_on}
use Rattle.heap_spec.specs.Transcripts.{LineOf}
use Rattle.plain_heap.specs.Answering.{CanAnswer, CanAttach, IsNoStep}
use Rattle.plain_heap.specs.Collections.{HasGarbage}
use Rattle.plain_heap.proofs.Forgets.{same_count}
use Rattle.replayer.specs.ReplayerContents.{ReplayerContents}
use Rattle.replayer.specs.Expecting.{Expects}

-- a bool is not both
not_both : (start : Start) (run : Run) → is_marking start run ≡ true → is_marking start run ≡ false → ⊥
not_both start run marks idle = true≢false (sym marks ∙ idle)

pub expects_attach : (r : ReplayerContents) (reply : Reply) → CanAttach r.heap reply → ((other : Reply) → (reply ≡ other → ⊥) → IsNoStep r.heap Attach other) → Expects r Attach reply
expects_attach r reply can only start run f = record {
  may = let x = can (heap_after start run) f.stands in (goes_on run Attach reply x.0, LineOf.happens x.1);
  only = λ other next ne line. stuck other ne line;
}
  where
    stuck : (q : Reply) → (reply ≡ q → ⊥) → {to : Run} → LineOf start run Attach q to → ⊥
    stuck q ne (LineOf.happens {s' = s'} happens) = only q ne (heap_after start run) f.stands s' happens
    stuck q ne (LineOf.refused wrong) = wrong

pub expects_call : (r : ReplayerContents) (slot : ℕ) (call : Call) (reply : Reply) → CanAnswer r.heap slot call reply → ((other : Reply) → (reply ≡ other → ⊥) → IsNoStep r.heap (Mutator slot call) other) → Expects r (Mutator slot call) reply
expects_call r slot call reply can only start run f = record {
  may = let x = can (heap_after start run) f.stands in (goes_on run (Mutator slot call) reply x.0, LineOf.happens x.1);
  only = λ other next ne line. stuck other ne line;
}
  where
    stuck : (q : Reply) → (reply ≡ q → ⊥) → {to : Run} → LineOf start run (Mutator slot call) q to → ⊥
    stuck q ne (LineOf.happens {s' = s'} happens) = only q ne (heap_after start run) f.stands s' happens
    stuck q ne (LineOf.refused wrong) = wrong

pub expects_begin : (r : ReplayerContents) → r.marking ≡ false → Expects r Begin Done
expects_begin r idle start run f = record {
  may = (goes_on run Begin Done (heap_after start run), LineOf.happens (sym f.phase ∙ idle, (refl, refl)));
  only = λ other next ne line. stuck other ne line;
}
  where
    stuck : (q : Reply) → (Done ≡ q → ⊥) → {to : Run} → LineOf start run Begin q to → ⊥
    stuck q ne (LineOf.happens happens) = ne (sym happens.1.0)
    stuck q ne (LineOf.refused wrong) = not_both start run wrong (sym f.phase ∙ idle)

pub expects_no_begin : (r : ReplayerContents) → r.marking ≡ true → Expects r Begin (Refused WrongPhase)
expects_no_begin r marks start run f = record {
  may = (run, LineOf.refused (sym f.phase ∙ marks));
  only = λ other next ne line. stuck other ne line;
}
  where
    stuck : (q : Reply) → (Refused WrongPhase ≡ q → ⊥) → {to : Run} → LineOf start run Begin q to → ⊥
    stuck q ne (LineOf.happens happens) = not_both start run (sym f.phase ∙ marks) happens.0
    stuck q ne (LineOf.refused wrong) = ne refl

-- the need of a full cycle is not both
not_both_needs : (start : Start) (run : Run) → needs_full start run ≡ true → needs_full start run ≡ false → ⊥
not_both_needs start run needs none = true≢false (sym needs ∙ none)

pub expects_partial : (r : ReplayerContents) → r.marking ≡ false → r.needs_full ≡ false → Expects r BeginPartial Done
expects_partial r idle none start run f = record {
  may = (goes_on run BeginPartial Done (heap_after start run), LineOf.happens (sym f.phase ∙ idle, sym f.needs ∙ none, (refl, refl)));
  only = λ other next ne line. stuck other ne line;
}
  where
    stuck : (q : Reply) → (Done ≡ q → ⊥) → {to : Run} → LineOf start run BeginPartial q to → ⊥
    stuck q ne (LineOf.happens happens) = ne (sym happens.2.0)
    stuck q ne (LineOf.refused wrong) = not_both start run wrong (sym f.phase ∙ idle)
    stuck q ne (LineOf.needs m need) = not_both_needs start run need (sym f.needs ∙ none)

pub expects_no_partial : (r : ReplayerContents) → r.marking ≡ true → Expects r BeginPartial (Refused WrongPhase)
expects_no_partial r marks start run f = record {
  may = (run, LineOf.refused (sym f.phase ∙ marks));
  only = λ other next ne line. stuck other ne line;
}
  where
    stuck : (q : Reply) → (Refused WrongPhase ≡ q → ⊥) → {to : Run} → LineOf start run BeginPartial q to → ⊥
    stuck q ne (LineOf.happens happens) = not_both start run (sym f.phase ∙ marks) happens.0
    stuck q ne (LineOf.refused wrong) = ne refl
    stuck q ne (LineOf.needs m need) = not_both start run (sym f.phase ∙ marks) m

pub expects_full_first : (r : ReplayerContents) → r.marking ≡ false → r.needs_full ≡ true → Expects r BeginPartial (Refused NeedsFull)
expects_full_first r idle needs start run f = record {
  may = (run, LineOf.needs (sym f.phase ∙ idle) (sym f.needs ∙ needs));
  only = λ other next ne line. stuck other ne line;
}
  where
    stuck : (q : Reply) → (Refused NeedsFull ≡ q → ⊥) → {to : Run} → LineOf start run BeginPartial q to → ⊥
    stuck q ne (LineOf.happens happens) = not_both_needs start run (sym f.needs ∙ needs) happens.1
    stuck q ne (LineOf.refused wrong) = not_both start run wrong (sym f.phase ∙ idle)
    stuck q ne (LineOf.needs m need) = ne refl

pub expects_roots : (r : ReplayerContents) → r.marking ≡ true → Expects r Roots Done
expects_roots r marks start run f = record {
  may = (run, LineOf.roots (sym f.phase ∙ marks));
  only = λ other next ne line. stuck other ne line;
}
  where
    stuck : (q : Reply) → (Done ≡ q → ⊥) → {to : Run} → LineOf start run Roots q to → ⊥
    stuck q ne (LineOf.happens happens) = happens
    stuck q ne (LineOf.refused wrong) = not_both start run (sym f.phase ∙ marks) wrong
    stuck q ne (LineOf.roots m) = ne refl

pub expects_no_roots : (r : ReplayerContents) → r.marking ≡ false → Expects r Roots (Refused WrongPhase)
expects_no_roots r idle start run f = record {
  may = (run, LineOf.refused (sym f.phase ∙ idle));
  only = λ other next ne line. stuck other ne line;
}
  where
    stuck : (q : Reply) → (Refused WrongPhase ≡ q → ⊥) → {to : Run} → LineOf start run Roots q to → ⊥
    stuck q ne (LineOf.happens happens) = happens
    stuck q ne (LineOf.refused wrong) = ne refl
    stuck q ne (LineOf.roots m) = not_both start run m (sym f.phase ∙ idle)

pub expects_no_finish : (r : ReplayerContents) → r.marking ≡ false → Expects r Finish (Refused WrongPhase)
expects_no_finish r idle start run f = record {
  may = (run, LineOf.refused (sym f.phase ∙ idle));
  only = λ other next ne line. stuck other ne line;
}
  where
    stuck : (q : Reply) → (Refused WrongPhase ≡ q → ⊥) → {to : Run} → LineOf start run Finish q to → ⊥
    stuck q ne (LineOf.happens happens) = not_both start run happens.0 (sym f.phase ∙ idle)
    stuck q ne (LineOf.refused wrong) = ne refl

pub expects_number : (r : ReplayerContents) (n : ℕ) → n ≡ r.number → Expects r Number (Count n)
expects_number r n is start run f = record {
  may = (run, subst (λ k. LineOf start run Number (Count k) run) (sym (is ∙ f.number)) LineOf.number);
  only = λ other next ne line. stuck other ne line;
}
  where
    stuck : (q : Reply) → (Count n ≡ q → ⊥) → {to : Run} → LineOf start run Number q to → ⊥
    stuck q ne (LineOf.happens happens) = happens
    stuck q ne (LineOf.refused wrong) = wrong
    stuck q ne LineOf.number = ne (ap Count (is ∙ f.number))

-- a full collection takes as many as are not reached
full_reply : (s t t' : Heap) (n : ℕ) (other : Reply) → CollectsFully s (Count n) t → CollectsFully s other t' → Count n ≡ other
full_reply s t t' n other x y =
    let counts = same_count s t t' n (length y.bases) x (subst (λ q. CollectsFully s q t') y.takes.number y) in
    ap Count counts ∙ sym y.takes.number

pub expects_collect : (r : ReplayerContents) (n : ℕ) → HasGarbage r.heap n → Expects r Collect (Count n)
expects_collect r n garbage start run f = record {
  may = (goes_on run Collect (Count n) x.0, LineOf.happens x.1);
  only = λ other next ne line. stuck other ne line;
}
  where
    x : (s' : Heap) × CollectsFully (heap_after start run) (Count n) s'
    x = garbage (heap_after start run) f.stands

    stuck : (q : Reply) → (Count n ≡ q → ⊥) → {to : Run} → LineOf start run Collect q to → ⊥
    stuck q ne (LineOf.happens {s' = s'} happens) = ne (full_reply (heap_after start run) x.0 s' n q x.1 happens)
    stuck q ne (LineOf.refused wrong) = wrong
