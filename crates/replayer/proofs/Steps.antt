-- How a run goes on, as a replayer follows it.
use Rattle.std.proofs.Common.{◌≡◌, ◌⊎◌, ℕ, ◌+◌, ◌%◌, ◌<◌, ◌≤◌, Bool, true, false, List, length, refl, sym, ap, ◌∙◌, subst, arith, inl, inr, ⊎_elim}
use Rattle.words.specs.declared.class.Kind.{Kind}
use Rattle.words.specs.declared.refusal.Refusal.TheVariants.{WrongPhase, NeedsFull}
use Rattle.heap_spec.specs.declared.call.Call.{Call}
use Rattle.heap_spec.specs.declared.call.Call.TheVariants.{Alloc}
use Rattle.heap_spec.specs.declared.event.Event.{Event}
use Rattle.heap_spec.specs.declared.event.Event.TheVariants.{Attach, Mutator, Begin, BeginPartial, Roots, Mark, Retrace, Finish, Sweep, Collect, Number}
use Rattle.heap_spec.specs.declared.reply.Reply.{Reply}
use Rattle.heap_spec.specs.declared.reply.Reply.TheVariants.{Done, Count, Refused}
use Rattle.heap_spec.specs.Layout.{word_end}
use Rattle.heap_spec.specs.Heap.{Heap, Object, Mutator as HeapMutator, HasObject, without}
use Rattle.heap_spec.specs.Cycles.{CollectsFully}
use Rattle.heap_spec.specs.Replies.{IsStep}
use Rattle.heap_spec.specs.Runs.{Start, Run, heap_after, needs_full_after, old_births, goes_on}
use Rattle.heap_spec.specs.Steps.{Acts, Calls, acts, vacant, Attaches}
use Rattle.heap_spec.specs.Transcripts.{LineOf, IsWrongPhase}
use Rattle.plain_heap.specs.PlainContents.{PlainContents}
use Rattle.plain_heap.specs.Standing.{StandsFor}
use Rattle.plain_heap.specs.Answering.{IsBornAt, IsAllocatedAt}
use Rattle.plain_heap.specs.Flags.{HasFlags, FlagsReached, FlagsLed, FlagsBrought, NamesUnflagged}
use Rattle.plain_heap.specs.Aging.{FlagUnset, FlagsClosure, TellOld}
use Rattle.heap_spec.specs.Touching.{HasApartObjects, HasNewborn}
use Rattle.heap_spec.specs.Laws.{IsOldOrNew}
use Rattle.heap_spec.proofs.Births.{step_births}
use Rattle.heap_spec.proofs.Gaining.{Gains, calls_gain}
use Rattle.heap_spec.proofs.Touching.{calls_newborn, calls_pages, attach_pages}
use Rattle.replayer.specs.declared.hint.Hint.{Hint}
use Rattle.replayer.specs.declared.hint.Hint.TheVariants.{Place}
use Rattle.replayer.specs.ReplayerContents.{ReplayerContents, Follows, TellTouched}
use Rattle.replayer.specs.Replays.{IsGrant, NamesBases, MayNameBases, IsReplayed, IsNoReplay}
use Rattle.replayer.proofs.Telling.{attach_tell, call_tell, grant_tell, begin_tell}
use Rattle.replayer.proofs.Aging.{old_tell, new_tell, partial_tell}

-- a call of a mutator leaves the count of births, but for a granted request
acts_births : (s : Heap) (slot : ℕ) (m : HeapMutator) {call : Call} {reply : Reply} {s' : Heap} → Acts s slot m call reply s' → (IsGrant call reply → ⊥) → s'.births ≡ s.births
acts_births s slot m (Acts.allocated {d = d} {n = n} {kind = kind} a e room) none = absurd (none (d, n, kind, refl, refl))
acts_births s slot m _ none = refl

pub calls_births : (s : Heap) (slot : ℕ) (call : Call) (reply : Reply) (s' : Heap) → Calls s slot call reply s' → (IsGrant call reply → ⊥) → s'.births ≡ s.births
calls_births s slot call reply s' (acts {m = m} at act) none = acts_births s slot m act none
calls_births s slot call reply s' (vacant e) none = refl

-- a granted request is one birth
grants_birth : (s : Heap) (slot : ℕ) (m : HeapMutator) {d n : ℕ} {kind : Kind} {s' : Heap} → Acts s slot m (Alloc d n kind) Done s' → s'.births ≡ s.births + 1
grants_birth s slot m (Acts.allocated a e room) = refl

pub call_birth : (s : Heap) (slot d n : ℕ) (kind : Kind) {s' : Heap} → Calls s slot (Alloc d n kind) Done s' → s'.births ≡ s.births + 1
call_birth s slot d n kind (acts {m = m} at act) = grants_birth s slot m act

attach_births : (s : Heap) {reply : Reply} {s' : Heap} → Attaches s reply s' → s'.births ≡ s.births
attach_births s (Attaches.attached low) = refl
attach_births s (Attaches.no_slot none) = refl

-- an event that is no collection leaves the count of these
pub same_number : (n : ℕ) → n < word_end → (n + 0) % word_end ≡ n
same_number n small = omega arith

-- what is true of the objects of the heaps that a plain heap stands for
abbrev pub AreApartIn : PlainContents → Type 0
AreApartIn c = (s : Heap) → StandsFor c s → HasApartObjects s

-- as many flags as before, for as many pages
pub room_as : (pages pages' : ℕ) (flags flags' : List Bool) → HasFlags pages flags → pages' ≡ pages → length flags' ≡ length flags → HasFlags pages' flags'
room_as pages pages' flags flags' room same size = omega (arith, room, same, size)

module _ (old : ReplayerContents) (small : old.number < word_end) (few : old.births < word_end) where
  -- a mutator comes
  pub attaches : (new : PlainContents) (reply : Reply) (hint : Hint) → new.origin ≡ old.heap.origin → AreApartIn old.heap → AreApartIn new → IsStep (StandsFor old.heap) Attach reply (StandsFor new)
      → IsReplayed old Attach reply hint (record old { heap = new })
  attaches new reply hint same apart apart' steps start run f =
      let x = steps (heap_after start run) f.stands in
      let births : x.0.births ≡ (heap_after start run).births = attach_births (heap_after start run) x.1 in
      let known = f.births in (
        goes_on run Attach reply x.0,
        record {
          line = LineOf.happens x.1;
          place = λ slot into words kind is done. absurd (cc);
          finished = λ n which is. absurd (cc);
          collected = λ n which is. absurd (cc);
          births = omega arith;
        },
        record {
          stands = x.2;
          phase = f.phase;
          needs = f.needs;
          number = sym (ap (λ k. (k + 0) % word_end) (sym f.number) ∙ same_number old.number small);
          births = f.births ∙ sym births;
          aged_room = room_as _ _ _ _ f.aged_room (attach_pages (heap_after start run) x.1) refl;
          past = subst (λ n. old_births start run ≤ n) (sym births) f.past;
          aged = subst (λ o. TellOld o x.0 old.aged (old_births start run)) (sym same) (old_tell (heap_after start run) x.0 (apart' x.0 x.2) old.heap.origin Attach reply x.1 births old.aged (old_births start run) f.aged);
          room = room_as _ _ _ _ f.room (attach_pages (heap_after start run) x.1) refl;
          touched = λ marks. subst (λ o. TellTouched o old.touched start (goes_on run Attach reply x.0)) (sym same)
              (attach_tell start run x.0 (sym f.phase ∙ marks) (apart (heap_after start run) f.stands) (apart' x.0 x.2) old.heap.origin reply old.touched x.1 (f.touched marks));
        },
      )

  -- a call of a mutator that grants no request
  pub calls : (new : PlainContents) (need : Bool) (flags : List Bool) (slot : ℕ) (call : Call) (reply : Reply) (hint : Hint) → new.origin ≡ old.heap.origin → AreApartIn old.heap → AreApartIn new → (IsGrant call reply → ⊥)
      → IsStep (StandsFor old.heap) (Mutator slot call) reply (StandsFor new) → need ≡ needs_full_after (Mutator slot call) reply old.needs_full → length flags ≡ length old.touched
      → (old.marking ≡ true → FlagsBrought new slot call old.touched flags) → IsReplayed old (Mutator slot call) reply hint (record old { heap = new; needs_full = need; touched = flags })
  calls new need flags slot call reply hint same apart apart' none steps needed size brought start run f =
      let x = steps (heap_after start run) f.stands in
      let births : x.0.births ≡ (heap_after start run).births = calls_births (heap_after start run) slot call reply x.0 x.1 none in
      let known = f.births in (
        goes_on run (Mutator slot call) reply x.0,
        record {
          line = LineOf.happens x.1;
          place = λ at into words kind is done. absurd (none (into, words, kind, cc, done));
          finished = λ n which is. absurd (cc);
          collected = λ n which is. absurd (cc);
          births = omega arith;
        },
        record {
          stands = x.2;
          phase = f.phase;
          needs = needed ∙ ap (needs_full_after (Mutator slot call) reply) f.needs;
          number = sym (ap (λ k. (k + 0) % word_end) (sym f.number) ∙ same_number old.number small);
          births = f.births ∙ sym births;
          aged_room = room_as _ _ _ _ f.aged_room (calls_pages (heap_after start run) slot call x.1) refl;
          past = subst (λ n. old_births start run ≤ n) (sym births) f.past;
          aged = subst (λ o. TellOld o x.0 old.aged (old_births start run)) (sym same) (old_tell (heap_after start run) x.0 (apart' x.0 x.2) old.heap.origin (Mutator slot call) reply x.1 births old.aged (old_births start run) f.aged);
          room = room_as _ _ _ _ f.room (calls_pages (heap_after start run) slot call x.1) size;
          touched = λ marks. call_tell start run x.0 (sym f.phase ∙ marks) (apart (heap_after start run) f.stands) (apart' x.0 x.2) new x.2 old.touched flags
              (room_as _ _ _ _ f.room (sym x.2.pages ∙ calls_pages (heap_after start run) slot call x.1) refl) (subst (λ o. TellTouched o old.touched start run) (sym same) (f.touched marks)) slot call reply x.1 none (brought marks);
        },
      )

  -- a granted request
  module _ (slot into words base : ℕ) (kind : Kind) where
    -- the heap after one is followed, by what came to it
    pub follows_grant : (new : PlainContents) (flags aged : List Bool) → new.origin ≡ old.heap.origin → old.births + 1 < word_end → length flags ≡ length old.touched → (old.marking ≡ true → FlagsLed new base old.touched flags) → FlagUnset new base old.aged aged
        → (start : Start) (run : Run) → Follows old start run → (s' : Heap) → StandsFor new s' → HasApartObjects (heap_after start run) → HasApartObjects s' → s'.births ≡ (heap_after start run).births + 1 → s'.pages ≡ (heap_after start run).pages
        → ((q : ℕ) (p : Object) → HasObject s' q p → IsOldOrNew (heap_after start run) q p) → Gains (heap_after start run) s' (HasNewborn (heap_after start run) s')
        → ((v w : ℕ) → HasNewborn (heap_after start run) s' v → HasNewborn (heap_after start run) s' w → v ≡ w) → IsBornAt (heap_after start run) base s'
        → Follows (record old { heap = new; births = old.births + 1; touched = flags; aged = aged }) start (goes_on run (Mutator slot (Alloc into words kind)) Done s')
    follows_grant new flags aged same room size led unset start run f s' stands d d' births pages split gain one born = record {
      stands = stands;
      phase = f.phase;
      needs = f.needs;
      number = sym (ap (λ k. (k + 0) % word_end) (sym f.number) ∙ same_number old.number small);
      births = ap (λ k. k + 1) f.births ∙ sym births;
      aged_room = room_as _ _ _ _ f.aged_room pages unset.size;
      past = subst (λ n. old_births start run ≤ n) (sym births) (let past = f.past in omega arith);
      aged = new_tell (heap_after start run) s' d' split births base born new stands old.aged aged unset (old_births start run) f.past (subst (λ o. TellOld o (heap_after start run) old.aged (old_births start run)) (sym same) f.aged);
      room = room_as _ _ _ _ f.room pages size;
      touched = λ marks. grant_tell start run s' (sym f.phase ∙ marks) d d' new stands old.touched flags (room_as _ _ _ _ f.room (sym stands.pages ∙ pages) refl) (subst (λ o. TellTouched o old.touched start run) (sym same) (f.touched marks)) slot into words base kind gain one born (led marks);
    }

    pub grants : (new : PlainContents) (flags aged : List Bool) → new.origin ≡ old.heap.origin → AreApartIn old.heap → AreApartIn new → IsAllocatedAt old.heap slot into words kind base new → old.births + 1 < word_end
        → length flags ≡ length old.touched → (old.marking ≡ true → FlagsLed new base old.touched flags) → FlagUnset new base old.aged aged
        → IsReplayed old (Mutator slot (Alloc into words kind)) Done (Place base) (record old { heap = new; births = old.births + 1; touched = flags; aged = aged })
    grants new flags aged same apart apart' steps room size led unset start run f =
        let x = steps (heap_after start run) f.stands in
        let births : x.0.births ≡ (heap_after start run).births + 1 = call_birth (heap_after start run) slot into words kind x.1 in
        let d = apart (heap_after start run) f.stands in
        let d' = apart' x.0 x.3 in
        let known = f.births in (
          goes_on run (Mutator slot (Alloc into words kind)) Done x.0,
          record {
            line = LineOf.happens x.1;
            place = λ at k n q is done. x.2;
            finished = λ n which is. absurd (cc);
            collected = λ n which is. absurd (cc);
            births = omega arith;
          },
          follows_grant new flags aged same room size led unset start run f x.0 x.3 d d' births (calls_pages (heap_after start run) slot (Alloc into words kind) x.1)
              (step_births (heap_after start run) (Mutator slot (Alloc into words kind)) Done x.0 x.1) (calls_gain (heap_after start run) slot (Alloc into words kind) Done x.0 d' x.1)
              (calls_newborn (heap_after start run) d slot into words kind x.1) x.2,
        )

  -- no request is granted where births are at their end
  pub no_birth : (slot into words : ℕ) (kind : Kind) (hint : Hint) → word_end ≤ old.births + 1 → IsNoReplay old (Mutator slot (Alloc into words kind)) Done hint
  no_birth slot into words kind hint most start run next f r = stuck r.line r.births
    where
      stuck : {to : Run} → LineOf start run (Mutator slot (Alloc into words kind)) Done to → (heap_after start to).births < word_end → ⊥
      stuck (LineOf.happens {s' = s'} happens) small =
          let births : s'.births ≡ (heap_after start run).births + 1 = call_birth (heap_after start run) slot into words kind happens in
          let known = f.births in omega arith

  -- a command that is refused by the phase
  pub refuses : (event : Event) (hint : Hint) → IsWrongPhase old.marking event → IsReplayed old event (Refused WrongPhase) hint old
  refuses event hint wrong start run f = (
    run,
    record {
      line = LineOf.refused (subst (λ b. IsWrongPhase b event) f.phase wrong);
      place = λ slot into words kind is done. absurd (cc);
      finished = λ n which is. absurd (cc);
      collected = λ n which is. absurd (cc);
      births = let known = f.births in omega arith;
    },
    f,
  )

  -- a command that leaves the run as it is
  stays : (event : Event) (reply : Reply) (hint : Hint) → ((slot : ℕ) (call : Call) → event ≡ Mutator slot call → ⊥) → ((event ≡ Finish) ⊎ (event ≡ Collect) → ⊥)
      → ((start : Start) (run : Run) → Follows old start run → LineOf start run event reply run) → IsReplayed old event reply hint old
  stays event reply hint other small_step line start run f = (
    run,
    record {
      line = line start run f;
      place = λ slot into words kind is done. absurd (other slot (Alloc into words kind) is);
      finished = λ n which is. absurd (small_step (inl which));
      collected = λ n which is. absurd (small_step (inr which));
      births = let known = f.births in omega arith;
    },
    f,
  )

  pub roots_stay : (hint : Hint) → old.marking ≡ true → IsReplayed old Roots Done hint old
  roots_stay hint m = stays Roots Done hint (λ slot call e. cc) (λ w. ⊎_elim (λ e. cc) (λ e. cc) w) (λ start run f. LineOf.roots (sym f.phase ∙ m))

  pub mark_stays : (most n : ℕ) (hint : Hint) → old.marking ≡ true → n ≤ most → IsReplayed old (Mark most) (Count n) hint old
  mark_stays most n hint m few_words = stays (Mark most) (Count n) hint (λ slot call e. cc) (λ w. ⊎_elim (λ e. cc) (λ e. cc) w) (λ start run f. LineOf.mark (sym f.phase ∙ m) few_words)

  pub retrace_stays : (n : ℕ) (hint : Hint) → old.marking ≡ true → n ≤ 1 → IsReplayed old Retrace (Count n) hint old
  retrace_stays n hint m one = stays Retrace (Count n) hint (λ slot call e. cc) (λ w. ⊎_elim (λ e. cc) (λ e. cc) w) (λ start run f. LineOf.retrace (sym f.phase ∙ m) one)

  pub sweep_stays : (n : ℕ) (hint : Hint) → n ≤ 1 → IsReplayed old Sweep (Count n) hint old
  sweep_stays n hint one = stays Sweep (Count n) hint (λ slot call e. cc) (λ w. ⊎_elim (λ e. cc) (λ e. cc) w) (λ start run f. LineOf.sweep one)

  pub number_stays : (n : ℕ) (hint : Hint) → n ≡ old.number → IsReplayed old Number (Count n) hint old
  number_stays n hint is = stays Number (Count n) hint (λ slot call e. cc) (λ w. ⊎_elim (λ e. cc) (λ e. cc) w)
      (λ start run f. subst (λ k. LineOf start run Number (Count k) run) (sym (is ∙ f.number)) LineOf.number)

  -- a cycle begins
  pub begins : (flags : List Bool) (hint : Hint) → AreApartIn old.heap → length flags ≡ length old.touched → FlagsReached old.heap flags → old.marking ≡ false
      → IsReplayed old Begin Done hint (record old { marking = true; needs_full = false; touched = flags })
  begins flags hint apart size reached m start run f = (
    goes_on run Begin Done (heap_after start run),
    record {
      line = LineOf.happens (sym f.phase ∙ m, (refl, refl));
      place = λ slot into words kind is done. absurd (cc);
      finished = λ n which is. absurd (cc);
      collected = λ n which is. absurd (cc);
      births = let known = f.births in omega arith;
    },
    record {
      stands = f.stands;
      phase = refl;
      needs = refl;
      number = sym (ap (λ k. (k + 0) % word_end) (sym f.number) ∙ same_number old.number small);
      births = f.births;
      room = room_as _ _ _ _ f.room refl size;
      touched = λ marks. begin_tell start run old.heap f.stands (apart (heap_after start run) f.stands) flags (room_as _ _ _ _ f.room (sym f.stands.pages) size) reached;
      aged_room = f.aged_room;
      past = f.past;
      aged = f.aged;
    },
  )

  -- a cycle begins with the marks of the last one
  pub begins_partial : (flags : List Bool) (hint : Hint) → AreApartIn old.heap → length flags ≡ length old.touched → FlagsClosure old.heap old.aged flags → old.marking ≡ false → old.needs_full ≡ false
      → IsReplayed old BeginPartial Done hint (record old { marking = true; touched = flags })
  begins_partial flags hint apart size closure m none start run f = (
    goes_on run BeginPartial Done (heap_after start run),
    record {
      line = LineOf.happens (sym f.phase ∙ m, sym f.needs ∙ none, (refl, refl));
      place = λ slot into words kind is done. absurd (cc);
      finished = λ n which is. absurd (cc);
      collected = λ n which is. absurd (cc);
      births = let known = f.births in omega arith;
    },
    record {
      stands = f.stands;
      phase = refl;
      needs = f.needs;
      number = sym (ap (λ k. (k + 0) % word_end) (sym f.number) ∙ same_number old.number small);
      births = f.births;
      room = room_as _ _ _ _ f.room refl size;
      touched = λ marks.
          partial_tell start run old.heap f.stands (apart (heap_after start run) f.stands) old.aged flags f.aged (room_as _ _ _ _ f.room (sym f.stands.pages) size) closure;
      aged_room = f.aged_room;
      past = f.past;
      aged = f.aged;
    },
  )

  -- a full cycle has to come first
  pub needs_stay : (hint : Hint) → old.marking ≡ false → old.needs_full ≡ true → IsReplayed old BeginPartial (Refused NeedsFull) hint old
  needs_stay hint m need = stays BeginPartial (Refused NeedsFull) hint (λ slot call e. cc) (λ w. ⊎_elim (λ e. cc) (λ e. cc) w) (λ start run f. LineOf.needs (sym f.phase ∙ m) (sym f.needs ∙ need))

  -- what else no reply is
  module _ (reply : Reply) (hint : Hint) where
    pub no_finish : (old.marking ≡ false → reply ≡ Refused WrongPhase → ⊥) → (old.marking ≡ true → (s : Heap) → StandsFor old.heap s → (n : ℕ) (s' : Heap) → reply ≡ Count n → NamesBases hint n s s' → (theirs : List ℕ) → s' ≡ without s theirs → NamesUnflagged old.heap.origin s old.touched theirs → ⊥)
        → IsNoReplay old Finish reply hint
    no_finish wrong none start run next f r = stuck reply refl r.line r.finished
      where
        stuck : (q : Reply) → q ≡ reply → {to : Run} → LineOf start run Finish q to
            → ((n : ℕ) → Finish ≡ Finish → reply ≡ Count n → NamesBases hint n (heap_after start run) (heap_after start to)) → ⊥
        stuck q is (LineOf.happens {s' = s'} happens) names =
            let takes = happens.1.takes in
            let n : ℕ = length happens.1.bases in
            none (f.phase ∙ happens.0) (heap_after start run) f.stands n s' (sym is ∙ takes.number) (names n refl (sym is ∙ takes.number)) happens.1.bases takes.after
            (λ base o has out. happens.1.untouched base o has (λ t. out ((f.touched (f.phase ∙ happens.0) base o has).1 t)))
        stuck q is (LineOf.refused phase) names = wrong (f.phase ∙ phase) (sym is)

    pub no_collect : ((s : Heap) → StandsFor old.heap s → (n : ℕ) (s' : Heap) → reply ≡ Count n → MayNameBases hint n s s' → CollectsFully s reply s' → ⊥) → IsNoReplay old Collect reply hint
    no_collect none start run next f r = stuck reply refl r.line r.collected
      where
        stuck : (q : Reply) → q ≡ reply → {to : Run} → LineOf start run Collect q to
            → ((n : ℕ) → Collect ≡ Collect → reply ≡ Count n → MayNameBases hint n (heap_after start run) (heap_after start to)) → ⊥
        stuck q is (LineOf.happens {s' = s'} happens) names =
            let n : ℕ = length happens.bases in
            let counts : reply ≡ Count n = sym is ∙ happens.takes.number in
            none (heap_after start run) f.stands n s' counts (names n refl counts) (subst (λ x. CollectsFully (heap_after start run) x s') is happens)
        stuck q is (LineOf.refused phase) names = phase
