-- How a run goes on, as a replayer follows it, where objects may lie anywhere.
use Rattle.std.proofs.Common.{◌≡◌, ◌⊎◌, ℕ, ◌+◌, ◌%◌, ◌<◌, ◌≤◌, true, List, Bool, length, replicate, refl, sym, ap, ◌∙◌, subst, arith, inl, inr, ⊎_elim}
use Rattle.std.specs.Prelude.{IfSome, IfNone, Option, Some, None, Contains, slice_get, slice_set, slice_index}
use Rattle.std.proofs.lemmas.Bool.{cases_lt}
use Rattle.std.proofs.lemmas.Option.{same_Some, slice_get_within, slice_get-get_or}
use Rattle.std.proofs.lemmas.List.{length-set, length-replicate, get_or-set_same, get_or-replicate, get_or_past}
use Rattle.words.specs.declared.class.Kind.{Kind}
use Rattle.heap_spec.specs.declared.call.Call.TheVariants.{Set, Alloc}
use Rattle.heap_spec.specs.declared.event.Event.{Event}
use Rattle.heap_spec.specs.declared.event.Event.TheVariants.{Mutator}
use Rattle.heap_spec.specs.declared.reply.Reply.{Reply}
use Rattle.heap_spec.specs.declared.reply.Reply.TheVariants.{Done}
use Rattle.heap_spec.specs.Layout.{word_end, PointsInto}
use Rattle.heap_spec.specs.Heap.{Heap, Object, Mutator as HeapMutator, HasObject, IsAttached, PointsIntoNothing}
use Rattle.heap_spec.specs.Laws.{IsOldOrNew}
use Rattle.heap_spec.specs.Runs.{Run, IsBornSince, Touched, heap_after, goes_on}
use Rattle.heap_spec.specs.Steps.{Acts, acts, with_register}
use Rattle.heap_spec.specs.Touching.{HasApartObjects, HasNewborn, StandsIn}
use Rattle.heap_spec.proofs.Objects.{at_cases, with_at-same, same_object}
use Rattle.heap_spec.proofs.Gaining.{Gains, calls_gain}
use Rattle.heap_spec.proofs.Touching.{flags_tell, marking_closed, stands_one}
use Rattle.plain_heap.specs.PlainContents.{PlainContents}
use Rattle.plain_heap.specs.Standing.{StandsFor}
use Rattle.plain_heap.specs.Anywhere.{Requests, Grants, by, with_words}
use Rattle.plain_heap.specs.Answering.{IsAllocatedAnywhere, CantAllocateAnywhere, MayRefuse, CantRefuse, IsBornOf}
use Rattle.plain_heap.specs.Flags.{IsFlagged, FlagsLed}
use Rattle.plain_heap.specs.Aging.{FlagUnset}
use Rattle.replayer.specs.declared.hint.Hint.{Hint}
use Rattle.replayer.specs.declared.hint.Hint.TheVariants.{Nothing, Place, Forgot}
use Rattle.replayer.specs.ReplayerContents.{ReplayerContents, Follows}
use Rattle.replayer.specs.Replays.{IsReplayed, IsNoReplay}
use Rattle.replayer.specs.Anywhere.{IsNoRequest, LineAnywhere, NamesObject, IsReplayAnywhere, IsReplayedAnywhere, IsNoReplayAnywhere, ExpectsAnywhere, MayBeOpenAnywhere}
use Rattle.replayer.specs.Expecting.{Expects, MayBeOpen}
use Rattle.heap_spec.specs.Transcripts.{LineOf}
use Rattle.replayer.proofs.Steps.{AreApartIn, same_number, follows_grant}

-- a mutator with a word in a register stands at its slot
now_there : (s : Heap) (slot : ℕ) (m k : HeapMutator) → IsAttached s slot m → slice_get (slice_set s.mutators slot (Some k)) slot ≡ Some (Some k)
now_there s slot m k at =
    let lt : slot < length s.mutators = slice_get_within s.mutators slot (Some m) at in
    let size : length (slice_set s.mutators slot (Some k)) ≡ length s.mutators = length-set s.mutators slot (Some k) in
    slice_get-get_or (slice_set s.mutators slot (Some k)) slot None (omega arith) ∙ ap Some (get_or-set_same s.mutators slot (Some k) None lt)

-- a register after it was written has the word, or there is no such register
written : (regs : List ℕ) (d a : ℕ) → (slice_index (slice_set regs d a) d ≡ a) ⊎ (slice_index (slice_set regs d a) d ≡ 0)
written regs d a =
    let size : length (slice_set regs d a) ≡ length regs = length-set regs d a in
    ⊎_elim (λ lt. inl (get_or-set_same regs d a 0 lt)) (λ past. inr (get_or_past (slice_set regs d a) d 0 (omega arith))) (cases_lt d (length regs))

zeros : (n v : ℕ) → Contains (replicate n 0) v → 0 ≡ v
zeros n v among = let size : length {A = ℕ} (replicate n 0) ≡ n = length-replicate {A = ℕ} n 0 in let lt = among.1 in sym (get_or-replicate n among.0 0 v (omega arith)) ∙ among.2

-- the heap after a granted request
module _ (s : Heap) (slot : ℕ) (m : HeapMutator) (at : IsAttached s slot m) (d a n : ℕ) (kind : Kind) (h : HasApartObjects s) (h' : HasApartObjects (with_register (with_words s a kind n) slot m d a)) where
  -- an object of it is the new one, or was there before
  split : (q : ℕ) (p : Object) → HasObject (with_register (with_words s a kind n) slot m d a) q p
      → ((q ≡ a) × (record { birth = s.births + 1; kind = kind; words = replicate n 0 } ≡ p)) ⊎ HasObject s q p
  split q p has = ⊎_elim (λ here. inl (here.0, same_Some _ p here.1)) (λ other. inr other.1) (at_cases s.objects a _ q (Some p) has)

  pub old_or_new : (q : ℕ) (p : Object) → HasObject (with_register (with_words s a kind n) slot m d a) q p → IsOldOrNew s q p
  old_or_new q p has = ⊎_elim (λ here. inr (let birth : s.births + 1 ≡ p.birth = ap (λ (x : Object). x.birth) here.1 in omega arith)) (λ old. inl (p, old, same_object p)) (split q p has)

  newborn_here : (w : ℕ) → HasNewborn s (with_register (with_words s a kind n) slot m d a) w → w ≡ a
  newborn_here w x = ⊎_elim (λ here. here.0) (λ old. let few = h.born w x.0 old in let more = x.2 in absurd (omega arith)) (split w x.0 x.1)

  pub one_newborn : (v w : ℕ) → HasNewborn s (with_register (with_words s a kind n) slot m d a) v → HasNewborn s (with_register (with_words s a kind n) slot m d a) w → v ≡ w
  one_newborn v w x y = newborn_here v x ∙ sym (newborn_here w y)

  newborn : HasNewborn s (with_register (with_words s a kind n) slot m d a) a
  newborn = (record { birth = s.births + 1; kind = kind; words = replicate n 0 }, with_at-same s.objects a _ a refl, omega arith)

  -- what a root word of it that was none points into
  in_root : (y : ℕ) → StandsIn (with_register (with_words s a kind n) slot m d a) slot d y
      → HasNewborn s (with_register (with_words s a kind n) slot m d a) y ⊎ PointsIntoNothing (with_register (with_words s a kind n) slot m d a) y
  in_root y x =
      let k : HeapMutator = record m { registers = slice_set m.registers d a } in
      let same : y ≡ slice_index (slice_set m.registers d a) d = stands_one (with_register (with_words s a kind n) slot m d a) slot d y _ x (k, now_there s slot m k at, refl) in
      ⊎_elim
      (λ is. inl (subst (HasNewborn s (with_register (with_words s a kind n) slot m d a)) (sym (same ∙ is)) newborn))
      (λ is. inr (subst (PointsIntoNothing (with_register (with_words s a kind n) slot m d a)) (sym (same ∙ is)) h'.zero))
      (written m.registers d a)

  pub gains : Gains s (with_register (with_words s a kind n) slot m d a) (HasNewborn s (with_register (with_words s a kind n) slot m d a))
  gains = record {
    roots = λ y has. ⊎_elim (λ old. inl old) (λ rest. inr (⊎_elim (in_root y) (λ none. inr none) rest))
        ((calls_gain (with_words s a kind n) slot (Set d a) Done (with_register (with_words s a kind n) slot m d a) h' (acts at Acts.set)).roots y has);
    objects = λ q p has. ⊎_elim
        (λ here.
        let birth : s.births + 1 ≡ p.birth = ap (λ (x : Object). x.birth) here.1 in
        let some : 0 < length p.words = h'.some q p has in
        inr (record {
          born = omega arith;
          words = λ v among b r reads.
              let e : 0 ≡ v = zeros n v (subst (λ l. Contains l v) (ap (λ (x : Object). x.words) (sym here.1)) among) in
              h'.zero b r (reads.0, subst (λ k. PointsInto k b (length r.words)) (sym e) reads.1);
          at = q;
          among = (p, has, omega arith);
          reads = (has, (omega arith, omega arith));
        }))
        (λ old. inl (record { was = p; there = old; same = same_object p; words = λ v among. inl among }))
        (split q p has);
    held = λ w x. inr (λ b r reads.
        let some = h'.some w x.0 x.1 in
        let same : b ≡ w = h'.one w b w r x.0 reads (x.1, (omega arith, omega arith)) in
        subst (λ (p : Object). IsBornSince s p.birth) (same_Some x.0 r (sym x.1 ∙ ap (λ k. (with_register (with_words s a kind n) slot m d a).objects k) (sym same) ∙ reads.0)) x.2);
  }

-- nothing comes to a heap that stays
stays : (s : Heap) → Gains s s (λ w. ⊥)
stays s = record {
  roots = λ y has. inl has;
  objects = λ q p has. inl (record { was = p; there = has; same = same_object p; words = λ v among. inl among });
  held = λ w none. absurd none;
}

module _ (old : ReplayerContents) where
  -- an event that is no request
  pub as_ever : (event : Event) (reply : Reply) (hint : Hint) (n : ℕ) (new : ReplayerContents) → IsNoRequest event → IsReplayed old event reply hint new → IsReplayedAnywhere old event reply hint n new
  as_ever event reply hint n new free replayed start run f =
      let x = replayed start run f in (
        x.0,
        record { line = LineAnywhere.other free x.1.line; place = λ slot into words kind is done. absurd (free slot into words kind is); finished = x.1.finished; collected = x.1.collected; births = x.1.births },
        x.2,
      )

  pub never : (event : Event) (reply : Reply) (hint : Hint) (n : ℕ) → IsNoRequest event → IsNoReplay old event reply hint → IsNoReplayAnywhere old event reply hint n
  never event reply hint n free none start run next f r = stuck event refl refl r.line
    where
      stuck : (e : Event) → e ≡ event → {to : Run} → to ≡ next → LineAnywhere old.heap.origin start run e reply to → ⊥
      stuck e is ends (LineAnywhere.requested {slot = slot} {into = into} {words = words} {kind = kind} asks) = free slot into words kind (sym is)
      stuck e is {to} ends (LineAnywhere.other other line) =
          none start run next f (record {
            line = subst (λ to. LineOf start run event reply to) ends (subst (λ x. LineOf start run x reply to) is line);
            place = λ slot into words kind asks done. absurd (free slot into words kind asks);
            finished = r.finished;
            collected = r.collected;
            births = r.births;
          })

-- the one reply to an event that is no request
expects_ever : (r : ReplayerContents) (event : Event) (reply : Reply) → IsNoRequest event → Expects r event reply → ExpectsAnywhere r event reply
expects_ever r event reply free expects start run f = record {
  may = let x = (expects start run f).may in (x.0, LineAnywhere.other free x.1);
  only = λ q next ne line. stuck event refl q ne line;
}
  where
    stuck : (e : Event) → e ≡ event → {to : Run} (q : Reply) → (reply ≡ q → ⊥) → LineAnywhere r.heap.origin start run e q to → ⊥
    stuck e is q ne (LineAnywhere.requested {slot = slot} {into = into} {words = words} {kind = kind} asks) = free slot into words kind (sym is)
    stuck e is {to} q ne (LineAnywhere.other other line) = (expects start run f).only q to ne (subst (λ x. LineOf start run x q to) is line)

pub expects_if : (r : ReplayerContents) (event : Event) (found : Option Reply) → IsNoRequest event → IfSome found (λ reply. Expects r event reply) → IfSome found (λ reply. ExpectsAnywhere r event reply)
expects_if r event None free expects = tt
expects_if r event (Some reply) free expects = expects_ever r event reply free expects

-- where none is told the reply may be open there too
pub open_if : (marking : Bool) (event : Event) (found : Option Reply) → IfNone found (MayBeOpen marking event) → IfNone found (MayBeOpenAnywhere marking event)
open_if marking event None may = λ free. may
open_if marking event (Some reply) may = tt

module _ (old : ReplayerContents) (small : old.number < word_end) (few : old.births < word_end) where
  module _ (slot into words : ℕ) (kind : Kind) where
    -- a granted request
    pub grants_anywhere : (base n : ℕ) (new : PlainContents) (flags aged : List Bool) → new.origin ≡ old.heap.origin → AreApartIn old.heap → AreApartIn new → IsAllocatedAnywhere old.heap slot into words kind base n new → old.births + 1 < word_end
        → length flags ≡ length old.touched → (old.marking ≡ true → FlagsLed new base old.touched flags) → FlagUnset new base old.aged aged
        → IsReplayedAnywhere old (Mutator slot (Alloc into words kind)) Done (Place base) n (record old { heap = new; births = old.births + 1; touched = flags; aged = aged })
    grants_anywhere base n new flags aged same apart apart' steps room size led unset start run f =
        let x = steps (heap_after start run) f.stands in
        granted x.0 x.1 x.2 x.3
      where
        by_act : (m : HeapMutator) (s' : Heap) → IsAttached (heap_after start run) slot m → Grants (heap_after start run) old.heap.origin slot m into words kind Done s' → IsBornOf (heap_after start run) base n s' → StandsFor new s'
            → (next : Run) × IsReplayAnywhere old.heap.origin (Place base) n start run (Mutator slot (Alloc into words kind)) Done next × Follows (record old { heap = new; births = old.births + 1; touched = flags; aged = aged }) start next
        by_act m s' at (Grants.granted a l many has) born stands =
            let known = f.births in
            let d = apart (heap_after start run) f.stands in
            let d' = apart' s' stands in (
              goes_on run (Mutator slot (Alloc into words kind)) Done s',
              record {
                line = LineAnywhere.requested (by at (Grants.granted a l many has));
                place = λ k i w q is done. born;
                finished = λ k which is. absurd (cc);
                collected = λ k which is. absurd (cc);
                births = omega arith;
              },
              follows_grant old small few slot into words base kind new flags aged same room size led unset start run f s' stands d d' refl refl
                  (old_or_new (heap_after start run) slot m at into a l kind d d') (gains (heap_after start run) slot m at into a l kind d d') (one_newborn (heap_after start run) slot m at into a l kind d d') born.0,
            )

        granted : (s' : Heap) → Requests (heap_after start run) old.heap.origin slot into words kind Done s' → IsBornOf (heap_after start run) base n s' → StandsFor new s'
            → (next : Run) × IsReplayAnywhere old.heap.origin (Place base) n start run (Mutator slot (Alloc into words kind)) Done next × Follows (record old { heap = new; births = old.births + 1; touched = flags; aged = aged }) start next
        granted s' (by {m = m} at act) born stands = by_act m s' at act born stands

    pub no_grant_anywhere : (base n : ℕ) → CantAllocateAnywhere old.heap slot into words kind base n → IsNoReplayAnywhere old (Mutator slot (Alloc into words kind)) Done (Place base) n
    no_grant_anywhere base n none start run next f r = stuck r.line (r.place slot into words kind refl refl)
      where
        stuck : {to : Run} → LineAnywhere old.heap.origin start run (Mutator slot (Alloc into words kind)) Done to → IsBornOf (heap_after start run) base n (heap_after start to) → ⊥
        stuck (LineAnywhere.requested {s' = s'} asks) born = none (heap_after start run) f.stands s' asks born
        stuck (LineAnywhere.other free line) born = free slot into words kind refl

    no_name : (n : ℕ) (hint : Hint) → ((base : ℕ) → hint ≡ Place base → ⊥) → (s s' : Heap) → NamesObject hint n s s' → ⊥
    no_name n Nothing ne s s' names = names
    no_name n (Place base) ne s s' names = ne base refl
    no_name n (Forgot bases) ne s s' names = names

    pub no_place_anywhere : (hint : Hint) (n : ℕ) → ((base : ℕ) → hint ≡ Place base → ⊥) → IsNoReplayAnywhere old (Mutator slot (Alloc into words kind)) Done hint n
    no_place_anywhere hint n ne start run next f r = no_name n hint ne (heap_after start run) (heap_after start next) (r.place slot into words kind refl refl)

    pub no_birth_anywhere : (hint : Hint) (n : ℕ) → word_end ≤ old.births + 1 → IsNoReplayAnywhere old (Mutator slot (Alloc into words kind)) Done hint n
    no_birth_anywhere hint n most start run next f r = stuck r.line r.births
      where
        act_birth : (m : HeapMutator) (s' : Heap) → Grants (heap_after start run) old.heap.origin slot m into words kind Done s' → s'.births ≡ (heap_after start run).births + 1
        act_birth m s' (Grants.granted a l many has) = refl

        birth : {s' : Heap} → Requests (heap_after start run) old.heap.origin slot into words kind Done s' → s'.births ≡ (heap_after start run).births + 1
        birth {s'} (by {m = m} at act) = act_birth m s' act

        stuck : {to : Run} → LineAnywhere old.heap.origin start run (Mutator slot (Alloc into words kind)) Done to → (heap_after start to).births < word_end → ⊥
        stuck (LineAnywhere.requested {s' = s'} asks) less =
            let births : s'.births ≡ (heap_after start run).births + 1 = birth asks in
            let known = f.births in omega arith
        stuck (LineAnywhere.other free line) less = free slot into words kind refl

    -- a request that isn't granted
    pub refuses_anywhere : (reply : Reply) (hint : Hint) (n : ℕ) → AreApartIn old.heap → (reply ≡ Done → ⊥) → MayRefuse old.heap slot words reply → IsReplayedAnywhere old (Mutator slot (Alloc into words kind)) reply hint n old
    refuses_anywhere reply hint n apart fair may start run f =
        let s : Heap = heap_after start run in
        let d = apart (heap_after start run) f.stands in
        let known = f.births in (
          goes_on run (Mutator slot (Alloc into words kind)) reply (heap_after start run),
          record {
            line = LineAnywhere.requested (may into kind (heap_after start run) f.stands);
            place = λ k i w q is done. absurd (fair done);
            finished = λ k which is. absurd (cc);
            collected = λ k which is. absurd (cc);
            births = omega arith;
          },
          record {
            stands = f.stands;
            phase = f.phase;
            needs = f.needs;
            number = sym (ap (λ k. (k + 0) % word_end) (sym f.number) ∙ same_number old.number small);
            births = f.births;
            aged_room = f.aged_room;
            past = f.past;
            aged = f.aged;
            room = f.room;
            touched = λ marks.
                flags_tell (heap_after start run) (heap_after start run) (Touched start run) (λ w. ⊥) d d (stays (heap_after start run)) (marking_closed start run (sym f.phase ∙ marks) d)
                (IsFlagged old.heap.origin old.touched) (IsFlagged old.heap.origin old.touched) (f.touched marks) (λ b p has is. inl is) (λ b is. is) (λ w none. absurd none) (λ v w none. absurd none);
          },
        )

    pub no_refusal_anywhere : (reply : Reply) (hint : Hint) (n : ℕ) → (reply ≡ Done → ⊥) → CantRefuse old.heap slot words reply → IsNoReplayAnywhere old (Mutator slot (Alloc into words kind)) reply hint n
    no_refusal_anywhere reply hint n fair cant start run next f r = stuck reply refl r.line
      where
        stuck : (q : Reply) → q ≡ reply → {to : Run} → LineAnywhere old.heap.origin start run (Mutator slot (Alloc into words kind)) q to → ⊥
        stuck q is (LineAnywhere.requested {s' = s'} asks) = cant into kind (heap_after start run) s' f.stands fair (subst (λ x. Requests (heap_after start run) old.heap.origin slot into words kind x s') is asks)
        stuck q is (LineAnywhere.other free line) = free slot into words kind refl
