-- How a core follows a run.
use Rattle.std.proofs.Common.{Result, Ok, Err, ◌++◌, ◌≡◌, ℕ, ◌+◌, ◌%◌, ◌<◌, ◌≤◌, ◌⊎◌, true, false, List, length, [], ◌∷◌, Bool, Some, None, refl, sym, ap, ◌∙◌, subst, inl, inr, ⊎_elim, arith}
use Rattle.std.specs.Prelude.{⊤}
use Rattle.words.specs.declared.refusal.Refusal.{Refusal}
use Rattle.words.specs.declared.refusal.Refusal.TheVariants.{WrongPhase}
use Rattle.words.specs.Layout.{granule}
use Rattle.heap_spec.specs.Replies.{done_reply, count_reply}
use Rattle.roots.specs.Roots.{root_words_of}
use Rattle.std.proofs.lemmas.Bool.{false≢true}
use Rattle.heap_spec.specs.declared.event.Event.{Event}
use Rattle.heap_spec.specs.declared.event.Event.TheVariants.{Attach, Mutator, Begin, BeginPartial, Roots, Mark, Retrace, Finish, Sweep, Collect, Number}
use Rattle.heap_spec.specs.declared.reply.Reply.{Reply}
use Rattle.heap_spec.specs.declared.reply.Reply.TheVariants.{Done, Count, Refused}
use Rattle.heap_spec.specs.Layout.{word_end}
use Rattle.heap_spec.specs.Heap.{Heap, Object, Mutator as HeapMutator, HasObject}
use Rattle.heap_spec.specs.Closure.{Closure, IsInClosure, given}
use Rattle.heap_spec.specs.Histories.{Happens}
use Rattle.heap_spec.specs.Steps.{Step, Acts, Calls, Attaches}
use Rattle.heap_spec.specs.declared.call.Call.{Call}
use Rattle.heap_spec.specs.declared.call.Call.TheVariants.{Free}
use Rattle.words.specs.Bits.{Has}
use Rattle.heap_core.specs.MutatorCalls.{Frees}
use Rattle.heap_spec.specs.Runs.{Start, Run, Told, heap_after, is_marking, marking_after, count, counted, needs_full, needs_full_after, old_births, old_births_after, goes_on, Touched, touched_after, IsBornSince}
use Rattle.heap_spec.specs.Transcripts.{LineOf, LegalTranscript}
use Rattle.heap_spec.proofs.Births.{step_births}
use Rattle.heap_spec.proofs.Closures.{closure_mono}
use Rattle.heap_spec.proofs.Runs.{touched_closed}
use Rattle.marker.specs.Marking.{IsMarked}
use Rattle.heap_view.specs.Shows.{IsMarkedBirth}
use Rattle.heap_core.specs.CoreContents.{CoreContents, Cycle}
use Rattle.heap_core.specs.Standing.{StandsFor, keeps, objects_of}
use Rattle.block_map.specs.FoundIn.{found_in, IsLawful}
use Rattle.object_space.proofs.Kept.{kept_map}
use Rattle.heap_view.proofs.Shows.{seen}
use Rattle.heap_core.proofs.Births.{HasCountedObjects, born_apart}
use Rattle.heap_core.specs.MutatorCalls.{IsCall}
use Rattle.heap_core.specs.Collections.{IsGrantedInPhase, IsGrantedPartial, RefusesPartial, IsAlwaysGranted, BeginsCycle, BeginsPartialCycle, EndsMarking, MarksOn, ReadsRoots, TakesWords, RetracesPage, ReadsPage, EndsCycle, CollectsAll, SweepsOne}
use Rattle.heap_core.specs.Following.{Follows, IsLine, AreLines}

-- what a step is to a run
pub record IsMoment (start : Start) (run : Run) (event : Event) (reply : Reply) (s' : Heap) : Type 0 where
  pub happens : Happens start run event reply s'
  pub marking : marking_after event (is_marking start run) ≡ is_marking start run
  pub counts : counted event ≡ 0
  pub ages : old_births_after event s'.births (old_births start run) ≡ old_births start run
  pub touches : (birth : ℕ) → IsInClosure s' (λ b. Touched start run b ⊎ IsBornSince (heap_after start run) b) birth → touched_after event (old_births start run) (Touched start run) (heap_after start run) s' birth

step_moment : (start : Start) (run : Run) (event : Event) (reply : Reply) (s' : Heap) → Step (heap_after start run) event reply s' → IsMoment start run event reply s'
step_moment start run Attach reply s' step = record { happens = step; marking = refl; counts = refl; ages = refl; touches = λ b x. x }
step_moment start run (Mutator slot call) reply s' step = record { happens = step; marking = refl; counts = refl; ages = refl; touches = λ b x. x }
step_moment start run Begin reply s' step = absurd step
step_moment start run BeginPartial reply s' step = absurd step
step_moment start run Roots reply s' step = absurd step
step_moment start run (Mark n) reply s' step = absurd step
step_moment start run Retrace reply s' step = absurd step
step_moment start run Finish reply s' step = absurd step
step_moment start run Sweep reply s' step = absurd step
step_moment start run Collect reply s' step = absurd step
step_moment start run Number reply s' step = absurd step

-- no step takes births back
acts_more : (s : Heap) (slot : ℕ) (m : HeapMutator) {call : Call} {reply : Reply} {s' : Heap} → Acts s slot m call reply s' → s.births ≤ s'.births
acts_more s slot m (Acts.allocated a e room) = omega arith
acts_more s slot m _ = omega arith

calls_more : (s : Heap) (slot : ℕ) (call : Call) {reply : Reply} {s' : Heap} → Calls s slot call reply s' → s.births ≤ s'.births
calls_more s slot call (Calls.acts {m = m} at acts) = acts_more s slot m acts
calls_more s slot call (Calls.vacant none) = omega arith

attaches_more : (s : Heap) {reply : Reply} {s' : Heap} → Attaches s reply s' → s.births ≤ s'.births
attaches_more s (Attaches.attached lowest) = omega arith
attaches_more s (Attaches.no_slot none) = omega arith

births_more : (s : Heap) (event : Event) (reply : Reply) (s' : Heap) → Step s event reply s' → s.births ≤ s'.births
births_more s Attach reply s' step = attaches_more s step
births_more s (Mutator slot call) reply s' step = calls_more s slot call step
births_more s _ reply s' step = absurd step

-- whether an event is a free, and whether a reply is that it is done
abbrev is_free : Event → Bool
is_free (Mutator slot (Free r)) = true
is_free _ = false

abbrev is_done : Reply → Bool
is_done Done = true
is_done _ = false

free_flags : (event : Event) (reply : Reply) → Frees event reply → (is_free event ≡ true) × (is_done reply ≡ true)
free_flags event reply Frees.freed = (refl, refl)

not_free : (event : Event) (reply : Reply) → is_free event ≡ false → Frees event reply → ⊥
not_free event reply other f = false≢true (sym other ∙ (free_flags event reply f).0)

not_done : (event : Event) (reply : Reply) → is_done reply ≡ false → Frees event reply → ⊥
not_done event reply other f = false≢true (sym other ∙ (free_flags event reply f).1)

-- what a step is to the need of a full cycle
need_call : (slot : ℕ) (call : Call) (reply : Reply) (b now : Bool) → (Frees (Mutator slot call) reply → now ≡ true) → ((Frees (Mutator slot call) reply → ⊥) → now ≡ b) → now ≡ needs_full_after (Mutator slot call) reply b
need_call slot (Free r) Done b now freed not = freed Frees.freed
need_call slot (Free r) reply b now freed not = not (not_done (Mutator slot (Free r)) reply refl)
need_call slot call reply b now freed not = not (not_free (Mutator slot call) reply refl)

need_after : (s : Heap) (event : Event) (reply : Reply) (s' : Heap) → Step s event reply s' → (b now : Bool) → (Frees event reply → now ≡ true) → ((Frees event reply → ⊥) → now ≡ b) → now ≡ needs_full_after event reply b
need_after s Attach reply s' step b now freed not = not (not_free Attach reply refl)
need_after s (Mutator slot call) reply s' step b now freed not = need_call slot call reply b now freed not
need_after s _ reply s' step b now freed not = absurd step

none_some : {A : Type 0} (x : A) → None ≡ Some x → ⊥
none_some x e = cc

-- the objects of each heap to which a run leads that the core follows have words, and their births are counted
abbrev pub CountsObjects : CoreContents → Type 0
CountsObjects c = (start : Start) (run : Run) → Follows c start run → HasCountedObjects (heap_after start run)

pub lawful_counts : (c : CoreContents) → IsLawful c.store.states → CountsObjects c
lawful_counts c lawful start run follows = record {
  some = λ b p has.
      let map = kept_map (length c.store.states) (keeps c) (found_in c.store.states) lawful.map in
      let x = seen (objects_of c) (length c.store.states) map c.store.words (heap_after start run).objects follows.stands.store.shows.shown b p has in
      let size = x.3.size in let some = (map.placed b x.0 x.1).some in omega arith;
  born = λ b p has. (follows.stands.store.shows.born b p has).1;
}

-- A call of a mutator is a line.
module _ (old : CoreContents) (event : Event) (reply : Reply) (new : CoreContents) (counts : CountsObjects old) (call : IsCall old event reply new) (start : Start) (run : Run) (follows : Follows old start run)
    (after : Heap) (step : Step (heap_after start run) event reply after) (stands : StandsFor new after) where
  touches : old.cycle.is_marking ≡ true → (base : ℕ) (o : Object) → HasObject after base o → IsMarked new.cycle.marker base → Touched start run o.birth ⊎ ((heap_after start run).births < o.birth)
  touches is base o has marked =
      let f = stands.store.shows.shown.only base o has in
      let there = ap (objects_of new) f.2 ∙ f.1 in
      ⊎_elim
      (λ old_one. ⊎_elim
      (λ was. inl (subst (Touched start run) (sym old_one.2.birth) (follows.touched is base old_one.0 old_one.1 (subst (IsMarked old.cycle.marker) f.2 was))))
      (λ none. let g = follows.stands.store.shows.shown.only base old_one.0 old_one.1 in absurd (none_some g.0 (sym (ap (objects_of old) (sym f.2) ∙ none) ∙ g.1)))
      (call.marks f.0 there (subst (IsMarked new.cycle.marker) (sym f.2) marked)))
      (λ born. inr born)
      (step_births (heap_after start run) event reply after step base o has)

  -- the old objects are still exactly the marked ones
  aged : old.cycle.is_marking ≡ false → (base : ℕ) (o : Object) → HasObject after base o → IsMarked new.cycle.marker base → o.birth ≤ old_births start run
  aged is base o has marked =
      let f = stands.store.shows.shown.only base o has in
      let there = ap (objects_of new) f.2 ∙ f.1 in
      let now : IsMarked new.cycle.marker f.0.base = subst (IsMarked new.cycle.marker) (sym f.2) marked in
      let was = call.idle is f.0 there now in
      let before = follows.stands.store.shows.shown.kept f.0 was.0 in
      ⊎_elim
      (λ old_one. let le = follows.aged is base old_one.0 old_one.1 (subst (IsMarked old.cycle.marker) f.2 was.1) in let same = old_one.2.birth in omega arith)
      (λ born. absurd (born_apart (heap_after start run) (counts start run follows) event reply after step base o has born before.0 (subst (λ b. HasObject (heap_after start run) b before.0) f.2 before.1)))
      (step_births (heap_after start run) event reply after step base o has)

  kept : old.cycle.is_marking ≡ false → (base : ℕ) (o : Object) → HasObject after base o → o.birth ≤ old_births start run → IsMarked new.cycle.marker base
  kept is base o has before =
      let f = stands.store.shows.shown.only base o has in
      let there = ap (objects_of new) f.2 ∙ f.1 in
      ⊎_elim
      (λ old_one. let same = old_one.2.birth in
      let was = follows.kept is base old_one.0 old_one.1 (omega arith) in
      subst (IsMarked new.cycle.marker) f.2 (call.stays f.0 there (subst (IsMarked old.cycle.marker) (sym f.2) was)))
      (λ born. let past = follows.past in absurd (omega arith))
      (step_births (heap_after start run) event reply after step base o has)

  moment : IsMoment start run event reply after
  moment = step_moment start run event reply after step

  count_same : count start run ≡ (count start run + counted event) % word_end
  count_same = let none = moment.counts in let small = follows.small in let same = follows.count in omega arith

  next_follows : Follows new start (goes_on run event reply after)
  next_follows = record {
    stands = stands;
    phase = call.phase ∙ follows.phase ∙ sym moment.marking;
    count = call.count ∙ follows.count ∙ count_same;
    small = subst (λ n. n < word_end) (sym call.count) follows.small;
    needs = need_after (heap_after start run) event reply after step (needs_full start run) new.cycle.needs_full call.freed (λ not. call.needs_full not ∙ follows.needs);
    past = (let past = follows.past in let more = births_more (heap_after start run) event reply after step in let same = moment.ages in omega arith);
    aged = λ is base o has marked. subst (λ n. o.birth ≤ n) (sym moment.ages) (aged (sym call.phase ∙ is) base o has marked);
    kept = λ is base o has before. kept (sym call.phase ∙ is) base o has (subst (λ n. o.birth ≤ n) moment.ages before);
    touched = λ is base o has marked. moment.touches o.birth (base, o, has, refl, given has (touches (sym call.phase ∙ is) base o has marked));
  }

  line : (next : Run) × LineOf start run event reply next × Follows new start next
  line = (goes_on run event reply after, LineOf.happens moment.happens, next_follows)

pub counted_call_line : (old : CoreContents) (event : Event) (reply : Reply) (new : CoreContents) → CountsObjects old → IsCall old event reply new → IsLine old event reply new
counted_call_line old event reply new counts call start run follows =
    let went = call.steps (heap_after start run) follows.stands in
    line old event reply new counts call start run follows went.0 went.1 went.2

pub call_line : (old : CoreContents) (event : Event) (reply : Reply) (new : CoreContents) → IsLawful old.store.states → IsCall old event reply new → IsLine old event reply new
call_line old event reply new lawful call = counted_call_line old event reply new (lawful_counts old lawful) call

-- A granted begin is a line.
pub begin_line : (old new : CoreContents) → old.cycle.is_marking ≡ false → BeginsCycle old new → IsLine old Begin Done new
begin_line old new idle begins start run follows = (
  goes_on run Begin Done (heap_after start run),
  LineOf.happens (sym follows.phase ∙ idle, (refl, refl)),
  record {
    stands = begins.stands (heap_after start run) follows.stands;
    phase = begins.phase;
    count = begins.count ∙ follows.count ∙ (let small = follows.small in let same = follows.count in omega arith);
    small = subst (λ n. n < word_end) (sym begins.count) follows.small;
    needs = begins.needs_full;
    past = follows.past;
    aged = λ is. absurd (false≢true (sym is ∙ begins.phase));
    kept = λ is. absurd (false≢true (sym is ∙ begins.phase));
    touched = λ is base o has marked. absurd (false≢true (sym (begins.blank.marks.clear (granule base)) ∙ marked));
  },
)

-- A granted begin with the marks of the last cycle is a line: each marked object is old, and so touched.
pub partial_line : (old new : CoreContents) → old.cycle.is_marking ≡ false → old.cycle.needs_full ≡ false → BeginsPartialCycle old new → IsLine old BeginPartial Done new
partial_line old new idle needs begins start run follows = (
  goes_on run BeginPartial Done (heap_after start run),
  LineOf.happens (sym follows.phase ∙ idle, sym follows.needs ∙ needs, (refl, refl)),
  record {
    stands = begins.stands (heap_after start run) follows.stands;
    phase = begins.phase;
    count = begins.count ∙ follows.count ∙ (let small = follows.small in let same = follows.count in omega arith);
    small = subst (λ n. n < word_end) (sym begins.count) follows.small;
    needs = begins.needs_full ∙ sym needs ∙ follows.needs;
    past = follows.past;
    aged = λ is. absurd (false≢true (sym is ∙ begins.phase));
    kept = λ is. absurd (false≢true (sym is ∙ begins.phase));
    touched = λ is base o has marked. (base, o, has, refl, given has (follows.aged idle base o has (subst (λ r. Has r (granule base)) begins.marking.marks marked)));
  },
)

-- where a core is marking, what is touched is closed
closed : (c : CoreContents) (start : Start) (run : Run) → Follows c start run → c.cycle.is_marking ≡ true → (birth : ℕ) → IsInClosure (heap_after start run) (Touched start run) birth → Touched start run birth
closed c start [] follows is birth x = sym follows.phase ∙ is
closed c start (m ∷ run) follows is birth x = touched_closed start m run follows.stands.store.shows.distinct birth x

-- and each object of the closure of its marks is touched
pub reached_touched : (c : CoreContents) (start : Start) (run : Run) → Follows c start run → c.cycle.is_marking ≡ true
    → (base : ℕ) (o : Object) → HasObject (heap_after start run) base o → Closure (heap_after start run) (IsMarkedBirth (heap_after start run) c.cycle.marker) base → Touched start run o.birth
reached_touched c start run follows is base o has inside =
    closed c start run follows is o.birth (
      base,
      o,
      has,
      refl,
      closure_mono (heap_after start run) (IsMarkedBirth (heap_after start run) c.cycle.marker) (Touched start run)
          (λ b m. subst (Touched start run) m.same (follows.touched is m.base m.object m.has m.marked)) inside,
    )

-- A step of the marker leaves the run as it is.
pub marks_follow : (roots : List ℕ) (old new : CoreContents) → old.cycle.is_marking ≡ true → MarksOn roots old new → (start : Start) (run : Run) → Follows old start run → Follows new start run
marks_follow roots old new is marks start run follows = record {
  stands = marks.stands (heap_after start run) follows.stands;
  phase = marks.phase ∙ follows.phase;
  count = marks.count ∙ follows.count;
  small = subst (λ n. n < word_end) (sym marks.count) follows.small;
  needs = ap (λ (c : CoreContents). c.cycle.needs_full) marks.alone ∙ follows.needs;
  past = follows.past;
  aged = λ now. absurd (false≢true (sym now ∙ (marks.phase ∙ is)));
  kept = λ now. absurd (false≢true (sym now ∙ (marks.phase ∙ is)));
  touched = λ now base o has marked. reached_touched old start run follows is base o has (marks.within (heap_after start run) follows.stands base o has marked);
}

-- once a cycle has ended each object is marked
all_marked : {old new : CoreContents} → EndsMarking old new → (s : Heap) → StandsFor new s → (base : ℕ) (o : Object) → HasObject s base o → IsMarked new.cycle.marker base
all_marked {new = new} ends s stands base o has =
    let f = stands.store.shows.shown.only base o has in
    subst (IsMarked new.cycle.marker) f.2 (ends.marked f.0 (ap (objects_of new) f.2 ∙ f.1))

-- A granted finish is a line: each object that is not touched goes.
pub finish_line : (old new : CoreContents) (n : ℕ) → old.cycle.is_marking ≡ true → EndsCycle old n new → IsLine old Finish (Count n) new
finish_line old new n is ends start run follows =
    let went = ends.forgets (heap_after start run) follows.stands in (
      goes_on run Finish (Count n) went.0,
      LineOf.happens (
        sym follows.phase ∙ is,
        record {
          bases = went.1.bases;
          takes = went.1.takes;
          untouched = λ base o has untouched. went.1.all base o has (λ inside. untouched (reached_touched old start run follows is base o has inside));
        },
      ),
      record {
        stands = went.2;
        phase = ends.ends.phase;
        count = ends.ends.count ∙ ap (λ k. (k + 1) % word_end) follows.count;
        small = subst (λ k. k < word_end) (sym ends.ends.count) (omega arith);
        needs = ends.needs_full ∙ follows.needs;
        past = omega arith;
        aged = λ idle base o has marked. (went.2.store.shows.born base o has).1;
        kept = λ idle base o has before. all_marked ends.ends went.0 went.2 base o has;
        touched = λ now base o has marked. absurd (false≢true (sym ends.ends.phase ∙ now));
      },
    )

-- A collection is a line.
pub collect_line : (old new : CoreContents) (n : ℕ) → CollectsAll old n new → IsLine old Collect (Count n) new
collect_line old new n all start run follows =
    let went = all.collects (heap_after start run) follows.stands in (
      goes_on run Collect (Count n) went.0,
      LineOf.happens went.1,
      record {
        stands = went.2;
        phase = all.ends.phase;
        count = all.ends.count ∙ ap (λ k. (k + 1) % word_end) follows.count;
        small = subst (λ k. k < word_end) (sym all.ends.count) (omega arith);
        needs = all.needs_full;
        past = omega arith;
        aged = λ idle base o has marked. (went.2.store.shows.born base o has).1;
        kept = λ idle base o has before. all_marked all.ends went.0 went.2 base o has;
        touched = λ now base o has marked. absurd (false≢true (sym all.ends.phase ∙ now));
      },
    )

-- A refused call of the collector is a line that leaves the run as it is.
wrong_line : (old new : CoreContents) (event : Event) (why : Refusal) → why ≡ WrongPhase → new ≡ old → ((start : Start) (run : Run) → Follows old start run → LineOf start run event (Refused WrongPhase) run) → IsLine old event (Refused why) new
wrong_line old new event why is same line start run follows =
    (run, subst (λ w. LineOf start run event (Refused w) run) (sym is) (line start run follows), subst (λ c. Follows c start run) (sym same) follows)

pub begin_result : (old new : CoreContents) (r : Result ⊤ Refusal) → IsGrantedInPhase false old r new (λ _. BeginsCycle old new) → IsLine old Begin (done_reply r) new
begin_result old new (Ok done) g = begin_line old new g.0 g.1
begin_result old new (Err why) g = wrong_line old new Begin why g.1 g.2 (λ start run follows. LineOf.refused (sym follows.phase ∙ g.0))

partial_refused : (old new : CoreContents) {why : Refusal} → RefusesPartial old why → new ≡ old → IsLine old BeginPartial (Refused why) new
partial_refused old new (RefusesPartial.wrong_phase is) same start run follows = (run, LineOf.refused (sym follows.phase ∙ is), subst (λ c. Follows c start run) (sym same) follows)
partial_refused old new (RefusesPartial.needs idle is) same start run follows = (run, LineOf.needs (sym follows.phase ∙ idle) (sym follows.needs ∙ is), subst (λ c. Follows c start run) (sym same) follows)

pub partial_result : (old new : CoreContents) (r : Result ⊤ Refusal) → IsGrantedPartial old r new (BeginsPartialCycle old new) → IsLine old BeginPartial (done_reply r) new
partial_result old new (Ok done) g = partial_line old new g.0 g.1 g.2
partial_result old new (Err why) g = partial_refused old new g.0 g.1

pub roots_result : (old new : CoreContents) (r : Result ⊤ Refusal) → IsGrantedInPhase true old r new (λ _. ReadsRoots old new) → IsLine old Roots (done_reply r) new
roots_result old new (Ok done) g = λ start run follows. (run, LineOf.roots (sym follows.phase ∙ g.0), marks_follow (root_words_of old.roots) old new g.0 g.1.marks start run follows)
roots_result old new (Err why) g = wrong_line old new Roots why g.1 g.2 (λ start run follows. LineOf.refused (sym follows.phase ∙ g.0))

pub mark_result : (old new : CoreContents) (asked : ℕ) (r : Result ℕ Refusal) → IsGrantedInPhase true old r new (λ n. TakesWords asked old n new) → IsLine old (Mark asked) (count_reply r) new
mark_result old new asked (Ok n) g = λ start run follows. (run, LineOf.mark (sym follows.phase ∙ g.0) g.1.most, marks_follow [] old new g.0 g.1.marks start run follows)
mark_result old new asked (Err why) g = wrong_line old new (Mark asked) why g.1 g.2 (λ start run follows. LineOf.refused (sym follows.phase ∙ g.0))

one_page : (old new : CoreContents) (n : ℕ) → ReadsPage old new n → n ≤ 1
one_page old new n (ReadsPage.none clean same) = omega arith
one_page old new n (ReadsPage.page p reads) = omega arith

pub retrace_result : (old new : CoreContents) (r : Result ℕ Refusal) → IsGrantedInPhase true old r new (λ n. RetracesPage old n new) → IsLine old Retrace (count_reply r) new
retrace_result old new (Ok n) g = λ start run follows. (run, LineOf.retrace (sym follows.phase ∙ g.0) (one_page old new n g.1.reads), marks_follow [] old new g.0 g.1.marks start run follows)
retrace_result old new (Err why) g = wrong_line old new Retrace why g.1 g.2 (λ start run follows. LineOf.refused (sym follows.phase ∙ g.0))

pub finish_result : (old new : CoreContents) (r : Result ℕ Refusal) → IsGrantedInPhase true old r new (λ n. EndsCycle old n new) → IsLine old Finish (count_reply r) new
finish_result old new (Ok n) g = finish_line old new n g.0 g.1
finish_result old new (Err why) g = wrong_line old new Finish why g.1 g.2 (λ start run follows. LineOf.refused (sym follows.phase ∙ g.0))

pub collect_result : (old new : CoreContents) (r : Result ℕ Refusal) → IsAlwaysGranted r (λ n. CollectsAll old n new) → IsLine old Collect (count_reply r) new
collect_result old new (Ok n) g = collect_line old new n g
collect_result old new (Err why) g = absurd g

pub sweep_result : (old new : CoreContents) (r : Result ℕ Refusal) → IsAlwaysGranted r (λ n. SweepsOne old n new) → IsLine old Sweep (count_reply r) new
sweep_result old new (Ok n) g = λ start run follows. (
  run,
  LineOf.sweep g.few,
  record {
    stands = g.stands (heap_after start run) follows.stands;
    phase = ap (λ (y : Cycle). y.is_marking) g.cycle ∙ follows.phase;
    count = ap (λ (y : Cycle). y.count) g.cycle ∙ follows.count;
    small = subst (λ (y : Cycle). y.count < word_end) (sym g.cycle) follows.small;
    needs = ap (λ (y : Cycle). y.needs_full) g.cycle ∙ follows.needs;
    past = follows.past;
    aged = λ is base o has marked. follows.aged (ap (λ (y : Cycle). y.is_marking) (sym g.cycle) ∙ is) base o has (subst (λ (y : Cycle). IsMarked y.marker base) g.cycle marked);
    kept = λ is base o has before. subst (λ (y : Cycle). IsMarked y.marker base) (sym g.cycle) (follows.kept (ap (λ (y : Cycle). y.is_marking) (sym g.cycle) ∙ is) base o has before);
    touched = λ is base o has marked. follows.touched (ap (λ (y : Cycle). y.is_marking) (sym g.cycle) ∙ is) base o has (subst (λ (y : Cycle). IsMarked y.marker base) g.cycle marked);
  },
)
sweep_result old new (Err why) g = absurd g

pub number_line : (c : CoreContents) → IsLine c Number (Count c.cycle.count) c
number_line c start run follows = (run, subst (λ n. LineOf start run Number (Count n) run) (sym follows.count) LineOf.number, follows)

-- One line more.
transcript_more : (start : Start) {run mid last : Run} {lines : List Told} → LegalTranscript start run lines mid → (event : Event) (reply : Reply) → LineOf start mid event reply last → LegalTranscript start run (lines ++ record { event = event; reply = reply } ∷ []) last
transcript_more start LegalTranscript.ends event reply line = LegalTranscript.on line LegalTranscript.ends
transcript_more start (LegalTranscript.on first rest) event reply line = LegalTranscript.on first (transcript_more start rest event reply line)

pub no_lines : (c : CoreContents) → AreLines c [] c
no_lines c start run follows = (run, LegalTranscript.ends, follows)

pub lines_more : (old mid new : CoreContents) (lines : List Told) (event : Event) (reply : Reply) → AreLines old lines mid → IsLine mid event reply new → AreLines old (lines ++ record { event = event; reply = reply } ∷ []) new
lines_more old mid new lines event reply so line start run follows =
    let a = so start run follows in let b = line start a.0 a.2 in
    (b.0, transcript_more start a.1 event reply b.1, b.2)
