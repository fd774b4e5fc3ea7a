-- The collector's commands, one after another.
use Rattle.std.proofs.Common.{◌≡◌, ℕ, zero, suc, ◌+◌, ◌%◌, ◌^◌, ◌<◌, ◌≤◌, Bool, true, false, if◌then◌else◌, List, [], ◌∷◌, ◌++◌, length, take, set, get_or, refl, sym, ap, ◌∙◌, subst, arith, append_assoc, append-nil, add-one}
use Rattle.std.specs.Prelude.{Result, Ok, Err, ⊤}
use mathlib.Core.List.{IsPrefix}
use Rattle.words.specs.declared.refusal.Refusal.{Refusal}
use Rattle.words.specs.declared.refusal.Refusal.TheVariants.{WrongPhase, NeedsFull}
use Rattle.history.specs.declared.object.TheConstants.{COLLECTOR}
use Rattle.history.specs.Histories.{event, own, count}
use Rattle.history.proofs.Growing.{prefix_of}
use Rattle.history.proofs.Fronts.{prefix_self, prefix_trans, prefix_more}
use Rattle.heap_spec.specs.declared.event.Event.{Event}
use Rattle.heap_spec.specs.declared.event.Event.TheVariants.{Begin, BeginPartial, Roots, Mark, Retrace, Finish, Sweep, Number}
use Rattle.heap_spec.specs.declared.reply.Reply.{Reply}
use Rattle.heap_spec.specs.declared.reply.Reply.TheVariants.{Done, Count, Refused}
use Rattle.heap_spec.specs.Replies.{done_reply, count_reply}
use Rattle.heap_spec.specs.Runs.{opening_start, is_marking, count as collections}
use Rattle.heap_spec.specs.Transcripts.{LineOf, IsWrongPhase}
use Rattle.heap_spec.specs.SequentialObject.{HeapState}
use Rattle.heap_history.specs.Ranks.{rank_of}
use Rattle.heap_history.specs.Passes.{MadeEvent, HeapPass, is_marking as marks}
use Rattle.heap_history.specs.Headline.{Extends, Looks, IsGrantedByOwnEvents, IsRefusedPartial, BeginsPartialByEvents}
use Rattle.heap_history.proofs.Passing.{phase_is}
use Rattle.heap_history.proofs.Chains.{need_is}
use Rattle.heap_core.specs.Acts.{IsAct}
use Rattle.heap_core.specs.CoreContents.{CoreContents}
use Rattle.heap_core.specs.Collections.{IsGrantedInPhase, IsAlwaysGranted, ReadsRoots, TakesWords, ReadsPage, RetracesPage, SweepsOne}
use Rattle.shared.specs.Lending.{IsLent}
use Rattle.workloads.specs.OneHistory.{is_in_history, left_by, left_by_all, IsAnsweredAmong, IsCoresAnswer, IsStepOfCore, AreAnswered}
use Rattle.workloads.specs.Actors.{Commanded, CommandedAll}
use Rattle.workloads.proofs.Counted.{count_is}

pub extends_seen : (pages : ℕ) (old new : HeapPass) (asked : Event) (reply : Reply) → Extends pages old asked reply new → IsPrefix old.seen new.seen
extends_seen pages old new asked reply x =
    subst (λ (l : List MadeEvent). IsPrefix old.seen l) (sym x.seen) (prefix_more old.seen (old.seen ++ x.between) (event old.slot asked reply ∷ []) (x.between, refl))

-- a command that is an event
pub made : (pages : ℕ) (old new : HeapPass) (asked : Event) (reply : Reply) → old.slot ≡ COLLECTOR → is_in_history asked reply ≡ true → Extends pages old asked reply new → Commanded pages old asked reply new
made pages old new asked reply slot is x = record {
  slot = x.slot;
  seen = extends_seen pages old new asked reply x;
  mine = x.mine ∙ (λ j. old.mine ++ event (slot j) asked reply ∷ []) ∙ ap (λ (b : Bool). old.mine ++ (if b then event COLLECTOR asked reply ∷ [] else [])) (sym is);
  answered = λ no. absurd (cc (no, is));
}

-- a command that is none, and the place where it is answered: all that the collector has then seen
module _ (pages : ℕ) (old new : HeapPass) (slot : old.slot ≡ COLLECTOR) (looks : Looks pages old new) where
  abbrev pub state : HeapState
  state = looks.fine.legal.0

  slot_now : new.slot ≡ COLLECTOR
  slot_now = looks.slot ∙ slot

  pub phase : is_marking (opening_start state.pages) state.run ≡ marks old.mine
  phase = phase_is state new.seen new.mine new.slot slot_now looks.fine.owned looks.fine.legal.1 ∙ ap marks looks.mine

  own_is : own rank_of COLLECTOR new.seen ≡ old.mine
  own_is = ap (λ (s : ℕ). own rank_of s new.seen) (sym slot_now) ∙ (sym looks.fine.owned.own_is ∙ looks.mine)

  pub number : collections (opening_start state.pages) state.run ≡ count rank_of old.mine % 2 ^ 64
  number = count_is new.seen state looks.fine.legal.1 ∙ ap (λ (l : List MadeEvent). count rank_of l % 2 ^ 64) own_is

  pub looked : (asked : Event) (reply : Reply) → is_in_history asked reply ≡ false → LineOf (opening_start state.pages) state.run asked reply state.run → IsStepOfCore pages new.seen asked reply → Commanded pages old asked reply new
  looked asked reply quiet allowed step = record {
    slot = looks.slot;
    seen = prefix_of old.slot old.seen new.seen looks.seen;
    mine = looks.mine ∙ sym (append-nil old.mine) ∙ ap (λ (b : Bool). old.mine ++ (if b then event COLLECTOR asked reply ∷ [] else [])) (sym quiet);
    answered = λ _. record { so_far = new.seen; within = prefix_self new.seen; between = own_is; state = state; reached = looks.fine.legal.1; allowed = allowed; step = step };
  }

module _ (pages : ℕ) (old new : HeapPass) (asked : Event) (reply : Reply) (slot : old.slot ≡ COLLECTOR) where
  -- refused in the wrong phase
  refused : (command : Event) (why : Refusal) (looks : Looks pages old new) → is_in_history command (Refused why) ≡ false → why ≡ WrongPhase → IsWrongPhase (is_marking (opening_start (state pages old new slot looks).pages) (state pages old new slot looks).run) command
      → IsStepOfCore pages new.seen command (Refused why) → Commanded pages old command (Refused why) new
  refused command why looks quiet is wrong step =
      let t = state pages old new slot looks in
      looked pages old new slot looks command (Refused why) quiet (subst (λ (w : Refusal). LineOf (opening_start t.pages) t.run command (Refused w) t.run) (sym is) (LineOf.refused wrong)) step

  as_asked : (command : Event) (told : Reply) → asked ≡ command → reply ≡ told → Commanded pages old command told new → Commanded pages old asked reply new
  as_asked command told is said c = subst (λ (a : Event). Commanded pages old a reply new) (sym is) (subst (λ (t : Reply). Commanded pages old command t new) (sym said) c)

  begun : (r : Result ⊤ Refusal) → IsGrantedByOwnEvents false pages old Begin (λ _. Done) r new → Commanded pages old Begin (done_reply r) new
  begun (Ok done) g = made pages old new Begin Done slot refl g.1
  begun (Err why) g = refused Begin why g.2 refl g.1 (phase pages old new slot g.2 ∙ g.0) tt

  pub begins : (r : Result ⊤ Refusal) → asked ≡ Begin → reply ≡ done_reply r → IsGrantedByOwnEvents false pages old Begin (λ _. Done) r new → Commanded pages old asked reply new
  begins r is said g = as_asked Begin (done_reply r) is said (begun r g)

  -- refused where a cycle is marking, or where a full one is needed
  partial_refused : {why : Refusal} → IsRefusedPartial old new why → Looks pages old new → Commanded pages old BeginPartial (Refused why) new
  partial_refused (IsRefusedPartial.wrong_phase is) looks = looked pages old new slot looks BeginPartial (Refused WrongPhase) refl (LineOf.refused (phase pages old new slot looks ∙ is)) tt
  partial_refused (IsRefusedPartial.needs idle is) looks =
      let t = state pages old new slot looks in
      looked pages old new slot looks BeginPartial (Refused NeedsFull) refl (LineOf.needs (phase pages old new slot looks ∙ idle) (need_is new.seen t looks.fine.legal.1 ∙ is)) tt

  partly_begun : (r : Result ⊤ Refusal) → BeginsPartialByEvents pages old r new → Commanded pages old BeginPartial (done_reply r) new
  partly_begun (Ok done) g = made pages old new BeginPartial Done slot refl g.1
  partly_begun (Err why) g = partial_refused g.0 g.1

  pub begins_partly : (r : Result ⊤ Refusal) → asked ≡ BeginPartial → reply ≡ done_reply r → BeginsPartialByEvents pages old r new → Commanded pages old asked reply new
  begins_partly r is said g = as_asked BeginPartial (done_reply r) is said (partly_begun r g)

  finished : (r : Result ℕ Refusal) → IsGrantedByOwnEvents true pages old Finish Count r new → Commanded pages old Finish (count_reply r) new
  finished (Ok n) g = made pages old new Finish (Count n) slot refl g.1
  finished (Err why) g = refused Finish why g.2 refl g.1 (phase pages old new slot g.2 ∙ g.0) tt

  pub finishes : (r : Result ℕ Refusal) → asked ≡ Finish → reply ≡ count_reply r → IsGrantedByOwnEvents true pages old Finish Count r new → Commanded pages old asked reply new
  finishes r is said g = as_asked Finish (count_reply r) is said (finished r g)

  pub numbers : (n : ℕ) → asked ≡ Number → reply ≡ Count n → Looks pages old new → n ≡ count rank_of new.mine % 2 ^ 64 → Commanded pages old asked reply new
  numbers n is said looks c =
      let t = state pages old new slot looks in
      let same : n ≡ collections (opening_start t.pages) t.run = c ∙ (ap (λ (l : List MadeEvent). count rank_of l % 2 ^ 64) looks.mine ∙ sym (number pages old new slot looks)) in
      as_asked Number (Count n) is said (looked pages old new slot looks Number (Count n) refl (subst (λ (m : ℕ). LineOf (opening_start t.pages) t.run Number (Count m) t.run) (sym same) LineOf.number) tt)

  -- the collector's small steps, on a core in the phase that its own events tell
  module _ (looks : Looks pages old new) (before after : CoreContents) (same : before.cycle.is_marking ≡ marks old.mine) (lent : IsLent pages new.seen before after) where
    phase_now : before.cycle.is_marking ≡ is_marking (opening_start (state pages old new slot looks).pages) (state pages old new slot looks).run
    phase_now = same ∙ sym (phase pages old new slot looks)

    answered : (command : Event) (told : Reply) → IsAct before command told after → IsCoresAnswer pages new.seen command told
    answered command told acts = record { before = before; after = after; lent = lent; acts = acts }

    rooted : (r : Result ⊤ Refusal) → IsGrantedInPhase true before r after (λ _. ReadsRoots before after) → Commanded pages old Roots (done_reply r) new
    rooted (Ok done) g = looked pages old new slot looks Roots Done refl (LineOf.roots (sym phase_now ∙ g.0)) (answered Roots Done (Ok done, refl, g))
    rooted (Err why) g = refused Roots why looks refl g.1 (sym phase_now ∙ g.0) (answered Roots (Refused why) (Err why, refl, g))

    pub roots : (r : Result ⊤ Refusal) → asked ≡ Roots → reply ≡ done_reply r → IsGrantedInPhase true before r after (λ _. ReadsRoots before after) → Commanded pages old asked reply new
    roots r is said g = as_asked Roots (done_reply r) is said (rooted r g)

    marked : (most : ℕ) (r : Result ℕ Refusal) → IsGrantedInPhase true before r after (λ n. TakesWords most before n after) → Commanded pages old (Mark most) (count_reply r) new
    marked most (Ok n) g = looked pages old new slot looks (Mark most) (Count n) refl (LineOf.mark (sym phase_now ∙ g.0) g.1.most) (answered (Mark most) (Count n) (Ok n, refl, g))
    marked most (Err why) g = refused (Mark most) why looks refl g.1 (sym phase_now ∙ g.0) (answered (Mark most) (Refused why) (Err why, refl, g))

    pub marking : (most : ℕ) (r : Result ℕ Refusal) → asked ≡ Mark most → reply ≡ count_reply r → IsGrantedInPhase true before r after (λ n. TakesWords most before n after) → Commanded pages old asked reply new
    marking most r is said g = as_asked (Mark most) (count_reply r) is said (marked most r g)

    one_page : (n : ℕ) → ReadsPage before after n → n ≤ 1
    one_page n (ReadsPage.none clean still) = omega arith
    one_page n (ReadsPage.page p read) = omega arith

    read_again : (r : Result ℕ Refusal) → IsGrantedInPhase true before r after (λ n. RetracesPage before n after) → Commanded pages old Retrace (count_reply r) new
    read_again (Ok n) g = looked pages old new slot looks Retrace (Count n) refl (LineOf.retrace (sym phase_now ∙ g.0) (one_page n g.1.reads)) (answered Retrace (Count n) (Ok n, refl, g))
    read_again (Err why) g = refused Retrace why looks refl g.1 (sym phase_now ∙ g.0) (answered Retrace (Refused why) (Err why, refl, g))

    pub retraces : (r : Result ℕ Refusal) → asked ≡ Retrace → reply ≡ count_reply r → IsGrantedInPhase true before r after (λ n. RetracesPage before n after) → Commanded pages old asked reply new
    retraces r is said g = as_asked Retrace (count_reply r) is said (read_again r g)

    swept : (r : Result ℕ Refusal) → IsAlwaysGranted r (λ n. SweepsOne before n after) → Commanded pages old Sweep (count_reply r) new
    swept (Ok n) g = looked pages old new slot looks Sweep (Count n) refl (LineOf.sweep g.few) (answered Sweep (Count n) (Ok n, refl, g))
    swept (Err why) g = absurd g

    pub sweeps : (r : Result ℕ Refusal) → asked ≡ Sweep → reply ≡ count_reply r → IsAlwaysGranted r (λ n. SweepsOne before n after) → Commanded pages old asked reply new
    sweeps r is said g = as_asked Sweep (count_reply r) is said (swept r g)

-- commands with one more
pub left_more : (commands : List Event) (replies : List Reply) (i : ℕ) (c : Event) (r : Reply) → i < length commands → length replies ≡ length commands
    → left_by_all (take (i + 1) commands) (take (i + 1) (set replies i r)) ≡ left_by_all (take i commands) (take i replies) ++ left_by (get_or commands i c) r
left_more [] replies i c r lt len = absurd (omega (arith, lt))
left_more (x ∷ xs) [] i c r lt len = absurd (omega (arith, len))
left_more (x ∷ xs) (y ∷ ys) zero c r lt len = append-nil (left_by x r)
left_more (x ∷ xs) (y ∷ ys) (suc i) c r lt len =
    rw add-one (ap (λ (es : List MadeEvent). left_by x y ++ es) (rw add-one at (left_more xs ys i c r (omega (arith, lt)) (omega (arith, len)))) ∙ sym (append_assoc (left_by x y) (left_by_all (take i xs) (take i ys)) (left_by (get_or xs i c) r)))

among_longer : (pages : ℕ) (history longer mine : List MadeEvent) (command : Event) (reply : Reply) → IsPrefix history longer → IsAnsweredAmong pages history mine command reply → IsAnsweredAmong pages longer mine command reply
among_longer pages history longer mine command reply p a = record { so_far = a.so_far; within = prefix_trans a.so_far history longer a.within p; between = a.between; state = a.state; reached = a.reached; allowed = a.allowed; step = a.step }

-- what was answered stays answered in a longer history
pub answered_longer : (pages : ℕ) (history longer mine : List MadeEvent) (commands : List Event) (replies : List Reply) → IsPrefix history longer → AreAnswered pages history mine commands replies → AreAnswered pages longer mine commands replies
answered_longer pages history longer mine [] [] p a = tt
answered_longer pages history longer mine [] (y ∷ ys) p a = absurd a
answered_longer pages history longer mine (x ∷ xs) [] p a = absurd a
answered_longer pages history longer mine (x ∷ xs) (y ∷ ys) p a =
    (λ no. among_longer pages history longer mine x y p (a.0 no), answered_longer pages history longer (mine ++ left_by x y) xs ys p a.1)

pub answered_more : (pages : ℕ) (history mine : List MadeEvent) (commands : List Event) (replies : List Reply) (i : ℕ) (c : Event) (r : Reply) → i < length commands → length replies ≡ length commands
    → AreAnswered pages history mine (take i commands) (take i replies)
    → (is_in_history (get_or commands i c) r ≡ false → IsAnsweredAmong pages history (mine ++ left_by_all (take i commands) (take i replies)) (get_or commands i c) r)
    → AreAnswered pages history mine (take (i + 1) commands) (take (i + 1) (set replies i r))
answered_more pages history mine [] replies i c r lt len before one = absurd (omega (arith, lt))
answered_more pages history mine (x ∷ xs) [] i c r lt len before one = absurd (omega (arith, len))
answered_more pages history mine (x ∷ xs) (y ∷ ys) zero c r lt len before one =
    (λ no. subst (λ (l : List MadeEvent). IsAnsweredAmong pages history l x r) (append-nil mine) (one no), tt)
answered_more pages history mine (x ∷ xs) (y ∷ ys) (suc i) c r lt len before one =
    rw add-one ((
      before.0,
      rw add-one at (answered_more pages history (mine ++ left_by x y) xs ys i c r (omega (arith, lt)) (omega (arith, len)) before.1
          (λ no. subst (λ (l : List MadeEvent). IsAnsweredAmong pages history l (get_or xs i c) r) (sym (append_assoc mine (left_by x y) (left_by_all (take i xs) (take i ys)))) (one no))),
    ))

-- one command more
pub commanded_more : (pages : ℕ) (old mid new : HeapPass) (commands : List Event) (replies : List Reply) (i : ℕ) (x : Event) (r : Reply) → x ≡ get_or commands i x → i < length commands → length replies ≡ length commands
    → CommandedAll pages old (take i commands) (take i replies) mid → Commanded pages mid x r new → CommandedAll pages old (take (i + 1) commands) (take (i + 1) (set replies i r)) new
commanded_more pages old mid new commands replies i x r at lt len all given = let one = subst (λ (e : Event). Commanded pages mid e r new) at given in record {
  slot = one.slot ∙ all.slot;
  seen = prefix_trans old.seen mid.seen new.seen all.seen one.seen;
  mine = one.mine ∙ (ap (λ (l : List MadeEvent). l ++ left_by (get_or commands i x) r) all.mine ∙ (append_assoc old.mine (left_by_all (take i commands) (take i replies)) (left_by (get_or commands i x) r)
      ∙ ap (λ (l : List MadeEvent). old.mine ++ l) (sym (left_more commands replies i x r lt len))));
  answered = answered_more pages new.seen old.mine commands replies i x r lt len (answered_longer pages mid.seen new.seen old.mine (take i commands) (take i replies) one.seen all.answered)
      (λ no. subst (λ (l : List MadeEvent). IsAnsweredAmong pages new.seen l (get_or commands i x) r) all.mine (one.answered no));
}
