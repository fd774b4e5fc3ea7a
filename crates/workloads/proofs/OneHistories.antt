-- What the threads did makes one history.
use Rattle.std.proofs.Common.{◌≡◌, ℕ, zero, suc, ◌<◌, ◌≤◌, ◌⊎◌, List, [], ◌∷◌, ◌++◌, length, get_or, refl, sym, ap, ◌∙◌, subst, arith, inl, inr, ⊎_elim, ne_eqb, false}
use Rattle.std.specs.Prelude.{Contains, nat_eq}
use Rattle.std.specs.List.{AllByRecursion, IsDistinct}
use Rattle.std.proofs.lemmas.List.Elements.{All-contains, All-weaker, All-from_recursion, Contains-append_right, Contains-get_or}
use Rattle.history.specs.Histories.{event, own, counted_up}
use Rattle.heap_spec.specs.declared.call.Call.{Call}
use Rattle.heap_spec.specs.declared.event.Event.TheVariants.{Attach}
use Rattle.heap_spec.specs.declared.reply.Reply.TheVariants.{Slot}
use Rattle.heap_history.specs.Ranks.{rank_of}
use Rattle.heap_history.specs.Passes.{MadeEvent, HeapPass, IsLegalPass, begins_with_attach}
use Rattle.heap_history.specs.Alone.{attaches, all_of, AreAlone}
use Rattle.heap_history.proofs.Coming.{firsts_of, own_came}
use Rattle.heap_history.proofs.Alone.{alone_in}
use Rattle.heap_history.specs.Headline.{Looks}
use Rattle.history.proofs.Growing.{prefix_of}
use Rattle.each_law.specs.Jobs.{HaveRun}
use Rattle.workloads.specs.Workloads.{ActorLines}
use Rattle.workloads.specs.Printing.{ActorReplies}
use Rattle.workloads.specs.OneHistory.{events_of, left_by_all, AreAnswered, IsMutatorsPart, IsCollectorsPart, Explains}
use Rattle.workloads.specs.Actors.{CommandedAll, Keeps, HasCalled, IsAttachedJob, AreAttached, AllSettled, Settled, AreReplies}
use Rattle.workloads.specs.declared.mutator_job.MutatorJob.{MutatorJob}
use Rattle.workloads.proofs.Collected.{answered_longer}
use mathlib.Core.List.{IsPrefix}
use Rattle.std.proofs.lemmas.Bool.{cases_eq}

pub any_of : {A : Type 0} (l : List A) (i : ℕ) → i < length l → A
any_of [] i lt = absurd (omega arith)
any_of (x ∷ xs) i lt = x

-- the numbers below this one, the greatest first
abbrev upto : ℕ → List ℕ
upto zero = []
upto (suc n) = n ∷ upto n

upto_all : (P : ℕ → Type 0) (n : ℕ) → ((k : ℕ) → k < n → P k) → AllByRecursion P (upto n)
upto_all P zero h = tt
upto_all P (suc n) h = (h n (omega arith), upto_all P n (λ k lt. h k (omega (arith, lt))))

upto_distinct : (n : ℕ) → IsDistinct nat_eq (upto n)
unfolding IsDistinct
upto_distinct zero = tt
upto_distinct (suc n) = (upto_all (λ y. nat_eq n y ≡ false) n (λ k lt. ne_eqb n k (λ e. omega (arith, lt, e))), upto_distinct n)

upto_length : (n : ℕ) → length (upto n) ≡ n
upto_length zero = refl
upto_length (suc n) = let h = upto_length n in omega (arith, h)

upto_has : (n k : ℕ) → k < n → Contains (upto n) k
upto_has zero k lt = absurd (omega (arith, lt))
upto_has (suc n) k lt = ⊎_elim
    (λ (same : k ≡ n). subst (λ (m : ℕ). Contains (n ∷ upto n) m) (sym same) (Contains-get_or (n ∷ upto n) 0 0 (omega arith)))
    (λ other. Contains-append_right (n ∷ []) (upto n) k (upto_has n k (omega (arith, lt, other))))
    (cases_eq k n)

upto_below : (n k : ℕ) → Contains (upto n) k → k < n
upto_below n k among = All-contains (λ (x : ℕ). x < n) (upto n) k (All-from_recursion (λ (x : ℕ). x < n) (upto n) (upto_all (λ (x : ℕ). x < n) n (λ j lt. lt))) among

-- one mutator: it came, made its calls, and then saw all of the history
module _ {J R : Type 0} (pages : ℕ) (calls : List Call) (slot : ℕ) (a b c : MutatorJob J R) (history : List MadeEvent) (attached : IsAttachedJob pages calls slot a) (ran : HasCalled a b) (settled : Settled pages history b c) where
  slot_is : c.attached.slot ≡ slot
  slot_is = settled.keeps.slot ∙ (ran.called.slot ∙ attached.slot_is)

  own_is : own rank_of slot history ≡ event slot Attach (Slot slot) ∷ events_of slot calls b.replies.items
  own_is =
      let o : c.attached.mine ≡ own rank_of slot history = settled.fine.owned.own_is ∙ (λ j. own rank_of (slot_is j) (settled.seen j)) in
      let first : a.attached.mine ≡ event slot Attach (Slot slot) ∷ [] = attached.begun.mine ∙ ap (λ (s : ℕ). event s Attach (Slot s) ∷ []) attached.slot_is in
      sym o ∙ (settled.keeps.mine ∙ (ran.called.mine ∙ (λ j. first j ++ events_of (attached.slot_is j) (attached.calls_are j) b.replies.items)))

  pub came : 1 ≤ firsts_of slot history
  came = own_came slot history (ap begins_with_attach own_is)

  pub part : own rank_of slot history ≡ all_of slot history → IsMutatorsPart history slot calls c.replies.items
  part all = record {
    size = ap (λ v. length v.items) settled.replies ∙ (ran.room ∙ ap length attached.calls_are);
    events = sym all ∙ own_is ∙ ap (λ v. event slot Attach (Slot slot) ∷ events_of slot calls v.items) (sym settled.replies);
  }

module _ {J R : Type 0} (pages : ℕ) (lists : ActorLines) (a b c : List (MutatorJob J R)) (opened u v w : HeapPass) (replies : ActorReplies)
    (attached : AreAttached pages lists.mutators a) (ran : HaveRun (λ old new. HasCalled old new) a b) (commanded : CommandedAll pages opened lists.collector replies.collector u)
    (new : opened ≡ record { slot = 16; seen = []; mine = [] }) (looks : Looks pages u v) (keeps : Keeps v w) (grows : IsPrefix v.seen w.seen) (fine : IsLegalPass pages w)
    (settled : AllSettled pages w.seen b c) (size : length c ≡ length b) (are : AreReplies c replies.mutators) (few : length lists.mutators ≤ 16) (n : ℕ) (n_is : n ≡ length lists.mutators) (count : n ≡ counted_up (attaches w.seen)) where
  one_came : (slot : ℕ) → slot < length lists.mutators → 1 ≤ firsts_of slot w.seen
  one_came slot lt =
      let in_a : slot < length a = (let s = attached.size in omega (arith, lt, s)) in
      let in_b : slot < length b = (let s = ran.size in omega (arith, in_a, s)) in
      let d : MutatorJob J R = any_of a slot in_a in
      came pages (get_or lists.mutators slot []) slot (get_or a slot d) (get_or b slot d) (get_or c slot d) w.seen (attached.each slot d lt) (ran.each slot d d in_a) (settled slot d in_b)

  nobody : AreAlone (upto (length lists.mutators)) w.seen
  nobody = alone_in pages w.seen fine.legal (upto (length lists.mutators)) (upto_distinct (length lists.mutators)) (upto_all (λ s. 1 ≤ firsts_of s w.seen) (length lists.mutators) one_came)
      (let size = upto_length (length lists.mutators) in let is = count in let m = n_is in omega (arith, size, is, m, few))
      (upto_all (λ s. s < 16) (length lists.mutators) (λ s lt. omega (arith, lt, few)))

  all_is : (slot : ℕ) → slot < length lists.mutators → own rank_of slot w.seen ≡ all_of slot w.seen
  all_is slot lt = All-contains (λ s. own rank_of s w.seen ≡ all_of s w.seen) (upto (length lists.mutators)) slot nobody.lives (upto_has (length lists.mutators) slot lt)

  one : (slot : ℕ) → slot < length lists.mutators → IsMutatorsPart w.seen slot (get_or lists.mutators slot []) (get_or replies.mutators slot [])
  one slot lt =
      let in_a : slot < length a = (let s = attached.size in omega (arith, lt, s)) in
      let in_b : slot < length b = (let s = ran.size in omega (arith, in_a, s)) in
      let in_c : slot < length c = (let s = size in omega (arith, in_b, s)) in
      let d : MutatorJob J R = any_of a slot in_a in
      subst (λ l. IsMutatorsPart w.seen slot (get_or lists.mutators slot []) l) (sym (are.each slot d in_c))
      (part pages (get_or lists.mutators slot []) slot (get_or a slot d) (get_or b slot d) (get_or c slot d) w.seen (attached.each slot d lt) (ran.each slot d d in_a) (settled slot d in_b) (all_is slot lt))

  collectors : IsCollectorsPart pages w.seen lists.collector replies.collector
  collectors =
      let slot : opened.slot ≡ 16 = ap (λ (p : HeapPass). p.slot) new in
      let none : opened.mine ≡ [] = ap (λ (p : HeapPass). p.mine) new in
      let now : w.slot ≡ 16 = keeps.slot ∙ (looks.slot ∙ (commanded.slot ∙ slot)) in
      let o : w.mine ≡ own rank_of 16 w.seen = fine.owned.own_is ∙ ap (λ (s : ℕ). own rank_of s w.seen) now in
      let mine : w.mine ≡ left_by_all lists.collector replies.collector = keeps.mine ∙ (looks.mine ∙ (commanded.mine ∙ ap (λ (l : List MadeEvent). l ++ left_by_all lists.collector replies.collector) none)) in record {
        events = sym nobody.collector ∙ (sym o ∙ mine);
        answers = answered_longer pages v.seen w.seen [] lists.collector replies.collector grows (answered_longer pages u.seen v.seen [] lists.collector replies.collector (prefix_of u.slot u.seen v.seen looks.seen) (subst (λ (l : List MadeEvent). AreAnswered pages u.seen l lists.collector replies.collector) none commanded.answered));
      }

  pub explains : Explains pages w.seen lists replies
  explains = record { legal = fine.legal; alone = All-weaker (λ (e : MadeEvent). Contains (upto (length lists.mutators)) e.who ⊎ (e.who ≡ 16)) (λ (e : MadeEvent). (e.who < length lists.mutators) ⊎ (e.who ≡ 16)) (λ e. ⊎_elim (λ c. inl (upto_below (length lists.mutators) e.who c)) (λ by. inr by)) w.seen nobody.members; size = are.size ∙ (size ∙ (ran.size ∙ attached.size)); mutators = one; collector = collectors }
