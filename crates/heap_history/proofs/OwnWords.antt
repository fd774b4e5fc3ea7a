-- A word that a mutator stores in an object of its own.
use Rattle.std.proofs.Common.{◌≡◌, ◌≢◌, ℕ, ◌+◌, ◌*◌, ◌<◌, ◌≤◌, ◌^◌, List, ◌++◌, length, sym, ap, ◌∙◌, subst, arith, inr, get_or-set_same}
use Rattle.std.specs.Prelude.{Some, All, slice_set}
use Rattle.std.proofs.Math.Nat.{mod-eq_of_lt}
use Rattle.std.proofs.lemmas.Option.{slice_get_within, same_Some}
use Rattle.std.proofs.lemmas.List.{length-set, get_or-set_other}
use Rattle.words.specs.declared.class.Kind.TheVariants.{Normal}
use Rattle.history.specs.Histories.{AreOfOthers, Walks}
use Rattle.heap_spec.specs.declared.call.Call.TheVariants.{Set, Load, Store, Alloc}
use Rattle.heap_spec.specs.declared.reply.Reply.{Reply}
use Rattle.heap_spec.specs.declared.reply.Reply.TheVariants.{Done, Word}
use Rattle.heap_spec.specs.Heap.{Heap, Object, Mutator as HeapMutator, HasObject}
use Rattle.heap_spec.specs.Steps.{Calls, register, address, with_register}
use Rattle.heap_spec.specs.Sound.{IsSound}
use Rattle.heap_spec.specs.Laws.{IsRunFromOpening}
use Rattle.heap_spec.specs.SequentialObject.{HeapState, heap_of, StateStep}
use Rattle.heap_spec.proofs.Calls.{attached_is}
use Rattle.heap_spec.proofs.Loads.{same_mutator}
use Rattle.heap_spec.proofs.Objects.{object_lies, one_read}
use Rattle.heap_history.specs.Passes.{MadeEvent, HeapPass}
use Rattle.heap_history.specs.Headline.{Makes}
use Rattle.heap_history.specs.Laws.{IsNoFree, CallsLeaveRegister, MakesAfterNoFree, MakesAfterNoWrite}
use Rattle.heap_history.proofs.Slots.{slice_get-set_same}
use Rattle.heap_history.proofs.Stored.{set_is, walks_through, reached_fresh, reached_sound}
use Rattle.heap_history.proofs.Owning.{Owned, walks_owned, walks_owned_mutator, before, owned_before, made_owned, kept_owned}
use Rattle.heap_history.proofs.Loaded.{Written, Holds, store_is, load_is, still_written}

-- A mutator's own object, and a register that has the word.
record Ready (s : Heap) (slot d n r w : ℕ) : Type 0 where
  base : ℕ
  owned : Owned s slot d n base Normal
  is : register owned.mutator r ≡ w

-- so it is when another register was set
set_ready : (s : Heap) (slot d n r w a : ℕ) → IsSound s → r < 16 → d ≢ r → {s' : Heap} → Calls s slot (Set r w) Done s' → Owned s slot d n a Normal → Ready s' slot d n r w
set_ready s slot d n r w a h few ne calls own =
    let is = set_is s slot r w calls in
    let m = own.mutator in
    let now = is.2 ∙ ap (λ (x : HeapMutator). with_register s slot x r w) (same_mutator s slot is.0 m is.1 own.at) in
    let size = (attached_is s slot m h own.at).registers.size in
    let there : r < length m.registers = omega (arith, size, few) in
    let changed : HeapMutator = record m { registers = slice_set m.registers r w } in
    subst (λ (x : Heap). Ready x slot d n r w) (sym now) (record {
      base = a;
      owned = record {
        object = own.object;
        mutator = changed;
        at = slice_get-set_same s.mutators slot (Some changed) (slice_get_within s.mutators slot (Some m) own.at);
        there = subst (λ i. d < i) (sym (length-set m.registers r w)) own.there;
        holds = get_or-set_other m.registers r d w 0 ne ∙ own.holds;
        has = own.has;
        size = own.size;
        of_kind = own.of_kind;
      };
      is = get_or-set_same m.registers r w 0 there;
    })

-- and after what others did
walks_ready : (s t : HeapState) (es : List MadeEvent) → Walks StateStep s es t → IsRunFromOpening s.pages s.run → (who d n r w : ℕ) → Ready (heap_of s) who d n r w → AreOfOthers who es → All (λ (e : MadeEvent). IsNoFree e.call) es
    → Ready (heap_of t) who d n r w
walks_ready s t es walk fresh who d n r w ready others free = record {
  base = ready.base;
  owned = walks_owned s t es walk fresh who d n ready.base ready.owned others free;
  is = ap (λ (m : HeapMutator). register m r) (walks_owned_mutator s t es walk fresh who d n ready.base ready.owned others free) ∙ ready.is;
}

-- an address in an object doesn't wrap
pub address_of : (s : Heap) → IsSound s → (m : HeapMutator) (d k base : ℕ) (o : Object) → register m d ≡ base → HasObject s base o → k < length o.words → address m d k ≡ base + 8 * k
address_of s h m d k base o holds has lt =
    let to = (object_lies s h base o has).to in
    let few = h.few_pages in
    let below : register m d + 8 * k < 2 ^ 64 = omega (arith, to, few, lt, holds) in
    let is : address m d k ≡ register m d + 8 * k = mod-eq_of_lt below in
    omega (arith, is, holds)

-- so it points into the object
pub address_is : (s : Heap) → IsSound s → (m : HeapMutator) (d k base : ℕ) (o : Object) → register m d ≡ base → HasObject s base o → k < length o.words
    → (base ≤ address m d k) × (address m d k < base + 8 * length o.words)
address_is s h m d k base o holds has lt =
    let is = address_of s h m d k base o holds has lt in
    (omega (arith, is), omega (arith, is, lt))

-- A word that stands in it, and the register that has its base.
record HasStored (s : Heap) (slot d k w : ℕ) : Type 0 where
  mutator : HeapMutator
  there : Written s slot mutator d k w
  held : Holds mutator there.base
  normal : there.object.kind ≡ Normal

-- so it is when the register is stored there
store_ready : (s : Heap) (slot d n k r w : ℕ) → IsSound s → k < n → Ready s slot d n r w → {s' : Heap} → Calls s slot (Store d k r) Done s' → HasStored s' slot d k w
store_ready s slot d n k r w h lt ready calls =
    let own = ready.owned in
    let wrote = store_is s slot d k r own.mutator own.at calls in
    let within = address_is s h own.mutator d k ready.base own.object own.holds own.has (let long = own.size in omega (arith, lt, long)) in
    let base : wrote.0.base ≡ ready.base = one_read s h (address own.mutator d k) wrote.0.base ready.base wrote.1 own.object wrote.2 (own.has, within) in
    record {
      mutator = own.mutator;
      there = record { at = wrote.0.at; aligned = wrote.0.aligned; base = wrote.0.base; object = wrote.0.object; reads = wrote.0.reads; word = wrote.0.word ∙ ready.is };
      held = record { register_no = d; there = own.there; holds = own.holds ∙ sym base };
      normal = wrote.3 ∙ ap (λ (x : Object). x.kind) (same_Some wrote.1 own.object (sym wrote.2.0 ∙ ap s.objects base ∙ own.has)) ∙ own.of_kind;
    }

pub own_word : (pages d n r w k e : ℕ) (reply : Reply) (start made later set stored loaded : HeapPass) → d ≢ r → k < n
    → Makes pages start (Alloc d n Normal) Done made → CallsLeaveRegister pages d made later → MakesAfterNoFree pages later (Set r w) Done set
    → MakesAfterNoFree pages set (Store d k r) Done stored → MakesAfterNoWrite pages stored (Load e d k) reply loaded → reply ≡ Word w
own_word pages d n r w k e reply start made later set stored loaded ne lt first keeps second third fourth =
    let legal = fourth.makes.extends.fine.legal in
    let last = before pages stored loaded (Load e d k) reply fourth.makes legal.0 legal.1 in
    let mid = walks_through last.reached.0 last.state stored.seen fourth.makes.extends.between last.reached.2 in
    let stores = before pages set stored (Store d k r) Done third.makes mid.0 (last.reached.0, last.reached.1, mid.1) in
    let put = walks_through stores.reached.0 stores.state set.seen third.makes.extends.between stores.reached.2 in
    let sets = before pages later set (Set r w) Done second.makes put.0 (stores.reached.0, stores.reached.1, put.1) in
    let own = kept_owned pages d n Normal (λ a. Unit {0}) made keeps (made_owned pages d n Normal start made first) in
    let had = owned_before pages d n Normal (λ a. Unit {0}) later set (Set r w) Done second own put.0 sets in
    let sound = reached_sound pages (later.seen ++ second.makes.extends.between) sets.state sets.reached in
    let ready = set_ready (heap_of sets.state) later.slot d n r w had.0 sound sets.step.in_range.1.0 ne sets.step.happens had.2 in
    let ready2 = subst (λ (i : ℕ). Ready (heap_of put.0) i d n r w) (sym second.makes.extends.slot) (subst (λ (x : Heap). Ready x later.slot d n r w) (sym (ap heap_of sets.step.goes)) ready) in
    let ready3 = walks_ready put.0 stores.state third.makes.extends.between put.2 (reached_fresh pages set.seen put.0 (stores.reached.0, stores.reached.1, put.1)) set.slot d n r w ready2 third.makes.extends.others third.kept in
    let sound3 = reached_sound pages (set.seen ++ third.makes.extends.between) stores.state stores.reached in
    let wrote = store_ready (heap_of stores.state) set.slot d n k r w sound3 lt ready3 stores.step.happens in
    let there = subst (λ (i : ℕ). HasStored (heap_of mid.0) i d k w) (sym third.makes.extends.slot) (subst (λ (x : Heap). HasStored x set.slot d k w) (sym (ap heap_of stores.step.goes)) wrote) in
    let still = still_written mid.0 last.state fourth.makes.extends.between stored.slot there.mutator d k w mid.2 (reached_fresh pages stored.seen mid.0 (last.reached.0, last.reached.1, mid.1)) fourth.makes.extends.others fourth.left there.there (inr (there.held, there.normal)) in
    load_is (heap_of last.state) (reached_sound pages (stored.seen ++ fourth.makes.extends.between) last.state last.reached) stored.slot there.mutator d k w still last.step.happens
