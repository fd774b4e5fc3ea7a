-- A word that is stored stands where it was stored, and a load there answers it, through what leaves the words of objects.
use Rattle.std.proofs.Common.{Bool, false, cond, get_or, ◌+◌, ◌*◌, ◌≡◌, ◌≢◌, ℕ, ◌<◌, ◌%◌, ◌⊎◌, List, [], ◌∷◌, ◌++◌, length, refl, sym, ap, ◌∙◌, subst, arith, inl, inr, ⊎_elim, get_or-set_same}
use Rattle.std.specs.Prelude.{Some, All, slice_set, slice_index}
use Rattle.std.proofs.lemmas.Bool.{cases_eq}
use Rattle.std.proofs.lemmas.Option.{same_Some}
use Rattle.std.proofs.lemmas.List.{length-set}
use Rattle.std.proofs.lemmas.List.Elements.{All-head, All-tail, All-contains}
use Rattle.history.specs.Histories.{event, AreOfOthers, Walks, Legal}
use Rattle.heap_spec.specs.declared.call.Call.{Call}
use Rattle.heap_spec.specs.declared.call.Call.TheVariants.{Set, Load, Store}
use Rattle.heap_spec.specs.declared.event.Event.{Event}
use Rattle.heap_spec.specs.declared.event.Event.TheVariants.{Attach, Mutator, Begin, BeginPartial, Roots, Mark, Retrace, Finish, Sweep, Collect, Number}
use Rattle.heap_spec.specs.declared.reply.Reply.{Reply}
use Rattle.heap_spec.specs.declared.reply.Reply.TheVariants.{Done, Word}
use Rattle.heap_spec.specs.Layout.{index_in}
use Rattle.heap_spec.specs.Heap.{Heap, Object, Mutator as HeapMutator, HasObject, PointsIntoObject, IsAttached}
use Rattle.heap_spec.specs.Closure.{Reached}
use Rattle.heap_spec.specs.Cycles.{TakesOut}
use Rattle.heap_spec.specs.Steps.{Acts, Attaches, Calls, acts, vacant, register, address}
use Rattle.heap_spec.specs.Sound.{IsSound}
use Rattle.heap_spec.specs.Laws.{IsRunFromOpening}
use Rattle.heap_spec.specs.SequentialObject.{HeapState, heap_of, Opens, StateStep}
use Rattle.heap_spec.proofs.Layouts.{placed}
use Rattle.heap_spec.proofs.Loads.{same_mutator}
use Rattle.heap_spec.proofs.Objects.{with_at-same, with_at-other, one_read}
use Rattle.heap_spec.proofs.Links.{stays_by}
use Rattle.std.specs.Prelude.{◌==◌, ◌&&◌}
use Rattle.std.proofs.lemmas.Bool.{ne_eqb}
use Rattle.std.proofs.lemmas.List.Folds.{list_any_none}
use Rattle.words.specs.declared.class.Kind.TheVariants.{Normal, PointerFree}
use Rattle.heap_spec.specs.Layout.{PointsInto}
use Rattle.heap_spec.specs.Heap.{Link, names, loses_word, cleared}
use Rattle.heap_spec.specs.Sound.{IsLink}
use Rattle.heap_spec.proofs.Runs.{fresh_sound}
use Rattle.heap_history.specs.Passes.{MadeEvent, HeapPass}
use Rattle.heap_history.specs.Headline.{Makes}
use Rattle.heap_history.specs.Laws.{LeavesWordsCall, LeavesWords, IsNoCollection, MakesUndisturbed}
use Rattle.heap_history.proofs.Slots.{not_both, step_mutators}
use Rattle.heap_history.proofs.Stored.{step_fresh, set_leaves, walks_last, walks_through, walks_mutators, reached_fresh, reached_sound}
use Rattle.heap_history.proofs.Held.{room_none, held_reached}

-- The word stands where the address of a load or store points.
pub record Written (s : Heap) (slot : ℕ) (m : HeapMutator) (a n w : ℕ) : Type 0 where
  pub at : IsAttached s slot m
  pub aligned : address m a n % 8 ≡ 0
  pub base : ℕ
  pub object : Object
  pub reads : PointsIntoObject s (address m a n) base object
  pub word : slice_index object.words (index_in base (address m a n)) ≡ w

-- A granted store leaves it so, in an object that was there.
pub store_is : (s : Heap) (slot a n r : ℕ) (m : HeapMutator) → IsAttached s slot m → {s' : Heap} → Calls s slot (Store a n r) Done s'
    → (there : Written s' slot m a n (register m r)) × (o : Object) × PointsIntoObject s (address m a n) there.base o × (there.object.kind ≡ o.kind)
store_is s slot a n r m at {s' = s'} (acts {m = k} at' act) = by (subst (λ (x : HeapMutator). Acts s slot x (Store a n r) Done s') (same_mutator s slot k m at' at) act)
  where
    by : {s' : Heap} → Acts s slot m (Store a n r) Done s' → (there : Written s' slot m a n (register m r)) × (o : Object) × PointsIntoObject s (address m a n) there.base o × (there.object.kind ≡ o.kind)
    by (Acts.stored {base = base} {o = o} al reads) =
        let from = reads.1.0 in
        let to = reads.1.1 in (
          record {
            at = at;
            aligned = al;
            base = base;
            object = record o { words = slice_set o.words (index_in base (address m a n)) (register m r) };
            reads = (with_at-same s.objects base _ base refl, (from, rw (length-set o.words (index_in base (address m a n)) (register m r)) to));
            word = get_or-set_same o.words (index_in base (address m a n)) (register m r) 0 (omega (arith, from, to));
          },
          o,
          reads,
          refl,
        )

-- A load there answers it.
pub load_is : (s : Heap) → IsSound s → (slot : ℕ) (m : HeapMutator) (a n w : ℕ) → Written s slot m a n w → {d : ℕ} {reply : Reply} {s' : Heap} → Calls s slot (Load d a n) reply s' → reply ≡ Word w
load_is s h slot m a n w there {d = d} {reply = reply} {s' = s'} (acts {m = k} at act) = by (subst (λ (x : HeapMutator). Acts s slot x (Load d a n) reply s') (same_mutator s slot k m at there.at) act)
  where
    by : {d : ℕ} {reply : Reply} {s' : Heap} → Acts s slot m (Load d a n) reply s' → reply ≡ Word w
    by (Acts.loaded {base = b} {o = p} al reads) =
        let same = one_read s h (address m a n) b there.base p there.object reads there.reads in
        let object = same_Some p there.object (sym reads.0 ∙ (ap s.objects same ∙ there.reads.0)) in
        ap (λ q. Word (slice_index p.words (index_in q (address m a n)))) same
        ∙ ap (λ (o : Object). Word (slice_index o.words (index_in there.base (address m a n)))) object
        ∙ ap Word there.word
    by (Acts.load_misaligned ne) = absurd (ne there.aligned)
    by (Acts.load_nothing al none) = absurd (none there.base there.object there.reads)
load_is s h slot m a n w there (vacant none) = absurd (not_both s slot m there.at none)

-- A call that stores and frees nothing leaves each object as it is.
acts_leave : (s : Heap) (slot : ℕ) (m : HeapMutator) → IsSound s → {call : Call} {reply : Reply} {s' : Heap} → Acts s slot m call reply s' → LeavesWordsCall call → (base : ℕ) (o : Object) → HasObject s base o → HasObject s' base o
acts_leave s slot m h (Acts.stored al reads) left base o has = absurd left
acts_leave s slot m h (Acts.allocated {n = n} {kind = kind} {placement = placement} a e room) left base o has = ⊎_elim
    (λ here. absurd (room_none s h placement kind a (placed _ n placement e) room o (ap s.objects (sym here) ∙ has)))
    (λ other. with_at-other s.objects a _ base other ∙ has)
    (cases_eq base a)
acts_leave s slot m h (Acts.freed gone) left base o has = absurd left
acts_leave s slot m h _ left base o has = has

pub calls_leave : (s : Heap) (slot : ℕ) → IsSound s → {call : Call} {reply : Reply} {s' : Heap} → Calls s slot call reply s' → LeavesWordsCall call → (base : ℕ) (o : Object) → HasObject s base o → HasObject s' base o
calls_leave s slot h (Calls.acts {m = m} at act) left base o has = acts_leave s slot m h act left base o has
calls_leave s slot h (Calls.vacant none) left base o has = has

pub attaches_leave : (s : Heap) {reply : Reply} {s' : Heap} → Attaches s reply s' → (base : ℕ) (o : Object) → HasObject s base o → HasObject s' base o
attaches_leave s (Attaches.attached lowest) base o has = has
attaches_leave s (Attaches.no_slot none) base o has = has

-- words of which none is cleared
cleared_same : (gone : ℕ → Bool) (a : ℕ) (ws : List ℕ) → ((i : ℕ) → i < length ws → gone (a + 8 * i) ≡ false) → cleared gone a ws ≡ ws
cleared_same gone a [] none = refl
cleared_same gone a (w ∷ ws) none =
    ap (λ b. cond b 0 w ∷ cleared gone (a + 8) ws) (ap gone (omega arith) ∙ none 0 (omega arith))
    ∙ ap (λ l. w ∷ l) (cleared_same gone (a + 8) ws (λ i lt. ap gone (omega arith) ∙ none (i + 1) (omega arith)))

-- no link stands at a word of a Normal object
normal_free : Normal ≡ PointerFree → ⊥
normal_free e = cc

no_link : (s : Heap) → IsSound s → (bases : List ℕ) (base : ℕ) (o : Object) → HasObject s base o → o.kind ≡ Normal → (a : ℕ) → PointsInto a base (length o.words) → loses_word s bases a ≡ false
no_link s h bases base o has kind a reads = list_any_none (λ l. (l.address == a) && names s bases l) s.links (λ i d lt. one (get_or s.links i d) (h.links.each i d lt))
  where
    one : (l : Link) → IsLink s l → ((l.address == a) && names s bases l) ≡ false
    one l k = ⊎_elim
        (λ same.
        let e = one_read s h a k.base base k.holder o (subst (λ x. PointsIntoObject s x k.base k.holder) same k.in_holder) (has, reads) in
        let object : k.holder ≡ o = same_Some k.holder o (sym k.in_holder.0 ∙ ap s.objects e ∙ has) in
        absurd (normal_free (sym kind ∙ ap (λ (x : Object). x.kind) (sym object) ∙ k.kind)))
        (λ other. ap (λ b. b && names s bases l) (ne_eqb l.address a other))
        (cases_eq l.address a)

-- so a collection leaves what is reached and Normal as it is
pub takes_leave : (s : Heap) → IsSound s → (bases : List ℕ) (reply : Reply) (s' : Heap) → TakesOut s bases reply s' → (base : ℕ) (o : Object) → HasObject s base o → Reached s base → o.kind ≡ Normal → HasObject s' base o
takes_leave s h bases reply s' takes base o has r kind =
    ap (λ (x : Heap). x.objects base) takes.after
    ∙ stays_by s bases base o has (λ among. All-contains (λ b. Reached s b → ⊥) bases base takes.unreached among r)
    ∙ ap (λ ws. Some (record o { words = ws })) (cleared_same (loses_word s bases) base o.words (λ i lt. no_link s h bases base o has kind (base + 8 * i) (omega arith, omega arith)))

-- So each step that stores and frees nothing leaves an object, if it collects nothing or the object is reached.
pub step_leaves : (s t : HeapState) (by : ℕ) (event : Event) (reply : Reply) (h : StateStep s by event reply t) → IsSound (heap_of s) → LeavesWords event → (base : ℕ) (o : Object)
    → IsNoCollection event ⊎ (Reached (heap_of s) base × (o.kind ≡ Normal)) → HasObject (heap_of s) base o → HasObject h.heap base o
step_leaves s t by Attach reply h sound left base o safe has = attaches_leave (heap_of s) h.happens base o has
step_leaves s t by (Mutator slot call) reply h sound left base o safe has = calls_leave (heap_of s) slot sound h.happens left base o has
step_leaves s t by Begin reply h sound left base o safe has = ap (λ (x : Heap). x.objects base) h.happens.1.1 ∙ has
step_leaves s t by BeginPartial reply h sound left base o safe has = ap (λ (x : Heap). x.objects base) h.happens.2.1 ∙ has
step_leaves s t by Finish reply h sound left base o safe has = ⊎_elim (λ none. absurd none) (λ r. takes_leave _ sound _ _ _ h.happens.1.takes base o has r.0 r.1) safe
step_leaves s t by Collect reply h sound left base o safe has = ⊎_elim (λ none. absurd none) (λ r. takes_leave _ sound _ _ _ h.happens.takes base o has r.0 r.1) safe
step_leaves s t by Roots reply h sound left base o safe has = absurd h.fits
step_leaves s t by (Mark n) reply h sound left base o safe has = absurd h.fits
step_leaves s t by Retrace reply h sound left base o safe has = absurd h.fits
step_leaves s t by Sweep reply h sound left base o safe has = absurd h.fits
step_leaves s t by Number reply h sound left base o safe has = absurd h.fits

-- a register of the mutator has the base
pub record Holds (m : HeapMutator) (base : ℕ) : Type 0 where
  pub register_no : ℕ
  pub there : register_no < length m.registers
  pub holds : register m register_no ≡ base

-- Along a chain of others' steps that store and free nothing the object stays, if none collects or a register has its base.
pub walks_leave : (s t : HeapState) (es : List MadeEvent) → Walks StateStep s es t → IsRunFromOpening s.pages s.run → (who : ℕ) (m : HeapMutator) → IsAttached (heap_of s) who m → AreOfOthers who es
    → All (λ (e : MadeEvent). LeavesWords e.call) es → (base : ℕ) (o : Object) → All (λ (e : MadeEvent). IsNoCollection e.call) es ⊎ (Holds m base × (o.kind ≡ Normal)) → HasObject (heap_of s) base o → HasObject (heap_of t) base o
walks_leave s t [] w fresh who m at others left base o safe has = subst (λ (x : HeapState). HasObject (heap_of x) base o) w has
walks_leave s t (e ∷ es) w fresh who m at others left base o safe has =
    let sound = fresh_sound s.pages s.run fresh in
    let first : IsNoCollection e.call ⊎ (Reached (heap_of s) base × (o.kind ≡ Normal)) = ⊎_elim
    (λ none. inl (All-head (λ (x : MadeEvent). IsNoCollection x.call) e es none))
    (λ (held : Holds m base × (o.kind ≡ Normal)). inr (held_reached (heap_of s) sound who m held.0.register_no base o at held.0.there held.0.holds has, held.1))
    safe in
    let rest : All (λ (x : MadeEvent). IsNoCollection x.call) es ⊎ (Holds m base × (o.kind ≡ Normal)) = ⊎_elim (λ none. inl (All-tail (λ (x : MadeEvent). IsNoCollection x.call) e es none)) (λ held. inr held) safe in
    let stays = step_leaves s w.0 e.who e.call e.reply w.1 sound (All-head (λ (x : MadeEvent). LeavesWords x.call) e es left) base o first has in
    let still = step_mutators s w.0 e.who who e.call e.reply (All-head (λ (x : MadeEvent). x.who ≢ who) e es others) w.1 ∙ at in
    walks_leave w.0 t es w.2 (step_fresh s w.0 e.who e.call e.reply w.1 fresh) who m still (All-tail (λ (x : MadeEvent). x.who ≢ who) e es others) (All-tail (λ (x : MadeEvent). LeavesWords x.call) e es left) base o rest
    (ap (λ (x : HeapState). (heap_of x).objects base) w.1.goes ∙ stays)

-- So the word still stands there after what others did.
pub still_written : (s t : HeapState) (es : List MadeEvent) (slot : ℕ) (m : HeapMutator) (a n w : ℕ) → Walks StateStep s es t → IsRunFromOpening s.pages s.run → AreOfOthers slot es → All (λ (e : MadeEvent). LeavesWords e.call) es
    → (there : Written (heap_of s) slot m a n w) → All (λ (e : MadeEvent). IsNoCollection e.call) es ⊎ (Holds m there.base × (there.object.kind ≡ Normal)) → Written (heap_of t) slot m a n w
still_written s t es slot m a n w walk fresh others left there safe = record {
  at = walks_mutators s t es slot walk others ∙ there.at;
  aligned = there.aligned;
  base = there.base;
  object = there.object;
  reads = (walks_leave s t es walk fresh slot m there.at others left there.base there.object safe there.reads.0, there.reads.1);
  word = there.word;
}

pub own_load : (pages a n r d w : ℕ) (reply : Reply) (start set stored loaded : HeapPass)
    → Makes pages start (Set r w) Done set → Makes pages set (Store a n r) Done stored → MakesUndisturbed pages stored (Load d a n) reply loaded → reply ≡ Word w
own_load pages a n r d w reply start set stored loaded first second third =
    let early = start.seen ++ first.extends.between in
    let since = second.extends.between in
    let later = third.after.makes.extends.between in
    let e1 = event start.slot (Mutator start.slot (Set r w)) Done in
    let e2 = event start.slot (Mutator start.slot (Store a n r)) Done in
    let e3 = event start.slot (Mutator start.slot (Load d a n)) reply in
    let slot1 = first.extends.slot in
    let slot2 = second.extends.slot ∙ slot1 in
    let before = (early ++ e1 ∷ []) ++ since in
    let made = before ++ e2 ∷ [] in
    let two : stored.seen ≡ made = second.extends.seen ∙ (λ i. (first.extends.seen i ++ since) ++ event (slot1 i) (Mutator (slot1 i) (Store a n r)) Done ∷ []) in
    let three : loaded.seen ≡ (made ++ later) ++ e3 ∷ [] = third.after.makes.extends.seen ∙ (λ i. (two i ++ later) ++ event (slot2 i) (Mutator (slot2 i) (Load d a n)) reply ∷ []) in
    let legal = subst (λ l. Legal (Opens pages) StateStep l) three third.after.makes.extends.fine.legal in
    let t4 = walks_last legal.1.0 legal.0 (made ++ later) e3 legal.1.2 in
    let t3 = walks_through legal.1.0 t4.0 made later t4.1 in
    let t2 = walks_last legal.1.0 t3.0 before e2 t3.1 in
    let t1 = walks_through legal.1.0 t2.0 (early ++ e1 ∷ []) since t2.1 in
    let t0 = walks_last legal.1.0 t1.0 early e1 t1.1 in
    let new = set_leaves t0.0 t1.0 start.slot start.slot r w (reached_sound pages early t0.0 (legal.1.0, legal.1.1, t0.1)) t0.2 in
    let at = walks_mutators t1.0 t2.0 since start.slot t1.2 (subst (λ (k : ℕ). AreOfOthers k since) slot1 second.extends.others) ∙ new.1 in
    let stored : Written (heap_of t3.0) start.slot new.0 a n (register new.0 r) = subst (λ (x : HeapState). Written (heap_of x) start.slot new.0 a n (register new.0 r)) (sym t2.2.goes) (store_is (heap_of t2.0) start.slot a n r new.0 at t2.2.happens).0 in
    let others = subst (λ (k : ℕ). AreOfOthers k later) slot2 third.after.makes.extends.others in
    let there = still_written t3.0 t4.0 later start.slot new.0 a n (register new.0 r) t3.2 (reached_fresh pages made t3.0 (legal.1.0, legal.1.1, t3.1)) others third.after.left stored (inl third.kept) in
    load_is (heap_of t4.0) (reached_sound pages (made ++ later) t4.0 (legal.1.0, legal.1.1, t4.1)) start.slot new.0 a n (register new.0 r) there t4.2.happens ∙ ap Word new.2
