-- A mutator's register answers what the mutator put into it.
use Rattle.std.proofs.Common.{◌≡◌, ℕ, ◌++◌, sym, ap, ◌∙◌, subst}
use Rattle.heap_spec.specs.declared.call.Call.TheVariants.{Get, Set}
use Rattle.heap_spec.specs.declared.reply.Reply.{Reply}
use Rattle.heap_spec.specs.declared.reply.Reply.TheVariants.{Done, Word}
use Rattle.heap_spec.specs.Heap.{Heap, Mutator as HeapMutator, IsAttached}
use Rattle.heap_spec.specs.Steps.{Acts, Calls, acts, vacant, register}
use Rattle.heap_spec.specs.SequentialObject.{heap_of}
use Rattle.heap_spec.proofs.Loads.{same_mutator}
use Rattle.heap_history.specs.Passes.{HeapPass}
use Rattle.heap_history.specs.Headline.{Makes}
use Rattle.heap_history.proofs.Slots.{not_both}
use Rattle.heap_history.proofs.Stored.{set_leaves, walks_through, walks_mutators, reached_sound}
use Rattle.heap_history.proofs.Owning.{before}

-- what is told of a register
got : (s : Heap) (slot r : ℕ) (m : HeapMutator) → IsAttached s slot m → {reply : Reply} {s' : Heap} → Calls s slot (Get r) reply s' → reply ≡ Word (register m r)
got s slot r m at (acts {m = k} at' Acts.got) = ap (λ (x : HeapMutator). Word (register x r)) (same_mutator s slot k m at' at)
got s slot r m at (vacant none) = absurd (not_both s slot m at none)

pub own_register : (pages r w : ℕ) (reply : Reply) (start set asked : HeapPass) → Makes pages start (Set r w) Done set → Makes pages set (Get r) reply asked → reply ≡ Word w
own_register pages r w reply start set asked first second =
    let legal = second.extends.fine.legal in
    let between = second.extends.between in
    let last = before pages set asked (Get r) reply second legal.0 legal.1 in
    let mid = walks_through last.reached.0 last.state set.seen between last.reached.2 in
    let sets = before pages start set (Set r w) Done first mid.0 (last.reached.0, last.reached.1, mid.1) in
    let sound = reached_sound pages (start.seen ++ first.extends.between) sets.state sets.reached in
    let new = set_leaves sets.state mid.0 start.slot start.slot r w sound sets.step in
    let at : IsAttached (heap_of mid.0) set.slot new.0 = subst (λ (k : ℕ). IsAttached (heap_of mid.0) k new.0) (sym first.extends.slot) new.1 in
    let still : IsAttached (heap_of last.state) set.slot new.0 = walks_mutators mid.0 last.state between set.slot mid.2 second.extends.others ∙ at in
    got (heap_of last.state) set.slot r new.0 still last.step.happens ∙ ap Word new.2
