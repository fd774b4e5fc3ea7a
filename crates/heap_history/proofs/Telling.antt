-- What an attached mutator is answered.
use Rattle.std.proofs.Common.{◌≡◌, ◌≢◌, ℕ, Bool, true, false, refl, sym, ap, ◌∙◌, true≢false}
use Rattle.std.specs.Prelude.{slice_get}
use Rattle.words.specs.declared.refusal.Refusal.{Refusal}
use Rattle.words.specs.declared.refusal.Refusal.TheVariants.{NoSlot}
use Rattle.heap_spec.specs.declared.call.Call.{Call}
use Rattle.heap_spec.specs.declared.event.Event.TheVariants.{Mutator}
use Rattle.heap_spec.specs.declared.reply.Reply.{Reply}
use Rattle.heap_spec.specs.declared.reply.Reply.TheVariants.{Refused}
use Rattle.heap_spec.specs.Heap.{Heap, Mutator as HeapMutator, IsAttached}
use Rattle.heap_spec.specs.Steps.{Acts, Calls, acts, vacant}
use Rattle.heap_spec.specs.SequentialObject.{HeapState, heap_of, StateStep}
use Rattle.heap_history.specs.Replies.{IsReplyKind}
use Rattle.heap_history.proofs.Slots.{not_both}

abbrev is_no_slot_refusal : Refusal → Bool
is_no_slot_refusal NoSlot = true
is_no_slot_refusal _ = false

abbrev is_no_slot : Reply → Bool
is_no_slot (Refused why) = is_no_slot_refusal why
is_no_slot _ = false

abbrev Told : Call → Reply → Type 0
Told call reply = (is_no_slot reply ≡ false) × IsReplyKind call reply

acts_told : (s : Heap) (slot : ℕ) (m : HeapMutator) {call : Call} {reply : Reply} {s' : Heap} → Acts s slot m call reply s' → Told call reply
acts_told s slot m Acts.detached = (refl, tt)
acts_told s slot m _ = (refl, tt)

calls_told : (s : Heap) (slot : ℕ) (m : HeapMutator) (call : Call) → IsAttached s slot m → {reply : Reply} {s' : Heap} → Calls s slot call reply s' → Told call reply
calls_told s slot m call at (acts {m = k} at' act) = acts_told s slot k act
calls_told s slot m call at (vacant none) = absurd (not_both s slot m at none)

step_told : (s t : HeapState) (who slot : ℕ) (call : Call) (reply : Reply) → StateStep s who (Mutator slot call) reply t → Told call reply
step_told s t who slot call reply h = calls_told (heap_of s) slot h.fits.mutator call (ap (λ n. slice_get (heap_of s).mutators n) (sym h.fits.own) ∙ h.fits.attached) h.happens

-- never that its slot isn't attached
pub has_slot : (s t : HeapState) (who slot : ℕ) (call : Call) (reply : Reply) → StateStep s who (Mutator slot call) reply t → reply ≢ Refused NoSlot
has_slot s t who slot call reply h e = true≢false (sym (ap is_no_slot e) ∙ (step_told s t who slot call reply h).0)

-- and in the form of its call
pub answers : (s t : HeapState) (who slot : ℕ) (call : Call) (reply : Reply) → StateStep s who (Mutator slot call) reply t → IsReplyKind call reply
answers s t who slot call reply h = (step_told s t who slot call reply h).1
