-- What the result of a call is as a reply, and what it is for a call to be a step.
use Rattle.std.specs.Prelude.{ℕ, Result, Ok, Err, ⊤}
use Rattle.words.specs.declared.refusal.Refusal.{Refusal}
use Rattle.heap_spec.specs.declared.event.Event.{Event}
use Rattle.heap_spec.specs.declared.reply.Reply.{Reply}
use Rattle.heap_spec.specs.declared.reply.Reply.TheVariants.{Slot, Done, Word, Count, Refused}
use Rattle.heap_spec.specs.Heap.{Heap}
use Rattle.heap_spec.specs.Steps.{Step}

-- a call that answers nothing more than that it is done
abbrev pub done_reply : Result ⊤ Refusal → Reply
done_reply (Ok done) = Done
done_reply (Err refusal) = Refused refusal

-- a call that answers a slot
abbrev pub slot_reply : Result ℕ Refusal → Reply
slot_reply (Ok slot) = Slot slot
slot_reply (Err refusal) = Refused refusal

-- a call that answers a word
abbrev pub word_reply : Result ℕ Refusal → Reply
word_reply (Ok word) = Word word
word_reply (Err refusal) = Refused refusal

-- a call that answers a number of things
abbrev pub count_reply : Result ℕ Refusal → Reply
count_reply (Ok count) = Count count
count_reply (Err refusal) = Refused refusal

-- From each heap that was stood for, the event with its reply is a step to a heap that is stood for.
abbrev pub IsStep : (Heap → Type 0) → Event → Reply → (Heap → Type 0) → Type 0
IsStep stood event reply stands = (s : Heap) → stood s → (s' : Heap) × Step s event reply s' × stands s'
