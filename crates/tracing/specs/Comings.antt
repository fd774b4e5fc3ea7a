-- Mutators that come and go, and objects that come.
use Rattle.std.specs.Prelude.{ℕ, Bool, true, false, Option, Some, None, List, map}
use Rattle.heap_spec.specs.declared.call.Call.TheVariants.{Detach}
use Rattle.heap_spec.specs.declared.event.Event.{Event}
use Rattle.heap_spec.specs.declared.event.Event.TheVariants.{Mutator}
use Rattle.heap_spec.specs.declared.reply.Reply.{Reply}
use Rattle.heap_spec.specs.declared.reply.Reply.TheVariants.{Done, Slot}
use Rattle.words.specs.declared.class.Kind.{Kind}
use Rattle.words.specs.declared.class.Kind.TheVariants.{Normal, PointerFree}
use Rattle.plain_heap.specs.declared.extent.Extent.{Extent}
use Rattle.pages.specs.Memory.{word_index}
use Rattle.trace_lines.specs.declared.record.NewObject.{NewObject}
use Rattle.tracing.specs.Sets.{objects_without}

-- the slot of the mutator that came, if one did
abbrev pub attached_slot : Reply → Option ℕ
attached_slot (Slot slot) = Some slot
attached_slot _ = None

-- the slot of the mutator that went, if one did
abbrev pub detached_slot : Event → Reply → Option ℕ
detached_slot (Mutator slot Detach) Done = Some slot
detached_slot _ _ = None

-- whether words of the kind are never read
abbrev pub is_pointer_free : Kind → Bool
is_pointer_free Normal = false
is_pointer_free PointerFree = true

-- an object of this birth, as a trace names it
abbrev pub new_object : ℕ → Extent → NewObject
new_object birth o = record { place = word_index o.base; birth = birth; words = o.length; is_atomic = is_pointer_free o.kind }

-- the objects at whose bases none lay before
abbrev pub born : ℕ → List Extent → List Extent → List NewObject
born birth old new = map (new_object birth) (objects_without new old)
