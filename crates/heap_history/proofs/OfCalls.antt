-- What is asked of calls of mutators alone.
use Rattle.std.proofs.Common.{◌≡◌, ℕ, arith}
use Rattle.heap_spec.specs.declared.call.Call.{Call}
use Rattle.heap_spec.specs.declared.event.Event.{Event}
use Rattle.heap_spec.specs.declared.event.Event.TheVariants.{Mutator}
use Rattle.heap_spec.specs.declared.reply.Reply.{Reply}
use Rattle.heap_spec.specs.SequentialObject.{HeapState, StateStep}
use Rattle.heap_history.specs.OfCalls.{IfCall}

-- what follows for calls follows for events
pub if_weaker : (P Q : Call → Type 0) → ((call : Call) → P call → Q call) → (asked : Event) → IfCall P asked → IfCall Q asked
if_weaker P Q weaker (Mutator slot call) is = weaker call is
if_weaker P Q weaker _ is = tt

-- and of the collector's events nothing is asked
pub if_collector : (P : Call → Type 0) (s u : HeapState) (who : ℕ) (asked : Event) (reply : Reply) → StateStep s who asked reply u → who ≡ 16 → IfCall P asked
if_collector P s u who (Mutator slot call) reply h is = let lt = h.fits.range in absurd (omega (arith, lt, is))
if_collector P s u who _ reply h is = tt
