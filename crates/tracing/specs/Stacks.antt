-- How stacks change.
use Rattle.std.specs.Prelude.{◌≡◌, ◌-◌, Option, Some, None, drop, length}
use Rattle.heap_spec.specs.declared.call.Call.TheVariants.{Push, Pop}
use Rattle.heap_spec.specs.declared.event.Event.{Event}
use Rattle.heap_spec.specs.declared.event.Event.TheVariants.{Mutator}
use Rattle.heap_spec.specs.declared.reply.Reply.{Reply}
use Rattle.heap_spec.specs.declared.reply.Reply.TheVariants.{Done, Word}
use Rattle.heap_spec.specs.Heap.{Mutator as HeapMutator}
use Rattle.roots.specs.Roots.{RootSet}
use Rattle.trace_lines.specs.declared.record.StackChange.{StackChange}
use Rattle.tracing.specs.declared.stacks.StackStep.{StackStep}
use Rattle.tracing.specs.RootWords.{there_at}

-- the stack that an event changed, and how many words it pushed: a push that was granted one, a pop none
abbrev pub stack_step : Event → Reply → Option StackStep
stack_step (Mutator slot (Push from)) Done = Some (record { slot = slot; pushed = 1 })
stack_step (Mutator slot (Pop into)) (Word word) = Some (record { slot = slot; pushed = 0 })
stack_step _ _ = None

-- The top of the mutator's stack, so many words, and how many there are below.
pub record IsTop (m : HeapMutator) (step : StackStep) (c : StackChange) : Type 0 where
  pub slot : c.slot ≡ step.slot
  pub keep : c.keep ≡ length m.stack - step.pushed
  pub pushed : c.pushed.items ≡ drop (length m.stack - step.pushed) m.stack

-- the top of the stack, if its mutator is there
abbrev pub SaysTop : Option HeapMutator → StackStep → Option StackChange → Type 0
SaysTop None step said = said ≡ None
SaysTop (Some m) step None = ⊥
SaysTop (Some m) step (Some c) = IsTop m step c

-- the top of the stack that changed, if one did
abbrev pub SaysStack : RootSet → Option StackStep → Option StackChange → Type 0
SaysStack roots None said = said ≡ None
SaysStack roots (Some step) said = SaysTop (there_at roots step.slot) step said
