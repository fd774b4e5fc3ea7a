use Rattle.std.proofs.Common.{◌≡◌, ◌++◌, map}
use Rattle.std.specs.Prelude.{replicate}
use Rattle.heap_spec.specs.declared.event.Event.TheVariants.{Attach}
use Rattle.scripts.specs.Turns.{text_of}
use Rattle.workloads.specs.Stress.{line_of_command}
use Rattle.workloads.proofs.stress.put_attaches.Given as goal

abbrev pub invariant-loop-mutator : goal.invariant-loop-mutator
invariant-loop-mutator l = l.text.items ≡ l.fn.text.items ++ text_of (map line_of_command (replicate l._mutator Attach))
