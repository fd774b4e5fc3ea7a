use Rattle.std.proofs.Common.{ℕ, ◌∙◌, subst}
use Rattle.std.specs.Prelude.{take}
use Rattle.std.specs.Io.KnownBytes.{Appends}
use Rattle.scripts.proofs.Bytes.{Appends-none}
use Rattle.workloads.proofs.random.write_stress.Goals as goal

pub returns-in_default-clause-written : goal.returns-in_default-clause-written
returns-in_default-clause-written g c = Appends-none (g.W.Sink.written c.args.writer.now)

pub returns-in-Ok-write_all-clause-written : goal.returns-in-Ok-write_all-clause-written
returns-in-Ok-write_all-clause-written g c = subst (λ t. Appends (g.W.Sink.written c.args.writer.now) (g.W.Sink.written c.write_all.new.sink) t) (c.as_slice.ensures.value ∙ c.in-Ok.ensures) c.in-Ok-write_all.ensures.ok

pub returns-clause-written : goal.returns-clause-written
returns-clause-written g c =
    subst (λ t. (n : ℕ) × Appends (g.W.Sink.written c.args.writer.now) (g.W.Sink.written c.write_all.new.sink) (take n t)) (c.as_slice.ensures.value ∙ c.in-Ok.ensures) c.in-Err.ensures.err
