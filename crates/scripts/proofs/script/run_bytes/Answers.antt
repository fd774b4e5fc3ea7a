use Rattle.std.proofs.Common.{List, refl, ap, ◌∙◌, subst, arith, ℕ}
use Rattle.std.specs.Prelude.{Option, Some}
use Rattle.scripts.specs.Answers.{Serves}
use Rattle.scripts.proofs.InMemory.{answered}
use Rattle.scripts.proofs.script.run_bytes.Goals as goal

pub returns-clause-answers : goal.returns-clause-answers
returns-clause-answers c =
    let run = c.run_script-answer in
    let P : Option (List ℕ) → Type 0 = λ old. Serves c.args.pages c.args.script.now (Some run.new.reader.now) old (Some run.new.writer.inner.items) run.result in
    let serves = subst P (ap (λ v. Some v.items) c.new-writer.ensures.inner ∙ ap Some c.new.ensures.items) (run.ensures.serves c.args.script.now refl) in
    answered c.args.pages c.args.script.now run.new.reader.now run.new.writer.inner.items run.result c.in_memory.result serves (omega (arith, run.ensures.reader)) c.in_memory.ensures.write c.in_memory.ensures.other
