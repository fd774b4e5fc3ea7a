use Rattle.std.proofs.Common.{◌≡◌, ℕ, List, ◌++◌, ap, ◌∙◌, append_assoc, sym, codes}
use Rattle.std.specs.Prelude.{Result, Ok, Err, IfOk, decimal}
use Rattle.words.specs.declared.refusal.Refusal.{Refusal}
use Rattle.words.specs.Refusals.{code_of, name_of}
use Rattle.heap_spec.specs.declared.reply.Reply.TheVariants.{Refused}
use Rattle.written_runs.specs.Written.{answer_of}
use Rattle.written_runs.proofs.writing.reply_text.Goals as goal

-- the three parts of a refusal's text
refused_text : {S E : Type 0} (bytes : S → List ℕ) (r : Result S E) (refusal : Refusal) (code : ℕ) (name : List ℕ) → code ≡ code_of refusal → name ≡ name_of refusal
    → IfOk r (λ s. bytes s ≡ codes "refused " ++ (decimal code ++ (codes " " ++ name))) → IfOk r (λ s. bytes s ≡ answer_of (Refused refusal))
refused_text bytes (Ok s) refusal code name e f h =
    h ∙ ap (λ k. codes "refused " ++ (decimal k ++ (codes " " ++ name))) e ∙ ap (λ n. codes "refused " ++ (decimal (code_of refusal) ++ (codes " " ++ n))) f
    ∙ sym (append_assoc (codes "refused " ++ decimal (code_of refusal)) (codes " ") (name_of refusal) ∙ append_assoc (codes "refused ") (decimal (code_of refusal)) (codes " " ++ name_of refusal))
refused_text bytes (Err x) refusal code name e f h = tt

pub returns-in-Refused : goal.returns-in-Refused
returns-in-Refused c = rw c.in-Refused.is (refused_text _ _ c.in-Refused.refusal _ _ c.code.ensures c.name.ensures c.format-in-Refused.ensures.ok)
