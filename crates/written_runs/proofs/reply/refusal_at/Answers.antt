use Rattle.std.proofs.Common.{ℕ, ◌∙◌, sym, subst}
use Rattle.written_runs.specs.Reading.{IsNumberAt}
use Rattle.written_runs.proofs.Refusals.{no_refusal, no_name, other_name}
use Rattle.written_runs.proofs.reply.refusal_at.Goals as goal

pub returns-in_default-refusal_with : goal.returns-in_default-refusal_with
returns-in_default-refusal_with c = no_refusal _ _ _ c.in-Some.ensures c.in_default-refusal_with.ensures

pub returns-in_default-past : goal.returns-in_default-past
returns-in_default-past c = no_name _ _ _ c.in-Some.ensures c.in_default-past.ensures

pub returns-then-not-is_text : goal.returns-then-not-is_text
returns-then-not-is_text c =
    let P : ℕ → Type 0 = λ code. IsNumberAt c.args.text.now code c.in-Some.text.now in
    other_name _ c.in-Some-refusal_with.refusal _ _ _ _ (subst P (sym c.in-Some-refusal_with.ensures) c.in-Some.ensures) c.in-Some-past.ensures c.cut.ensures (λ w. c.if-not-is_text.ensures (w ∙ sym c.name.ensures))
