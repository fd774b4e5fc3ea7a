-- The refusal that a `?` hands on.
use Rattle.std.proofs.Common.{◌≡◌, Option, Some, None, Result, Ok, Err, IsErrAnd, ok_or, ap, ◌∙◌}
use Rattle.words.specs.declared.refusal.Refusal.{Refusal}

-- of a result
pub handed_on : {T : Type 0} (result : Result T Refusal) (e refusal : Refusal) → IsErrAnd result (λ y. y ≡ e) → e ≡ refusal → result ≡ Err refusal
handed_on (Ok x) e refusal is same = search
handed_on (Err y) e refusal is same = ap Err (is ∙ same)

-- of a value that is refused where it is none
pub handed_on_none : {X T : Type 0} (value : Option X) (result : Result T Refusal) (e refusal : Refusal) → IsErrAnd result (λ y. y ≡ e) → Err e ≡ ok_or value refusal → result ≡ Err refusal
handed_on_none None result e refusal is same = handed_on result e refusal is cc
handed_on_none (Some x) result e refusal is same = search
