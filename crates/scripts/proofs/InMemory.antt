-- A run of a script that is at hand as bytes, whose replies stay in memory.
use Rattle.std.proofs.Common.{◌≡◌, ℕ, ◌-◌, List, [], ◌++◌, take, refl, sym, ap, ◌∙◌, subst, inl, inr}
use Rattle.std.specs.Prelude.{Some, Result, Ok, Err, ⊤}
use Rattle.std.proofs.lemmas.List.{append-nil}
use Rattle.scripts.specs.declared.errors.ScriptError.{ScriptError}
use Rattle.scripts.specs.declared.errors.ScriptError.TheVariants.{BadLine, Read, Write, Memory}
use Rattle.scripts.specs.Ends.{read_faults}
use Rattle.scripts.specs.Lines.{lines_of}
use Rattle.scripts.specs.Answers.{Answers, BeginsAnswer, HasBadLine, Serves, AnswersBytes}

-- what stands written answers the script, where no read fails and a write fails only for want of memory
pub answered : (pages : ℕ) (script left wrote : List ℕ) (answer result : Result ⊤ ScriptError) → Serves pages script (Some left) (Some []) (Some wrote) answer → read_faults answer ≡ 0
    → (answer ≡ Err Write → result ≡ Err Memory) → ((answer ≡ Err Write → ⊥) → result ≡ answer) → AnswersBytes pages script wrote result
answered pages script left wrote (Ok done) result s none write other =
    let all : s.read ≡ script = sym (append-nil s.read) ∙ ap (λ l. s.read ++ l) (sym s.answered.1) ∙ sym s.is_input in
    let P : List ℕ → Type 0 = λ text. Answers pages (lines_of text) s.wrote in
    let Q : List ℕ → Type 0 = λ bytes. Answers pages (lines_of script) bytes in
    subst (AnswersBytes pages script wrote) (sym (other (λ e. cc e))) (subst Q (sym s.is_written) (subst P all s.answered.0))
answered pages script left wrote (Err (BadLine n)) result s none write other =
    let P : List ℕ → Type 0 = λ text. Answers pages (take (n - 1) (lines_of text)) s.wrote × HasBadLine text n in
    let Q : List ℕ → Type 0 = λ bytes. Answers pages (take (n - 1) (lines_of script)) bytes × HasBadLine script n in
    subst (AnswersBytes pages script wrote) (sym (other (λ e. cc e))) (subst Q (sym s.is_written) (subst P (sym s.is_input) s.answered))
answered pages script left wrote (Err Read) result s none write other = absurd (cc none)
answered pages script left wrote (Err Write) result s none write other =
    let P : List ℕ → Type 0 = λ text. BeginsAnswer pages (lines_of text) s.wrote in
    let Q : List ℕ → Type 0 = λ bytes. BeginsAnswer pages (lines_of script) bytes in
    subst (AnswersBytes pages script wrote) (sym (write refl)) (inr (subst Q (sym s.is_written) (subst P (sym s.is_input) s.answered)))
answered pages script left wrote (Err Memory) result s none write other = subst (AnswersBytes pages script wrote) (sym (other (λ e. cc e))) (inl (s.is_written ∙ s.answered.0))
