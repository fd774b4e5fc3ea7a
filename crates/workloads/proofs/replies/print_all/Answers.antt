use Rattle.std.proofs.Common.{◌≡◌, List, ℕ, ◌++◌, [], sym, append_assoc, ◌∙◌, ap}
use Rattle.std.proofs.lemmas.List.{append-nil}
use Rattle.std.proofs.lemmas.Result.{on_err_weaker}
use Rattle.scripts.proofs.Bytes.{Appends-more}
use Rattle.workloads.specs.Printing.{mutators_text, collector_line, replies_text}
use Rattle.workloads.proofs.Printing.{on_err, front_before, front_after}
use Rattle.workloads.proofs.replies.print_all.Goals as goal

-- the same mutators
text_is : (pages : ℕ) (xs ys : List _) (rest : List ℕ) → ys ≡ xs → (mutators_text pages 0 xs ++ collector_line) ++ rest ≡ (mutators_text pages 0 ys ++ collector_line) ++ rest
text_is pages xs ys rest same = ap (λ zs. (mutators_text pages 0 zs ++ collector_line) ++ rest) (sym same)

pub returns-in_err-print_mutators-clause-err : goal.returns-in_err-print_mutators-clause-err
returns-in_err-print_mutators-clause-err g c =
    let mutators = mutators_text c.args.pages 0 c.as_slice.result.now in
    let rest = replies_text c.args.pages c.replies.inside.collector in
    rw (← c.replies.view_is)
    (on_err _ (front_before _ _ mutators (collector_line ++ rest) _ (text_is c.args.pages _ _ rest c.as_slice.ensures.value ∙ append_assoc mutators collector_line rest) c.in_err-print_mutators.ensures.err))

pub returns-in_err-write_all-clause-err : goal.returns-in_err-write_all-clause-err
returns-in_err-write_all-clause-err g c =
    let rest = replies_text c.args.pages c.replies.inside.collector in
    rw (← c.replies.view_is)
    (on_err _ (front_after _ _ _ (mutators_text c.args.pages 0 c.as_slice.result.now) collector_line rest _ (text_is c.args.pages _ _ rest c.as_slice.ensures.value)
    c.in_ok-print_mutators.ensures.ok c.in_err-write_all.ensures.err))

pub returns-clause-err : goal.returns-clause-err
returns-clause-err g c =
    let mutators = mutators_text c.args.pages 0 c.as_slice.result.now in
    let rest = replies_text c.args.pages c.replies.inside.collector in
    rw (← c.replies.view_is)
    (on_err_weaker c.print_lines.result (front_after _ _ _ (mutators ++ collector_line) rest [] _ (text_is c.args.pages _ _ rest c.as_slice.ensures.value ∙ sym (append-nil ((mutators ++ collector_line) ++ rest)))
    (Appends-more _ _ _ mutators collector_line c.in_ok-print_mutators.ensures.ok c.in_ok-write_all.ensures.ok)) c.print_lines.ensures.err)
