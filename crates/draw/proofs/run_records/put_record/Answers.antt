use Rattle.std.proofs.Common.{◌≡◌, ◌∙◌, sym, true, false}
use Rattle.written_runs.specs.Told.{is_comment}
use Rattle.draw.proofs.Traces.{puts_none, puts_one}
use Rattle.draw.proofs.run_records.put_record.Goals as goal

pub returns-then-is_comment : goal.returns-then-is_comment
returns-then-is_comment g c =
    let comment : is_comment c.args.line.now ≡ true = sym c.is_comment.ensures ∙ c.if-is_comment.true in
    rw comment (puts_none _ _)

pub returns : goal.returns
returns g c =
    let told : is_comment c.args.line.now ≡ false = sym c.is_comment.ensures ∙ c.if-is_comment.false in
    rw told (puts_one c.put_line.result _ _ _ _ _ _ c.in_ok-record.ensures c.put_line.ensures.ok)
