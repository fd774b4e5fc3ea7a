use Rattle.workloads.proofs.Printing.{on_err, reply_front}
use Rattle.workloads.proofs.replies.print_lines.Goals as goal

pub returns-in_err-print_reply-clause-err : goal.returns-in_err-print_reply-clause-err
returns-in_err-print_reply-clause-err g c =
    on_err _ (reply_front c.args.pages c.args.replies.now c.as_slice-reply-items.result.now c.loop-reply.reply-index c.reply-item.result _ _ _ c.as_slice-reply-items.ensures c.loop-reply-test.true c.reply-item.is
    c.loop-reply.invariant.wrote c.in_err-print_reply.ensures.err)
