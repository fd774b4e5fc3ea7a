use Rattle.workloads.proofs.Drawing.{on_ok, one_draw}
use Rattle.workloads.proofs.stress.put_draw.Goals as goal

pub returns : goal.returns
returns c =
    on_ok c.put_line.result (λ wrote steps. one_draw c.args.mutators steps _ _ _ _ c.args.words.now _ _ _ _ c.args.text.now.items _ c.draw.result
    c.next_word-x0.ensures c.next_word-x1.ensures c.next_word-x2.ensures c.next_word-x3.ensures c.draw.ensures wrote) c.put_line.ensures
