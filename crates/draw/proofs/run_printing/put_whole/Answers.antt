use Rattle.std.proofs.Common.{arith}
use Rattle.draw.proofs.Traces.{whole_trace}
use Rattle.draw.proofs.run_printing.put_whole.Goals as goal

pub returns : goal.returns
returns g c = whole_trace c.args.run.now.pages c.args.count _ c.args.run.now.text.now _ _ _ _ _ c.in_ok-tracer.ensures c.in_ok-put_head.ensures (omega arith) c.in_ok-put_records.ensures.records
