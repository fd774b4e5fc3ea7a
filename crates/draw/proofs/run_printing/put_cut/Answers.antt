use Rattle.std.proofs.Common.{◌≡◌, ◌+◌, rules}
use Rattle.draw.proofs.Traces.{cut_trace}
use Rattle.draw.proofs.run_printing.put_cut.Goals as goal

pub returns : goal.returns
returns g c =
    let numbered : c.args.broken.now.number ≡ c.in-Some.before + 1 = search rules in
    cut_trace c.put_line.result c.args.run.now.pages c.args.broken.now.number c.in-Some.before c.told_among.result c.args.run.now.text.now c.in_ok-rest.rest.now c.first_line.result.0.now c.first_line.result.1.now
    _ c.args.says.items c.args.broken.now.judgement.now.wrong _ _ _ _ _ _ numbered c.in_ok-tracer.ensures c.told_among.ensures.told c.in_ok-put_head.ensures c.in_ok-rest.ensures.records c.in_ok-rest.ensures.rest
    c.first_line.ensures.lines c.in_ok-record.ensures c.put_line.ensures.ok
