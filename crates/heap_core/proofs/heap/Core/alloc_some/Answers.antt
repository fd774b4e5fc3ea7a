use Rattle.std.proofs.Common.{sym, subst, arith}
use Rattle.std.proofs.Math.Seq.{take-suc-set}
use Rattle.heap_core.specs.Many.{Grants, begun, granted}
use Rattle.heap_core.proofs.heap.Core.alloc_some.Goals as goal

pub returns-clause-grants : goal.returns-clause-grants
returns-clause-grants c =
    let low = c.if-count-gt0.false in
    let same = c.alloc_ready-count.ensures.same (omega arith) in
    let size = c.alloc_ready-count.ensures.size in let room = c.requires.room in
    subst (λ bases. Grants c.args.slot c.args.request.now.into c.args.request.now.words c.args.request.now.kind c.args.self.now bases c.alloc_base.new.self)
    (sym (take-suc-set c.alloc_ready-count.new.bases 0 c.in_ok-base.base (omega arith)))
    (granted begun (rw same at c.in_ok-base.ensures.call) c.in_ok-base.ensures.base)
