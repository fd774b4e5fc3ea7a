use Rattle.std.proofs.Common.{◌≡◌, ℕ, length, sym, ap, ◌∙◌, subst, arith, List, ◌++◌, take, drop}
use Rattle.std.specs.Prelude.{vec_len}
use Rattle.std.proofs.Math.Seq.{take-append_seam}
use Rattle.workloads.specs.declared.mutator_job.MutatorJob.{MutatorJob}
use Rattle.workloads.specs.Actors.{CommandedAll, AllSettled, AreReplies}
use Rattle.workloads.proofs.OneHistories.{explains}
use Rattle.workloads.proofs.threads.run_on.Goals as goal

pub returns : goal.returns
returns g c =
    let pages = g.J.Naming.origin in
    let items : List (MutatorJob g.row.J.Denot g.row.R.Denot) = c.in_ok-jobs-2.jobs.items in
    let n : ℕ = vec_len c.in_ok-jobs-2.jobs in
    let lent : List (MutatorJob g.row.J.Denot g.row.R.Denot) = c.as_mut_slice.result.now in
    let new : List (MutatorJob g.row.J.Denot g.row.R.Denot) = c.settle-came.new.jobs in
    let other = c.in_ok-jobs-2.other in
    let is : lent ≡ items = c.as_mut_slice.ensures.value in
    let kept : length new ≡ length lent = c.settle-came.auto.jobs in
    let size : length new ≡ length items = kept ∙ ap length is in
    let len : length new ≡ n = kept ∙ c.as_mut_slice.ensures.len in
    let whole : take n (new ++ drop (length new) items) ≡ new = ap (λ (m : ℕ). take m (new ++ drop (length new) items)) (sym len) ∙ take-append_seam new (drop (length new) items) in
    let all = c.settle-came.new.collector.seen in
    let opened = c.args.collector in
    let replies = c.new.result in
    let commanded = c.in_ok-jobs-2.ensures.other.commanded in record {
      history = all;
      kept = c.settle-came.ensures.journal;
      explains = explains pages c.args.workload.now c.in_ok-jobs.jobs.items items new opened other.collector c.gc_no_of-collections.new.collector c.settle-came.new.collector replies
          c.in_ok-jobs.ensures.attached c.in_ok-jobs-2.ensures.jobs
          (subst (λ l. CommandedAll pages opened c.args.workload.now.collector l other.collector) (sym (c.new.ensures.collector ∙ c.of.ensures))
          (subst (λ l. CommandedAll pages opened l other.replies.items other.collector) c.commands-commands.ensures.value commanded))
          c.requires c.gc_no_of-collections.ensures.looks c.settle-came.ensures.collector c.settle-came.ensures.grows c.settle-came.ensures.fine
          (subst (λ l. AllSettled pages all l new) is c.settle-came.ensures.settled) size
          (subst (λ l. AreReplies new l) (sym c.new.ensures.mutators) (subst (λ l. AreReplies l c.take_replies.new.replies.items) whole c.take_replies.ensures))
          (let size = c.mutators-2.ensures.value in let most = c.mutators-2.ensures.slots in omega (arith, size, most))
          c.settle-came.result.0
          (let size = c.mutators-2.ensures.value in let same = c.if-came-mutators.false in omega (arith, size, same))
          c.settle-came.ensures.came;
    }
