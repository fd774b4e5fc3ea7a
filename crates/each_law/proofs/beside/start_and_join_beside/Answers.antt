use Rattle.std.proofs.Common.{◌≡◌, subst}
use Rattle.each_law.proofs.Joined.{have_run}
use Rattle.each_law.proofs.beside.start_and_join_beside.Goals as goal

pub returns-then-each : goal.returns-then-each
returns-then-each g c = (
  have_run g.L.Law.does c.args.law.now c.args.jobs.items c.start_all-each.new.running.items c.join_all.new.done.items (c.start_all-each.ensures.started c.if-each.true) c.join_all.ensures,
  (let one : c.in-Some.beside.promise.job.value ≡ c.args.other = c.in-Some.ensures.0 in subst (λ u. g.M.Law.does c.args.other_law.now u c.join-other.result) one (subst (λ l. g.M.Law.does l c.in-Some.beside.promise.job.value c.join-other.result) c.in-Some.ensures.1 c.join-other.ensures)),
)
