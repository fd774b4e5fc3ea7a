use Rattle.std.proofs.Common.{[], ◌∷◌, ◌++◌, sym, subst}
use Rattle.each_law.specs.Jobs.{HaveRun}
use Rattle.each_law.proofs.Joined.{have_run, have_run_too}
use Rattle.each_law.proofs.running.start_and_join.Goals as goal

pub returns : goal.returns
returns g c =
    let does = g.L.Law.does c.args.law.now in
    let rest = c.pop.new.self.items in
    let others = c.join_all.new.done.items in
    let run = have_run g.L.Law.does c.args.law.now rest c.start_all-each.new.running.items others (c.start_all-each.ensures.started c.in-Some-last.ensures.0) c.join_all.ensures in
    let did = c.requires.lawful c.in-Some.last c.in-Some-last.last c.in-Some-last.ensures.1 in
    subst (λ jobs. HaveRun does jobs c.push.new.self.items) (sym c.in-Some.ensures.items)
    (subst (λ done. HaveRun does (rest ++ c.in-Some.last ∷ []) done) (sym c.in_ok-push.ensures.items) (have_run_too does rest others c.in-Some.last c.in-Some-last.last run did))
