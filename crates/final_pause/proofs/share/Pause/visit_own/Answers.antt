use Rattle.std.proofs.Common.{◌≡◌, true, false, rules}
use Rattle.final_pause.specs.Pauses.{pause_view}
use Rattle.final_pause.proofs.OwnWords.{own_visits, own_tells, other_visits, other_tells}
use Rattle.final_pause.proofs.share.Pause.visit_own.Goals as goal

pub returns-then-is_own-clause-visits : goal.returns-then-is_own-clause-visits
returns-then-is_own-clause-visits g c =
    let t : c.is_own.result ≡ true = search rules in
    own_visits (pause_view c.args.self.now) c.args.helper.now.place c.args.word c.args.helper.now c.visit_target.new.helper (c.is_own.ensures.own t) c.visit_target.ensures.visits

pub returns-then-is_own-clause-stray : goal.returns-then-is_own-clause-stray
returns-then-is_own-clause-stray g c =
    let t : c.is_own.result ≡ true = search rules in
    own_tells (pause_view c.args.self.now) c.args.helper.now.place c.args.word c.visit_target.result (c.is_own.ensures.own t) c.visit_target.ensures.stray

pub returns-else-is_own-clause-visits : goal.returns-else-is_own-clause-visits
returns-else-is_own-clause-visits g c =
    let f : c.is_own.result ≡ false = search rules in
    other_visits (pause_view c.args.self.now) c.args.helper.now.place c.args.word (c.is_own.ensures.other f) c.args.helper.now c.requires.helper.ready c.requires.helper.of

pub returns-else-is_own-clause-stray : goal.returns-else-is_own-clause-stray
returns-else-is_own-clause-stray g c =
    let f : c.is_own.result ≡ false = search rules in
    other_tells (pause_view c.args.self.now) c.args.helper.now.place c.args.word (c.is_own.ensures.other f)
