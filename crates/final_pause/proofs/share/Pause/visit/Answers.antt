use Rattle.std.proofs.Common.{◌≡◌, false, rules}
use Rattle.final_pause.specs.Pauses.{pause_view}
use Rattle.final_pause.proofs.Growing.{visit_outside}
use Rattle.final_pause.proofs.share.Pause.visit.Goals as goal

pub returns-else-is_inside-clause-visits : goal.returns-else-is_inside-clause-visits
returns-else-is_inside-clause-visits g c =
    let f : c.is_inside.result ≡ false = search rules in
    visit_outside (pause_view c.args.self.now) c.args.word c.args.helper.now c.requires.helper.ready c.requires.helper.of (c.is_inside.ensures.outside f)
