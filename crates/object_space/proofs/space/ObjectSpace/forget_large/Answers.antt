use Rattle.std.proofs.Common.{sym, ap, subst, ◌∙◌}
use Rattle.std.proofs.lemmas.Bool.{false≢true}
use Rattle.block_map.specs.FoundIn.{found_large}
use Rattle.block_map.specs.States.{state_at}
use Rattle.object_space.specs.Store.{Store, IsPendingRow}
use Rattle.object_space.proofs.Forgets.{no_large, large_found, marked_large, dead_large}
use Rattle.object_space.proofs.space.ObjectSpace.forget_large.Goals as goal

pub returns-in_default : goal.returns-in_default
returns-in_default c =
    no_large c.args.self.now c.args.marker.now.marks c.args.page c.laws.ensures.lawful c.requires.whole
    (sym c.in_default.is ∙ c.large_on.ensures ∙ ap (λ (t : Store). found_large c.args.page (state_at t.states c.args.page)) c.self.view_is)

pub release-requires-clause-found : goal.release-requires-clause-found
release-requires-clause-found c =
    large_found c.args.self.now c.args.marker.now.marks c.args.page c.laws.ensures.lawful c.laws.ensures.laid c.requires.inside c.in-Some.found
    (sym c.in-Some.is ∙ c.large_on.ensures ∙ ap (λ (t : Store). found_large c.args.page (state_at t.states c.args.page)) c.self.view_is)

pub returns-then-is_marked : goal.returns-then-is_marked
returns-then-is_marked c =
    marked_large c.args.self.now c.args.marker.now.marks c.args.page c.laws.ensures.lawful c.laws.ensures.laid c.requires.inside c.in-Some.found
    (sym c.in-Some.is ∙ c.large_on.ensures ∙ ap (λ (t : Store). found_large c.args.page (state_at t.states c.args.page)) c.self.view_is)
    (sym c.is_marked.ensures ∙ c.if-is_marked.true)

pub returns : goal.returns
returns c =
    dead_large c.args.self.now c.args.marker.now.marks c.args.page c.laws.ensures.lawful c.laws.ensures.laid c.requires.inside c.in-Some.found
    (sym c.in-Some.is ∙ c.large_on.ensures ∙ ap (λ (t : Store). found_large c.args.page (state_at t.states c.args.page)) c.self.view_is)
    c.release.new.self
    (λ h. false≢true (sym c.if-is_marked.false ∙ c.is_marked.ensures ∙ h))
    (λ h. c.requires.whole ((subst IsPendingRow c.self.view_is c.self.invariant.pending).cut c.args.page h))
    c.release.ensures
