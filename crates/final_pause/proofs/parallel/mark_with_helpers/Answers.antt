use Rattle.std.proofs.Common.{◌≡◌, ℕ, ◌+◌, sym, subst, arith}
use Rattle.std.specs.Prelude.{slice_index_or}
use Rattle.block_map.specs.FoundIn.{found_in}
use Rattle.marker.proofs.Growing.{traces_refl}
use Rattle.final_pause.specs.Pauses.{PauseView}
use Rattle.final_pause.specs.Rounds.{round_view}
use Rattle.final_pause.specs.Serving.{IsServing, HasServed}
use Rattle.final_pause.proofs.Gathering.{served_at}
use Rattle.final_pause.proofs.parallel.mark_with_helpers.Goals as goal

pub returns-in_default-clause-traces : goal.returns-in_default-clause-traces
returns-in_default-clause-traces g c = traces_refl (found_in c.args.graph.map.now) c.args.graph.memory.now c.args.graph.roots.now c.args.marker.now

pub returns-in_default-help_each-clause-traces : goal.returns-in_default-help_each-clause-traces
returns-in_default-help_each-clause-traces g c = traces_refl (found_in c.args.graph.map.now) c.args.graph.memory.now c.args.graph.roots.now c.args.marker.now

pub deal-requires-clause-none : goal.deal-requires-clause-none
deal-requires-clause-none g c = λ k from below.
    let marks = c.laws.ensures.marks in let pages = c.requires.pages in let len = c.len.ensures.len in absurd (omega arith)

pub help_each-requires-after_bounds : goal.help_each-requires-after_bounds
help_each-requires-after_bounds g c κs within k d lt =
    subst (λ (p : PauseView). IsServing p (slice_index_or c.in-Ok.crew.items k d)) (sym c.pause-pause.ensures)
    ((c.in-Ok.ensures.crew c.args.graph.memory.now c.args.graph.roots.now c.requires.memory).each k d lt)

pub gather-requires-clause-served : goal.gather-requires-clause-served
gather-requires-clause-served g c = λ i d lt.
    let crew = c.in-Ok.ensures.crew c.args.graph.memory.now c.args.graph.roots.now c.requires.memory in
    let from_none : i ≡ 0 + i = omega arith in
    subst (λ (n : ℕ). HasServed (round_view c.in-Ok.round c.args.marker.now c.args.graph.map.now c.args.graph.memory.now c.args.graph.roots.now) n (slice_index_or c.in-Ok-help_each.crew.items i d)) from_none
    (subst (λ (p : PauseView). HasServed p i (slice_index_or c.in-Ok-help_each.crew.items i d)) c.pause-pause.ensures
    (served_at c.in-Ok-help_each.ensures (λ j e below. let n = crew.numbered j e below in omega (arith, n)) i d lt))
