use Rattle.std.proofs.Common.{[], ◌∷◌, length, ◌∙◌, sym, ap, arith}
use Rattle.block_map.specs.FoundIn.{found_in}
use Rattle.marker.proofs.Growing.{traces_refl}
use Rattle.marker.proofs.Objects.{objects_marked}
use Rattle.final_pause.proofs.Closing.{Closes, closes_step, closed}
use Rattle.final_pause.proofs.before.mark_before_helpers.Goals as goal
use Rattle.final_pause.proofs.before.mark_before_helpers.Goals.{After-mark_on}

pub returns-then-least-eq0-clause-traces : goal.returns-then-least-eq0-clause-traces
returns-then-least-eq0-clause-traces c = traces_refl (found_in c.args.graph.map.now) c.args.graph.memory.now c.args.graph.roots.now c.args.marker.now

pub loop-more-init : goal.loop-more-init
loop-more-init c =
    record {
      closes = record { traces = c.scan_roots.ensures.traces c.args.graph.memory.now; scanned = c.scan_roots.ensures.roots; less = (let a = c.scan_roots.ensures.cost in let n = c.new-reader.ensures.none in omega arith) };
      words = c.new-reader.ensures.words;
      one = c.new-reader.ensures.moments;
    }

closes : (c : After-mark_on) → Closes (found_in c.args.graph.map.now) c.args.graph.memory.now c.args.graph.roots.now 0 c.args.marker.now c.mark_on.new.reader.reads c.mark_on.new.marker
closes c = closes_step (found_in c.args.graph.map.now) c.args.graph.memory.now _ c.args.graph.roots.now _ _ _ _ _ _ c.loop-more.invariant.words c.loop-more.invariant.closes c.mark_on.ensures.traces c.mark_on.ensures.reads

pub returns-then-has_words-clause-traces : goal.returns-then-has_words-clause-traces
returns-then-has_words-clause-traces c = (closes (goal.at.returns-then-has_words-clause-traces c).After-mark_on).traces

pub loop-more-preserved-then-is_shareable : goal.loop-more-preserved-then-is_shareable
loop-more-preserved-then-is_shareable c = record { closes = closes (goal.at.loop-more-preserved-then-is_shareable c).After-mark_on; words = c.mark_on.ensures.words ∙ c.loop-more.invariant.words; one = c.mark_on.ensures.moments ∙ c.loop-more.invariant.one ∙ ap (λ w. w ∷ []) (sym c.mark_on.ensures.words) }

pub loop-more-preserved : goal.loop-more-preserved
loop-more-preserved c = record { closes = closes (goal.at.loop-more-preserved c).After-mark_on; words = c.mark_on.ensures.words ∙ c.loop-more.invariant.words; one = c.mark_on.ensures.moments ∙ c.loop-more.invariant.one ∙ ap (λ w. w ∷ []) (sym c.mark_on.ensures.words) }

pub returns-clause-closure : goal.returns-clause-closure
returns-clause-closure c = λ _.
    closed (length c.args.graph.map.now) (found_in c.args.graph.map.now) c.args.graph.memory.now c.args.graph.roots.now _ _ _ _ c.scan_roots.ensures.lawful.map c.requires.invariant (closes (goal.at.returns-clause-closure c).After-mark_on)
    c.in_default.ensures.done

pub returns-clause-traces : goal.returns-clause-traces
returns-clause-traces c = (closes (goal.at.returns-clause-traces c).After-mark_on).traces

pub mark_on-requires-clause-objects : goal.mark_on-requires-clause-objects
mark_on-requires-clause-objects c = objects_marked (found_in c.args.graph.map.now) c.args.marker.now c.loop-more.marker c.requires.objects c.loop-more.invariant.closes.traces.objects
