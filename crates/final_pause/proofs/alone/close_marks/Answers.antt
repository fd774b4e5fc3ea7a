use Rattle.std.proofs.Common.{[], ◌∷◌, length, ◌∙◌, refl, sym, ap, arith}
use Rattle.block_map.specs.FoundIn.{found_in}
use Rattle.marker.proofs.Objects.{objects_marked}
use Rattle.final_pause.proofs.Closing.{Closes, closes_step, closed, closed_reads}
use Rattle.final_pause.proofs.alone.close_marks.Goals as goal
use Rattle.final_pause.proofs.alone.close_marks.Goals.{After-mark_on}

pub loop-init : goal.loop-init
loop-init c =
    let t = c.scan_roots.ensures.traces c.args.reader.now.words in
    record {
      closes = record { traces = t; scanned = c.scan_roots.ensures.roots; less = (let a = c.scan_roots.ensures.cost in omega arith) };
      words = refl;
      moments = refl;
    }

closes : (c : After-mark_on) → Closes (found_in c.args.map.now) c.args.reader.now.words c.args.roots.now c.args.reader.now.reads c.args.marker.now c.mark_on.new.reader.reads c.mark_on.new.marker
closes c = closes_step (found_in c.args.map.now) c.args.reader.now.words _ c.args.roots.now _ _ _ _ _ _ c.loop.invariant.words c.loop.invariant.closes c.mark_on.ensures.traces c.mark_on.ensures.reads

pub mark_on-requires-clause-pages : goal.mark_on-requires-clause-pages
mark_on-requires-clause-pages c = c.loop.invariant.closes.traces.dirty_len ∙ c.requires.pages

pub loop-preserved : goal.loop-preserved
loop-preserved c =
    let a = (goal.at.loop-preserved c).After-mark_on in
    let i = c.loop.invariant in
    record {
      closes = closes a;
      words = c.mark_on.ensures.words ∙ i.words;
      moments = c.mark_on.ensures.moments ∙ i.moments;
    }

pub returns-clause-traces : goal.returns-clause-traces
returns-clause-traces c = (closes (goal.at.returns-clause-traces c).After-mark_on).traces

pub returns-clause-reads : goal.returns-clause-reads
returns-clause-reads c = closed_reads (found_in c.args.map.now) c.args.reader.now.words c.args.roots.now _ _ _ _ (closes (goal.at.returns-clause-reads c).After-mark_on)

pub returns-clause-closure : goal.returns-clause-closure
returns-clause-closure c =
    closed (length c.args.map.now) (found_in c.args.map.now) c.args.reader.now.words c.args.roots.now _ _ _ _ c.scan_roots.ensures.lawful.map c.requires.invariant (closes (goal.at.returns-clause-closure c).After-mark_on)
    c.in_default.ensures.done

pub mark_on-requires-clause-one : goal.mark_on-requires-clause-one
mark_on-requires-clause-one c = c.loop.invariant.moments ∙ c.requires.one ∙ ap (λ w. w ∷ []) (sym c.loop.invariant.words)

pub mark_on-requires-clause-objects : goal.mark_on-requires-clause-objects
mark_on-requires-clause-objects c = objects_marked (found_in c.args.map.now) c.args.marker.now c.loop.marker c.requires.objects c.loop.invariant.closes.traces.objects
