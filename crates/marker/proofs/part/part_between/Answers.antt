use Rattle.std.proofs.Common.{◌-◌, ◌/◌, refl, arith}
use Rattle.words.specs.declared.limits.TheConstants.{WORD_BYTES}
use Rattle.marker.proofs.Parts.{IsPart, part_is}
use Rattle.marker.proofs.part.part_between.Goals as goal

pub overflow_add-found : goal.overflow_add-found
overflow_add-found c =
    let f = c.from.ensures in let p = c.requires.placed.below in let s = c.requires.few in omega arith

pub returns : goal.returns
returns c =
    let h = c.requires in
    let f = c.from.ensures in let m = c.min-stop.ensures in let s = c.saturating_sub-first.ensures in
    let q : IsPart c.args.low c.args.high c.args.found.base c.args.found.len c.min-stop.result (c.saturating_sub-first.result / WORD_BYTES) ((c.min-stop.result - c.args.found.base) / WORD_BYTES - c.saturating_sub-first.result / WORD_BYTES) =
    part_is c.args.low c.args.high c.args.found.base c.args.found.len h.at c.min-stop.result _ _ h.low_aligned h.high_aligned h.placed.aligned h.from h.below h.inside.from h.inside.below
    (omega arith) (omega arith) refl in
    record {
      fits = q.fits;
      reaches = q.reaches;
      back = q.back;
      ends = q.ends;
      further = q.further;
      inside = q.inside;
      within = q.within;
      aligned = q.aligned;
    }
