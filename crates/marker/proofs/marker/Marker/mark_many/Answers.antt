use Rattle.std.proofs.Common.{◌*◌, ◌∙◌, length}
use Rattle.words.specs.declared.limits.TheConstants.{PAGE_BYTES}
use Rattle.block_map.specs.FoundIn.{found_in}
use Rattle.marker.proofs.Words.{words_pages, first_and_left, tells_all}
use Rattle.marker.proofs.marker.Marker.mark_many.Goals as goal

pub mark_each-last-requires-clause-pages : goal.mark_each-last-requires-clause-pages
mark_each-last-requires-clause-pages c = words_pages (found_in c.args.map.now) c.args.self.now c.mark_fours-first.ensures.marks.marks ∙ c.requires.pages

pub returns-clause-marks : goal.returns-clause-marks
returns-clause-marks c = first_and_left (found_in c.args.map.now) c.args.self.now c.mark_fours-first.ensures.marks c.mark_each-last.ensures.marks

pub returns-clause-stray : goal.returns-clause-stray
returns-clause-stray c = tells_all (found_in c.args.map.now) (PAGE_BYTES * length c.args.map.now) c.mark_fours-first.ensures.stray c.mark_each-last.ensures.stray
