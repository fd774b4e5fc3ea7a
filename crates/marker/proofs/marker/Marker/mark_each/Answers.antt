use Rattle.std.proofs.Common.{◌*◌, ◌∙◌, [], ◌∷◌, length, subst}
use Rattle.words.specs.declared.limits.TheConstants.{PAGE_BYTES}
use Rattle.block_map.specs.FoundIn.{found_in}
use Rattle.marker.specs.Growth.{TellsStray, begun, and_word}
use Rattle.marker.proofs.Words.{words_pages, tells_also, tells_nothing, tells_still}
use Rattle.marker.proofs.marker.Marker.mark_each.Goals as goal

pub loop-word-init : goal.loop-word-init
loop-word-init c = record { marks = begun; stray = tells_nothing (found_in c.args.map.now) (PAGE_BYTES * length c.args.map.now); objects = c.requires.objects }

pub mark_word-requires-clause-pages : goal.mark_word-requires-clause-pages
mark_word-requires-clause-pages c = words_pages (found_in c.args.map.now) c.args.self.now c.loop-word.invariant.marks ∙ c.requires.pages

pub loop-word-preserved-then-mark_word : goal.loop-word-preserved-then-mark_word
loop-word-preserved-then-mark_word c = record {
  marks = and_word c.loop-word.invariant.marks c.mark_word.ensures.marks;
  stray = tells_also (found_in c.args.map.now) (PAGE_BYTES * length c.args.map.now) _ (_ ∷ []) _ c.loop-word.invariant.stray
      (subst (TellsStray (found_in c.args.map.now) (PAGE_BYTES * length c.args.map.now) (_ ∷ [])) c.if-mark_word.true c.mark_word.ensures.stray);
  objects = c.mark_word.ensures.objects;
}

pub loop-word-preserved : goal.loop-word-preserved
loop-word-preserved c = record {
  marks = and_word c.loop-word.invariant.marks c.mark_word.ensures.marks;
  stray = tells_still (found_in c.args.map.now) (PAGE_BYTES * length c.args.map.now) _ (_ ∷ []) _ c.loop-word.invariant.stray
      (subst (TellsStray (found_in c.args.map.now) (PAGE_BYTES * length c.args.map.now) (_ ∷ [])) c.if-mark_word.false c.mark_word.ensures.stray);
  objects = c.mark_word.ensures.objects;
}
