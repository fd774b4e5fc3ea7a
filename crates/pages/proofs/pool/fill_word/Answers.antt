use Rattle.std.proofs.Common.{◌/◌, get_or}
use Rattle.pages.proofs.Filling.{IsChosen, chosen_set, chosen_clear, word_filled}
use Rattle.pages.proofs.pool.fill_word.Goals as goal
use Rattle.pages.proofs.pool.fill_word.Goals.{then-free, else-free}

pub returns : goal.returns
returns c =
    let chosen : IsChosen (get_or c.as_words.result.now (c.args.first / 64) 0) c.mask_of-mask.result c.if-free.set_word c.args.free = elim c.if-free.branch [
      | then-free w ↦ rw (w.if-free.true, w.set_word-is) (chosen_set _ _)
      | else-free w ↦ rw (w.if-free.false, w.set_word-is) (chosen_clear _ _ c.mask_of-mask.type_inv)
    ] in
    word_filled _ _ _ _ _ _ _ _ c.as_words.ensures.bits c.requires.word c.requires.inside c.mask_of-mask.ensures chosen c.set_word.ensures.size c.set_word.ensures.inside c.set_word.ensures.others
