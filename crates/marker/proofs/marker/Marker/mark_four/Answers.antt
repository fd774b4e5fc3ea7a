use Rattle.std.proofs.Common.{◌*◌, [], ◌∷◌, length}
use Rattle.words.specs.declared.limits.TheConstants.{PAGE_BYTES}
use Rattle.block_map.specs.FoundIn.{found_in}
use Rattle.marker.proofs.Words.{four_words, tells_append}
use Rattle.marker.proofs.marker.Marker.mark_four.Goals as goal

pub returns-clause-marks : goal.returns-clause-marks
returns-clause-marks c =
    four_words (found_in c.args.map.now) c.args.first c.args.second c.args.third c.args.fourth c.mark_word-a.ensures.marks c.mark_word-b.ensures.marks c.mark_word-c.ensures.marks c.mark_word-d.ensures.marks

pub returns-clause-stray : goal.returns-clause-stray
returns-clause-stray c =
    let f = found_in c.args.map.now in let n = PAGE_BYTES * length c.args.map.now in
    tells_append f n (c.args.first ∷ c.args.second ∷ c.args.third ∷ []) (c.args.fourth ∷ []) _ _
    (tells_append f n (c.args.first ∷ c.args.second ∷ []) (c.args.third ∷ []) _ _
    (tells_append f n (c.args.first ∷ []) (c.args.second ∷ []) _ _ c.mark_word-a.ensures.stray c.mark_word-b.ensures.stray) c.mark_word-c.ensures.stray) c.mark_word-d.ensures.stray
