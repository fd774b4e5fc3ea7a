use Rattle.std.proofs.Common.{◌≡◌, length, ap, arith}
use Rattle.final_pause.specs.Pauses.{pause_view}
use Rattle.final_pause.proofs.Marked.{marks_len}
use Rattle.final_pause.proofs.OwnMarks.{bits_of_marks, own_none, own_both}
use Rattle.final_pause.proofs.share.Pause.own_marks.Goals as goal

pub bounds-as_words-j : goal.bounds-as_words-j
bounds-as_words-j c =
    let size = c.as_words.ensures.size in let same : length c.mark_row.result.now ≡ length c.args.self.now.marker.now.marks = ap length c.mark_row.ensures in
    let inside = c.requires.inside in
    omega arith

pub returns-then-marks-eq0 : goal.returns-then-marks-eq0
returns-then-marks-eq0 c =
    let p = pause_view c.args.self.now in
    own_none p c.args.helper.now.place c.args.number c.args.j _
    (bits_of_marks p c.mark_row.result.now c.as_words.result.now c.args.j c.mark_row.ensures c.as_words.ensures.bits c.requires.inside) c.if-marks-eq0.true

pub bits_of_place-requires-clause-inside : goal.bits_of_place-requires-clause-inside
bits_of_place-requires-clause-inside c =
    let size = marks_len (pause_view c.args.self.now) c.requires.ready in let few = c.requires.ready.few in let inside = c.requires.inside in omega arith

pub returns : goal.returns
returns c =
    let p = pause_view c.args.self.now in
    own_both p c.args.helper.now.place c.args.number c.args.j _
    (bits_of_marks p c.mark_row.result.now c.as_words.result.now c.args.j c.mark_row.ensures c.as_words.ensures.bits c.requires.inside) _ c.bits_of_place.ensures
