use Rattle.std.proofs.Common.{refl, sym, ◌∙◌}
use Rattle.marker.proofs.MarkWord.{word_object}
use Rattle.marker.proofs.marker.Marker.mark_found.Goals as goal

pub returns : goal.returns
returns c objects word is =
    word_object objects word c.args.found c.granule_of-granule.result c.args.self.now _ _ c.await_words.new.self c.self.view_is is c.granule_of-granule.ensures
    (sym c.is_set.ensures ∙ c.if-is_set.false) c.set.ensures refl refl refl refl c.await_words.ensures.marks c.await_words.ensures.carried c.await_words.ensures.current c.await_words.ensures.awaits
