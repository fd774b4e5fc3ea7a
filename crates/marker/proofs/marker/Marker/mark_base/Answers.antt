use Rattle.std.proofs.Common.{ℕ, get_or, false, refl, sym, ap, ◌∙◌}
use Rattle.words.specs.Layout.{granule}
use Rattle.marker.specs.Marking.{Marking}
use Rattle.marker.proofs.MarkWord.{not_true, word_object}
use Rattle.marker.proofs.marker.Marker.mark_base.Goals as goal

pub returns : goal.returns
returns c objects word f is base len kind =
    word_object objects word f c.granule_of.result c.args.self.now _ _ c.await_with_room.new.self c.self.view_is is (c.granule_of.ensures ∙ ap granule (sym base))
    (not_true _ (λ h. c.requires.unmarked (sym (ap (λ (n : ℕ). get_or c.args.self.now.marks n false) c.granule_of.ensures) ∙ sym (ap (λ (m : Marking). get_or m.marks c.granule_of.result false) c.self.view_is) ∙ h)))
    c.set.ensures refl refl refl refl c.await_with_room.ensures.marks c.await_with_room.ensures.carried c.await_with_room.ensures.current (c.await_with_room.ensures.awaits f base len kind)
