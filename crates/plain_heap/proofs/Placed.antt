-- Where the objects of sound heaps lie.
use Rattle.std.proofs.Common.{◌≡◌, ℕ, ◌⊎◌, subst, inl, inr, ⊎_elim}
use Rattle.std.specs.Prelude.{Contains}
use Rattle.std.proofs.lemmas.List.Elements.{All-contains_itself, All-weaker}
use Rattle.words.specs.declared.limits.TheConstants.{FIRST_ADDRESS}
use Rattle.words.proofs.Classes.{class_few}
use Rattle.heap_spec.specs.Heap.{Heap}
use Rattle.heap_spec.specs.Sound.{IsSound, IsCell, ArePages}
use Rattle.heap_spec.proofs.Calls.{calls_sound}
use Rattle.heap_spec.proofs.Objects.{one_read}
use Rattle.plain_heap.specs.declared.extent.Extent.{Extent}
use Rattle.plain_heap.specs.Answering.{BirthsAreAlone, StandsSoundly}
use Rattle.plain_heap.specs.PlainContents.{PlainContents, IsLaidOut, IsPlacedExtent, ArePlaced}
use Rattle.plain_heap.specs.Standing.{StandsFor}
use Rattle.plain_heap.proofs.Objects.{object_of}

-- a cell, or pages, are where size classes place objects
laid_placed : (pages : ℕ) (e : Extent) → IsCell pages e.base e.length ⊎ ArePages pages e.base e.length → IsPlacedExtent e
laid_placed pages e laid = ⊎_elim
    (λ c. inl (record { page = c.page; cell = c.cell; few = class_few e.length c.class; in_page = c.in_page; is_cell = c.is_cell }))
    (λ p. inr (record { first = p.first; count = p.count; some = p.some; whole = p.whole; is_start = p.is_start }))
    laid

pub are_placed : (c : PlainContents) → IsLaidOut c → c.origin ≡ FIRST_ADDRESS → (s : Heap) → StandsFor c s → IsSound s → ArePlaced c
are_placed c laid from s h sound = (
  from,
  All-weaker (Contains c.objects) IsPlacedExtent
      (λ e has. let o = object_of c laid s h e has in
      laid_placed s.pages e (subst (λ n. IsCell s.pages e.base n ⊎ ArePages s.pages e.base n) o.2 (sound.objects.laid e.base o.0 o.1)))
      c.objects (All-contains_itself c.objects),
)

-- so they lie in a plain heap that stands soundly
pub placed_soundly : (c : PlainContents) → IsLaidOut c → StandsSoundly c → ArePlaced c
placed_soundly c laid soundly = are_placed c laid soundly.origin soundly.heap soundly.stands soundly.sound

pub births_alone : BirthsAreAlone
births_alone s s' slot into words base kind o sound calls there newest = record {
  object = o;
  there = there;
  newest = newest;
  alone = λ other w p has reads others. one_read s' (calls_sound s slot _ sound tt calls) w other base p o (has, others) (there, reads);
}
