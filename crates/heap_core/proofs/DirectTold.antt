-- An address that was told may be written.
use Rattle.std.proofs.Common.{◌≡◌, ◌≢◌, ℕ, ◌<◌, length, Some, refl, sym, ap, ◌∙◌, subst, inr, ⊎_elim, arith, length-set, get_or-set_same, get_or-set_other}
use Rattle.std.specs.Prelude.{List}
use Rattle.std.proofs.lemmas.Bool.{cases_eq}
use Rattle.heap_spec.specs.Ranges.{IsWord}
use Rattle.words.specs.Bits.{Has}
use Rattle.words.specs.Layout.{page_of}
use Rattle.pages.specs.Memory.{IsWordAddress, word_index, with_word_at}
use Rattle.block_map.specs.FoundIn.{found_in}
use Rattle.object_space.proofs.Kept.{kept_cases}
use Rattle.heap_view.proofs.Shows.{is_word}
use Rattle.heap_core.specs.CoreContents.{CoreContents}
use Rattle.heap_core.specs.Standing.{keeps, objects_of}
use Rattle.heap_core.specs.DirectWrites.{IsLeftOrWritten, ToldMayBeWritten}

pub told_written : ToldMayBeWritten
told_written old new address w f whole tells kept aligned word = record {
  alone = refl;
  size = length-set new.store.words (word_index address) w;
  words = λ a at. ⊎_elim (here a) (λ ne. IsLeftOrWritten.left (get_or-set_other new.store.words (word_index address) (word_index a) w 0 (apart a at ne))) (cases_eq a address);
  dirty_len = refl;
  stays_dirty = λ p h. h;
}
  where
    found : found_in old.store.states address ≡ Some f
    found = (kept_cases (keeps old) (found_in old.store.states) address f (sym (ap (λ (c : CoreContents). objects_of c address) tells.alone) ∙ kept)).0

    there : IsWordAddress old.store.words address
    there = is_word (found_in old.store.states) (length old.store.states) whole.core.lawful.map old.store.words whole.space.whole.listed.size address f found aligned

    same_words : new.store.words ≡ old.store.words
    same_words = ap (λ (c : CoreContents). c.store.words) tells.alone

    inside : word_index address < length new.store.words
    inside = subst (λ (ws : List ℕ). word_index address < length ws) (sym same_words) (let above = there.above in let below = there.below in omega arith)

    apart : (a : ℕ) → IsWordAddress new.store.words a → a ≢ address → word_index a ≢ word_index address
    apart a at ne same = let even = at.aligned in let above = at.above in let even' = there.aligned in let above' = there.above in ne (omega arith)

    here : (a : ℕ) → a ≡ address → IsLeftOrWritten new (with_word_at new.store.words address w) new.cycle.marker.dirty a
    here a e = subst (IsLeftOrWritten new (with_word_at new.store.words address w) new.cycle.marker.dirty) (sym e)
        (IsLeftOrWritten.written f kept (subst IsWord (sym (get_or-set_same new.store.words (word_index address) w 0 inside)) word)
        (λ is normal. inr dirty) (λ is normal marked. inr dirty))
      where
        dirty : Has new.cycle.marker.dirty (page_of address)
        dirty = tells.written there.above (let size = whole.space.whole.listed.size in let above = there.above in let below = there.below in omega arith)
