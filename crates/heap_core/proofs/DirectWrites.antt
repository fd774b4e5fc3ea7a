-- Words that are written past the calls of a core.
use Rattle.std.proofs.Common.{◌≡◌, ℕ, ◌*◌, ◌<◌, ◌⊎◌, true, false, List, length, Some, None, sym, ap, ◌∙◌, subst, inl, inr, ⊎_elim, arith}
use Rattle.std.specs.Prelude.{Bool}
use Rattle.std.proofs.lemmas.Option.{same_Some}
use Rattle.words.specs.Bits.{Has}
use Rattle.words.specs.Layout.{granule, page_of}
use Rattle.pages.specs.Memory.{IsWordAddress, word_at}
use Rattle.block_map.specs.declared.found.Found.{Found}
use Rattle.block_map.specs.FoundIn.{found_in, IsLawful}
use Rattle.block_map.specs.Listed.{AreListed}
use Rattle.block_map.proofs.Unread.{listed_unread}
use Rattle.words.specs.declared.limits.TheConstants.{PAGE_BYTES}
use Rattle.marker.specs.Marking.{IsMarked, IsOutside, with_dirty, word_address}
use Rattle.marker.specs.Invariant.{DirtyPageInvariant, CarriedPageInvariant, IsAwaited, IsSettled}
use Rattle.object_space.proofs.Kept.{kept_cases, kept_none}
use Rattle.object_space.specs.Store.{IsWholeSpace}
use Rattle.heap_view.proofs.Shows.{is_word}
use Rattle.heap_core.specs.CoreContents.{CoreContents}
use Rattle.heap_core.specs.Held.{IsSoundCore}
use Rattle.heap_core.proofs.DirectStores.{writes_store}
use Rattle.heap_core.proofs.Legal.{stores_sound}
use Rattle.heap_core.specs.Standing.{keeps}
use Rattle.heap_core.specs.DirectWrites.{with_memory, IsLeftOrWritten, IsWholeCore, WritesKeepCores}

no_found : (f : Found) → None ≡ Some f → ⊥
no_found f e = cc

-- an address of a word of an object finds the object
word_found : (c : CoreContents) (f : Found) (i : ℕ) → IsLawful c.store.states → found_in c.store.states f.base ≡ Some f → i < f.len → found_in c.store.states (word_address f i) ≡ Some f
word_found c f i lawful is lt = lawful.map.whole f.base (word_address f i) f is (record { from = omega arith; below = omega arith })

module _ (c : CoreContents) (words : List ℕ) (dirty : List Bool) (each : (a : ℕ) → IsWordAddress c.store.words a → IsLeftOrWritten c words dirty a) where
  -- where no object has the address, the word is as it was
  unread : (a : ℕ) → IsWordAddress c.store.words a → found_in c.store.states a ≡ None → word_at words a ≡ word_at c.store.words a
  unread a at none = by (each a at)
    where
      by : IsLeftOrWritten c words dirty a → word_at words a ≡ word_at c.store.words a
      by (IsLeftOrWritten.left same) = same
      by (IsLeftOrWritten.written f is word on off) = absurd (no_found f (sym (kept_none (keeps c) (found_in c.store.states) a none) ∙ is))

  -- the marker will still come to a word
  awaited : (f : Found) (i : ℕ) → ((p : ℕ) → Has c.cycle.marker.dirty p → Has dirty p) → IsAwaited c.cycle.marker f i → IsAwaited (with_dirty c.cycle.marker dirty) f i
  awaited f i more (inl on) = inl (more (page_of (word_address f i)) on)
  awaited f i more (inr e) = inr (record { entry = e.entry; one = e.one; same = e.same; left = e.left })

  invariant : IsLawful c.store.states → AreListed c.store.words c.store.states → ((p : ℕ) → Has c.cycle.marker.dirty p → Has dirty p) → c.cycle.is_marking ≡ true
      → DirtyPageInvariant (found_in c.store.states) c.store.words c.cycle.marker → DirtyPageInvariant (found_in c.store.states) words (with_dirty c.cycle.marker dirty)
  invariant lawful listed more is old f there normal marked i lt = by (each (word_address f i) at)
    where
      found : found_in c.store.states (word_address f i) ≡ Some f
      found = word_found c f i lawful there lt

      at : IsWordAddress c.store.words (word_address f i)
      at = is_word (found_in c.store.states) (length c.store.states) lawful.map c.store.words listed.size (word_address f i) f found (let even = (lawful.map.placed f.base f there).aligned in omega arith)

      by : IsLeftOrWritten c words dirty (word_address f i) → ((g : Found) → found_in c.store.states (word_at words (word_address f i)) ≡ Some g → Has c.cycle.marker.marks (granule g.base)) ⊎ IsAwaited (with_dirty c.cycle.marker dirty) f i
      by (IsLeftOrWritten.left same) = ⊎_elim (λ t. inl (λ g e. t g (ap (found_in c.store.states) (sym same) ∙ e))) (λ a. inr (awaited f i more a)) (old f there normal marked i lt)
      by (IsLeftOrWritten.written g kept word on off) =
          let one : g ≡ f = same_Some g f (sym (kept_cases (keeps c) (found_in c.store.states) (word_address f i) g kept).0 ∙ found) in
          ⊎_elim (λ t. inl (λ x e. t x e)) (λ d. inr (inl d)) (on is (ap (λ (x : Found). x.kind) one ∙ normal))

  -- what is settled stays so, whatever pages are dirty
  settled : (a w : ℕ) → length dirty ≡ length c.cycle.marker.dirty → IsSettled (found_in c.store.states) c.cycle.marker a w → IsSettled (found_in c.store.states) (with_dirty c.cycle.marker dirty) a w
  settled a w size (IsSettled.held g is marked) = IsSettled.held g is marked
  settled a w size (IsSettled.outside out) = IsSettled.outside (subst (λ n. IsOutside (PAGE_BYTES * n) w) (sym size) out)
  settled a w size (IsSettled.carried on) = IsSettled.carried on

  carried : IsLawful c.store.states → AreListed c.store.words c.store.states → ((p : ℕ) → Has c.cycle.marker.dirty p → Has dirty p) → length dirty ≡ length c.cycle.marker.dirty → c.cycle.needs_full ≡ false
      → CarriedPageInvariant (found_in c.store.states) c.store.words c.cycle.marker → CarriedPageInvariant (found_in c.store.states) words (with_dirty c.cycle.marker dirty)
  carried lawful listed more size needs old f there normal marked i lt = by (each (word_address f i) at)
    where
      found : found_in c.store.states (word_address f i) ≡ Some f
      found = word_found c f i lawful there lt

      at : IsWordAddress c.store.words (word_address f i)
      at = is_word (found_in c.store.states) (length c.store.states) lawful.map c.store.words listed.size (word_address f i) f found (let even = (lawful.map.placed f.base f there).aligned in omega arith)

      by : IsLeftOrWritten c words dirty (word_address f i) → IsSettled (found_in c.store.states) (with_dirty c.cycle.marker dirty) (word_address f i) (word_at words (word_address f i)) ⊎ IsAwaited (with_dirty c.cycle.marker dirty) f i
      by (IsLeftOrWritten.left same) =
          ⊎_elim
          (λ s. inl (settled (word_address f i) (word_at words (word_address f i)) size (subst (IsSettled (found_in c.store.states) c.cycle.marker (word_address f i)) (sym same) s)))
          (λ a. inr (awaited f i more a))
          (old f there normal marked i lt)
      by (IsLeftOrWritten.written g kept word on off) =
          let one : g ≡ f = same_Some g f (sym (kept_cases (keeps c) (found_in c.store.states) (word_address f i) g kept).0 ∙ found) in
          ⊎_elim
          (λ s. inl (settled (word_address f i) (word_at words (word_address f i)) size s))
          (λ d. inr (inl d))
          (off needs (ap (λ (x : Found). x.kind) one ∙ normal) (subst (λ (x : Found). IsMarked c.cycle.marker x.base) (sym one) marked))

keeps_space : (c : CoreContents) (words : List ℕ) (dirty : List Bool) (whole : IsWholeCore c) → length words ≡ length c.store.words
    → ((a : ℕ) → IsWordAddress c.store.words a → IsLeftOrWritten c words dirty a) → IsWholeSpace (record c.store { words = words }) whole.space.ready whole.space.waiting
keeps_space c words dirty whole size each = record {
  sound = record { agree = space.sound.agree; used = space.sound.used };
  listed = listed_unread c.store.words c.store.states whole.core.laid words size (unread c words dirty each) space.listed;
  exact = space.exact;
  awaited = space.awaited;
  pending = record { size = space.pending.size; cut = space.pending.cut };
}
  where
    space : IsWholeSpace c.store whole.space.ready whole.space.waiting
    space = whole.space.whole

keeps_core : (c : CoreContents) (words : List ℕ) (dirty : List Bool) → IsWholeCore c → length words ≡ length c.store.words
    → ((a : ℕ) → IsWordAddress c.store.words a → IsLeftOrWritten c words dirty a) → length dirty ≡ length c.cycle.marker.dirty → ((p : ℕ) → Has c.cycle.marker.dirty p → Has dirty p)
    → IsSoundCore (with_memory c words dirty) → IsWholeCore (with_memory c words dirty)
keeps_core c words dirty whole size each dirty_len more sound = record {
  sound = sound;
  core = record {
    sound = record { agree = whole.core.sound.agree; used = whole.core.sound.used };
    pending = record { size = whole.core.pending.size; cut = whole.core.pending.cut };
    empty = whole.core.empty;
    lawful = whole.core.lawful;
    laid = whole.core.laid;
    traced = record {
      pages = dirty_len ∙ whole.core.traced.pages;
      objects = whole.core.traced.objects;
      swept = whole.core.traced.swept;
      invariant = λ is. invariant c words dirty each whole.core.lawful whole.space.whole.listed more is (whole.core.traced.invariant is);
      carried = λ is. carried c words dirty each whole.core.lawful whole.space.whole.listed more dirty_len is (whole.core.traced.carried is);
    };
  };
  space = record { ready = whole.space.ready; waiting = whole.space.waiting; whole = keeps_space c words dirty whole size each };
  marker = record {
    marks = let old = whole.marker.marks in let len = dirty_len in omega arith;
    carried = let old = whole.marker.carried in let len = dirty_len in omega arith;
    few = let old = whole.marker.few in let len = dirty_len in omega arith;
    room = whole.marker.room;
    unread = whole.marker.unread;
  };
}

pub writes_keep : WritesKeepCores
writes_keep old new whole writes =
    let s = whole.sound in
    let went = writes_store old new whole writes s.0 s.1 in
    subst (λ (n : CoreContents). IsWholeCore n) (sym writes.alone)
    (keeps_core old new.store.words new.cycle.marker.dirty whole writes.size writes.words writes.dirty_len writes.stays_dirty
    (subst IsSoundCore writes.alone (went.0, went.4, stores_sound s.0 went.0 went.1 s.2)))
