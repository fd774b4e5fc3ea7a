-- What words that are written past the calls of a core are to the heap: stores, one after another.
use Rattle.std.proofs.Common.{◌≡◌, ◌≢◌, ℕ, zero, suc, ◌+◌, ◌-◌, ◌*◌, ◌/◌, ◌%◌, ◌<◌, ◌≤◌, List, length, get_or, set, Some, refl, sym, ap, ◌∙◌, subst, ⊎_elim, arith, length-set, get_or-set_same, get_or-set_other}
use Rattle.std.specs.Prelude.{Bool}
use Rattle.std.proofs.lemmas.Bool.{cases_eq, cases_lt}
use Rattle.std.proofs.lemmas.List.{ext_get_or}
use Rattle.std.proofs.lemmas.Option.{same_Some}
use Rattle.words.specs.declared.limits.TheConstants.{FIRST_ADDRESS, PAGE_WORDS}
use Rattle.heap_spec.specs.Heap.{Heap, Object, IsSameObject}
use Rattle.heap_spec.specs.Ranges.{IsWord}
use Rattle.heap_spec.specs.Steps.{with_object}
use Rattle.pages.specs.Memory.{IsWordAddress, word_index, word_at, with_word_at}
use Rattle.block_map.specs.declared.found.Found.{Found}
use Rattle.block_map.specs.FoundIn.{found_in, IsLawful}
use Rattle.links.proofs.Named.{named_kept}
use Rattle.object_space.proofs.Changes.{shows_stored}
use Rattle.object_space.proofs.Kept.{kept_map}
use Rattle.object_space.proofs.Tables.{with_at-same, with_at-other, with_at-cases}
use Rattle.object_space.specs.Kept.{restrict}
use Rattle.heap_view.proofs.Shows.{is_word, seen, index_of_word, word_shown}
use Rattle.heap_core.specs.CoreContents.{CoreContents}
use Rattle.heap_core.specs.Standing.{StandsFor, keeps, objects_of}
use Rattle.heap_core.specs.DirectWrites.{with_memory, IsLeftOrWritten, StoresWord, StoresWords, HasOtherWords, HasWordsOf, WritesAreStores}
use Rattle.heap_core.proofs.Along.{stored_same}
use Rattle.heap_core.proofs.Lookups.{finds}

-- the address of the word k of the memory
abbrev pub address_of : ℕ → ℕ
address_of k = FIRST_ADDRESS + 8 * k

place_is : (k : ℕ) → word_index (address_of k) ≡ k
place_is k = omega arith

-- What is true of the words, and stays true when one word of a kept object is another, is true of the words that were written.
module _ (c : CoreContents) (words : List ℕ) (dirty : List Bool) (size : length words ≡ length c.store.words) (each : (a : ℕ) → IsWordAddress c.store.words a → IsLeftOrWritten c words dirty a)
    (P : List ℕ → Type 0) (start : P c.store.words)
    (step : (ws : List ℕ) (a : ℕ) (f : Found) → length ws ≡ length c.store.words → IsWordAddress c.store.words a → objects_of c a ≡ Some f → IsWord (word_at words a) → P ws → P (with_word_at ws a (word_at words a))) where
  -- the first k words are the new ones
  record Wrote (k : ℕ) : Type 0 where
    pub now : List ℕ
    pub len : length now ≡ length c.store.words
    pub done : (j : ℕ) → j < k → get_or now j 0 ≡ get_or words j 0
    pub rest : (j : ℕ) → k ≤ j → get_or now j 0 ≡ get_or c.store.words j 0
    pub holds : P now

  next : (k : ℕ) → k < length c.store.words → Wrote k → Wrote (k + 1)
  next k lt w = by (each (address_of k) (record { aligned = omega arith; above = omega arith; below = omega arith }))
    where
      by : IsLeftOrWritten c words dirty (address_of k) → Wrote (k + 1)
      by (IsLeftOrWritten.left same) = record {
        now = w.now;
        len = w.len;
        done = λ j below. ⊎_elim (w.done j)
            (λ from. let e : j ≡ k = omega arith in
            ap (λ i. get_or w.now i 0) e ∙ w.rest k (omega arith) ∙ ap (λ i. get_or c.store.words i 0) (sym (place_is k)) ∙ sym same ∙ ap (λ i. get_or words i 0) (place_is k) ∙ ap (λ i. get_or words i 0) (sym e))
            (cases_lt j k);
        rest = λ j from. w.rest j (omega arith);
        holds = w.holds;
      }
      by (IsLeftOrWritten.written f kept word on off) = record {
        now = with_word_at w.now (address_of k) (word_at words (address_of k));
        len = length-set w.now (word_index (address_of k)) (word_at words (address_of k)) ∙ w.len;
        done = λ j below. ⊎_elim
            (λ before. let ne : j ≢ word_index (address_of k) = λ e. (let p = place_is k in omega arith) in get_or-set_other w.now (word_index (address_of k)) j (word_at words (address_of k)) 0 ne ∙ w.done j before)
            (λ from. let e : j ≡ word_index (address_of k) = (let p = place_is k in omega arith) in
            ap (λ i. get_or (with_word_at w.now (address_of k) (word_at words (address_of k))) i 0) e
            ∙ get_or-set_same w.now (word_index (address_of k)) (word_at words (address_of k)) 0 (let p = place_is k in let l = w.len in omega arith) ∙ ap (λ i. get_or words i 0) (sym e))
            (cases_lt j k);
        rest = λ j from. let ne : j ≢ word_index (address_of k) = λ e. (let p = place_is k in omega arith) in get_or-set_other w.now (word_index (address_of k)) j (word_at words (address_of k)) 0 ne ∙ w.rest j (omega arith);
        holds = step w.now (address_of k) f w.len (record { aligned = omega arith; above = omega arith; below = omega arith }) kept word w.holds;
      }

  wrote : (k : ℕ) → k ≤ length c.store.words → Wrote k
  wrote zero le = record { now = c.store.words; len = refl; done = λ j below. absurd (omega arith); rest = λ j from. refl; holds = start }
  wrote (suc k) le = let e : k + 1 ≡ suc k = omega arith in subst Wrote e (next k (omega arith) (wrote k (omega arith)))

  pub by_words : P words
  by_words =
      let all = wrote (length c.store.words) (omega arith) in
      subst P (ext_get_or 0 all.now words (all.len ∙ sym size) (λ j lt. all.done j (let l = all.len in omega arith))) all.holds

-- one word of a kept object is another
pub stores_one : (c : CoreContents) (dirty : List Bool) (ws : List ℕ) (a v : ℕ) (f : Found) → IsLawful c.store.states → length ws ≡ PAGE_WORDS * length c.store.states → a % 8 ≡ 0 → objects_of c a ≡ Some f → IsWord v
    → (s : Heap) → StandsFor (with_memory c ws dirty) s → (s' : Heap) × StoresWord s s' × StandsFor (with_memory c (with_word_at ws a v) dirty) s'
stores_one c dirty ws a v f lawful long aligned is word s h =
    let map = kept_map (length c.store.states) (keeps c) (found_in c.store.states) lawful.map in
    let found = finds (keeps c) (record c.store { words = ws }) s a f lawful h.store is in
    let here = is_word (restrict (keeps c) (found_in c.store.states)) (length c.store.states) map ws long a f is aligned in
    let inside : word_index a < length ws = (let above = here.above in let below = here.below in omega arith) in
    let at = index_of_word (restrict (keeps c) (found_in c.store.states)) (length c.store.states) map a f is aligned in
    let after : Heap = with_object s f.base (Some (record found.0 { words = set found.0.words ((a - f.base) / 8) v })) in (
      after,
      StoresWord.stored found.1.0 (let lt = at.0 in let size = found.2.size in omega arith) word,
      record {
        mutators = h.mutators;
        globals = h.globals;
        request_words = h.request_words;
        store = record {
          pages = h.store.pages;
          shows = shows_stored (restrict (keeps c) (found_in c.store.states)) (length c.store.states) map ws s.objects s.births h.store.shows a v f found.0 is found.1.0 found.2 aligned inside;
        };
        links = named_kept s.objects after.objects (stored_same s f.base found.0 ((a - f.base) / 8) v found.1.0) h.links;
      },
    )

-- the dirty pages are nothing to the heap
pub stands_dirty : (c : CoreContents) (words : List ℕ) (a b : List Bool) (s : Heap) → StandsFor (with_memory c words a) s → StandsFor (with_memory c words b) s
stands_dirty c words a b s h = record { mutators = h.mutators; globals = h.globals; request_words = h.request_words; store = record { pages = h.store.pages; shows = h.store.shows }; links = h.links }

pub stands_same : (c : CoreContents) (s : Heap) → StandsFor c s → StandsFor (with_memory c c.store.words c.cycle.marker.dirty) s
stands_same c s h = record { mutators = h.mutators; globals = h.globals; request_words = h.request_words; store = record { pages = h.store.pages; shows = h.store.shows }; links = h.links }

-- An object is the same as itself, and where it was the same as another, that one's.
same_object : (o : Object) → IsSameObject o o
same_object o = record { birth = refl; kind = refl; size = refl }

same_more : (o p q : Object) → IsSameObject o p → IsSameObject p q → IsSameObject o q
same_more o p q a b = record { birth = b.birth ∙ a.birth; kind = b.kind ∙ a.kind; size = b.size ∙ a.size }

other_same : (s : Heap) → HasOtherWords s s
other_same s = record { pages = refl; request_words = refl; mutators = refl; globals = refl; births = refl; links = refl; stays = λ b o has. (o, has, same_object o); only = λ b o has. (o, has, same_object o) }

-- the object with another word
abbrev written : Object → ℕ → ℕ → Object
written o i w = record o { words = set o.words i w }

same_written : (o : Object) (i w : ℕ) → IsSameObject o (written o i w)
same_written o i w = record { birth = refl; kind = refl; size = length-set o.words i w }

other_one : (s s' : Heap) → StoresWord s s' → HasOtherWords s s'
other_one s s' (StoresWord.stored {base = base} {i = i} {w = w} {o = o} has lt word) = record {
  pages = refl;
  request_words = refl;
  mutators = refl;
  globals = refl;
  births = refl;
  links = refl;
  stays = λ b p there. ⊎_elim
      (λ e. let one : p ≡ o = same_Some p o (sym there ∙ ap s.objects e ∙ has) in (written o i w, with_at-same s.objects base (Some (written o i w)) b e, subst (λ (x : Object). IsSameObject x (written o i w)) (sym one) (same_written o i w)))
      (λ ne. (p, with_at-other s.objects base (Some (written o i w)) b ne ∙ there, same_object p))
      (cases_eq b base);
  only = λ b p there. ⊎_elim
      (λ h. (o, ap s.objects h.0 ∙ has, subst (IsSameObject o) h.1 (same_written o i w)))
      (λ h. (p, h.1, same_object p))
      (with_at-cases s.objects base (written o i w) b p there);
}

other_more : (s m t : Heap) → HasOtherWords s m → HasOtherWords m t → HasOtherWords s t
other_more s m t a b = record {
  pages = b.pages ∙ a.pages;
  request_words = b.request_words ∙ a.request_words;
  mutators = b.mutators ∙ a.mutators;
  globals = b.globals ∙ a.globals;
  births = b.births ∙ a.births;
  links = b.links ∙ a.links;
  stays = λ base o has. let p = a.stays base o has in let q = b.stays base p.0 p.1 in (q.0, q.1, same_more o p.0 q.0 p.2 q.2);
  only = λ base q has. let p = b.only base q has in let o = a.only base p.0 p.1 in (o.0, o.1, same_more o.0 p.0 q o.2 p.2);
}

pub others : (s s' : Heap) → StoresWords s s' → HasOtherWords s s'
others s s' StoresWords.none = other_same s
others s s' (StoresWords.more {mid = mid} before one) = other_more s mid s' (others s mid before) (other_one mid s' one)

-- each word of an object is what the memory has
words_of_memory : (c : CoreContents) (s : Heap) → IsLawful c.store.states → StandsFor c s → HasWordsOf c.store.words s
words_of_memory c s lawful h base i o has lt =
    let map = kept_map (length c.store.states) (keeps c) (found_in c.store.states) lawful.map in
    let x = seen (objects_of c) (length c.store.states) map c.store.words s.objects h.store.shows.shown base o has in
    word_shown (objects_of c) (length c.store.states) map c.store.words x.0 o (ap (objects_of c) x.2 ∙ x.1) x.3 i (let size = x.3.size in omega arith)
    ∙ ap (λ b. word_at c.store.words (b + 8 * i)) x.2

-- stores lead to a heap that the core stands for with these words
abbrev StandsAfter : CoreContents → Heap → List ℕ → Type 0
StandsAfter old s ws = (s' : Heap) × StoresWords s s' × StandsFor (with_memory old ws old.cycle.marker.dirty) s'

pub writes_store : WritesAreStores
writes_store old new whole writes s h =
    let went = by_words old new.store.words new.cycle.marker.dirty writes.size writes.words (StandsAfter old s) (s, StoresWords.none, stands_same old s h) on in (
      went.0,
      went.1,
      others s went.0 went.1,
      words_of_memory (with_memory old new.store.words old.cycle.marker.dirty) went.0 whole.core.lawful went.2,
      subst (λ (n : CoreContents). StandsFor n went.0) (sym writes.alone) (stands_dirty old new.store.words old.cycle.marker.dirty new.cycle.marker.dirty went.0 went.2),
    )
  where
    on : (ws : List ℕ) (a : ℕ) (f : Found) → length ws ≡ length old.store.words → IsWordAddress old.store.words a → objects_of old a ≡ Some f → IsWord (word_at new.store.words a) → StandsAfter old s ws → StandsAfter old s (with_word_at ws a (word_at new.store.words a))
    on ws a f len at is word p =
        let one = stores_one old old.cycle.marker.dirty ws a (word_at new.store.words a) f whole.core.lawful (len ∙ whole.space.whole.listed.size) at.aligned is word p.0 p.2 in
        (one.0, StoresWords.more p.1 one.1, one.2)
