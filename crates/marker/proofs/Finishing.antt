-- Objects that are read together: one after the other, while the others wait.
use Rattle.std.proofs.Common.{◌≡◌, ℕ, ◌+◌, ◌*◌, ◌<◌, ◌≤◌, List, [], ◌∷◌, ◌++◌, length, Option, refl, sym, ap, ◌∙◌, append_assoc, length-append, arith}
use Rattle.std.proofs.lemmas.List.{length_push}
use Rattle.std.proofs.lemmas.List.FromFn.{length-map-range_with_len}
use Rattle.words.specs.declared.limits.TheConstants.{MARK_STACK_ENTRIES, PAGE_GRANULES}
use Rattle.words.specs.Layout.{page_of}
use Rattle.pages.specs.Memory.{word_at}
use Rattle.block_map.specs.declared.found.Found.{Found}
use Rattle.block_map.specs.Objects.{IsMap}
use Rattle.marker.specs.declared.entry.Entry.{Entry}
use Rattle.marker.specs.declared.together.Begun.{Begun}
use Rattle.marker.specs.Marking.{Marking, IsMarked, bytes_of, with_carried, with_current, with_stack, word_address}
use Rattle.marker.specs.Beside.{MarksRow}
use Rattle.marker.specs.Growth.{Awaits, MarksWord, MarksWords, entry_of, words_from, nothing, object, begun, and_word, pointer_free, pushed, dirtied}
use Rattle.marker.specs.Entries.{IsSpent, IsUnread, IsLive, AreUnreadFrom, Picks, ReadsOn, TakesWhole, picked, read}
use Rattle.marker.specs.Begun.{AreBegun, entry_begun}
use Rattle.marker.proofs.Growing.{Extends}
use Rattle.marker.proofs.Words.{words_current, words_extends}
use Rattle.marker.proofs.Known.{unread_more, from_more, known_words}
use Rattle.marker.proofs.Settling.{read_out}
use Rattle.marker.proofs.Wholes.{spent_current}

-- What words lead to is pushed, and no stack is full: so the entries that wait in the middle of the stack may be there or not.
module _ (found : ℕ → Option Found) (lower waiting : List Entry) where
  -- a marking whose stack ends in these entries, with those that wait before them
  abbrev between : Marking → List Entry → Marking
  between m upper = with_stack m (lower ++ waiting ++ upper)

  -- the same words are done with there, and these entries are on top now
  pub record IsPushed (a : Marking) (upper : List Entry) (ws : List ℕ) (b : Marking) : Type 0 where
    pub upper_new : List Entry
    pub stack : b.stack ≡ lower ++ upper_new
    pub marks : MarksWords found (between a upper) ws (between b upper_new)
    pub few : length b.stack ≤ length a.stack + length ws

  -- of one more object
  push_object : (f : Found) (m b : Marking) (upper : List Entry) → m.stack ≡ lower ++ upper → length m.stack + length waiting < MARK_STACK_ENTRIES → Awaits f m b
      → (next : List Entry) × (b.stack ≡ lower ++ next) × Awaits f (between m upper) (between b next) × (length b.stack ≤ length m.stack + 1)
  push_object f m b upper is room (pointer_free k s d) = (upper, s ∙ is, pointer_free k refl d, (let l = ap length s in omega arith))
  push_object f m b upper is room (pushed k r s d) = (
    upper ++ entry_of f ∷ [],
    s ∙ ap (λ l. l ++ entry_of f ∷ []) is ∙ append_assoc lower upper (entry_of f ∷ []),
    pushed k (let x = ap length is in let y = length-append lower upper in let z = length-append (lower ++ waiting) upper in let w = length-append lower waiting in let g : length (lower ++ waiting ++ upper) < MARK_STACK_ENTRIES = omega arith in g)
        (sym (append_assoc (lower ++ waiting) upper (entry_of f ∷ []))) d,
    (let l = ap length s in let k = length_push m.stack (entry_of f) in omega arith),
  )
  push_object f m b upper is room (dirtied k r s d) = absurd (omega arith)

  pub words_between : (a : Marking) (upper : List Entry) → a.stack ≡ lower ++ upper → {ws : List ℕ} {b : Marking} → MarksWords found a ws b → length a.stack + length waiting + length ws ≤ MARK_STACK_ENTRIES → IsPushed a upper ws b
  words_between a upper is begun room = record { upper_new = upper; stack = is; marks = begun; few = omega arith }
  words_between a upper is (and_word {ws = ws} {w = w} {m = m} {new = b} x y) room =
      let l = length_push ws w in
      let p = words_between a upper is x (omega arith) in
      one p y l room
    where
      one : IsPushed a upper ws m → MarksWord found w m b → length (ws ++ w ∷ []) ≡ length ws + 1 → length a.stack + length waiting + length (ws ++ w ∷ []) ≤ MARK_STACK_ENTRIES → IsPushed a upper (ws ++ w ∷ []) b
      one p (nothing t e) l r = record {
        upper_new = p.upper_new;
        stack = ap (λ (k : Marking). k.stack) e ∙ p.stack;
        marks = and_word p.marks (nothing t (ap (λ k. between k p.upper_new) e));
        few = (let f = p.few in let s = ap (λ (k : Marking). length k.stack) e in omega arith);
      }
      one p (object f at x) l r =
          let few = p.few in
          let o = push_object f m b p.upper_new p.stack (omega arith) x.awaits in
          record {
            upper_new = o.0;
            stack = o.1;
            marks = and_word p.marks (object f at (record { unmarked = x.unmarked; marks = x.marks; carried = x.carried; current = x.current; awaits = o.2 }));
            few = (let k = o.3 in omega arith);
          }

-- Whoever is begun stays so.
pub begun_more : (pages : ℕ) (found : ℕ → Option Found) (a b : Marking) → ((k : ℕ) → IsMarked a k → IsMarked b k) → (bs : List Begun) → AreBegun pages found a bs → AreBegun pages found b bs
begun_more pages found a b more bs all x h =
    let i = all x h in
    record {
      object = i.object;
      unread = unread_more found a b (entry_begun x) i.object more i.unread;
      len = i.len;
      placed = i.placed;
      one_page = i.one_page;
    }

-- An object is read to its end, while these others wait.
module _ (pages : ℕ) (found : ℕ → Option Found) (map : IsMap pages found) (moments : List (List ℕ)) (f : Found) (a b : Marking) (size : length a.marks ≡ PAGE_GRANULES * pages) (row : MarksRow found moments f 0 f.len (bytes_of a) (page_of (word_address f 0)) a b)
    (unread : IsUnread found a (entry_of f) f) (one_page : (i : ℕ) → i < f.len → page_of (word_address f i) ≡ page_of (word_address f 0)) where
  abbrev seen : List ℕ
  seen = row.seen

  extends : Extends found a (with_carried b a.carried)
  extends = words_extends pages found map a size row.marks

  pub finished_marks : (k : ℕ) → IsMarked a k → IsMarked b k
  finished_marks = extends.marks

  pub finished_sizes : (length b.marks ≡ length a.marks) × (length b.dirty ≡ length a.dirty)
  finished_sizes = (extends.marks_len, extends.dirty_len)

  pub finished_known : (n : ℕ) → AreUnreadFrom found a n a.stack → AreUnreadFrom found b n b.stack
  finished_known n known = from_more found (with_carried b a.carried) b n b.stack (λ k h. h) (known_words pages found map a size n known row.marks)

  module _ (lower waiting upper : List Entry) (is : a.stack ≡ lower ++ upper) (room : length a.stack + length waiting + f.len ≤ MARK_STACK_ENTRIES) where
    pub words_len : length (words_from seen f 0 f.len) ≡ f.len
    words_len = length-map-range_with_len (λ i. word_at seen (word_address f i)) 0 f.len

    abbrev pub pushes : IsPushed found lower waiting a upper (words_from seen f 0 f.len) (with_carried b a.carried)
    pushes = words_between found lower waiting a upper is row.marks (let l = words_len in omega arith)

    abbrev pub next : List Entry
    next = pushes.upper_new

    -- the object's entry is the one that is being read
    abbrev begins : Marking
    begins = with_current (with_stack a (lower ++ waiting ++ upper)) (entry_of f)

    -- and then it was read to its end
    abbrev last : Entry
    last = record { base = f.base; next = f.len; len = f.len }

    abbrev ends : Marking
    ends = with_current (with_stack b (lower ++ waiting ++ pushes.upper_new)) last

    abbrev live : IsLive found begins f
    live = record { entry = entry_of f; current = refl; unread = record { object = unread.object; base = unread.base; normal = unread.normal; marked = unread.marked; left = unread.left } }

    reads : ReadsOn found seen f.len begins ends
    reads = record {
      object = f;
      live = live;
      fits = omega arith;
      mid = with_current (with_stack (with_carried b a.carried) (lower ++ waiting ++ pushes.upper_new)) (entry_of f);
      reads = words_current found (with_stack a (lower ++ waiting ++ upper)) (entry_of f) pushes.marks;
      page = page_of (word_address f 0);
      one_page = λ i le lt. one_page i (omega arith);
      carried = b.carried;
      carries = row.carries;
      new_is = (let all : f.len ≡ 0 + f.len = omega arith in ap (λ (n : ℕ). with_current (with_stack b (lower ++ waiting ++ pushes.upper_new)) (record { base = f.base; next = n; len = f.len })) all);
    }

    pub finished_stack : b.stack ≡ lower ++ next
    finished_stack = pushes.stack

    pub finished_few : length b.stack ≤ length a.stack + f.len
    finished_few = let k = pushes.few in let l = words_len in omega arith

    picks : (e : Entry) → IsSpent found a e → Picks found (with_current (with_stack a (lower ++ (waiting ++ entry_of f ∷ []) ++ upper)) e) begins
    picks e spent = record {
      lower = lower ++ waiting;
      entry = entry_of f;
      upper = upper;
      stack = ap (λ l. l ++ upper) (sym (append_assoc lower waiting (entry_of f ∷ []))) ∙ append_assoc (lower ++ waiting) (entry_of f ∷ []) upper;
      new_is = refl;
      spent = spent_current found a e spent;
    }

    pub finished_takes : (start : Marking) (n : ℕ) → TakesWhole found moments start n (with_stack a (lower ++ (waiting ++ entry_of f ∷ []) ++ upper)) → TakesWhole found moments start (n + f.len) (with_stack b (lower ++ waiting ++ next))
    finished_takes start n t e spent =
        let p = t e spent in
        (last, read_out found seen f.len begins ends f reads live (omega arith) last refl, read (picked p.2 (picks p.0 p.1)) (record { seen = seen; woven = row.woven; reads = reads }))
