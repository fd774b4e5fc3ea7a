-- Entries that are known to have a word left to read.
use Rattle.std.proofs.Common.{◌≡◌, ℕ, ◌+◌, ◌-◌, ◌*◌, ◌<◌, ◌≤◌, List, [], ◌∷◌, ◌++◌, length, get_or, take, suc, Option, Some, None, refl, sym, ap, ◌∙◌, subst, ⊎_elim, append-nil, length-append, arith}
use Rattle.std.specs.Prelude.{option_to_list}
use Rattle.std.proofs.lemmas.Option.{same_Some}
use Rattle.std.proofs.lemmas.Bool.{cases_lt}
use Rattle.std.proofs.lemmas.List.{length_push, get_or_default, get_or_push, get_or_append_left}
use Rattle.std.proofs.lemmas.List.Elements.{Contains-get_or}
use Rattle.std.proofs.Math.Seq.{take-length, take-suc}
use Rattle.words.specs.declared.limits.TheConstants.{PAGE_GRANULES}
use Rattle.words.specs.Layout.{granule}
use Rattle.words.specs.Bits.{Has}
use Rattle.block_map.specs.declared.found.Found.{Found}
use Rattle.block_map.specs.Objects.{IsMap}
use Rattle.marker.specs.declared.entry.Entry.{Entry}
use Rattle.marker.specs.Marking.{Marking, IsConsistent, IsMarked, entries, with_current, with_carried}
use Rattle.marker.specs.Growth.{MarksObject, MarksWord, MarksWords, Awaits, entry_of, nothing, object, begun, and_word, pointer_free, pushed, dirtied}
use Rattle.marker.specs.Entries.{IsUnread, IsKnown, IsLive, IsOnTop, StandsOnPage, AreUnreadFrom, Settles, ReadsOn, read_on}
use Rattle.marker.proofs.Closures.{at_base}
use Rattle.marker.proofs.MarkWord.{object_extends, object_marked}
use Rattle.marker.proofs.Words.{words_extends}

module _ (found : ℕ → Option Found) where
  -- more marks leave a word to read
  pub unread_more : (a b : Marking) (e : Entry) (f : Found) → ((k : ℕ) → IsMarked a k → IsMarked b k) → IsUnread found a e f → IsUnread found b e f
  unread_more a b e f more u = record { object = u.object; base = u.base; normal = u.normal; marked = more f.base u.marked; left = u.left }

  known_more : (a b : Marking) (e : Entry) → ((k : ℕ) → IsMarked a k → IsMarked b k) → IsKnown found a e → IsKnown found b e
  known_more a b e more k = record { object = k.object; unread = unread_more a b e k.object more k.unread; len = k.len }

  pub from_more : (a b : Marking) (n : ℕ) (es : List Entry) → ((k : ℕ) → IsMarked a k → IsMarked b k) → AreUnreadFrom found a n es → AreUnreadFrom found b n es
  from_more a b n es more k = record { each = λ i e from lt is. known_more a b e more (k.each i e from lt is) }

  -- the first of them
  pub from_first : (m : Marking) (n : ℕ) (es more : List Entry) → AreUnreadFrom found m n (es ++ more) → AreUnreadFrom found m n es
  from_first m n es more k = record {
    each = λ i e from lt is. (let l = length-append es more in k.each i e from (omega arith) (get_or_append_left es more e i lt ∙ is));
  }

  -- and one more
  pub from_push : (m : Marking) (n : ℕ) (es : List Entry) (e : Entry) → AreUnreadFrom found m n es → IsKnown found m e → AreUnreadFrom found m n (es ++ e ∷ [])
  from_push m n es e k u = record {
    each = λ i d from lt is. (let l = length_push es e in
        ⊎_elim
        (λ (h : i < length es). k.each i d from h (sym (get_or_append_left es (e ∷ []) d i h) ∙ is))
        (λ (past : length es ≤ i).
        let at : length es ≡ i = omega arith in
        let same : e ≡ d = sym (get_or_push es e d i at) ∙ is in
        subst (λ (x : Entry). IsKnown found m x) same u)
        (cases_lt i (length es)));
  }

  -- entries are dropped from the top
  pub known_settles : (a b : Marking) (n : ℕ) → Settles found a b → AreUnreadFrom found a n (entries a) → AreUnreadFrom found b n (entries b)
  known_settles a b n x k =
      from_more a b n (entries b) (λ j h. subst (λ r. Has r (granule j)) (sym x.marks) h)
      (from_first a n (entries b) x.dropped (subst (AreUnreadFrom found a n) x.entries_are k))

  -- those that wait, of which these are known
  pub known_waiting : (m : Marking) (n k : ℕ) → ((i : ℕ) → k ≤ i → i < length m.stack → n ≤ i) → AreUnreadFrom found m n (entries m) → AreUnreadFrom found m k m.stack
  known_waiting m n k fewer known =
      let s = from_first m n m.stack (option_to_list m.current) known in
      record { each = λ i e from lt is. s.each i e (fewer i from lt) lt is }

  -- the one that is being read
  pub known_current : (m : Marking) (n : ℕ) (e : Entry) → AreUnreadFrom found m n (entries m) → n ≤ length m.stack → m.current ≡ Some e → IsKnown found m e
  known_current m n e known low is =
      let es : entries m ≡ m.stack ++ e ∷ [] = ap (λ o. m.stack ++ option_to_list o) is in
      let k = subst (AreUnreadFrom found m n) es known in
      let l = length_push m.stack e in
      k.each (length m.stack) e low (omega arith) (get_or_push m.stack e e (length m.stack) refl)

  -- the one on top of the stack, whose words stand on one page
  pub known_top : (pages : ℕ) → IsMap pages found → (m : Marking) (n : ℕ) (d : Entry) → IsConsistent m → AreUnreadFrom found m n m.stack → n < length m.stack
      → StandsOnPage (get_or m.stack (length m.stack - 1) d) → IsOnTop pages found m (get_or m.stack (length m.stack - 1) d)
  known_top pages map m n d consistent known low on_page =
      let k : ℕ = length m.stack - 1 in
      let e : Entry = get_or m.stack k d in
      let u = known.each k e (omega arith) (omega arith) (get_or_default m.stack k e d (omega arith)) in
      let first : e.next ≡ 0 = consistent.unread e (Contains-get_or m.stack k d (omega arith)) in
      record {
        object = u.object;
        is = λ i. record { base = sym u.unread.base i; next = first i; len = u.len i };
        below = take k m.stack;
        stack = sym (take-length m.stack) ∙ ap (λ j. take j m.stack) (let l : length m.stack ≡ suc k = omega arith in l) ∙ take-suc m.stack k d (omega arith);
        unread = u.unread;
        placed = map.placed u.object.base u.object u.unread.object;
        on_page = on_page;
      }

  -- it is taken off
  pub top_taken : (pages : ℕ) (m : Marking) (n : ℕ) (e : Entry) (top : IsOnTop pages found m e) (new : Marking) → new.marks ≡ m.marks → new.stack ≡ top.below → AreUnreadFrom found m n m.stack → AreUnreadFrom found new n new.stack
  top_taken pages m n e top new marks stack known =
      subst (AreUnreadFrom found new n) (sym stack)
      (from_more m new n top.below (λ j h. subst (λ r. Has r (granule j)) (sym marks) h) (from_first m n top.below (e ∷ []) (subst (AreUnreadFrom found m n) top.stack known)))

  -- none are known before
  pub known_none : (m : Marking) (n : ℕ) → length m.stack < n → AreUnreadFrom found m n (entries m)
  known_none m n more = record {
    each = λ i e from lt is. absurd (none m.current i lt from);
  }
    where
      none : (o : Option Entry) (i : ℕ) → i < length (m.stack ++ option_to_list o) → n ≤ i → ⊥
      none None i lt from = let h : i < length (m.stack ++ []) = lt in let l : length (m.stack ++ []) ≡ length m.stack = ap length (append-nil m.stack) in omega arith
      none (Some e) i lt from = let h : i < length (m.stack ++ e ∷ []) = lt in let l = length_push m.stack e in omega arith

  -- an entry that was read to its end is dropped, and the next one is taken
  pub known_taken : (on new : Marking) (n : ℕ) → new.marks ≡ on.marks → on.stack ≡ entries new → AreUnreadFrom found on n on.stack → AreUnreadFrom found new n (entries new)
  known_taken on new n marks stack known =
      from_more on new n (entries new) (λ j h. subst (λ r. Has r (granule j)) (sym marks) h) (subst (AreUnreadFrom found on n) stack known)

  -- an entry is read of one object
  same_live : (m : Marking) (f g : Found) → IsLive found m f → IsLive found m g → f ≡ g
  same_live m f g a b =
      let e : a.entry ≡ b.entry = same_Some a.entry b.entry (sym a.current ∙ b.current) in
      let at : f.base ≡ g.base = a.unread.base ∙ ap (λ (x : Entry). x.base) e ∙ sym b.unread.base in
      same_Some f g (sym a.unread.object ∙ ap found at ∙ b.unread.object)

  -- that of its base
  pub known_live : (m : Marking) (e : Entry) (g : Found) → m.current ≡ Some e → IsKnown found m e → found e.base ≡ Some g → IsLive found m g
  known_live m e g is u at =
      let same : u.object ≡ g = same_Some u.object g (sym u.unread.object ∙ ap found u.unread.base ∙ at) in
      record { entry = e; current = is; unread = subst (IsUnread found m e) same u.unread }

-- words are done with
module _ (pages : ℕ) (found : ℕ → Option Found) (map : IsMap pages found) where
  known_object : (g : Found) (old new : Marking) (n : ℕ) → found g.base ≡ Some g → length old.marks ≡ PAGE_GRANULES * pages → MarksObject g old new → Awaits g old new → AreUnreadFrom found old n old.stack → AreUnreadFrom found new n new.stack
  known_object g old new n is size x (pointer_free k s d) known =
      subst (AreUnreadFrom found new n) (sym s) (from_more found old new n old.stack (object_extends pages found map g is old new size x).marks known)
  known_object g old new n is size x (pushed k r s d) known =
      subst (AreUnreadFrom found new n) (sym s)
      (from_push found new n old.stack (entry_of g) (from_more found old new n old.stack (object_extends pages found map g is old new size x).marks known)
      (record {
        object = g;
        unread = record { object = is; base = refl; normal = k; marked = object_marked pages found map g is old new size x; left = (map.placed g.base g is).some };
        len = refl;
      }))
  known_object g old new n is size x (dirtied k r s d) known =
      subst (AreUnreadFrom found new n) (sym s) (from_more found old new n old.stack (object_extends pages found map g is old new size x).marks known)

  known_word : (w : ℕ) (old new : Marking) (n : ℕ) → length old.marks ≡ PAGE_GRANULES * pages → MarksWord found w old new → AreUnreadFrom found old n old.stack → AreUnreadFrom found new n new.stack
  known_word w old new n size (nothing t e) known = subst (λ (m : Marking). AreUnreadFrom found m n m.stack) (sym e) known
  known_word w old new n size (object f is x) known = known_object f old new n (at_base pages found map w f is) size x x.awaits known

  module _ (old : Marking) (size : length old.marks ≡ PAGE_GRANULES * pages) (n : ℕ) (known : AreUnreadFrom found old n old.stack) where
    pub known_words : {ws : List ℕ} {new : Marking} → MarksWords found old ws new → AreUnreadFrom found new n new.stack
    known_words begun = known
    known_words (and_word {w = w} {m = m} {new = new} x y) = known_word w m new n ((words_extends pages found map old size x).marks_len ∙ size) y (known_words x)

    -- of the entry that is being read
    module _ (words : List ℕ) (k : ℕ) (on : Marking) (x : ReadsOn found words k old on) where
      mid_known : AreUnreadFrom found (with_current (with_carried x.mid x.carried) (read_on x.object x.live.entry k)) n x.mid.stack
      mid_known = from_more found x.mid (with_current (with_carried x.mid x.carried) (read_on x.object x.live.entry k)) n x.mid.stack (λ j h. h) (known_words x.reads)

      pub known_on : AreUnreadFrom found on n on.stack
      known_on = subst (λ (m : Marking). AreUnreadFrom found m n m.stack) (sym x.new_is) mid_known

      -- which has words left
      pub known_left : (f : Found) → IsLive found old f → (left : ℕ) → ((e : Entry) → old.current ≡ Some e → e.next + left ≡ f.len) → (k ≡ left → ⊥) → AreUnreadFrom found on n (entries on)
      known_left f live left all other =
          let at = all x.live.entry x.live.current in
          let len : x.object.len ≡ f.len = ap (λ (y : Found). y.len) (same_live found old x.object f x.live live) in
          let fits = x.fits in
          let less : x.live.entry.next + k < x.object.len = ⊎_elim (λ (h : k < left). omega arith) (λ (past : left ≤ k). absurd (other (omega arith))) (cases_lt k left) in
          subst (λ (m : Marking). AreUnreadFrom found m n (entries m)) (sym x.new_is)
          (from_push found (with_current (with_carried x.mid x.carried) (read_on x.object x.live.entry k)) n x.mid.stack (read_on x.object x.live.entry k) mid_known (record {
            object = x.object;
            unread = record {
              object = x.live.unread.object;
              base = x.live.unread.base;
              normal = x.live.unread.normal;
              marked = (words_extends pages found map old size x.reads).marks x.object.base x.live.unread.marked;
              left = less;
            };
            len = refl;
          }))
