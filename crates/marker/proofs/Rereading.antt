-- A page that is cut is read again, by its mark bits.
use Rattle.std.proofs.Common.{◌≡◌, ℕ, ◌+◌, ◌*◌, ◌<◌, ◌≤◌, ◌⊎◌, List, [], ◌++◌, length, Bool, true, false, Contains, Option, Some, refl, sym, ap, ◌∙◌, subst, inl, inr, ⊎_elim, arith, get_or}
use Rattle.std.proofs.lemmas.Option.{same_Some}
use Rattle.std.proofs.lemmas.Bool.{cases_lt, false≢true}
use Rattle.std.proofs.lemmas.List.Elements.{Contains-append_cases, Contains-append_left, Contains-append_right}
use Rattle.std.specs.Prelude.{◌==◌, ◌%◌, ◌/◌}
use Rattle.std.specs.Int.{bit_at}
use Rattle.words.specs.declared.class.Kind.TheVariants.{Normal}
use Rattle.words.specs.declared.limits.TheConstants.{FIRST_ADDRESS, GRANULE_BYTES, PAGE_BYTES, PAGE_GRANULES, PAGE_WORDS, WORD_BYTES}
use Rattle.words.specs.Bits.{Has, HasBit}
use Rattle.words.specs.Layout.{granule, page_of, page_start}
use Rattle.pages.specs.Memory.{word_at}
use Rattle.blocks.specs.Cells.{Cells}
use Rattle.block_map.specs.declared.found.Found.{Found}
use Rattle.block_map.specs.Objects.{IsMap}
use Rattle.block_map.specs.FoundIn.{found_in, found_in_block}
use Rattle.block_map.specs.States.{PageState, cut, state_at}
use Rattle.block_map.proofs.Finding.{found_as, block_object}
use Rattle.marker.specs.Marking.{Marking, IsMarked, AreMarksObjects, with_carried, word_address}
use Rattle.marker.specs.Closure.{held}
use Rattle.marker.specs.Invariant.{IsSettled}
use Rattle.marker.specs.Growth.{MarksWords, CarriesPage, begun, words_from}
use Rattle.marker.specs.Retracing.{Rereads, IsBefore, RereadsObjects}
use Rattle.marker.proofs.Closures.{closure_more, same_object}
use Rattle.marker.proofs.Growing.{settled_grows, stray_page_more}
use Rattle.marker.proofs.Rescanning.{reads_own, between_more, run_settled}
use Rattle.marker.proofs.Words.{words_append, words_carried, words_extends, words_within, word_of, contains_word, run_strays}

-- what a word of a page that is cut finds
pub found_cut : (states : List PageState) (page w : ℕ) (b : Cells) → state_at states page ≡ cut b → page_start page ≤ w → w < page_start (page + 1) → found_in states w ≡ found_in_block page b w
found_cut states page w b is low high = found_as states page w (cut b) (record { from = low; below = high }) is

-- on a page that is cut, an object begins there that a word of it points into
pub cut_begins : (states : List PageState) (page w : ℕ) (b : Cells) (f : Found) → state_at states page ≡ cut b → page_start page ≤ w → w < page_start (page + 1) → found_in states w ≡ Some f → page_start page ≤ f.base
cut_begins states page w b f is low high e =
    let base = ap (λ (x : Found). x.base) (block_object page w b f (sym (found_cut states page w b is low high) ∙ e)).0 in
    omega arith

-- the objects of a block have its kind
pub cut_kind : (states : List PageState) (page w : ℕ) (b : Cells) (f : Found) → state_at states page ≡ cut b → page_start page ≤ w → w < page_start (page + 1) → found_in states w ≡ Some f → f.kind ≡ b.kind
cut_kind states page w b f is low high e = ap (λ (x : Found). x.kind) (block_object page w b f (sym (found_cut states page w b is low high) ∙ e)).0

-- at a marked granule of a page that is cut an object of its block begins
pub marked_cell : (states : List PageState) (page g : ℕ) (b : Cells) (m : Marking) → IsMap (length states) (found_in states) → AreMarksObjects (found_in states) m → Has m.marks g
    → state_at states page ≡ cut b → PAGE_GRANULES * page ≤ g → g < PAGE_GRANULES * (page + 1)
    → (f : Found) × (found_in_block page b (FIRST_ADDRESS + GRANULE_BYTES * g) ≡ Some f) × (f.base ≡ FIRST_ADDRESS + GRANULE_BYTES * g)
marked_cell states page g b m map objects h is low high =
    let o = objects g h in let f = o.object in let first = o.first in
    let p = map.placed f.base f o.is in let above = p.above in let aligned = p.aligned in
    let base : f.base ≡ FIRST_ADDRESS + GRANULE_BYTES * g = omega arith in (
      f,
      sym (found_cut states page (FIRST_ADDRESS + GRANULE_BYTES * g) b is (omega arith) (omega arith)) ∙ sym (ap (found_in states) base) ∙ o.is,
      base,
    )

before_more : (found : ℕ → Option Found) (high low past at : ℕ) → low ≤ past → IsBefore found high low at → IsBefore found high past at
before_more found high low past at le b = record { within = b.within; before = λ f e from below. b.before f e (omega arith) below }

-- no object that was marked at first begins at these granules
pub objects_none : (found : ℕ → Option Found) (words : List ℕ) (first : Marking) (high low past n : ℕ) (m : Marking) → low ≤ past
    → ((f : Found) → found f.base ≡ Some f → f.kind ≡ Normal → IsMarked first f.base → low ≤ granule f.base → granule f.base < past → ⊥) → RereadsObjects found words first high low past n m n m
objects_none found words first high low past n m le not = record {
  read = [];
  marks = begun;
  carried_len = refl;
  carried = λ p h. h;
  strays = λ p h. inl h;
  settled = λ f e k o from below i lt b. absurd (not f e k o from below);
  all = λ f e k o from below i lt b. absurd (not f e k o from below);
  only = λ w c. let l = c.1 in absurd (omega arith);
  within = λ f e k. held e k;
  once = λ at b. (at, before_more found high low past at le b, omega arith);
}

-- fewer were marked at first
pub objects_fewer : (found : ℕ → Option Found) (words : List ℕ) (first fewer : Marking) (high low past n k : ℕ) (old new : Marking) → ((d : ℕ) → IsMarked fewer d → IsMarked first d)
    → RereadsObjects found words first high low past n old k new → RereadsObjects found words fewer high low past n old k new
objects_fewer found words first fewer high low past n k old new more x = record {
  read = x.read;
  marks = x.marks;
  carried_len = x.carried_len;
  carried = x.carried;
  strays = x.strays;
  settled = λ f e h o. x.settled f e h (more f.base o);
  all = λ f e h o. x.all f e h (more f.base o);
  only = x.only;
  within = x.within;
  once = x.once;
}

-- the bits of a word of marks are marks
pub mark_at : (row : List Bool) (word j i : ℕ) → ((k : ℕ) → k / 64 ≡ j → get_or row k false ≡ (bit_at word (k % 64) == 1)) → i < 64 → HasBit word true i → Has row (64 * j + i)
mark_at row word j i of lt h = of (64 * j + i) (omega arith) ∙ ap (λ n. bit_at word n == 1) (let e : (64 * j + i) % 64 ≡ i = omega arith in e) ∙ h

pub no_mark : (row : List Bool) (word j low i : ℕ) → ((k : ℕ) → k / 64 ≡ j → get_or row k false ≡ (bit_at word (k % 64) == 1)) → i ≤ 64 → ((k : ℕ) → low ≤ k → k < i → HasBit word false k)
    → (k : ℕ) → 64 * j + low ≤ k → k < 64 * j + i → Has row k → ⊥
no_mark row word j low i of few none k from below h = false≢true (sym (of k (omega arith) ∙ none (k % 64) (omega arith) (omega arith)) ∙ h)

module _ (pages : ℕ) (found : ℕ → Option Found) (map : IsMap pages found) (words : List ℕ) where
  -- the words of a marked object are read up to an address
  pub objects_words : (first : Marking) (high g stop n r k page : ℕ) (f : Found) (old new : Marking) → ((i : ℕ) → 0 ≤ i → i < 0 + n → page_of (word_address f i) ≡ page)
      → CarriesPage found (PAGE_BYTES * length old.dirty) (words_from words f 0 n) page old.carried new.carried → length old.marks ≡ PAGE_GRANULES * pages → f.base < high
      → found f.base ≡ Some f → f.kind ≡ Normal → IsMarked old f.base → granule f.base ≡ g → n ≤ f.len → stop ≡ f.base + WORD_BYTES * n → stop ≤ high
      → (stop ≡ f.base + WORD_BYTES * f.len) ⊎ (stop ≡ high) → k ≡ r + n
      → MarksWords found old (words_from words f 0 n) (with_carried new old.carried) → RereadsObjects found words first high g (g + 1) r old k new
  objects_words first high g stop n r k page f old new one_page carries size below is normal marked at fits end within whole reads x =
      let extends = words_extends pages found map old size x in
      let placed = map.placed f.base f is in
      let among = λ (h : Found) (e : found h.base ≡ Some h) (from : g ≤ granule h.base) (past : granule h.base < g + 1) (i : ℕ) (lt : i < h.len) (b : word_address h i < high).
      let s : f ≡ h = same_object pages found map f h is e (omega arith) in
      let base = ap (λ (z : Found). z.base) s in let len = ap (λ (z : Found). z.len) s in
      let inside : i < n = ⊎_elim (λ (q : stop ≡ f.base + WORD_BYTES * f.len). omega arith) (λ (q : stop ≡ high). omega arith) whole in
      let both : (f ≡ h) × (i < n) = (s, inside) in both in
      record {
        read = words_from words f 0 n;
        marks = x;
        carried_len = carries.len;
        carried = carries.stays;
        strays = run_strays found words f 0 n page old new.carried one_page carries is normal marked (omega arith);
        settled = λ h e m o from past i lt b.
            let s = among h e from past i lt b in let inside = s.1 in
            subst (λ (z : Found). IsSettled found new (word_address z i) (word_at words (word_address z i))) s.0
            (run_settled pages found map words f 0 n page old new one_page carries size x i (omega arith) (omega arith));
        all = λ h e m o from past i lt b.
            let s = among h e from past i lt b in let inside = s.1 in
            subst (λ (z : Found). Contains (words_from words f 0 n) (word_at words (word_address z i))) s.0 (contains_word words f 0 n i (omega arith) (omega arith));
        only = λ w c.
            let y = word_of words f 0 n w c in let lt = y.2 in let above = placed.above in
            record {
              object = f;
              is = is;
              normal = normal;
              marked = extends.marks f.base marked;
              index = y.0;
              inside = omega arith;
              from = omega arith;
              below = omega arith;
              word = y.3;
            };
        within = words_within pages found map old size words f 0 n is normal marked (omega arith) x;
        once = λ from b.
            let low : from ≤ f.base = b.before f is (omega arith) (below) in (
              stop,
              record {
                within = within;
                before = λ h e past below. ⊎_elim
                    (λ (lt : h.base < stop).
                    let above = placed.above in let aligned = placed.aligned in
                    let p = map.placed h.base h e in let pa = p.above in let pb = p.aligned in
                    let s : f ≡ h = same_Some f h (sym (map.whole f.base h.base f is (record { from = omega arith; below = omega arith })) ∙ e) in
                    let base = ap (λ (z : Found). z.base) s in absurd (omega arith))
                    (λ ge. ge) (cases_lt h.base stop);
              },
              omega arith,
            );
      }

  pub objects_append : (first : Marking) (high low mid past r n k : ℕ) (a b c : Marking) → length a.marks ≡ PAGE_GRANULES * pages → low ≤ mid → mid ≤ past
      → RereadsObjects found words first high low mid r a n b → RereadsObjects found words first high mid past n b k c → RereadsObjects found words first high low past r a k c
  objects_append first high low mid past r n k a b c size p q x y =
      let ab = words_extends pages found map a size x.marks in
      let bc = words_extends pages found map b (ab.marks_len ∙ size) y.marks in
      record {
        read = x.read ++ y.read;
        marks = words_append found a x.read (with_carried b a.carried) x.marks (words_carried found b a.carried y.marks);
        carried_len = y.carried_len ∙ x.carried_len;
        carried = λ p h. y.carried p (x.carried p h);
        strays = λ p h. ⊎_elim (λ o. x.strays p o) (λ s. inr (stray_page_more found words [] [] a b ab.dirty_len (λ w r. r) x.within p s)) (y.strays p h);
        settled = λ f e m o from below i lt h. ⊎_elim
            (λ before. settled_grows found b c bc.marks bc.dirty_len y.carried _ _ (x.settled f e m o from before i lt h))
            (λ after. y.settled f e m o after below i lt h)
            (cases_lt (granule f.base) mid);
        all = λ f e m o from below i lt h. ⊎_elim
            (λ before. Contains-append_left x.read y.read _ (x.all f e m o from before i lt h))
            (λ after. Contains-append_right x.read y.read _ (y.all f e m o after below i lt h))
            (cases_lt (granule f.base) mid);
        only = λ w h. ⊎_elim
            (λ h. between_more found words (FIRST_ADDRESS + GRANULE_BYTES * low) high (FIRST_ADDRESS + GRANULE_BYTES * low) high b c (omega arith) (omega arith) bc.marks w (x.only w h))
            (λ h. between_more found words (FIRST_ADDRESS + GRANULE_BYTES * mid) high (FIRST_ADDRESS + GRANULE_BYTES * low) high c c (omega arith) (omega arith) (λ d k. k) w (y.only w h))
            (Contains-append_cases x.read y.read w h);
        within = λ f e k. closure_more found words [] [] (IsMarked b) (IsMarked a) (λ v h. h) x.within (y.within f e k);
        once = λ at h. let s = x.once at h in let t = y.once s.0 s.1 in let u = s.2 in let v = t.2 in (t.0, t.1, omega arith);
      }

  -- a mark stays while words are read
  pub objects_marked : (first : Marking) (high low past r k g : ℕ) (a b : Marking) → length a.marks ≡ PAGE_GRANULES * pages → RereadsObjects found words first high low past r a k b → Has a.marks g → Has b.marks g
  objects_marked first high low past r k g a b size x h =
      let e : g ≡ granule (FIRST_ADDRESS + GRANULE_BYTES * g) = omega arith in
      subst (Has b.marks) (sym e) ((words_extends pages found map a size x.marks).marks (FIRST_ADDRESS + GRANULE_BYTES * g) (subst (Has a.marks) e h))

  -- granules that had no mark at first are passed, and then the object at a marked one is read
  pub objects_next : (first : Marking) (high low mid at past r n k : ℕ) (a b c : Marking) → length a.marks ≡ PAGE_GRANULES * pages → ((d : ℕ) → IsMarked first d → IsMarked a d) → low ≤ mid → mid ≤ at → past ≡ at + 1
      → ((k : ℕ) → mid ≤ k → k < at → Has first.marks k → ⊥)
      → RereadsObjects found words first high low mid r a n b → RereadsObjects found words b high at (at + 1) n b k c → RereadsObjects found words first high low past r a k c
  objects_next first high low mid at past r n k a b c size more p q end none x y =
      let ab = words_extends pages found map a size x.marks in
      let passed = objects_append first high low mid at r n n a b b size p q x (objects_none found words first high mid at n b q (λ f e h o from below. none (granule f.base) from below o)) in
      subst (λ (z : ℕ). RereadsObjects found words first high low z r a k c) (sym end)
      (objects_append first high low at (at + 1) r n k a b c size (omega arith) (omega arith) passed (objects_fewer found words b first high at (at + 1) n k b c (λ d h. ab.marks d (more d h)) y))

  -- all objects that begin on a page on which no other has a word
  pub objects_page : (page r k : ℕ) (old new : Marking) → ((w : ℕ) (f : Found) → page_start page ≤ w → w < page_start (page + 1) → found w ≡ Some f → page_start page ≤ f.base)
      → RereadsObjects found words old (page_start (page + 1)) (PAGE_GRANULES * page) (PAGE_GRANULES * (page + 1)) r old k new
      → Rereads found words (page_start page) (page_start (page + 1)) old new × (k ≤ r + PAGE_WORDS)
  objects_page page r k old new begins x = (
    record {
      read = x.read;
      marks = x.marks;
      carried_len = x.carried_len;
      carried = x.carried;
      strays = x.strays;
      settled = λ f is normal marked i lt from below.
          let base = begins (word_address f i) f from below (reads_own pages found map f i is lt) in
          x.settled f is normal marked (omega arith) (omega arith) i lt below;
      all = λ w y.
          let from = y.from in let below = y.below in
          let base = begins (word_address y.object y.index) y.object y.from y.below (reads_own pages found map y.object y.index y.is y.inside) in
          subst (Contains x.read) (sym y.word) (x.all y.object y.is y.normal y.marked (omega arith) (omega arith) y.index y.inside y.below);
      only = λ w h. between_more found words (FIRST_ADDRESS + GRANULE_BYTES * (PAGE_GRANULES * page)) (page_start (page + 1)) (page_start page) (page_start (page + 1)) new new (omega arith) (omega arith) (λ d m. m) w (x.only w h);
      within = x.within;
    },
    (let s = x.once (page_start page) (record {
      within = omega arith;
      before = λ f e from below. let above = (map.placed f.base f e).above in omega arith;
    }) in let within = s.1.within in let t = s.2 in omega arith),
  )
