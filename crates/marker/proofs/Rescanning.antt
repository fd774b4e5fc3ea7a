-- A dirty page is read again, object by object.
use Rattle.std.proofs.Common.{◌≡◌, ◌≢◌, ℕ, ◌+◌, ◌*◌, ◌<◌, ◌≤◌, List, [], ◌++◌, length, false, get_or, set, sum_by, Contains, Option, Some, None, refl, sym, ap, ◌∙◌, subst, inl, inr, ⊎_elim, arith, length-set, get_or-set_same, get_or-set_other}
use Rattle.std.proofs.lemmas.Option.{same_Some}
use Rattle.std.proofs.lemmas.Bool.{false≢true, cases_eq, cases_lt}
use Rattle.std.proofs.lemmas.List.Sums.{sum_by-set}
use Rattle.std.proofs.lemmas.List.Elements.{Contains-append_cases, Contains-append_left, Contains-append_right}
use Rattle.words.specs.declared.class.Kind.TheVariants.{Normal}
use Rattle.words.specs.declared.limits.TheConstants.{PAGE_BYTES, PAGE_GRANULES, PAGE_WORDS, WORD_BYTES}
use Rattle.words.specs.Bits.{Has}
use Rattle.words.specs.Layout.{page_of, page_start}
use Rattle.words.proofs.Sets.{has_inside}
use Rattle.pages.specs.Memory.{word_at}
use Rattle.block_map.specs.declared.found.Found.{Found}
use Rattle.block_map.specs.Objects.{IsMap}
use Rattle.block_map.specs.Walks.{IsNextObject, IsNoObject}
use Rattle.marker.specs.Marking.{Marking, IsMarked, IsLeftToEntry, IsOutside, with_dirty, with_carried, word_address}
use Rattle.marker.specs.Work.{page_words, cost}
use Rattle.marker.specs.Closure.{held}
use Rattle.marker.specs.Invariant.{DirtyPageInvariant, CarriedPageInvariant, IsAwaited, IsSettled}
use Rattle.marker.specs.Growth.{Traces, MarksWords, CarriesPage, begun, words_from}
use Rattle.marker.specs.Retracing.{IsWordBetween, Rereads, Retraces}
use Rattle.marker.proofs.Closures.{closure_more}
use Rattle.marker.proofs.Growing.{Extends, target_more, pending_more, settled_grows, stray_page_more}
use Rattle.marker.proofs.Words.{words_append, words_carried, words_extends, words_targets, words_within, word_of, contains_word, run_strays}

-- the words of an object point into it
pub reads_own : (pages : ℕ) (found : ℕ → Option Found) → IsMap pages found → (f : Found) (i : ℕ) → found f.base ≡ Some f → i < f.len → found (word_address f i) ≡ Some f
reads_own pages found map f i e lt = map.whole f.base (word_address f i) f e (record { from = omega arith; below = omega arith })

-- a word from the address on and before the end of the next object is that object's
pub next_is : (pages : ℕ) (found : ℕ → Option Found) (at high stop a : ℕ) (f g : Found) → IsMap pages found → IsNextObject found at high f → stop ≤ f.base + WORD_BYTES * f.len → at ≤ a → a < stop → found a ≡ Some g → f ≡ g
next_is pages found at high stop a f g map next le from below e =
    let r = (map.reads next.at f next.reads).from in
    let after : next.at ≤ a = ⊎_elim (λ (lt : a < next.at). let x : None ≡ Some g = sym (next.least a from lt) ∙ e in absurd (cc x)) (λ ge. ge) (cases_lt a next.at) in
    same_Some f g (sym (map.whole next.at a f next.reads (record { from = omega arith; below = omega arith })) ∙ e)

pub between_more : (found : ℕ → Option Found) (words : List ℕ) (low high from below : ℕ) (a b : Marking) → from ≤ low → high ≤ below → ((d : ℕ) → IsMarked a d → IsMarked b d)
    → (w : ℕ) → IsWordBetween found words low high a w → IsWordBetween found words from below b w
between_more found words low high from below a b p q more w x =
    record {
      object = x.object;
      is = x.is;
      normal = x.normal;
      marked = more x.object.base x.marked;
      index = x.index;
      inside = x.inside;
      word = x.word;
      from = (let y = x.from in omega arith);
      below = (let y = x.below in omega arith);
    }

-- between the addresses there is no word of a marked Normal object
pub rereads_none : (found : ℕ → Option Found) (words : List ℕ) (low high : ℕ) (m : Marking) → ((w : ℕ) → IsWordBetween found words low high m w → ⊥) → Rereads found words low high m m
rereads_none found words low high m not = record {
  read = [];
  marks = begun;
  carried_len = refl;
  carried = λ p h. h;
  strays = λ p h. inl h;
  settled = λ f is n k i lt from below. absurd (not _ (record { object = f; is = is; normal = n; marked = k; index = i; inside = lt; from = from; below = below; word = refl }));
  all = λ w x. absurd (not w x);
  only = λ w c. let l = c.1 in absurd (omega arith);
  within = λ f e k. held e k;
}

-- each of these words of a marked Normal object, which were read on one page, is settled
pub run_settled : (pages : ℕ) (found : ℕ → Option Found) → IsMap pages found → (words : List ℕ) (f : Found) (first n page : ℕ) (old new : Marking) → ((i : ℕ) → first ≤ i → i < first + n → page_of (word_address f i) ≡ page)
    → CarriesPage found (PAGE_BYTES * length old.dirty) (words_from words f first n) page old.carried new.carried → length old.marks ≡ PAGE_GRANULES * pages
    → MarksWords found old (words_from words f first n) (with_carried new old.carried) → (i : ℕ) → first ≤ i → i < first + n → IsSettled found new (word_address f i) (word_at words (word_address f i))
run_settled pages found map words f first n page old new one_page carries size x i from below =
    let among = contains_word words f first n i from below in
    let same = (words_extends pages found map old size x).dirty_len in
    ⊎_elim
    (λ c. IsSettled.carried (subst (Has new.carried) (sym (one_page i from below)) c))
    (λ no. ⊎_elim (λ (o : (o : Found) × (found (word_at words (word_address f i)) ≡ Some o)). IsSettled.held o.0 o.1 (words_targets pages found map old size x _ among o.0 o.1))
    (λ out. IsSettled.outside (subst (λ (k : ℕ). IsOutside (PAGE_BYTES * k) (word_at words (word_address f i))) (sym same) out)) no)
    (carries.all _ among)

module _ (pages : ℕ) (found : ℕ → Option Found) (map : IsMap pages found) (words : List ℕ) where
  -- the next object is none whose words are read
  pub rereads_passed : (at high stop : ℕ) (f : Found) (m : Marking) → IsNextObject found at high f → stop ≤ f.base + WORD_BYTES * f.len → (f.kind ≡ Normal → IsMarked m f.base → ⊥) → Rereads found words at stop m m
  rereads_passed at high stop f m next le not =
      rereads_none found words at stop m (λ w x.
      let s = next_is pages found at high stop (word_address x.object x.index) f x.object map next le x.from x.below (reads_own pages found map x.object x.index x.is x.inside) in
      not (ap (λ (y : Found). y.kind) s ∙ x.normal) (subst (λ (y : Found). IsMarked m y.base) (sym s) x.marked))

  -- no object is left
  pub rereads_end : (at stop : ℕ) (m : Marking) → IsNoObject found at stop → Rereads found words at stop m m
  rereads_end at stop m none =
      rereads_none found words at stop m (λ w x.
      let z : None ≡ Some x.object = sym (none.none (word_address x.object x.index) x.from x.below) ∙ reads_own pages found map x.object x.index x.is x.inside in absurd (cc z))

  -- the words of the next object are read
  pub rereads_words : (at high stop first n page : ℕ) (f : Found) (old new : Marking) → ((i : ℕ) → first ≤ i → i < first + n → page_of (word_address f i) ≡ page)
      → CarriesPage found (PAGE_BYTES * length old.dirty) (words_from words f first n) page old.carried new.carried → length old.marks ≡ PAGE_GRANULES * pages → IsNextObject found at high f → stop ≤ f.base + WORD_BYTES * f.len
      → found f.base ≡ Some f → f.kind ≡ Normal → IsMarked old f.base → first + n ≤ f.len
      → ((i : ℕ) → at ≤ word_address f i → first ≤ i) → ((i : ℕ) → first ≤ i → at ≤ word_address f i) → stop ≡ f.base + WORD_BYTES * (first + n)
      → MarksWords found old (words_from words f first n) (with_carried new old.carried) → Rereads found words at stop old new
  rereads_words at high stop first n page f old new one_page carries size next le is normal marked fits low back end x =
      let e = words_extends pages found map old size x in
      let is_in = λ (g : Found) (i : ℕ) (there : found g.base ≡ Some g) (lt : i < g.len) (from : at ≤ word_address g i) (below : word_address g i < stop).
      next_is pages found at high stop (word_address g i) f g map next le from below (reads_own pages found map g i there lt) in
      record {
        read = words_from words f first n;
        marks = x;
        carried_len = carries.len;
        carried = carries.stays;
        strays = run_strays found words f first n page old new.carried one_page carries is normal marked fits;
        settled = λ g there kind k i lt from below.
            subst (λ (z : Found). IsSettled found new (word_address z i) (word_at words (word_address z i))) (is_in g i there lt from below)
            (let s = is_in g i there lt from below in
            let from' = subst (λ (z : Found). at ≤ word_address z i) (sym s) from in
            let below' = subst (λ (z : Found). word_address z i < stop) (sym s) below in
            let lo = low i from' in let hi : i < first + n = omega arith in
            run_settled pages found map words f first n page old new one_page carries size x i lo hi);
        all = λ w y.
            let s = next_is pages found at high stop (word_address y.object y.index) f y.object map next le y.from y.below (reads_own pages found map y.object y.index y.is y.inside) in
            let from = subst (λ (z : Found). at ≤ word_address z y.index) (sym s) y.from in
            let below = subst (λ (z : Found). word_address z y.index < stop) (sym s) y.below in
            subst (Contains (words_from words f first n)) (ap (λ (z : Found). word_at words (word_address z y.index)) s ∙ sym y.word) (contains_word words f first n y.index (low y.index from) (omega arith));
        only = λ w c.
            let y = word_of words f first n w c in let lt = y.2 in
            record {
              object = f;
              is = is;
              normal = normal;
              marked = (words_extends pages found map old size x).marks f.base marked;
              index = y.0;
              inside = omega arith;
              from = back y.0 y.1;
              below = omega arith;
              word = y.3;
            };
        within = words_within pages found map old size words f first n is normal marked fits x;
      }

  -- words up to an address, and then words from it on
  pub rereads_append : (low at high : ℕ) (a b c : Marking) → length a.marks ≡ PAGE_GRANULES * pages → low ≤ at → at ≤ high → Rereads found words low at a b → Rereads found words at high b c → Rereads found words low high a c
  rereads_append low at high a b c size p q x y =
      let ab = words_extends pages found map a size x.marks in
      let bc = words_extends pages found map b (ab.marks_len ∙ size) y.marks in
      record {
        read = x.read ++ y.read;
        marks = words_append found a x.read (with_carried b a.carried) x.marks (words_carried found b a.carried y.marks);
        carried_len = y.carried_len ∙ x.carried_len;
        carried = λ p h. y.carried p (x.carried p h);
        strays = λ p h. ⊎_elim (λ o. x.strays p o) (λ s. inr (stray_page_more found words [] [] a b ab.dirty_len (λ w r. r) x.within p s)) (y.strays p h);
        settled = λ f is n k i lt from below. ⊎_elim
            (λ (before : word_address f i < at). settled_grows found b c bc.marks bc.dirty_len y.carried _ _ (x.settled f is n k i lt from before))
            (λ after. y.settled f is n (ab.marks f.base k) i lt after below)
            (cases_lt (word_address f i) at);
        all = λ w z. ⊎_elim
            (λ (before : word_address z.object z.index < at).
            Contains-append_left x.read y.read w (x.all w (record { object = z.object; is = z.is; normal = z.normal; marked = z.marked; index = z.index; inside = z.inside; word = z.word; from = z.from; below = before })))
            (λ after.
            Contains-append_right x.read y.read w (y.all w (record { object = z.object; is = z.is; normal = z.normal; marked = ab.marks z.object.base z.marked; index = z.index; inside = z.inside; word = z.word; from = after; below = z.below })))
            (cases_lt (word_address z.object z.index) at);
        only = λ w h. ⊎_elim
            (λ h. between_more found words low at low high b c (omega arith) q bc.marks w (x.only w h))
            (λ h. between_more found words at high low high c c p (omega arith) (λ d k. k) w (y.only w h))
            (Contains-append_cases x.read y.read w h);
        within = λ f e k. closure_more found words [] [] (IsMarked b) (IsMarked a) (λ v h. h) x.within (y.within f e k);
      }

  -- a dirty page was made clean, and its words were read
  module _ (page : ℕ) (old new : Marking) (size : length old.marks ≡ PAGE_GRANULES * pages) (is_dirty : Has old.dirty page)
      (x : Rereads found words (page_start page) (page_start (page + 1)) (with_dirty old (set old.dirty page false)) new) where
    abbrev mid : Marking
    mid = with_dirty old (set old.dirty page false)

    abbrev end : Marking
    end = with_carried new old.carried

    extends : Extends found (with_dirty old (set old.dirty page false)) (with_carried new old.carried)
    extends = words_extends pages found map mid size x.marks

    awaits : (f : Found) (i : ℕ) → IsAwaited (with_carried new old.carried) f i → IsAwaited new f i
    awaits f i a = ⊎_elim (λ d. inl d) (λ (q : IsLeftToEntry (with_carried new old.carried) f.base i). inr (record { entry = q.entry; one = q.one; same = q.same; left = q.left })) a

    still_dirty : (p : ℕ) → p ≢ page → Has old.dirty p → Has (set old.dirty page false) p
    still_dirty p ne h = get_or-set_other old.dirty page p false false ne ∙ h

    not_here : Has (set old.dirty page false) page → ⊥
    not_here h = false≢true (sym (get_or-set_same old.dirty page false false (has_inside old.dirty page is_dirty)) ∙ h)

    before : (p : ℕ) → Has (set old.dirty page false) p → Has old.dirty p
    before p h = ⊎_elim (λ (e : p ≡ page). absurd (not_here (subst (Has (set old.dirty page false)) e h)))
        (λ ne. sym (get_or-set_other old.dirty page p false false ne) ∙ h) (cases_eq p page)

    less : cost found new + PAGE_WORDS ≤ cost found old
    unfolding cost
    less =
        let a = extends.cost in
        let e : sum_by page_words (set old.dirty page false) + page_words (get_or old.dirty page false) ≡ sum_by page_words old.dirty + 0 = sum_by-set page_words old.dirty page false false (has_inside old.dirty page is_dirty) in
        let g : page_words (get_or old.dirty page false) ≡ PAGE_WORDS = ap page_words is_dirty in
        omega arith

    pub retraces : Retraces found words page old new
    retraces = record {
      dirty = is_dirty;
      reads = x;
      clean = λ h. ⊎_elim (λ d. absurd (not_here d)) (λ n. n) (extends.dirtied page h);
      others = λ p ne h. extends.dirty p (still_dirty p ne h);
      cost = less;
    }

    keeps : DirtyPageInvariant found words old → DirtyPageInvariant found words new
    keeps t f e n k i lt =
        ⊎_elim
        (λ o. ⊎_elim (λ g. inl (target_more found mid end extends _ g))
        (λ w. ⊎_elim
        (λ d. ⊎_elim
        (λ (here : page_of (word_address f i) ≡ page).
        let above = (map.placed f.base f e).above in
        inl (words_targets pages found map mid size x.marks _ (x.all _ (record { object = f; is = e; normal = n; marked = o; index = i; inside = lt; word = refl; from = omega arith; below = omega arith }))))
        (λ ne. inr (inl (extends.dirty _ (still_dirty _ ne d)))) (cases_eq (page_of (word_address f i)) page))
        (λ (p : IsLeftToEntry old f.base i). inr (inr (let q = pending_more found mid end extends f.base i (record { entry = p.entry; one = p.one; same = p.same; left = p.left }) in record { entry = q.entry; one = q.one; same = q.same; left = q.left }))) w)
        (t f e n o i lt))
        (λ h. inr (awaits f i (h n i lt)))
        (extends.fresh f e k)

    carries : CarriedPageInvariant found words old → CarriedPageInvariant found words new
    carries t f e n k i lt =
        ⊎_elim
        (λ o. ⊎_elim (λ g. inl (settled_grows found old new extends.marks (extends.dirty_len ∙ length-set old.dirty page false) x.carried _ _ g))
        (λ w. ⊎_elim
        (λ d. ⊎_elim
        (λ (here : page_of (word_address f i) ≡ page).
        let above = (map.placed f.base f e).above in
        inl (x.settled f e n o i lt (omega arith) (omega arith)))
        (λ ne. inr (inl (extends.dirty _ (still_dirty _ ne d)))) (cases_eq (page_of (word_address f i)) page))
        (λ (p : IsLeftToEntry old f.base i). inr (inr (let q = pending_more found mid end extends f.base i (record { entry = p.entry; one = p.one; same = p.same; left = p.left }) in record { entry = q.entry; one = q.one; same = q.same; left = q.left }))) w)
        (t f e n o i lt))
        (λ h. inr (awaits f i (h n i lt)))
        (extends.fresh f e k)

    pub retrace_traces : Traces found words [] old new
    retrace_traces = record {
      marks_len = extends.marks_len;
      dirty_len = extends.dirty_len ∙ length-set old.dirty page false;
      marks = extends.marks;
      objects = extends.objects;
      within = x.within;
      dirtied = λ p h. ⊎_elim (λ d. inl (before p d)) (λ n. inr n) (extends.dirtied p h);
      keeps = keeps;
      carried_len = x.carried_len;
      carried = x.carried;
      strays = λ p h. ⊎_elim (λ o. inl o) (λ s. inr (stray_page_more found words [] [] old mid (length-set old.dirty page false) (λ w r. r) (λ f e k. held e k) p s)) (x.strays p h);
      carries = carries;
    }
