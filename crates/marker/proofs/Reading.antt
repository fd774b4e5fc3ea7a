-- Words of the entry that is being read are done with.
use Rattle.std.proofs.Common.{◌≡◌, ℕ, ◌+◌, ◌-◌, ◌*◌, ◌<◌, ◌≤◌, List, [], length, Option, Some, refl, sym, ap, ◌∙◌, subst, inl, inr, ⊎_elim, arith}
use Rattle.std.specs.Prelude.{◌⊎◌}
use Rattle.std.proofs.lemmas.Option.{same_Some}
use Rattle.std.proofs.lemmas.Bool.{cases_lt}
use Rattle.words.specs.declared.limits.TheConstants.{PAGE_BYTES, PAGE_GRANULES}
use Rattle.words.specs.Bits.{Has}
use Rattle.words.specs.Layout.{page_of}
use Rattle.pages.specs.Memory.{word_at}
use Rattle.block_map.specs.declared.found.Found.{Found}
use Rattle.block_map.specs.Objects.{IsMap}
use Rattle.marker.specs.declared.entry.Entry.{Entry}
use Rattle.marker.specs.Marking.{Marking, IsLeftToEntry, IsOutside, StaysDirty, with_current, with_carried, word_address}
use Rattle.marker.specs.Work.{left, left_of, cost}
use Rattle.marker.specs.Invariant.{DirtyPageInvariant, CarriedPageInvariant, IsSettled, IsTargetMarked, IsAwaited}
use Rattle.marker.specs.Growth.{Traces, IsNoStray}
use Rattle.marker.specs.Entries.{ReadsOn, TakesOff, WentOn, read_on}
use Rattle.marker.proofs.Costs.{left_new}
use Rattle.marker.proofs.Growing.{Extends, traced_more, carried_more, below_contains}
use Rattle.marker.proofs.Words.{words_extends, words_targets, words_within, contains_word, run_strays}
use Rattle.marker.proofs.Dropping.{is_current}

-- where the reading ends, as its relation says it
module _ (pages : ℕ) (found : ℕ → Option Found) (map : IsMap pages found) (words : List ℕ) (n : ℕ) (old new' : Marking) (size : length old.marks ≡ PAGE_GRANULES * pages) (x : ReadsOn found words n old new') where
  abbrev next : Entry
  next = read_on x.object x.live.entry n

  abbrev new : Marking
  new = with_current (with_carried x.mid x.carried) (read_on x.object x.live.entry n)

  extends : Extends found old x.mid
  extends = words_extends pages found map old size x.reads

  mid_current : x.mid.current ≡ Some x.live.entry
  mid_current = extends.current ∙ x.live.current

  -- what the words that were read point into is marked
  target : (i : ℕ) → x.live.entry.next ≤ i → i < x.live.entry.next + n → IsTargetMarked found new (word_at words (word_address x.object i))
  target i le lt = words_targets pages found map old size x.reads _ (contains_word words x.object x.live.entry.next n i le lt)

  -- the object of the entry that is being read is the one that has its base
  same : (g : Found) → found g.base ≡ Some g → g.base ≡ x.live.entry.base → x.object ≡ g
  same g is b = same_Some x.object g (sym x.live.unread.object ∙ ap found (x.live.unread.base ∙ sym b) ∙ is)

  went_on : (g : Found) → found g.base ≡ Some g → (i : ℕ) → i < g.len → IsLeftToEntry x.mid g.base i → IsTargetMarked found new (word_at words (word_address g i)) ⊎ IsAwaited new g i
  went_on g is i lt p =
      ⊎_elim
      (λ (c : x.mid.current ≡ Some p.entry).
      let e : p.entry ≡ x.live.entry = same_Some p.entry x.live.entry (sym c ∙ mid_current) in
      let b : g.base ≡ x.live.entry.base = sym p.same ∙ ap (λ (y : Entry). y.base) e in
      let from : x.live.entry.next ≤ i = subst (λ (y : Entry). y.next ≤ i) e p.left in
      ⊎_elim
      (λ (below : i < x.live.entry.next + n). inl (subst (λ (y : Found). IsTargetMarked found new (word_at words (word_address y i))) (same g is b) (target i from below)))
      (λ (past : x.live.entry.next + n ≤ i). inr (inr (record { entry = next; one = inl refl; same = sym b; left = past })))
      (cases_lt i (x.live.entry.next + n)))
      (λ c. inr (inr (record { entry = p.entry; one = inr c; same = p.same; left = p.left })))
      p.one

  read_traced : DirtyPageInvariant found words old → DirtyPageInvariant found words new
  read_traced t g is k m i lt =
      ⊎_elim (λ o. inl o) (λ w. ⊎_elim (λ d. inr (inl d)) (λ p. went_on g is i lt p) w)
      (traced_more found words old x.mid extends t g is k m i lt)

  -- what was carried is carried
  still_carried : (p : ℕ) → Has x.mid.carried p → Has x.carried p
  still_carried p h = x.carries.stays p (subst (λ r. Has r p) extends.carried h)

  still_settled : (p w : ℕ) → IsSettled found x.mid p w → IsSettled found new p w
  still_settled p w (IsSettled.held g e k) = IsSettled.held g e k
  still_settled p w (IsSettled.outside o) = IsSettled.outside o
  still_settled p w (IsSettled.carried h) = IsSettled.carried (still_carried (page_of p) h)

  -- the words that were read are settled
  no_stray : (p w : ℕ) → IsTargetMarked found new w → IsNoStray found (PAGE_BYTES * length old.dirty) w → IsSettled found new p w
  no_stray p w t is = ⊎_elim (λ (g : (g : Found) × (found w ≡ Some g)). IsSettled.held g.0 g.1 (t g.0 g.1))
      (λ o. IsSettled.outside (subst (λ (k : ℕ). IsOutside (PAGE_BYTES * k) w) (sym extends.dirty_len) o)) is

  settled : (i : ℕ) → x.live.entry.next ≤ i → i < x.live.entry.next + n → IsSettled found new (word_address x.object i) (word_at words (word_address x.object i))
  settled i le lt = ⊎_elim
      (λ c. IsSettled.carried (subst (Has x.carried) (sym (x.one_page i le lt)) c))
      (λ is. no_stray _ _ (target i le lt) is)
      (x.carries.all _ (contains_word words x.object x.live.entry.next n i le lt))

  settled_on : (g : Found) → found g.base ≡ Some g → (i : ℕ) → i < g.len → IsLeftToEntry x.mid g.base i → IsSettled found new (word_address g i) (word_at words (word_address g i)) ⊎ IsAwaited new g i
  settled_on g is i lt p =
      ⊎_elim
      (λ (c : x.mid.current ≡ Some p.entry).
      let e : p.entry ≡ x.live.entry = same_Some p.entry x.live.entry (sym c ∙ mid_current) in
      let b : g.base ≡ x.live.entry.base = sym p.same ∙ ap (λ (y : Entry). y.base) e in
      let from : x.live.entry.next ≤ i = subst (λ (y : Entry). y.next ≤ i) e p.left in
      ⊎_elim
      (λ (below : i < x.live.entry.next + n). inl (subst (λ (y : Found). IsSettled found new (word_address y i) (word_at words (word_address y i))) (same g is b) (settled i from below)))
      (λ (past : x.live.entry.next + n ≤ i). inr (inr (record { entry = next; one = inl refl; same = sym b; left = past })))
      (cases_lt i (x.live.entry.next + n)))
      (λ c. inr (inr (record { entry = p.entry; one = inr c; same = p.same; left = p.left })))
      p.one

  read_carried : CarriedPageInvariant found words old → CarriedPageInvariant found words new
  read_carried t g is k m i lt =
      ⊎_elim (λ o. inl (still_settled _ _ o)) (λ w. ⊎_elim (λ d. inr (inl d)) (λ p. settled_on g is i lt p) w)
      (carried_more found words old x.mid extends t g is k m i lt)

  traces : Traces found words [] old new
  traces = record {
    marks_len = extends.marks_len;
    dirty_len = extends.dirty_len;
    marks = extends.marks;
    objects = extends.objects;
    within = λ g is k. words_within pages found map old size words x.object x.live.entry.next n x.live.unread.object x.live.unread.normal x.live.unread.marked x.fits x.reads g is k;
    dirtied = extends.dirtied;
    keeps = read_traced;
    carried_len = x.carries.len;
    carried = x.carries.stays;
    strays = run_strays found words x.object x.live.entry.next n x.page old x.carried x.one_page x.carries x.live.unread.object x.live.unread.normal x.live.unread.marked x.fits;
    carries = read_carried;
  }

  less : cost found new + n ≤ cost found old
  unfolding cost
  less =
      let a = extends.cost in
      let f = x.fits in
      let c : left found next ≡ x.object.len - next.next = left_new found x.object next x.live.unread.object x.live.unread.normal (sym x.live.unread.base) in
      let m : left_of found x.mid.current ≡ x.object.len - x.live.entry.next = ap (left_of found) mid_current ∙ left_new found x.object x.live.entry x.live.unread.object x.live.unread.normal (sym x.live.unread.base) in
      omega arith

  taken : TakesOff found words old new
  taken e one =
      ⊎_elim
      (λ (c : old.current ≡ Some e).
      let s : x.live.entry ≡ e = same_Some x.live.entry e (sym x.live.current ∙ c) in
      inl (subst (λ (y : Entry). WentOn found words old new y) s (record {
        now = next;
        one = inl refl;
        base = refl;
        further = omega arith;
        read = λ g is b i le lt. subst (λ (y : Found). IsTargetMarked found new (word_at words (word_address y i))) (same g is b) (target i le lt);
        first = λ _. (refl, extends.stack);
      })))
      (λ (not : old.current ≡ Some e → ⊥).
      ⊎_elim (λ c. absurd (not c))
      (λ c. inl (record {
        now = e;
        one = inr (below_contains old.stack x.mid.stack e extends.stack c);
        base = refl;
        further = omega arith;
        read = λ g is b i le lt. absurd (omega arith);
        first = λ y. absurd (not y);
      })) one)
      (is_current old.current e)

  pub read_traces : Traces found words [] old new'
  read_traces = subst (Traces found words [] old) (sym x.new_is) traces

  pub read_cost : cost found new' + n ≤ cost found old
  read_cost = subst (λ m. cost found m + n ≤ cost found old) (sym x.new_is) less

  pub read_taken : TakesOff found words old new'
  read_taken = subst (TakesOff found words old) (sym x.new_is) taken

  pub read_dirty : StaysDirty old new'
  read_dirty = subst (StaysDirty old) (sym x.new_is) extends.dirty
