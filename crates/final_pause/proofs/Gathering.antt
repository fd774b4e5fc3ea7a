-- What helpers know, won and made dirty is put together.
use Rattle.std.proofs.Common.{◌≡◌, ℕ, ◌+◌, ◌*◌, ◌%◌, ◌<◌, ◌≤◌, List, Bool, true, Contains, Option, Some, None, length, get_or, refl, sym, ap, subst, ◌∙◌, inl, inr, ⊎_elim, mod-lt, arith}
use Rattle.std.specs.Prelude.{◌⊎◌}
use Rattle.std.proofs.lemmas.Bool.{cases_eq, cases_lt, true≢false}
use Rattle.std.proofs.lemmas.List.{get_or_default}
use Rattle.std.proofs.lemmas.List.Elements.{Contains-append_cases, Contains-append_left, Contains-append_right}
use Rattle.words.specs.declared.class.Kind.TheVariants.{Normal}
use Rattle.words.specs.Bits.{Has}
use Rattle.words.proofs.Sets.{has_inside}
use Rattle.words.specs.Layout.{granule, page_of}
use Rattle.mark_bits.specs.declared.claimer_view.ClaimerView.{ClaimerView}
use Rattle.mark_bits.specs.declared.table.Claimer.{Claimer}
use Rattle.mark_bits.specs.Tables.{view, start_of, IsOf}
use Rattle.mark_bits.specs.Claims.{knows, joined, Gathers, HasPart}
use Rattle.mark_bits.proofs.Words.{shows-left, shows-right}
use Rattle.mark_bits.proofs.Halves.{part_joined}
use Rattle.mark_bits.proofs.Gathered.{gathered-each, gathered-start, gathered-won}
use Rattle.block_map.specs.declared.found.Found.{Found}
use Rattle.block_map.specs.Objects.{IsMap}
use Rattle.words.specs.declared.limits.TheConstants.{FIRST_ADDRESS, PAGE_BYTES}
use Rattle.marker.specs.Marking.{Marking, IsMarked, IsLeftToEntry, IsOutside, bytes_of, word_address}
use Rattle.marker.specs.Closure.{held}
use Rattle.marker.specs.Invariant.{AreRootsMarked, IsSettled, IsTargetMarked}
use Rattle.marker.specs.Growth.{Traces}
use Rattle.marker.proofs.Growing.{settled_grows}
use Rattle.marker.proofs.Settling.{entry_in}
use Rattle.marker.proofs.Closures.{same_object}
use Rattle.each_law.specs.Jobs.{HaveRun}
use Rattle.final_pause.specs.declared.helper.Helper.{Helper}
use Rattle.final_pause.specs.Pauses.{PauseView}
use Rattle.final_pause.specs.Helping.{found, word_in, turn_of, IsTargetKnown, IsWordRead}
use Rattle.final_pause.specs.Dealing.{rank}
use Rattle.final_pause.specs.Serving.{IsReachable, IsEntryRead, IsShareRead, HasServed, turn_number}
use Rattle.final_pause.specs.Gathering.{AreNumbered, HasGathered}
use Rattle.final_pause.specs.Rounds.{DirtiesNew}
use Rattle.final_pause.proofs.Knowing.{none_in}
use Rattle.final_pause.proofs.Growing.{word_more}
use Rattle.final_pause.proofs.Serving.{share_more}
use Rattle.final_pause.proofs.OwnWords.{turn_below}

-- each helper was run, and each had its place
pub served_at : {p : PauseView} {old new : List Helper} → HaveRun (λ a b. HasServed p a.place b) old new → AreNumbered old → (i : ℕ) (d : Helper) → i < length new → HasServed p i (get_or new i d)
served_at {p} {old} {new} run numbered i d lt =
    let size = run.size in
    let lt' : i < length old = omega (arith, lt, size) in
    subst (λ (s : ℕ). HasServed p s (get_or new i d)) (numbered i d lt') (run.each i d d lt')

module _ (p : PauseView) where
  -- one more helper is joined
  pub gathers_next : (low : ℕ) (first first' : Claimer) (dirty dirty' carried carried' : List Bool) (h : Helper)
      → HasGathered p (low + 1) first dirty carried → HasServed p low h
      → IsOf p.table first' → view first' ≡ joined (view first) (view h.claimer) → length dirty' ≡ length dirty
      → ((q : ℕ) → Has dirty' q → Has dirty q ⊎ Has h.dirty q) → ((q : ℕ) → Has dirty q → Has dirty' q) → ((q : ℕ) → Has h.dirty q → Has dirty' q) → length carried' ≡ length carried
      → ((q : ℕ) → Has carried' q → Has carried q ⊎ Has h.carried q) → ((q : ℕ) → Has carried q → Has carried' q) → ((q : ℕ) → Has h.carried q → Has carried' q)
      → HasGathered p low first' dirty' carried'
  gathers_next low first first' dirty dirty' carried carried' h g s of join len each old more carried_len each_carried old_carried more_carried =
      let left : (k : ℕ) → knows (view first) k ≡ true → knows (view first') k ≡ true = λ k e. ap (λ v. knows v k) join ∙ shows-left k (view first).seen (view h.claimer).seen e in
      let right : (k : ℕ) → knows (view h.claimer) k ≡ true → knows (view first') k ≡ true = λ k e. ap (λ v. knows v k) join ∙ shows-right k (view first).seen (view h.claimer).seen e in
      let of_either : (k : ℕ) → Contains (view first').won k → Contains (view first).won k ⊎ Contains (view h.claimer).won k =
      λ k c. Contains-append_cases (view first).won (view h.claimer).won k (subst (λ (v : ClaimerView). Contains v.won k) join c) in
      let won_left : (k : ℕ) → Contains (view first).won k → Contains (view first').won k =
      λ k c. subst (λ (v : ClaimerView). Contains v.won k) (sym join) (Contains-append_left (view first).won (view h.claimer).won k c) in
      let won_right : (k : ℕ) → Contains (view h.claimer).won k → Contains (view first').won k =
      λ k c. subst (λ (v : ClaimerView). Contains v.won k) (sym join) (Contains-append_right (view first).won (view h.claimer).won k c) in
      let part : HasPart (view h.claimer) (low + 1) = subst (λ (n : ℕ). HasPart (view h.claimer) (n + 1)) s.here s.serving.part in record {
        of = of;
        part = subst (λ (v : ClaimerView). HasPart v low) (sym join) (part_joined (view first) (view h.claimer) low g.part part);
        size = len ∙ g.size;
        carried_size = carried_len ∙ g.carried_size;
        won = λ f o m c i lt. ⊎_elim
            (λ a. ⊎_elim (λ k. inl (word_more p (view first) (view first') carried carried' left old_carried f i k)) (λ d. inr (old _ d)) (g.won f o m a i lt))
            (λ a. ⊎_elim (λ k. inl (word_more p (view h.claimer) (view first') h.carried carried' right more_carried f i k))
            (λ w. ⊎_elim (λ d. inr (more _ d)) (λ e. absurd (none_in h.waiting _ s.empty e)) w) (s.serving.won f o m a i lt))
            (of_either (granule f.base) c);
        dirtied = λ q d. ⊎_elim
            (λ a. let w = g.dirtied q a in (w.0, w.1, won_left _ w.2, w.3))
            (λ a. let w = s.serving.dirtied q a in (w.0, w.1, won_right _ w.2, w.3))
            (each q d);
        strays = λ q c. ⊎_elim (λ a. g.strays q a) (λ a. s.serving.strays q a) (each_carried q c);
        within = λ k c. ⊎_elim (λ a. g.within k a) (λ a. s.serving.within k a) (of_either k c);
        shares = λ n le lt. ⊎_elim
            (λ (e : n ≡ low). subst (IsShareRead p (view first') carried') (sym e) (share_more p (view h.claimer) (view first') h.carried carried' right more_carried low s.read))
            (λ ne. share_more p (view first) (view first') carried carried' left old_carried n (g.shares n (omega (arith, le, ne)) lt))
            (cases_eq n low);
      }

-- the table's bits are the marks, one row's pages the dirty ones, and the other's are carried too
module _ {p : PauseView} (first : Claimer) (dirty carried : List Bool) (new : Marking) (g : HasGathered p 0 first dirty carried)
    (map : IsMap (length p.map) (found p)) (some : 0 < p.helpers) (start : start_of p.table ≡ p.marker.marks) (pages : length p.marker.dirty ≡ length p.map) (gathered : Gathers (start_of p.table) (view first).won new.marks)
    (known : (k : ℕ) → knows (view first) k ≡ true → Has new.marks k) (row : new.dirty ≡ dirty)
    (carried_len : length new.carried ≡ length p.marker.carried) (each : (q : ℕ) → Has new.carried q → Has p.marker.carried q ⊎ Has carried q)
    (stays : (q : ℕ) → Has p.marker.carried q → Has new.carried q) (more : (q : ℕ) → Has carried q → Has new.carried q) where
  abbrev old : Marking
  old = p.marker

  was : (k : ℕ) → Has old.marks k → Has new.marks k
  was k h = gathered-start (start_of p.table) (view first).won new.marks gathered k (subst (λ m. Has m k) (sym start) h)

  either : (k : ℕ) → Has new.marks k → Has old.marks k ⊎ Contains (view first).won k
  either k h = ⊎_elim (λ e. inl (subst (λ m. Has m k) start e)) (λ c. inr c) (gathered-each (start_of p.table) (view first).won new.marks gathered k h)

  is_new : (k : ℕ) → Contains (view first).won k → (Has old.marks k → ⊥) × Has new.marks k
  is_new k c =
      let w = gathered-won (start_of p.table) (view first).won new.marks gathered k c in
      ((λ h. true≢false (sym (subst (λ m. Has m k) (sym start) h) ∙ w.1)), w.0)

  target : (w : ℕ) → IsTargetKnown p (view first) w → IsTargetMarked (found p) new w
  target w k f e = known (granule f.base) (k f e)

  read_pending : (f : Found) → found p f.base ≡ Some f → f.kind ≡ Normal → IsMarked old f.base → (i : ℕ) → i < f.len → IsLeftToEntry old f.base i → IsWordRead p (view first) carried f i
  read_pending f o n m i lt q =
      let at = entry_in old q.entry q.one in
      let turn : ℕ = turn_of p at.0 f i in
      let place = g.shares turn (omega arith) (turn_below p some at.0 f i) in
      let read : IsEntryRead p (view first) carried turn at.0 q.entry = subst (IsEntryRead p (view first) carried turn at.0) at.2 (place.entries at.0 q.entry at.1) in
      read f o (sym q.same) n m i q.left lt refl

  read_dirty : (f : Found) → found p f.base ≡ Some f → f.kind ≡ Normal → IsMarked old f.base → (i : ℕ) → i < f.len → Has old.dirty (page_of (word_address f i)) → IsWordRead p (view first) carried f i
  read_dirty f o n m i lt d =
      let page : ℕ = page_of (word_address f i) in
      let inside : page < length p.map = (let l = has_inside old.dirty page d in omega (arith, l, pages)) in
      let above = (map.placed f.base f o).above in
      let turn : ℕ = turn_number (rank old.dirty page) (granule f.base) in
      let place = g.shares (turn % p.helpers) (omega arith) (mod-lt turn some) in
      place.pages page inside d f o n m refl i lt (omega (arith, above)) (omega (arith, above))

  -- the number of pages is the same
  pages_same : length new.dirty ≡ length old.dirty
  pages_same = ap length row ∙ (g.size ∙ sym pages)

  -- a word that was read is settled
  settled : (f : Found) (i : ℕ) → IsWordRead p (view first) carried f i → IsSettled (found p) new (word_address f i) (word_in p f i)
  settled f i r = ⊎_elim
      (λ (low : word_in p f i < FIRST_ADDRESS). outside (inl low))
      (λ from. ⊎_elim (λ below. inside (found p (word_in p f i)) refl from below) (λ past. outside (inr past)) (cases_lt (word_in p f i) (FIRST_ADDRESS + bytes_of old)))
      (cases_lt (word_in p f i) FIRST_ADDRESS)
    where
      outside : IsOutside (bytes_of old) (word_in p f i) → IsSettled (found p) new (word_address f i) (word_in p f i)
      outside o = IsSettled.outside (subst (λ (n : ℕ). IsOutside (PAGE_BYTES * n) (word_in p f i)) (sym pages_same) o)

      inside : (o : Option Found) → found p (word_in p f i) ≡ o → FIRST_ADDRESS ≤ word_in p f i → word_in p f i < FIRST_ADDRESS + bytes_of old → IsSettled (found p) new (word_address f i) (word_in p f i)
      inside (Some h) e from below = IsSettled.held h e (target _ r.known h e)
      inside None e from below = IsSettled.carried (more _ (r.settled (record { nothing = e; from = from; below = below })))

  -- what was settled stays settled
  still : (a w : ℕ) → IsSettled (found p) old a w → IsSettled (found p) new a w
  still a w = settled_grows (found p) old new (λ b h. was (granule b) h) pages_same stays a w

  pub gathered_traces : Traces (found p) p.memory p.roots p.marker new
  gathered_traces = record {
    marks_len = gathered.size ∙ ap length start;
    dirty_len = pages_same;
    marks = λ b h. was (granule b) h;
    objects = λ k h. ⊎_elim (λ e. inl e) (λ c. let r = g.within k c in inr (record { object = r.object; is = r.is; first = r.first })) (either k h);
    within = λ f o h. ⊎_elim
        (λ e. held o e)
        (λ c. let r = g.within (granule f.base) c in subst (IsReachable p) (same_object (length p.map) (found p) map r.object f r.is o r.first) r.reached)
        (either (granule f.base) h);
    dirtied = λ q h. let w = g.dirtied q (subst (λ d. Has d q) row h) in let n = is_new (granule w.0.base) w.2 in inr (w.0, (w.1, n.0, n.1), w.3);
    keeps = λ inv f o n h i lt. ⊎_elim
        (λ e. ⊎_elim (λ k. inl (λ x y. was (granule x.base) (k x y)))
        (λ a. ⊎_elim (λ d. inl (target _ (read_dirty f o n e i lt d).known)) (λ q. inl (target _ (read_pending f o n e i lt q).known)) a)
        (inv f o n e i lt))
        (λ c. ⊎_elim (λ (k : IsWordRead p (view first) carried f i). inl (target _ k.known)) (λ d. inr (inl (subst (λ d. Has d (page_of (word_address f i))) (sym row) d))) (g.won f o n c i lt))
        (either (granule f.base) h);
    carried_len = carried_len;
    carried = stays;
    strays = λ q h. ⊎_elim (λ o. inl o) (λ c. inr (g.strays q c)) (each q h);
    carries = λ inv f o n h i lt. ⊎_elim
        (λ e. ⊎_elim (λ k. inl (still _ _ k))
        (λ a. inl (⊎_elim (λ d. settled f i (read_dirty f o n e i lt d)) (λ q. settled f i (read_pending f o n e i lt q)) a))
        (inv f o n e i lt))
        (λ c. ⊎_elim (λ k. inl (settled f i k)) (λ d. inr (inl (subst (λ d. Has d (page_of (word_address f i))) (sym row) d))) (g.won f o n c i lt))
        (either (granule f.base) h);
  }

  pub gathered_roots : AreRootsMarked (found p) p.roots new
  gathered_roots w (i, lt, e) =
      let k : IsTargetKnown p (view first) (get_or p.roots i 0) =
      let place = g.shares (i % p.helpers) (omega arith) (mod-lt i some) in place.roots i lt refl in
      target w (subst (λ (n : ℕ). IsTargetKnown p (view first) n) (get_or_default p.roots i 0 w lt ∙ e) k)

  -- each dirty page is one of a newly marked object
  pub gathered_dirty : DirtiesNew (found p) p.marker new
  gathered_dirty q h = let w = g.dirtied q (subst (λ d. Has d q) row h) in let n = is_new (granule w.0.base) w.2 in (w.0, w.1, n.0, n.1, w.3)
