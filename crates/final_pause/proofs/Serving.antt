-- A helper at work goes on: what it reads is reached, and what it owes is awaited.
use Rattle.std.proofs.Common.{◌≡◌, ℕ, ◌+◌, ◌*◌, ◌<◌, ◌≤◌, Bool, List, true, Contains, Some, None, length, refl, sym, ap, subst, ◌∙◌, inl, inr, ⊎_elim, arith, get_or}
use Rattle.std.specs.Prelude.{◌⊎◌}
use Rattle.std.proofs.lemmas.Option.{same_Some}
use Rattle.std.proofs.lemmas.Bool.{cases_lt}
use Rattle.words.specs.declared.class.Kind.TheVariants.{Normal}
use Rattle.words.specs.declared.limits.TheConstants.{WORD_BYTES}
use Rattle.words.specs.Bits.{Has}
use Rattle.words.specs.Layout.{granule, page_of, page_start}
use Rattle.mark_bits.specs.declared.claimer_view.ClaimerView.{ClaimerView}
use Rattle.mark_bits.specs.Tables.{view, IsOf}
use Rattle.mark_bits.specs.Claims.{doubled, knows, HasPart}
use Rattle.block_map.specs.declared.found.Found.{Found}
use Rattle.block_map.specs.Objects.{IsMap}
use Rattle.pages.specs.Memory.{IsWordAddress}
use Rattle.marker.specs.Marking.{IsMarked, entries, word_address}
use Rattle.marker.specs.Closure.{word}
use Rattle.block_map.specs.Walks.{IsNextObject, IsNoObject}
use Rattle.marker.specs.Growth.{IsStrayPage}
use Rattle.marker.specs.declared.entry.Entry.{Entry}
use Rattle.marker.proofs.Closures.{at_base, is_object}
use Rattle.marker.proofs.Rescanning.{next_is, reads_own}
use Rattle.final_pause.specs.declared.helper.Helper.{Helper}
use Rattle.final_pause.specs.declared.waiting.Unread.{Unread}
use Rattle.final_pause.specs.Pauses.{PauseView}
use Rattle.final_pause.specs.Dealing.{rank}
use Rattle.final_pause.specs.Waiting.{IsTaken}
use Rattle.final_pause.specs.Helping.{found, won_of, unread_of, IsHelperOf, HelperGrows, IsWordRead, IsAwaitedBy, QueuesObject, AreWon, HasStrayOn, IsPointedInto, ClaimsOnly, IsWordOf, Visits, ReadsWords, ReadsOwn}
use Rattle.final_pause.specs.Serving.{IsReachable, IsReachedAt, IsQueued, IsServing, GoesOnServing, IsRunRead, IsEntryRead, AreRootsRead, AreEntriesRead, IsTurn, AreWordsRead, ArePagesRead, IsShareRead}
use Rattle.final_pause.proofs.Growing.{target_more, word_more, awaited_more, page_more}

module _ (p : PauseView) where
  -- what the words of a reached Normal object point into is reached
  pub reached_word : (f : Found) → IsReachable p f → f.kind ≡ Normal → (w : ℕ) → IsWordOf p f w → (g : Found) → found p w ≡ Some g → IsReachable p g
  reached_word f r n w (i, lt, is) g e = word {p = f} i r n lt (subst (λ (v : ℕ). found p v ≡ Some g) is e)

  pub fits_more : (a b : Helper) → HelperGrows p a b → IsHelperOf p a → IsHelperOf p b
  fits_more a b x f = record {
    ready = f.ready;
    of = x.of;
    dirty = x.dirty_len ∙ f.dirty;
    carried = x.carried_len ∙ f.carried;
  }

  -- a word that a helper has read stays read as it goes on
  pub word_on : (a b : Helper) → HelperGrows p a b → (f : Found) (i : ℕ) → IsWordRead p (view a.claimer) a.carried f i → IsWordRead p (view b.claimer) b.carried f i
  word_on a b x = word_more p (view a.claimer) (view b.claimer) a.carried b.carried x.learns.known x.carried

  -- a helper keeps its part of the right
  part_on : (a b : Helper) → b.place ≡ a.place → (view b.claimer).right ≡ (view a.claimer).right → HasPart (view a.claimer) (a.place + 1) → HasPart (view b.claimer) (b.place + 1)
  part_on a b place right part =
      subst (λ (r : ℕ × ℕ). doubled r.0 (b.place + 1) ≡ doubled 1 r.1) (sym right)
      (subst (λ (n : ℕ). doubled (view a.claimer).right.0 (n + 1) ≡ doubled 1 (view a.claimer).right.1) (sym place) part)

  -- a stray word of a reached Normal object makes its page one
  pub stray_on : (f : Found) → found p f.base ≡ Some f → f.kind ≡ Normal → IsReachable p f → (q : ℕ) → HasStrayOn p f q → IsStrayPage (found p) p.memory p.roots p.marker q
  stray_on f is normal reached q s = record { object = f; is = is; normal = normal; reached = reached; index = s.index; inside = s.inside; on = s.on; stray = s.stray }

  module _ (map : IsMap (length p.map) (found p)) (P : ℕ → Type 0) (reach : (w : ℕ) → P w → (g : Found) → found p w ≡ Some g → IsReachable p g) (a b : Helper) (only : ClaimsOnly p P a b) where
    pub queued_more : ((o : Unread) → Contains a.waiting o → IsQueued p o) → (o : Unread) → Contains b.waiting o → IsQueued p o
    queued_more q o c = ⊎_elim (λ h. q o h)
        (λ (r : (f : Found) × IsPointedInto p P f × (unread_of f ≡ o) × (f.kind ≡ Normal)).
        let t = r.1 in
        record { object = r.0; is = at_base (length p.map) (found p) map t.word r.0 t.points; same = r.2; normal = r.3; reached = reach t.word t.one r.0 t.points })
        (only.entries o c)

    pub within_more : ((k : ℕ) → Contains (won_of a) k → IsReachedAt p k) → (k : ℕ) → Contains (won_of b) k → IsReachedAt p k
    within_more q k c = ⊎_elim (λ h. q k h)
        (λ (r : (f : Found) × IsPointedInto p P f × (granule f.base ≡ k)).
        let t = r.1 in
        record { object = r.0; is = at_base (length p.map) (found p) map t.word r.0 t.points; first = r.2; reached = reach t.word t.one r.0 t.points })
        (only.won k c)

    pub serves_more : HelperGrows p a b → ((q : ℕ) → Has b.carried q → Has a.carried q ⊎ IsStrayPage (found p) p.memory p.roots p.marker q) → IsServing p a → IsServing p b
    serves_more x strays s = record {
      fits = fits_more a b x s.fits;
      part = part_on a b x.place x.learns.right s.part;
      won = λ f o n c i lt. ⊎_elim
          (λ h. ⊎_elim (λ k. inl (word_on a b x f i k)) (λ w. inr (awaited_more p a b x f i w)) (s.won f o n h i lt))
          (λ h. inr (h n i lt)) (x.fresh f o c);
      dirtied = λ q h. ⊎_elim (λ o. page_more p a b x.won q (s.dirtied q o)) (λ w. w) (x.dirtied q h);
      strays = λ q h. ⊎_elim (λ o. s.strays q o) (λ w. w) (strays q h);
      queued = queued_more s.queued;
      within = within_more s.within;
      own = x.own s.own;
    }

  -- at the base of what waits stands a word
  pub waiting_words : (h : Helper) → IsServing p h → (o : Unread) → Contains h.waiting o → IsWordAddress p.memory o.base
  waiting_words h s o c =
      let q = s.queued o c in let placed = s.fits.ready.map.placed q.object.base q.object q.is in
      let at : q.object.base ≡ o.base = ap (λ (n : Unread). n.base) q.same in
      let aligned = placed.aligned in let above = placed.above in let below = placed.below in let some = placed.some in let size = s.fits.ready.memory in
      record { aligned = omega arith; above = omega arith; below = omega arith }

  pub serves_refl : (h : Helper) → IsServing p h → GoesOnServing p h h
  serves_refl h s = record { serving = s; place = refl; learns = record { right = refl; known = λ k e. e }; carried = λ q h. h }

  -- how many words a helper may still read says nothing of what it has done
  pub serves_any : (h : Helper) (n : ℕ) → IsServing p h → IsServing p (record h { left = n })
  serves_any h n s = record {
    fits = record { ready = s.fits.ready; of = s.fits.of; dirty = s.fits.dirty; carried = s.fits.carried };
    part = s.part;
    won = s.won;
    dirtied = s.dirtied;
    strays = s.strays;
    queued = s.queued;
    within = s.within;
    own = s.own;
  }

  pub serves_trans : (a b c : Helper) → GoesOnServing p a b → GoesOnServing p b c → GoesOnServing p a c
  serves_trans a b c x y = record {
    serving = y.serving;
    place = y.place ∙ x.place;
    learns = record { right = y.learns.right ∙ x.learns.right; known = λ k e. y.learns.known k (x.learns.known k e) };
    carried = λ q h. y.carried q (x.carried q h);
  }

  -- a word is visited of which what it points into is reached
  pub serves_visit : IsMap (length p.map) (found p) → (w : ℕ) (a b : Helper) → ((g : Found) → found p w ≡ Some g → IsReachable p g) → Visits p w a b → IsServing p a → GoesOnServing p a b
  serves_visit map w a b reach v s = record {
    serving = serves_more map (λ n. n ≡ w) (λ n is f e. reach f (subst (λ (m : ℕ). found p m ≡ Some f) is e)) a b v.only v.extends (λ q h. inl (subst (λ r. Has r q) v.carried h)) s;
    place = v.extends.place;
    learns = v.extends.learns;
    carried = v.extends.carried;
  }

  -- some words of a reached Normal object were read
  serves_reads : IsMap (length p.map) (found p) → (f : Found) (a b : Helper) → IsReachable p f → f.kind ≡ Normal → HelperGrows p a b → ((q : ℕ) → Has b.carried q → Has a.carried q ⊎ HasStrayOn p f q) → ClaimsOnly p (IsWordOf p f) a b
      → IsServing p a → GoesOnServing p a b
  serves_reads map f a b reached normal extends strays only s = record {
    serving = serves_more map (IsWordOf p f) (reached_word f reached normal) a b only extends
        (λ q h. ⊎_elim (λ o. inl o) (λ w. inr (stray_on f (is_object (length p.map) (found p) p.memory p.roots (IsMarked p.marker) map reached) normal reached q w)) (strays q h)) s;
    place = extends.place;
    learns = extends.learns;
    carried = extends.carried;
  }

  pub serves_words : IsMap (length p.map) (found p) → (f : Found) (first n : ℕ) (a b : Helper) → IsReachable p f → f.kind ≡ Normal → ReadsWords p f first n a b → IsServing p a → GoesOnServing p a b
  serves_words map f first n a b reached normal r s = serves_reads map f a b reached normal r.extends r.strays r.only s

  pub serves_own : IsMap (length p.map) (found p) → (f : Found) (first n : ℕ) (a b : Helper) → IsReachable p f → f.kind ≡ Normal → ReadsOwn p f first n a b → IsServing p a → GoesOnServing p a b
  serves_own map f first n a b reached normal r s = serves_reads map f a b reached normal r.extends r.strays r.only s

  -- one that waited is taken out
  module _ (map : IsMap (length p.map) (found p)) (a m : Helper) (o : Unread)
      (claimer : m.claimer ≡ a.claimer) (dirty : m.dirty ≡ a.dirty) (carried : m.carried ≡ a.carried) (place : m.place ≡ a.place) (taken : IsTaken a.waiting o m.waiting)
      (s : IsServing p a) (here : IsQueued p o) where
    -- an object that waits so is this one
    at_this : (g : Found) → found p g.base ≡ Some g → o ≡ unread_of g → here.object ≡ g
    at_this g is e = same_Some here.object g (sym here.is ∙ (ap (found p) (ap (λ (n : Unread). n.base) (here.same ∙ e)) ∙ is))

    before : (k : Unread) → Contains m.waiting k → IsQueued p k
    before k c = s.queued k (taken.only k c)

    won_before : (k : ℕ) → Contains (won_of m) k → Contains (won_of a) k
    won_before k c = subst (λ h. Contains (view h).won k) claimer c

    own_before : AreWon m
    own_before k c = subst (λ h. Contains (view h).won (granule k.base)) (sym claimer) (s.own k (taken.only k c))

    -- and its object is read
    module _ (b : Helper) (r : ReadsWords p here.object 0 here.object.len m b) where
      x : HelperGrows p m b
      x = r.extends

      stays_there : (k : Unread) → Contains a.waiting k → Contains b.waiting k ⊎ (o ≡ k)
      stays_there k c = ⊎_elim (λ h. inl (x.waiting k h)) (λ e. inr e) (taken.stay k c)

      known : (k : ℕ) → knows (view a.claimer) k ≡ true → knows (view b.claimer) k ≡ true
      known k h = x.learns.known k (ap (λ c. knows (view c) k) claimer ∙ h)

      carried_on : (q : ℕ) → Has a.carried q → Has b.carried q
      carried_on q h = x.carried q (subst (λ c. Has c q) (sym carried) h)

      read_here : (g : Found) → found p g.base ≡ Some g → o ≡ unread_of g → (i : ℕ) → i < g.len → IsWordRead p (view b.claimer) b.carried g i
      read_here g is e i lt =
          let is_f = at_this g is e in
          let lt' : i < here.object.len = subst (λ (y : Found). i < y.len) (sym is_f) lt in
          subst (λ (y : Found). IsWordRead p (view b.claimer) b.carried y i) is_f (r.read i (omega arith) (omega (arith, lt')))

      won_after : (k : ℕ) → Contains (won_of a) k → Contains (won_of b) k
      won_after k c = x.won k (subst (λ h. Contains (view h).won k) (sym claimer) c)

      serving_pop : IsServing p b
      serving_pop = record {
        fits = record { ready = s.fits.ready; of = x.of; dirty = x.dirty_len ∙ (ap length dirty ∙ s.fits.dirty); carried = x.carried_len ∙ (ap length carried ∙ s.fits.carried) };
        part = part_on a b (x.place ∙ place) (x.learns.right ∙ ap (λ c. (view c).right) claimer) s.part;
        won = λ g is n c i lt. ⊎_elim
            (λ h. ⊎_elim
            (λ k. inl (word_more p (view a.claimer) (view b.claimer) a.carried b.carried known carried_on g i k))
            (λ w. ⊎_elim
            (λ d. inr (inl (x.dirty _ (subst (λ d. Has d (page_of (word_address g i))) (sym dirty) d))))
            (λ q. ⊎_elim (λ l. inr (inr l)) (λ (e : o ≡ unread_of g). inl (read_here g is e i lt)) (stays_there (unread_of g) q)) w)
            (s.won g is n (won_before (granule g.base) h) i lt))
            (λ h. inr (h n i lt)) (x.fresh g is c);
        dirtied = λ q h. ⊎_elim (λ d. page_more p a b won_after q (s.dirtied q (subst (λ d. Has d q) dirty d))) (λ w. w) (x.dirtied q h);
        strays = λ q h. ⊎_elim
            (λ d. s.strays q (subst (λ c. Has c q) carried d))
            (λ w. stray_on here.object here.is here.normal here.reached q w)
            (r.strays q h);
        queued = queued_more map (IsWordOf p here.object) (reached_word here.object here.reached here.normal) m b r.only before;
        within = within_more map (IsWordOf p here.object) (reached_word here.object here.reached here.normal) m b r.only (λ k c. s.within k (won_before k c));
        own = x.own own_before;
      }

      pub serves_pop : GoesOnServing p a b
      serves_pop = record {
        serving = serving_pop;
        place = x.place ∙ place;
        learns = record { right = x.learns.right ∙ ap (λ c. (view c).right) claimer; known = known };
        carried = carried_on;
      }

    -- or its object is left to its pages
    module _ (b : Helper) (y : QueuesObject here.object m b) (rest : b.waiting ≡ m.waiting) where
      cl : b.claimer ≡ a.claimer
      cl = y.claimer ∙ claimer

      ca : b.carried ≡ a.carried
      ca = y.carried ∙ carried

      won_still : (k : ℕ) → Contains (won_of b) k → Contains (won_of a) k
      won_still k c = subst (λ h. Contains (view h).won k) cl c

      won_too : (k : ℕ) → Contains (won_of a) k → Contains (won_of b) k
      won_too k c = subst (λ h. Contains (view h).won k) (sym cl) c

      back : (k : Unread) → Contains b.waiting k → Contains m.waiting k
      back k c = subst (λ l. Contains l k) rest c

      awaits : (g : Found) → found p g.base ≡ Some g → g.kind ≡ Normal → (i : ℕ) → i < g.len → IsAwaitedBy a g i → IsAwaitedBy b g i
      awaits g is n i lt w = ⊎_elim
          (λ d. inl (y.dirty _ (subst (λ d. Has d (page_of (word_address g i))) (sym dirty) d)))
          (λ q. ⊎_elim (λ l. inr (y.waiting _ l))
          (λ (e : o ≡ unread_of g). subst (λ (z : Found). z.kind ≡ Normal → (j : ℕ) → j < z.len → IsAwaitedBy b z j) (at_this g is e) y.awaited n i lt)
          (taken.stay (unread_of g) q))
          w

      word_still : (g : Found) (i : ℕ) → IsWordRead p (view a.claimer) a.carried g i → IsWordRead p (view b.claimer) b.carried g i
      word_still g i k = word_more p (view a.claimer) (view b.claimer) a.carried b.carried (λ j h. ap (λ c. knows (view c) j) cl ∙ h) (λ q h. subst (λ c. Has c q) (sym ca) h) g i k

      serving_left : IsServing p b
      serving_left = record {
        fits = record { ready = s.fits.ready; of = subst (IsOf p.table) (sym cl) s.fits.of; dirty = y.dirty_len ∙ (ap length dirty ∙ s.fits.dirty); carried = ap length ca ∙ s.fits.carried };
        part = part_on a b (y.place ∙ place) (ap (λ c. (view c).right) cl) s.part;
        won = λ g is n c i lt. ⊎_elim (λ k. inl (word_still g i k)) (λ w. inr (awaits g is n i lt w)) (s.won g is n (won_still _ c) i lt);
        dirtied = λ q h. ⊎_elim
            (λ d. page_more p a b won_too q (s.dirtied q (subst (λ d. Has d q) dirty d)))
            (λ c. (here.object, here.is, won_too _ (subst (λ (n : ℕ). Contains (won_of a) (granule n)) (sym (ap (λ (k : Unread). k.base) here.same)) (s.own o taken.was)), c))
            (y.covered q h);
        strays = λ q h. s.strays q (subst (λ c. Has c q) ca h);
        queued = λ k c. before k (back k c);
        within = λ k c. s.within k (won_still k c);
        own = λ k c. won_too _ (s.own k (taken.only k (back k c)));
      }

      pub serves_left : GoesOnServing p a b
      serves_left = record {
        serving = serving_left;
        place = y.place ∙ place;
        learns = record { right = ap (λ c. (view c).right) cl; known = λ k e. ap (λ c. knows (view c) k) cl ∙ e };
        carried = λ q h. subst (λ c. Has c q) (sym ca) h;
      }

  -- the roots of a place stay read where more is known
  pub roots_more : (v w : ClaimerView) → ((k : ℕ) → knows v k ≡ true → knows w k ≡ true) → (place n : ℕ) → AreRootsRead p v place n → AreRootsRead p w place n
  roots_more v w more place n h i lt m = target_more p v w more _ (h i lt m)

  module _ (v w : ClaimerView) (c d : List Bool) (more : (k : ℕ) → knows v k ≡ true → knows w k ≡ true) (carried : (q : ℕ) → Has c q → Has d q) where
    pub run_more : (place number : ℕ) (f : Found) (first past : ℕ) → IsRunRead p v c place number f first past → IsRunRead p w d place number f first past
    run_more place number f first past h i from below turn = word_more p v w c d more carried f i (h i from below turn)

    pub entry_more : (place number : ℕ) (e : Entry) → IsEntryRead p v c place number e → IsEntryRead p w d place number e
    entry_more place number e h f o b k m = run_more place number f e.next f.len (h f o b k m)

    pub entries_more : (place n : ℕ) → AreEntriesRead p v c place n → AreEntriesRead p w d place n
    entries_more place n h i e lt = entry_more place i (get_or (entries p.marker) i e) (h i e lt)

    pub words_more : (place number low high : ℕ) → AreWordsRead p v c place number low high → AreWordsRead p w d place number low high
    words_more place number low high h f o b m turn i lt from below = word_more p v w c d more carried f i (h f o b m turn i lt from below)

    pub pages_more : (place n : ℕ) → ArePagesRead p v c place n → ArePagesRead p w d place n
    pages_more place n h page lt is = words_more place (rank p.marker.dirty page) (page_start page) (page_start (page + 1)) (h page lt is)

    pub share_more : (place : ℕ) → IsShareRead p v c place → IsShareRead p w d place
    share_more place h = record {
      roots = roots_more v w more place _ h.roots;
      entries = entries_more place _ h.entries;
      pages = pages_more place _ h.pages;
    }

  -- words of one object that were read are those of the next object between two addresses
  pub part_read : IsMap (length p.map) (found p) → (v : ClaimerView) (c : List Bool) (place number low high stop : ℕ) (g : Found) → IsNextObject (found p) low high g → stop ≤ g.base + WORD_BYTES * g.len
      → (g.kind ≡ Normal → IsMarked p.marker g.base → IsTurn p place number g → (i : ℕ) → i < g.len → low ≤ word_address g i → word_address g i < stop → IsWordRead p v c g i) → AreWordsRead p v c place number low stop
  part_read map v c place number low high stop g next le read f o n m turn i lt from below =
      let is : g ≡ f = next_is (length p.map) (found p) low high stop (word_address f i) g f map next le from below (reads_own (length p.map) (found p) map f i o lt) in
      subst (λ (y : Found). y.kind ≡ Normal → IsMarked p.marker y.base → IsTurn p place number y → (j : ℕ) → j < y.len → low ≤ word_address y j → word_address y j < stop → IsWordRead p v c y j) is read n m turn i lt from below

  -- words up to an address, and then words from it on
  pub words_append : (v : ClaimerView) (c : List Bool) (place number low at high : ℕ) → AreWordsRead p v c place number low at → AreWordsRead p v c place number at high → AreWordsRead p v c place number low high
  words_append v c place number low at high a b f o n m turn i lt from below =
      ⊎_elim (λ before. a f o n m turn i lt from before) (λ after. b f o n m turn i lt after below) (cases_lt (word_address f i) at)

  -- no object is left
  pub words_end : IsMap (length p.map) (found p) → (v : ClaimerView) (c : List Bool) (place number low high : ℕ) → IsNoObject (found p) low high → AreWordsRead p v c place number low high
  words_end map v c place number low high none f o n m turn i lt from below =
      let z : None ≡ Some f = sym (none.none (word_address f i) from below) ∙ reads_own (length p.map) (found p) map f i o lt in absurd (cc z)
