-- What it is to the heap that a cell is taken, that a page is cut, and that a run of pages becomes a large object.
use Rattle.std.proofs.Common.{◌≡◌, ℕ, ◌+◌, ◌*◌, ◌/◌, ◌<◌, ◌≤◌, ◌⊎◌, Bool, true, false, List, length, get_or, set, replicate, Option, Some, refl, sym, ap, ◌∙◌, subst, arith, inl, inr, ⊎_elim, length-set, get_or-set_same, get_or-set_other}
use Rattle.std.specs.Prelude.{◌≢◌, ◌==◌, if◌then◌else◌}
use Rattle.std.proofs.lemmas.Bool.{cases_lt, cases_eq}
use Rattle.std.proofs.lemmas.List.{get_or-replicate, length-replicate}
use Rattle.words.specs.declared.limits.TheConstants.{PAGE_WORDS}
use Rattle.words.specs.declared.class.Kind.{Kind}
use Rattle.words.specs.declared.class.Placement.TheVariants.{Small, Large}
use Rattle.words.specs.Bits.{Has}
use Rattle.words.specs.Classes.{IsSizeClass}
use Rattle.words.specs.Layout.{page_start}
use Rattle.heap_spec.specs.Heap.{Object}
use Rattle.heap_spec.specs.Room.{HasSmallRoom}
use Rattle.pages.specs.Memory.{IsWordAddress, IsZeroed, word_index}
use Rattle.pages.specs.Runs.{IsFreeRun, HasNoFreeRun, IsFilled}
use Rattle.blocks.specs.Cells.{Cells, IsCells}
use Rattle.blocks.specs.Lists.{ChangesPage}
use Rattle.blocks.proofs.Places.{class_bounds}
use Rattle.block_map.specs.States.{PageState, free, cut, head, body, state_at, IsCut, LaidAt, IsLaid, IsSpanSet, HasCell, all_free, with_cell, large_states}
use Rattle.block_map.specs.Listed.{first_object, first_on, link_on, with_taken, AreListed, HasFirst, IsListedOn}
use Rattle.block_map.specs.Objects.{cell_object, large_object, object_on, IsMap, IsPlaced}
use Rattle.block_map.specs.Changes.{IsAdded, IsSameMap}
use Rattle.block_map.specs.FoundIn.{found_in, IsLawful}
use Rattle.block_map.specs.declared.found.Found.{Found}
use Rattle.block_map.proofs.Laid.{laid_block, laid_cell, laid_large}
use Rattle.block_map.proofs.Lawful.{map_laws}
use Rattle.block_map.proofs.Listed.{listed_span}
use Rattle.block_map.proofs.Unread.{listed_zeroed}
use Rattle.marker.proofs.Keeping.{page_kept}
use Rattle.block_map.proofs.Spans.{place_of}
use Rattle.object_space.specs.Store.{Store, HasSoundPages, IsPendingRow}
use Rattle.lazy_sweep.specs.Store.{Agree}
use Rattle.heap_view.specs.Shows.{Shows}
use Rattle.lazy_sweep.specs.AvailableRows.{IsFreeCell, HasNoFreeCell}
use Rattle.object_space.specs.Rooms.{HasRoomAt, HasNoRoom}
use Rattle.object_space.specs.Sweeps.{Gains}
use Rattle.object_space.proofs.Words.{others_kept, zeroed_object}
use Rattle.object_space.proofs.Rooms.{cell_below, room_of_cell, room_of_page, no_small_room, large_room, no_large_room}

-- A free cell is allocated, and its words are 0; another one is then the first free one of the page. Nothing else has changed.
pub record TakesCell (words words' : List ℕ) (states states' : List PageState) (page cell base : ℕ) : Type 0 where
  pub next : ℕ
  pub became : states' ≡ set states page (with_cell (state_at states page) cell true next)
  pub added : IsAdded (found_in states) (found_in states') (object_on page (state_at states page) cell)
  pub at : base ≡ (object_on page (state_at states page) cell).base
  pub zeroed : IsZeroed words words' (word_index base) (object_on page (state_at states page) cell).len

-- A free page is taken from the pool, and cut with all its cells free. No word of another page changes.
pub record CutsPage (words words' : List ℕ) (free free' : List Bool) (states states' : List PageState) (class : ℕ) (kind : Kind) (page : ℕ) : Type 0 where
  pub run : IsFreeRun free page 1
  pub taken : IsFilled free free' page 1 false
  pub became : states' ≡ set states page (all_free class kind)
  pub same : IsSameMap (found_in states) (found_in states')
  pub changes : ChangesPage words words' page

-- the objects of a map that is the same are the same
pub shows_same : (found after : ℕ → Option Found) (words : List ℕ) (objects : ℕ → Option Object) (births : ℕ) → IsSameMap found after → Shows found words objects births → Shows after words objects births
shows_same found after words objects births same shows = record {
  shown = record {
    kept = λ f is. shows.shown.kept f (sym (same.same f.base) ∙ is);
    only = λ base o is. let f = shows.shown.only base o is in (f.0, same.same base ∙ f.1, f.2);
  };
  born = shows.born;
  distinct = shows.distinct;
}

-- the object in a free cell of a page
cell_is : (states : List PageState) (page cell : ℕ) (b : Cells) → state_at states page ≡ cut b → object_on page (state_at states page) cell ≡ cell_object page b cell
cell_is states page cell b is = ap (λ st. object_on page st cell) is

not_pending : (t : Store) (page : ℕ) → (Has t.pending page → ⊥) → get_or t.pending page false ≡ false
not_pending t page swept = by (get_or t.pending page false) refl
  where
    by : (b : Bool) → get_or t.pending page false ≡ b → get_or t.pending page false ≡ false
    by false e = e
    by true e = absurd (swept e)

-- a page that is free is not to be swept
pub free_swept : (t : Store) (page : ℕ) → IsPendingRow t → state_at t.states page ≡ free → Has t.pending page → ⊥
free_swept t page row is h = subst IsCut is (row.cut page h)

-- a store one cell of which is taken has one object more
module _ (t : Store) (laid : IsLaid t.states) (lawful : IsLawful t.states) (class : ℕ) (kind : Kind) (page cell base : ℕ) (words' : List ℕ) (states' : List PageState)
    (place_is : IsFreeCell t.states class kind page cell) (takes : TakesCell t.words words' t.states states' page cell base) (swept : Has t.pending page → ⊥) where
  abbrev pub taken : Store
  taken = record t { words = words'; states = states' }

  block : Cells
  block = place_is.block

  f : Found
  f = object_on page (state_at t.states page) cell

  cells : IsCells place_is.block
  cells = subst (LaidAt t.states page) place_is.is_cut (laid.each page place_is.inside)

  taken_laid : IsLaid states'
  taken_laid = subst IsLaid (sym takes.became) (laid_cell t.states page cell false true takes.next laid place_is.inside (subst (λ st. HasCell st cell false) (sym place_is.is_cut) (place_is.in_row, place_is.is_free)))

  some : 0 < f.len
  unfolding f
  some = let low = (class_bounds place_is.block.class cells.class).0 in let e : (object_on page (state_at t.states page) cell).len ≡ place_is.block.class = ap (λ (x : Found). x.len) (cell_is t.states page cell place_is.block place_is.is_cut) in omega arith

  placed : IsPlaced (length states') f
  unfolding f
  placed =
      let lawful' = map_laws states' taken_laid in let long = some in
      lawful'.map.placed f.base f (takes.added.after f.base (record { from = omega arith; below = omega arith }))

  pub taken_gains : Gains t (Small class) kind base taken
  unfolding f
  taken_gains = record {
    object = object_on page (state_at t.states page) cell;
    at = sym takes.at;
    size = ap (λ (x : Found). x.len) (cell_is t.states page cell place_is.block place_is.is_cut) ∙ place_is.of_class;
    of_kind = ap (λ (x : Found). x.kind) (cell_is t.states page cell place_is.block place_is.is_cut) ∙ place_is.of_kind;
    pending = refl;
    swept = ap (λ (x : Found). get_or t.pending x.page false) (cell_is t.states page cell place_is.block place_is.is_cut) ∙ not_pending t page swept;
    pages = ap length takes.became ∙ length-set t.states page _;
    before = lawful.map;
    map = (map_laws states' taken_laid).map;
    found = ap (found_in states') takes.at ∙ takes.added.after (object_on page (state_at t.states page) cell).base (let long = some in record { from = omega arith; below = omega arith });
    added = takes.added;
    zeroed = zeroed_object (length states') t.words words' f placed zeroed_here;
    words = others_kept (found_in t.states) (found_in states') (length states') t.words words' f (subst (λ n. IsMap n (found_in t.states)) (sym (ap length takes.became ∙ length-set t.states page _)) lawful.map) placed takes.added zeroed_here;
  }
    where
      zeroed_here : IsZeroed t.words words' (word_index f.base) f.len
      zeroed_here = subst (λ b. IsZeroed t.words words' (word_index b) (object_on page (state_at t.states page) cell).len) takes.at takes.zeroed

  abbrev next : ℕ
  next = takes.next

  after_state : state_at states' page ≡ cut (record place_is.block { taken = set place_is.block.taken cell true; first = next })
  after_state = ap (λ x. state_at x page) takes.became ∙ get_or-set_same t.states page _ free place_is.inside ∙ ap (λ st. with_cell st cell true next) place_is.is_cut

  other_state : (p : ℕ) → p ≢ page → state_at states' p ≡ state_at t.states p
  other_state p ne = ap (λ x. state_at x p) takes.became ∙ get_or-set_other t.states page p _ free ne

  pub taken_sound : Agree t.free t.states → ((p : ℕ) (b : Cells) → p ≢ page → state_at t.states p ≡ cut b → (i : ℕ) × (get_or b.taken i false ≡ true)) → HasSoundPages taken
  taken_sound agree used = record {
    agree = record {
      size = agree.size ∙ sym size;
      free_in_map = λ p is. ⊎_elim
          (λ e. absurd (not_free (sym place_is.is_cut ∙ ap (state_at t.states) (sym e) ∙ agree.free_in_map p is)))
          (λ ne. other_state p ne ∙ agree.free_in_map p is)
          (cases_eq p page);
      free_in_pool = λ p lt is. ⊎_elim
          (λ e. absurd (cut_free (sym after_state ∙ ap (state_at states') (sym e) ∙ is)))
          (λ ne. agree.free_in_pool p (let z = size in omega arith) (sym (other_state p ne) ∙ is))
          (cases_eq p page);
    };
    used = λ p b is. ⊎_elim
        (λ e. here b (sym after_state ∙ ap (state_at states') (sym e) ∙ is))
        (λ ne. used p b ne (sym (other_state p ne) ∙ is))
        (cases_eq p page);
  }
    where
      size : length states' ≡ length t.states
      size = ap length takes.became ∙ length-set t.states page _

      not_free : cut place_is.block ≡ free → ⊥
      not_free e = cc

      cut_free : cut (record place_is.block { taken = set place_is.block.taken cell true; first = next }) ≡ free → ⊥
      cut_free e = cc

      same_cells : (a b : Cells) → cut a ≡ cut b → a ≡ b
      same_cells a b e = cc

      here : (b : Cells) → cut (record place_is.block { taken = set place_is.block.taken cell true; first = next }) ≡ cut b → (i : ℕ) × (get_or b.taken i false ≡ true)
      here b e = (cell, ap (λ (x : Cells). get_or x.taken cell false) (sym (same_cells _ b e)) ∙ get_or-set_same place_is.block.taken cell true false place_is.in_row)

-- a free cell of a page that was cut already
pub allocates_cell : (t : Store) (class : ℕ) (kind : Kind) (page cell base : ℕ) (words' : List ℕ) (states' : List PageState) → HasSoundPages t → IsLaid t.states → IsLawful t.states
    → IsFreeCell t.states class kind page cell → TakesCell t.words words' t.states states' page cell base → HasRoomAt t (Small class) kind base
allocates_cell t class kind page cell base words' states' sound laid lawful at takes keep s stores =
    subst (HasSmallRoom s class kind) (same ∙ sym takes.at) (room_of_cell keep t s sound laid lawful stores class kind page cell at)
  where
    same : page_start page + 8 * (class * cell) ≡ (object_on page (state_at t.states page) cell).base
    same =
        let e : cell * (8 * at.block.class) ≡ 8 * (class * cell) = (let c = at.of_class in ap (λ x. cell * (8 * x)) c ∙ turned) in
        let g : (object_on page (state_at t.states page) cell).base ≡ page_start page + cell * (8 * at.block.class) = ap (λ st. (object_on page st cell).base) at.is_cut in omega arith
      where
        turned : cell * (8 * class) ≡ 8 * (class * cell)
        turned = omega arith

pub sound_cell : (t : Store) (class : ℕ) (kind : Kind) (page cell base : ℕ) (words' : List ℕ) (states' : List PageState) → HasSoundPages t → IsLaid t.states → IsLawful t.states
    → IsFreeCell t.states class kind page cell → TakesCell t.words words' t.states states' page cell base → (Has t.pending page → ⊥) → HasSoundPages (record t { words = words'; states = states' })
sound_cell t class kind page cell base words' states' sound laid lawful at takes swept =
    taken_sound t laid lawful class kind page cell base words' states' at takes swept sound.agree (λ p b ne is. sound.used p b is)

pub gains_cell : (t : Store) (class : ℕ) (kind : Kind) (page cell base : ℕ) (words' : List ℕ) (states' : List PageState) → IsLaid t.states → IsLawful t.states
    → IsFreeCell t.states class kind page cell → TakesCell t.words words' t.states states' page cell base → (Has t.pending page → ⊥) → Gains t (Small class) kind base (record t { words = words'; states = states' })
gains_cell t class kind page cell base words' states' laid lawful at takes swept = taken_gains t laid lawful class kind page cell base words' states' at takes swept

-- a page that was free is cut, and its first cell is taken
module _ (t : Store) (sound : HasSoundPages t) (laid : IsLaid t.states) (lawful : IsLawful t.states) (class : ℕ) (kind : Kind) (is_class : IsSizeClass class) (page : ℕ) (words : List ℕ) (free' : List Bool)
    (states' : List PageState) (cuts : CutsPage t.words words t.free free' t.states states' class kind page) where
  was_free : state_at t.states page ≡ free
  was_free = sound.agree.free_in_map page (cuts.run.free page (omega arith) (omega arith))

  inside : page < length t.states
  inside = let fits = cuts.run.inside in let size = sound.agree.size in omega arith

  abbrev pub with_cut : Store
  with_cut = record t { words = words; free = free'; states = states' }

  pub cut_laid : IsLaid states'
  cut_laid = subst IsLaid (sym cuts.became) (laid_block t.states page class kind laid inside was_free (record { class = is_class; size = length-replicate (PAGE_WORDS / class) false }))

  here : state_at states' page ≡ all_free class kind
  here = ap (λ x. state_at x page) cuts.became ∙ get_or-set_same t.states page _ free inside

  other : (p : ℕ) → p ≢ page → state_at states' p ≡ state_at t.states p
  other p ne = ap (λ x. state_at x p) cuts.became ∙ get_or-set_other t.states page p _ free ne

  size : length states' ≡ length t.states
  size = ap length cuts.became ∙ length-set t.states page _

  pub first_cell : IsFreeCell states' class kind page 0
  first_cell = record {
    block = record { class = class; kind = kind; taken = replicate (PAGE_WORDS / class) false; first = 0 };
    inside = let z = size in let lt = inside in omega arith;
    is_cut = here;
    of_class = refl;
    of_kind = refl;
    in_row = rw length-replicate (let b = class_bounds class is_class in cell_below class 0 (omega arith) (omega arith));
    is_free = get_or-replicate (PAGE_WORDS / class) 0 false false (let b = class_bounds class is_class in cell_below class 0 (omega arith) (omega arith));
  }

  pub first_is : first_on (state_at states' page) ≡ 0
  first_is = ap first_on here

  cut_agree : Agree free' states'
  cut_agree = record {
    size = cuts.taken.size ∙ sound.agree.size ∙ sym size;
    free_in_map = λ p is. ⊎_elim
        (λ (e : p ≡ page). absurd (let no : get_or free' p false ≡ false = cuts.taken.inside p (omega arith) (omega arith) (let fits = cuts.run.inside in omega arith) in let z : false ≡ true = sym no ∙ is in cc))
        (λ ne. other p ne ∙ sound.agree.free_in_map p (sym (cuts.taken.others p (out p ne)) ∙ is))
        (cases_eq p page);
    free_in_pool = λ p lt is. ⊎_elim
        (λ (e : p ≡ page). absurd (cut_free (sym here ∙ ap (state_at states') (sym e) ∙ is)))
        (λ ne. cuts.taken.others p (out p ne) ∙ sound.agree.free_in_pool p (let z = size in omega arith) (sym (other p ne) ∙ is))
        (cases_eq p page);
  }
    where
      out : (p : ℕ) → p ≢ page → (p < page) ⊎ (page + 1 ≤ p)
      out p ne = ⊎_elim (λ lt. inl lt) (λ ge. inr (omega arith)) (cases_lt p page)

      cut_free : all_free class kind ≡ free → ⊥
      cut_free e = cc

  module _ (base : ℕ) (words' : List ℕ) (states'' : List PageState) (takes : TakesCell words words' states' states'' page 0 base) (row : IsPendingRow t) where
    pub allocates_page : HasRoomAt t (Small class) kind base
    allocates_page keep s stores =
        subst (HasSmallRoom s class kind) same (room_of_page keep t s sound laid lawful stores class kind page (let b = class_bounds class is_class in omega arith) inside was_free)
      where
        same : page_start page ≡ base
        same =
            let e = takes.at in
            let g : (object_on page (state_at states' page) 0).base ≡ page_start page + 0 * (8 * class) = ap (λ st. (object_on page st 0).base) here in omega arith

    pub gains_page : Gains t (Small class) kind base (record t { words = words'; free = free'; states = states'' })
    gains_page =
        let g = taken_gains with_cut cut_laid (map_laws states' cut_laid) class kind page 0 base words' states'' first_cell takes (free_swept t page row was_free) in
        record {
          object = g.object;
          at = g.at;
          size = g.size;
          of_kind = g.of_kind;
          pending = g.pending;
          swept = g.swept;
          pages = g.pages ∙ size;
          before = lawful.map;
          map = g.map;
          found = g.found;
          added = record { before = λ w r. sym (cuts.same.same w) ∙ g.added.before w r; after = g.added.after; others = λ w n. g.added.others w n ∙ cuts.same.same w };
          zeroed = g.zeroed;
          words = λ f i there lt. g.words f i (cuts.same.same f.base ∙ there) lt ∙ page_kept (length t.states) t.states t.words words page lawful.map was_free cuts.changes f i there lt;
        }

    pub sound_page : HasSoundPages (record t { words = words'; free = free'; states = states'' })
    sound_page = taken_sound with_cut cut_laid (map_laws states' cut_laid) class kind page 0 base words' states'' first_cell takes (free_swept t page row was_free)
        cut_agree (λ p b ne is. sound.used p b (sym (other p ne) ∙ is))

-- no room for a small object
pub no_room_small : (t : Store) (class : ℕ) (kind : Kind) → HasSoundPages t → IsLaid t.states → IsLawful t.states → IsSizeClass class → HasNoFreeCell t.states class kind → HasNoFreeRun t.free 1 → HasNoRoom t (Small class) kind
no_room_small t class kind sound laid lawful is_class no_cell no_page s stores a = no_small_room (λ _. true) t s sound laid lawful stores (λ g. refl) class kind is_class no_cell no_page a

-- a run of free pages becomes a large object
module _ (t : Store) (sound : HasSoundPages t) (laid : IsLaid t.states) (lawful : IsLawful t.states) (n : ℕ) (kind : Kind) (first : ℕ) (words' : List ℕ) (free' : List Bool) (states' : List PageState) (some_pages : 0 < n)
    (run : IsFreeRun t.free first n) (taken_run : IsFilled t.free free' first n false) (span : IsSpanSet t.states states' first n (large_states first n kind))
    (added : IsAdded (found_in t.states) (found_in states') (large_object first n kind)) (zeroed : IsZeroed t.words words' (word_index (page_start first)) (PAGE_WORDS * n)) where
  abbrev pub with_large : Store
  with_large = record t { words = words'; free = free'; states = states' }

  pub allocates_large : HasRoomAt t (Large n) kind (page_start first)
  allocates_large keep s stores = large_room keep t s sound laid lawful stores kind first n run

  pub gains_large : ((k : ℕ) → first ≤ k → k < first + n → state_at t.states k ≡ free) → IsPendingRow t → Gains t (Large n) kind (page_start first) with_large
  gains_large was row = record {
    object = large_object first n kind;
    at = refl;
    size = refl;
    of_kind = refl;
    pending = refl;
    swept = not_pending t first (free_swept t first row (was first (omega arith) (omega arith)));
    pages = span.size;
    before = lawful.map;
    map = (map_laws states' (laid_large t.states states' first n kind laid some_pages was span)).map;
    found = added.after (page_start first) (record { from = omega arith; below = omega arith });
    added = added;
    zeroed = zeroed_object (length states') t.words words' (large_object first n kind) placed zeroed;
    words = others_kept (found_in t.states) (found_in states') (length states') t.words words' (large_object first n kind) (subst (λ m. IsMap m (found_in t.states)) (sym span.size) lawful.map) placed added zeroed;
  }
    where
      placed : IsPlaced (length states') (large_object first n kind)
      placed = (map_laws states' (laid_large t.states states' first n kind laid some_pages was span)).map.placed (page_start first) (large_object first n kind) (added.after (page_start first) (record { from = omega arith; below = omega arith }))

  pub listed_large : ((k : ℕ) → first ≤ k → k < first + n → state_at t.states k ≡ free) → AreListed t.words t.states → AreListed words' states'
  listed_large was listed = listed_zeroed t.words states' (laid_large t.states states' first n kind laid some_pages was span) words' (large_object first n kind)
      (added.after (page_start first) (record { from = omega arith; below = omega arith })) zeroed
      (listed_span t.words t.states states' first n (large_states first n kind) span (λ k. uncut (k == first) k) listed)
    where
      uncut : (b : Bool) (k : ℕ) → IsListedOn t.words k (if b then head n kind else body first)
      uncut true k = tt
      uncut false k = tt

  large_not_free : (b : Bool) → (if b then head n kind else body first) ≡ free → ⊥
  large_not_free true e = cc
  large_not_free false e = cc

  large_not_cut : (b : Bool) (c : Cells) → (if b then head n kind else body first) ≡ cut c → ⊥
  large_not_cut true c e = cc
  large_not_cut false c e = cc

  pub sound_large : HasSoundPages with_large
  sound_large = record {
    agree = record {
      size = taken_run.size ∙ sound.agree.size ∙ sym span.size;
      free_in_map = λ p is. ⊎_elim
          (λ h. absurd (let no : get_or free' p false ≡ false = taken_run.inside p h.0 h.1 (let fits = run.inside in let below = h.1 in omega arith) in let z : false ≡ true = sym no ∙ is in cc))
          (λ out. span.others p out ∙ sound.agree.free_in_map p (sym (taken_run.others p out) ∙ is))
          (place_of first n p);
      free_in_pool = λ p lt is. ⊎_elim
          (λ h. absurd (large_not_free (p == first) (sym (span.inside p h.0 h.1) ∙ is)))
          (λ out. taken_run.others p out ∙ sound.agree.free_in_pool p (let z = span.size in omega arith) (sym (span.others p out) ∙ is))
          (place_of first n p);
    };
    used = λ p b is. ⊎_elim
        (λ h. absurd (large_not_cut (p == first) b (sym (span.inside p h.0 h.1) ∙ is)))
        (λ out. sound.used p b (sym (span.others p out) ∙ is))
        (place_of first n p);
  }

-- no room for a large object
pub no_room_large : (t : Store) (n : ℕ) (kind : Kind) → HasSoundPages t → IsLaid t.states → IsLawful t.states → HasNoFreeRun t.free n → HasNoRoom t (Large n) kind
no_room_large t n kind sound laid lawful none s stores a = no_large_room (λ _. true) t s sound laid lawful stores (λ g. refl) n none a

-- the first free cell of a page was taken for an object
module _ (words : List ℕ) (states states' : List PageState) (page : ℕ) (f : Found) (laid : IsLaid states) (inside : page < length states) (first : HasFirst (state_at states page))
    (became : states' ≡ set states page (with_taken words page (state_at states page))) (added : IsAdded (found_in states) (found_in states') f) (is : f ≡ first_object page (state_at states page)) where
  first_laid : IsLaid states'
  first_laid = subst IsLaid (sym became) (laid_cell states page (first_on (state_at states page)) false true (link_on words page (state_at states page) (first_on (state_at states page))) laid inside first)

  first_found : found_in states' f.base ≡ Some f
  first_found = added.after f.base (let long = some in record { from = omega arith; below = omega arith })
    where
      by : (st : PageState) → HasFirst st → LaidAt states page st → 0 < (first_object page st).len
      by free has laid = absurd has
      by (cut b) has laid = let low = (class_bounds b.class laid.class).0 in omega arith
      by (head n k) has laid = absurd has
      by (body q) has laid = absurd has

      some : 0 < f.len
      some = subst (λ (x : Found). 0 < x.len) (sym is) (by (state_at states page) first (laid.each page inside))

  -- its words are the memory's
  pub first_words : AreListed words states' → IsWordAddress words f.base × (word_index f.base + f.len ≤ length words)
  first_words listed =
      let placed = (map_laws states' first_laid).map.placed f.base f first_found in
      let aligned = placed.aligned in let above = placed.above in let below = placed.below in let some = placed.some in let long = listed.size in
      (record { aligned = omega arith; above = omega arith; below = omega arith }, omega arith)

  -- and while they become 0 the lists stay
  pub first_zeroed : (words' : List ℕ) → IsZeroed words words' (word_index f.base) f.len → AreListed words states' → AreListed words' states'
  first_zeroed words' zeroed listed = listed_zeroed words states' first_laid words' f first_found zeroed listed

  pub takes_first : (words' : List ℕ) → IsZeroed words words' (word_index f.base) f.len → TakesCell words words' states states' page (first_on (state_at states page)) f.base
  takes_first words' zeroed = record {
    next = link_on words page (state_at states page) (first_on (state_at states page));
    became = became;
    added = subst (IsAdded (found_in states) (found_in states')) is added;
    at = ap (λ (x : Found). x.base) is;
    zeroed = subst (λ (x : Found). IsZeroed words words' (word_index f.base) x.len) is zeroed;
  }
