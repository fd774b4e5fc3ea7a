-- Many objects come from one page, one after the other.
use Rattle.std.proofs.Common.{◌≡◌, ℕ, ◌+◌, ◌*◌, ◌/◌, ◌<◌, ◌≤◌, Bool, true, false, List, [], ◌∷◌, ◌++◌, ◌⊎◌, inl, inr, Option, None, Some, length, get_or, set, map, take, All, refl, sym, ap, ◌∙◌, subst, arith, ⊎_elim, length-set, get_or-set_same, get_or-set_other}
use Rattle.std.specs.Prelude.{◌≢◌}
use Rattle.std.proofs.lemmas.Bool.{cases_eq, cases_lt, true≢false}
use Rattle.std.proofs.lemmas.Grind.{common_steps}
use Rattle.std.proofs.lemmas.List.{map-append, take_more}
use Rattle.std.proofs.lemmas.List.Elements.{All-cons, All-nil}
use Rattle.words.specs.declared.limits.TheConstants.{PAGE_WORDS}
use Rattle.words.specs.declared.class.Kind.{Kind}
use Rattle.words.specs.declared.class.Placement.{Placement}
use Rattle.words.specs.declared.class.Placement.TheVariants.{Small}
use Rattle.words.specs.Bits.{Has, IsEmptyFrom}
use Rattle.words.specs.Layout.{page_start}
use Rattle.words.specs.Classes.{IsSizeClass}
use Rattle.pages.specs.Memory.{IsZeroed, word_index}
use Rattle.blocks.specs.Cells.{IsCells}
use Rattle.block_map.specs.Changes.{IsAdded}
use Rattle.block_map.specs.FoundIn.{found_in}
use Rattle.block_map.specs.FreeCells.{IsFullOn}
use Rattle.block_map.specs.Listed.{first_object, first_on, link_on, with_taken, AreListed, HasFirst}
use Rattle.block_map.specs.Objects.{object_on, IsInside}
use Rattle.block_map.specs.States.{PageState, free, cut, head, body, state_at, with_cell, HasCell, IsBlockFor, IsCut, IsLaid, LaidAt}
use Rattle.block_map.specs.Takings.{TakesCells, after_take}
use Rattle.block_map.specs.declared.found.Found.{Found}
use Rattle.block_map.proofs.Unread.{listed_zeroed}
use Rattle.blocks.proofs.Places.{class_bounds}
use Rattle.object_space.proofs.Sweeping.{read_or_not}
use Rattle.block_map.proofs.Lawful.{map_laws}
use Rattle.block_map.proofs.Words.{cells_end}
use Rattle.lazy_sweep.specs.AvailableRows.{row_of, AreReady, AreWaiting, IsAvailable, IsBitSet, IsReadyPage, IsFreeCell}
use Rattle.object_space.specs.Many.{AllocatesEach, HasNoneReady, LeavesPages, ZeroesEach, base_of}
use Rattle.object_space.specs.Store.{HasSoundPages, IsWholeSpace, Store}
use Rattle.object_space.specs.Sweeps.{Allocates, Sweeps}
use Rattle.object_space.proofs.Allocations.{allocates_cell, gains_cell, sound_cell, TakesCell}
use Rattle.lazy_sweep.proofs.ExactRows.{OffersOnly, ready_changed, same_bit}
use Rattle.object_space.proofs.AvailablePages.{available_inside, available_not_full, waiting_same}
use Rattle.object_space.proofs.Pending.{pending_cut}
use Rattle.object_space.proofs.Searching.{allocates_after}
use Rattle.lazy_sweep.proofs.Swept.{store_of, sweeps_none}

-- one comes before the others
pub each_first : (marks : List Bool) (placement : Placement) (kind : Kind) (old mid : Store) (base : ℕ) {bases : List ℕ} {new : Store} → Allocates old marks placement kind base mid → LeavesPages old mid
    → AllocatesEach marks placement kind mid bases new → AllocatesEach marks placement kind old (base ∷ bases) new
each_first marks placement kind old mid base first kept AllocatesEach.none = AllocatesEach.more AllocatesEach.none first kept
each_first marks placement kind old mid base first kept (AllocatesEach.more before last pool) = AllocatesEach.more (each_first marks placement kind old mid base first kept before) last pool

-- words become 0 after the others
pub zeroes_last : (len base : ℕ) {words mid new bases : List ℕ} → ZeroesEach len words bases mid → IsZeroed mid new (word_index base) len → ZeroesEach len words (bases ++ base ∷ []) new
zeroes_last len base ZeroesEach.done last = ZeroesEach.next last ZeroesEach.done
zeroes_last len base (ZeroesEach.next first more) last = ZeroesEach.next first (zeroes_last len base more last)

-- one cell more
pub bases_more : (f : ℕ → ℕ) (cells : List ℕ) (i : ℕ) → i < length cells → map f (take (i + 1) cells) ≡ map f (take i cells) ++ f (get_or cells i 0) ∷ []
bases_more f cells i lt = ap (map f) (take_more cells i 0 lt) ∙ map-append f (take i cells) (get_or cells i 0 ∷ [])

-- and its base
pub base_is : (start cell words page class at : ℕ) → start ≡ page_start page → cell ≡ at → words ≡ class → start + cell * (8 * words) ≡ base_of page class at
base_is start cell words page class at a b c = ap (λ x. x + cell * (8 * words)) a ∙ ap (λ x. page_start page + x * (8 * words)) b ∙ ap (λ x. page_start page + at * (8 * x)) c

pub bases_next : (f : ℕ → ℕ) (cells bases : List ℕ) (i base : ℕ) → i < length cells → i < length bases → base ≡ f (get_or cells i 0) → take i bases ≡ map f (take i cells)
    → take (i + 1) (set bases i base) ≡ map f (take (i + 1) cells)
bases_next f cells bases i base lt room is same = grind (arith, common_steps)

-- ---- pages that are cut for the class and the kind
pub available_block : (st : PageState) (class : ℕ) (kind : Kind) → IsAvailable st class kind → IsBlockFor st class kind
available_block free class kind has = absurd has
available_block (cut b) class kind has = (has.of_class, has.of_kind)
available_block (head n k) class kind has = absurd has
available_block (body q) class kind has = absurd has

block_cut : (st : PageState) (class : ℕ) (kind : Kind) → IsBlockFor st class kind → IsCut st
block_cut free class kind block = absurd block
block_cut (cut b) class kind block = tt
block_cut (head n k) class kind block = absurd block
block_cut (body q) class kind block = absurd block

block_offers : (st : PageState) (class : ℕ) (kind : Kind) → IsBlockFor st class kind → OffersOnly st class kind
block_offers free class kind block c k has = absurd has
block_offers (cut b) class kind block c k has = (sym has.of_class ∙ block.0, sym has.of_kind ∙ block.1)
block_offers (head n l) class kind block c k has = absurd has
block_offers (body q) class kind block c k has = absurd has

block_taken : (st : PageState) (class : ℕ) (kind : Kind) (cell n : ℕ) → IsBlockFor st class kind → IsBlockFor (with_cell st cell true n) class kind
block_taken free class kind cell n block = absurd block
block_taken (cut b) class kind cell n block = block
block_taken (head m k) class kind cell n block = absurd block
block_taken (body q) class kind cell n block = absurd block

block_available : (st : PageState) (class : ℕ) (kind : Kind) → IsBlockFor st class kind → HasFirst st → IsAvailable st class kind
block_available free class kind block has = absurd block
block_available (cut b) class kind block has = record { of_class = block.0; of_kind = block.1; cell = b.first; in_row = has.0; is_free = has.1 }
block_available (head n k) class kind block has = absurd block
block_available (body q) class kind block has = absurd block

-- a free cell of such a page
pub block_free_cell : (states : List PageState) (class : ℕ) (kind : Kind) (page cell : ℕ) → page < length states → IsBlockFor (state_at states page) class kind → HasCell (state_at states page) cell false → IsFreeCell states class kind page cell
block_free_cell states class kind page cell inside block first = by (state_at states page) refl block first
  where
    by : (st : PageState) → state_at states page ≡ st → IsBlockFor st class kind → HasCell st cell false → IsFreeCell states class kind page cell
    by free is block first = absurd block
    by (cut b) is block first = record { block = b; inside = inside; is_cut = is; of_class = block.0; of_kind = block.1; in_row = first.0; is_free = first.1 }
    by (head n k) is block first = absurd block
    by (body q) is block first = absurd block

-- ---- one cell of the page is taken
taken_here : (links : List ℕ) (states : List PageState) (page : ℕ) → page < length states → state_at (after_take links states page) page ≡ with_taken links page (state_at states page)
taken_here links states page inside = get_or-set_same states page (with_taken links page (state_at states page)) free inside

taken_pages : (links : List ℕ) (states : List PageState) (page : ℕ) → length (after_take links states page) ≡ length states
taken_pages links states page = length-set states page (with_taken links page (state_at states page))

taken_block : (links : List ℕ) (states : List PageState) (class : ℕ) (kind : Kind) (page : ℕ) → page < length states → IsBlockFor (state_at states page) class kind → IsBlockFor (state_at (after_take links states page) page) class kind
taken_block links states class kind page inside block =
    subst (λ st. IsBlockFor st class kind) (sym (taken_here links states page inside))
    (block_taken (state_at states page) class kind (first_on (state_at states page)) (link_on links page (state_at states page) (first_on (state_at states page))) block)

taken_inside : (links : List ℕ) (states : List PageState) (page : ℕ) → page < length states → page < length (after_take links states page)
taken_inside links states page inside = let size = taken_pages links states page in omega arith

-- the cell was free
taken_free : (states : List PageState) (page cell : ℕ) → cell ≡ first_on (state_at states page) → HasFirst (state_at states page) → HasCell (state_at states page) cell false
taken_free states page cell at has = subst (λ i. HasCell (state_at states page) i false) (sym at) has

-- the cell is one of the page
cell_fits : (states : List PageState) (class : ℕ) (kind : Kind) (page cell : ℕ) → IsLaid states → IsFreeCell states class kind page cell → cell * class + class ≤ PAGE_WORDS
cell_fits states class kind page cell laid at =
    let cells : IsCells at.block = subst (LaidAt states page) at.is_cut (laid.each page at.inside) in
    let row = at.in_row in
    let below : cell < PAGE_WORDS / at.block.class = subst (λ n. cell < n) cells.size row in
    let ends : cell * (8 * at.block.class) + 8 * at.block.class ≤ 8 * PAGE_WORDS = cells_end at.block.class cell below in
    subst (λ c. cell * c + c ≤ PAGE_WORDS) at.of_class (omega arith)

-- an object comes in it, and its words become 0
takes_of : (links words words' : List ℕ) (states : List PageState) (class : ℕ) (kind : Kind) (page cell : ℕ) → IsFreeCell states class kind page cell → cell ≡ first_on (state_at states page)
    → IsAdded (found_in states) (found_in (after_take links states page)) (first_object page (state_at states page)) → IsZeroed words words' (word_index (base_of page class cell)) class
    → TakesCell words words' states (after_take links states page) page cell (base_of page class cell)
takes_of links words words' states class kind page cell at first added zeroed = record {
  next = link_on links page (state_at states page) (first_on (state_at states page));
  became = ap (λ i. set states page (with_cell (state_at states page) i true (link_on links page (state_at states page) (first_on (state_at states page))))) (sym first);
  added = subst (λ i. IsAdded (found_in states) (found_in (after_take links states page)) (object_on page (state_at states page) i)) (sym first) added;
  at = ap (λ c. base_of page c cell) (sym at.of_class) ∙ sym (ap (λ st. (object_on page st cell).base) at.is_cut);
  zeroed = subst (λ n. IsZeroed words words' (word_index (base_of page class cell)) n) (sym at.of_class ∙ sym (ap (λ st. (object_on page st cell).len) at.is_cut)) zeroed;
}

-- What cells of a page that were taken leave of the map: the page is cut for its class and kind as before, and no other has changed.
pub record KeepsPages (states new : List PageState) (page class : ℕ) (kind : Kind) : Type 0 where
  pub size : length new ≡ length states
  pub others : (p : ℕ) → p ≢ page → state_at new p ≡ state_at states p
  pub before : IsBlockFor (state_at states page) class kind
  pub after : IsBlockFor (state_at new page) class kind

-- its first free cell was taken
pub one_taken : (links : List ℕ) (states new : List PageState) (class : ℕ) (kind : Kind) (page : ℕ) → page < length states → IsBlockFor (state_at states page) class kind → new ≡ after_take links states page → KeepsPages states new page class kind
one_taken links states new class kind page inside block became = record {
  size = ap length became ∙ taken_pages links states page;
  others = λ p ne. ap (λ x. state_at x p) became ∙ get_or-set_other states page p (with_taken links page (state_at states page)) free ne;
  before = block;
  after = subst (λ (x : List PageState). IsBlockFor (state_at x page) class kind) (sym became) (taken_block links states class kind page inside block);
}

-- ---- cells of the page are taken one after the other
-- objects that were there are still
added_stays : (found after : ℕ → Option Found) (f : Found) → IsAdded found after f → (w : ℕ) (g : Found) → found w ≡ Some g → after w ≡ Some g
added_stays found after f added w g is = ⊎_elim
    (λ (inside : IsInside w f). absurd (no (sym (added.before w inside) ∙ is)))
    (λ out. added.others w out ∙ is)
    (read_or_not w f)
  where
    no : None ≡ Some g → ⊥
    no e = cc

module _ (class : ℕ) (kind : Kind) (page : ℕ) (links : List ℕ) where
  pub cells_fit : {states new : List PageState} {cells : List ℕ} → page < length states → IsBlockFor (state_at states page) class kind → TakesCells links page states cells new → All (λ cell. cell * class + class ≤ PAGE_WORDS) cells
  cells_fit inside block TakesCells.done = All-nil (λ cell. cell * class + class ≤ PAGE_WORDS)
  cells_fit {states = states} inside block (TakesCells.next {cell = cell} {more = more} laid at first added rest) =
      All-cons (λ cell. cell * class + class ≤ PAGE_WORDS) cell more (cell_fits states class kind page cell laid (block_free_cell states class kind page cell inside block (taken_free states page cell at first)))
      (cells_fit (taken_inside links states page inside) (taken_block links states class kind page inside block) rest)

  pub keeps_pages : {states new : List PageState} {cells : List ℕ} → page < length states → IsBlockFor (state_at states page) class kind → TakesCells links page states cells new → KeepsPages states new page class kind
  keeps_pages inside block TakesCells.done = record { size = refl; others = λ p ne. refl; before = block; after = block }
  keeps_pages {states = states} inside block (TakesCells.next laid at first added rest) =
      let one = one_taken links states (after_take links states page) class kind page inside block refl in
      let keeps = keeps_pages (taken_inside links states page inside) one.after rest in
      record { size = keeps.size ∙ one.size; others = λ p ne. keeps.others p ne ∙ one.others p ne; before = block; after = keeps.after }

  -- one at least
  pub some_taken : (states new : List PageState) (cells : List ℕ) (count : ℕ) → IsAvailable (state_at states page) class kind → TakesCells links page states (take count cells) new
      → (count < length cells → IsFullOn (state_at new page)) → 0 < length cells → 0 < count
  some_taken states new cells count was takes short some = ⊎_elim
      (λ (lt : 0 < count). lt)
      (λ le. absurd (
      let none : count ≡ 0 = omega arith in
      let same : new ≡ states = takes_none (subst (λ n. TakesCells links page states (take n cells) new) none takes) in
      available_not_full (state_at states page) class kind was (subst (λ s. IsFullOn (state_at s page)) same (short (omega arith)))))
      (cases_lt 0 count)
    where
      takes_none : {states new : List PageState} → TakesCells links page states [] new → new ≡ states
      takes_none TakesCells.done = refl

  -- objects that were there are still
  taken_stays : {states new : List PageState} {cells : List ℕ} → TakesCells links page states cells new → (w : ℕ) (g : Found) → found_in states w ≡ Some g → found_in new w ≡ Some g
  taken_stays TakesCells.done w g is = is
  taken_stays {states = states} (TakesCells.next laid at first added rest) w g is = taken_stays rest w g (added_stays (found_in states) (found_in (after_take links states page)) (first_object page (state_at states page)) added w g is)

  -- while the words of the cells become 0 the lists stay
  pub listed_cells : {states new : List PageState} {cells words words' : List ℕ} → IsLaid new → page < length states → IsBlockFor (state_at states page) class kind → TakesCells links page states cells new
      → ZeroesEach class words (map (base_of page class) cells) words' → AreListed words new → AreListed words' new
  listed_cells laid_new inside block TakesCells.done ZeroesEach.done listed = listed
  listed_cells {states = states} {new = new} {words = words} laid_new inside block (TakesCells.next {cell = cell} laid at first added rest) (ZeroesEach.next {mid = mid} zero more) listed =
      let place = block_free_cell states class kind page cell inside block (taken_free states page cell at first) in
      let takes = takes_of links words mid states class kind page cell place at added zero in
      let cells : IsCells place.block = subst (LaidAt states page) place.is_cut (laid.each page place.inside) in
      let long : (object_on page (state_at states page) cell).len ≡ place.block.class = ap (λ st. (object_on page st cell).len) place.is_cut in
      let low = (class_bounds place.block.class cells.class).0 in
      let there : found_in (after_take links states page) (object_on page (state_at states page) cell).base ≡ Some (object_on page (state_at states page) cell) =
      takes.added.after (object_on page (state_at states page) cell).base (record { from = omega arith; below = omega (arith, long, low) }) in
      listed_cells laid_new (taken_inside links states page inside) (taken_block links states class kind page inside block) rest more
      (listed_zeroed words new laid_new mid (object_on page (state_at states page) cell) (taken_stays rest (object_on page (state_at states page) cell).base (object_on page (state_at states page) cell) there)
      (subst (λ b. IsZeroed words mid (word_index b) (object_on page (state_at states page) cell).len) takes.at takes.zeroed) listed)

  module _ (marks row pending : List Bool) (swept : Has pending page → ⊥) where
    pub each_cell : {states new : List PageState} {cells words words' : List ℕ} → HasSoundPages (store_of words row states pending) → page < length states → IsBlockFor (state_at states page) class kind
        → TakesCells links page states cells new → ZeroesEach class words (map (base_of page class) cells) words'
        → AllocatesEach marks (Small class) kind (store_of words row states pending) (map (base_of page class) cells) (store_of words' row new pending) × HasSoundPages (store_of words' row new pending)
    each_cell sound inside block TakesCells.done ZeroesEach.done = (AllocatesEach.none, sound)
    each_cell {states = states} {words = words} sound inside block (TakesCells.next {cell = cell} laid is first added rest) (ZeroesEach.next {mid = mid} zero more) =
        let t : Store = store_of words row states pending in
        let lawful = map_laws states laid in
        let at = block_free_cell states class kind page cell inside block (taken_free states page cell is first) in
        let takes = takes_of links words mid states class kind page cell at is added zero in
        let base = base_of page class cell in
        let onward = each_cell (sound_cell t class kind page cell base mid (after_take links states page) sound laid lawful at takes swept)
        (taken_inside links states page inside) (taken_block links states class kind page inside block) rest more in (
          each_first marks (Small class) kind t (store_of mid row (after_take links states page) pending) base (record {
            ready = t;
            sweeps = sweeps_none t marks lawful.map;
            room = allocates_cell t class kind page cell base mid (after_take links states page) sound laid lawful at takes;
            gains = gains_cell t class kind page cell base mid (after_take links states page) laid lawful at takes swept;
          }) (record { free = refl; pending = refl }) onward.0,
          onward.1,
        )

-- ---- the rows while they are taken
module _ (states new : List PageState) (page class : ℕ) (kind : Kind) (keeps : KeepsPages states new page class kind) where
  pub cells_cut : (p : ℕ) → IsCut (state_at states p) → IsCut (state_at new p)
  cells_cut p is = ⊎_elim
      (λ (e : p ≡ page). subst (λ q. IsCut (state_at new q)) (sym e) (block_cut (state_at new page) class kind keeps.after))
      (λ ne. subst IsCut (sym (keeps.others p ne)) is)
      (cases_eq p page)

  pub cells_waiting : (rows : List (List Bool)) (pending : List Bool) → AreWaiting rows states pending → (Has pending page → ⊥) → AreWaiting rows new pending
  cells_waiting rows pending exact swept = waiting_same rows states new pending exact keeps.size (λ p h. keeps.others p (λ e. swept (subst (Has pending) e h)))

  -- none is left
  pub ready_filled : (rows rows' : List (List Bool)) (pending : List Bool) → AreReady rows states pending → IsBitSet rows rows' class kind page false → IsFullOn (state_at new page) → AreReady rows' new pending
  ready_filled rows rows' pending exact bit_is full = ready_changed rows rows' states new pending pending class kind page false bit_is keeps.size keeps.others (λ p ne. refl) exact
      (block_offers (state_at states page) class kind keeps.before)
      (block_offers (state_at new page) class kind keeps.after)
      (λ e. absurd (true≢false (sym e)))
      (λ has. absurd (available_not_full (state_at new page) class kind has.0 full))

  -- one is
  pub ready_left : (rows : List (List Bool)) (pending : List Bool) → AreReady rows states pending → IsSizeClass class → IsAvailable (state_at states page) class kind → (Has pending page → ⊥) → HasFirst (state_at new page) → AreReady rows new pending
  ready_left rows pending exact is_class was swept has = ready_changed rows rows states new pending pending class kind page true
      (same_bit rows class kind page true (exact.entered class kind page is_class (was, swept)))
      keeps.size keeps.others (λ p ne. refl) exact
      (block_offers (state_at states page) class kind keeps.before)
      (block_offers (state_at new page) class kind keeps.after)
      (λ _. (block_available (state_at new page) class kind keeps.after has, swept))
      (λ _. refl)

-- no page is ready
pub none_ready : (rows : List (List Bool)) (t : Store) (class : ℕ) (kind : Kind) → AreReady rows t.states t.pending → IsSizeClass class → IsEmptyFrom (row_of rows class kind) 0 → HasNoneReady t (Small class) kind
none_ready rows t class kind exact is empty page has =
    let long = exact.long class kind is in let inside = available_inside t.states class kind page has.0 in
    true≢false (sym (exact.entered class kind page is has) ∙ empty page (omega arith) (omega arith))

-- ---- a store some of whose cells are taken
module _ (t : Store) (ready waiting : List (List Bool)) (whole : IsWholeSpace t ready waiting) (class : ℕ) (kind : Kind) (page : ℕ) (was : IsReadyPage t.states t.pending page class kind)
    (cells : List ℕ) (states' : List PageState) (takes : TakesCells t.words page t.states cells states') (words' : List ℕ) (zeroes : ZeroesEach class t.words (map (base_of page class) cells) words') where
  inside : page < length t.states
  inside = available_inside t.states class kind page was.0

  block : IsBlockFor (state_at t.states page) class kind
  block = available_block (state_at t.states page) class kind was.0

  pub allocates_each : (marks : List Bool) → AllocatesEach marks (Small class) kind t (map (base_of page class) cells) (record t { words = words'; states = states' })
  allocates_each marks = (each_cell class kind page t.words marks t.free t.pending was.1 whole.sound inside block takes zeroes).0

  pub whole_each : (ready' : List (List Bool)) → IsLaid states' → AreListed t.words states' → AreReady ready' states' t.pending → IsWholeSpace (record t { words = words'; states = states' }) ready' waiting
  whole_each ready' laid listed exact = let keeps = keeps_pages class kind page t.words inside block takes in record {
    sound = (each_cell class kind page t.words [] t.free t.pending was.1 whole.sound inside block takes zeroes).1;
    listed = listed_cells class kind page t.words laid inside block takes zeroes listed;
    exact = exact;
    awaited = cells_waiting t.states states' page class kind keeps waiting t.pending whole.awaited was.1;
    pending = pending_cut t (record t { words = words'; states = states' }) whole.pending refl keeps.size (cells_cut t.states states' page class kind keeps);
  }

-- once a page became a list, places were taken
pub each_after : (marks : List Bool) (placement : Placement) (kind : Kind) (old mid new : Store) (bases : List ℕ) → Sweeps old marks mid → LeavesPages old mid → AllocatesEach marks placement kind mid bases new → 0 < length bases → AllocatesEach marks placement kind old bases new
each_after marks placement kind old mid new bases sweeps kept each some = by each some
  where
    absorb : {bases : List ℕ} {new : Store} → AllocatesEach marks placement kind mid bases new → ((bases ≡ []) × (new ≡ mid)) ⊎ AllocatesEach marks placement kind old bases new
    absorb AllocatesEach.none = inl (refl, refl)
    absorb (AllocatesEach.more {base = base} {mid = between} {new = last} before next pool) = inr (⊎_elim
        (λ none. subst (λ xs. AllocatesEach marks placement kind old (xs ++ base ∷ []) last) (sym none.0)
        (AllocatesEach.more AllocatesEach.none (allocates_after old between last marks placement kind base (subst (Sweeps old marks) (sym none.1) sweeps) next) (record { free = pool.free ∙ ap (λ (t : Store). t.free) none.1 ∙ kept.free; pending = pool.pending ∙ ap (λ (t : Store). t.pending) none.1 ∙ kept.pending })))
        (λ some. AllocatesEach.more some next pool)
        (absorb before))

    by : AllocatesEach marks placement kind mid bases new → 0 < length bases → AllocatesEach marks placement kind old bases new
    by each some = ⊎_elim (λ none. absurd (let e = ap length none.0 in omega arith)) (λ a. a) (absorb each)
