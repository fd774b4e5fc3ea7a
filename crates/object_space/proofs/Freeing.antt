-- What it is to the space that an object is freed.
use Rattle.std.proofs.Common.{◌≡◌, ℕ, ◌+◌, ◌/◌, ◌<◌, ◌≤◌, Bool, true, false, List, Some, length, get_or, set, refl, sym, ap, ◌∙◌, subst, arith, get_or-set_other}
use Rattle.words.specs.declared.limits.TheConstants.{PAGE_WORDS}
use Rattle.words.specs.Bits.{Has}
use Rattle.words.specs.declared.class.Kind.{Kind}
use Rattle.words.specs.Classes.{IsSizeClass}
use Rattle.pages.specs.Memory.{with_word_at}
use Rattle.pages.specs.Runs.{IsFilled}
use Rattle.blocks.specs.Cells.{Cells}
use Rattle.block_map.specs.Changes.{IsRemoved, IsUncut}
use Rattle.block_map.specs.FoundIn.{found_in, IsLawful}
use Rattle.block_map.specs.FreeCells.{HasAllocated, HasFree, IsEmptyOn, TellsOf}
use Rattle.block_map.specs.Listed.{first_on, with_put, AreListed}
use Rattle.block_map.specs.Objects.{large_object, object_on}
use Rattle.block_map.specs.States.{PageState, free, cut, head, body, span_of, state_at, HasCell, IsCut, IsLaid, IsSpanSet}
use Rattle.block_map.specs.declared.found.Found.{Found}
use Rattle.block_map.specs.declared.found.Put.{Put}
use Rattle.block_map.proofs.Listed.{listed_span}
use Rattle.lazy_sweep.specs.AvailableRows.{AreReady, AreWaiting, IsBitSet}
use Rattle.lazy_sweep.specs.Sound.{store_with}
use Rattle.lazy_sweep.specs.declared.table.PageTable.{PageTable}
use Rattle.object_space.specs.Store.{IsWholeSpace}
use Rattle.object_space.specs.Sweeps.{Loses}
use Rattle.object_space.proofs.AvailablePages.{exact_large_gone, waiting_span}
use Rattle.object_space.proofs.FreedCells.{awaited_kept, awaited_uncut, exact_entered, exact_kept, exact_uncut, exact_unswept}
use Rattle.object_space.proofs.Frees.{frees_kept, frees_last, in_block, large_here, loses_cell, loses_large, on_page, pending_row, size_freed, sound_freed, sound_large_gone, FreesCell}
use Rattle.object_space.proofs.Pending.{large_uncut, pending_gone, pending_large, pending_put, KeepsPending}
use Rattle.object_space.proofs.Putting.{left, left_allocated, left_class, left_empty, IsLeft}

-- the block of a page that is cut
block_of : (st : PageState) → IsCut st → (b : Cells) × (st ≡ cut b)
block_of free is = absurd is
block_of (cut b) is = (b, refl)
block_of (head n k) is = absurd is
block_of (body q) is = absurd is

-- a cell of a page becomes free
module _ (words : List ℕ) (t : PageTable) (whole : IsWholeSpace (store_with words t) t.ready t.waiting) (f : Found) (found : found_in t.map f.base ≡ Some f) (lawful : IsLawful t.map) (is_cut : IsCut (state_at t.map f.page))
    (mid : List PageState) (became : mid ≡ set t.map f.page (with_put (state_at t.map f.page) f.cell)) (removed : IsRemoved (found_in t.map) (found_in mid) (object_on f.page (state_at t.map f.page) f.cell))
    (words' : List ℕ) (written : words' ≡ with_word_at words (object_on f.page (state_at t.map f.page) f.cell).base (first_on (state_at t.map f.page))) (listed : AreListed words' mid)
    (told : Put) (tells : TellsOf (state_at t.map f.page) (with_put (state_at t.map f.page) f.cell) told) where
  inside : f.page < length t.map
  inside = (on_page (store_with words t) f lawful found).page

  b : (b : Cells) × (state_at t.map f.page ≡ cut b)
  b = block_of (state_at t.map f.page) is_cut

  at : HasCell (state_at t.map f.page) f.cell true
  at = (in_block (store_with words t) f b.0 (on_page (store_with words t) f lawful found) b.1).1

  x : IsLeft mid f.page f.cell told.class told.kind (state_at t.map f.page)
  x = left t.map mid f.page f.cell told.class told.kind inside became tells.block

  is_class : IsSizeClass x.block.class
  is_class = left_class _ _ _ _ _ _ x tells.class

  -- what the pages are then
  whole_freed : (new : PageTable) → FreesCell t.pool new.pool t.map new.map f.page f.cell → KeepsPending f.page t.map new.map t.pending new.pending → AreListed words' new.map → AreReady new.ready new.map new.pending → AreWaiting new.waiting new.map new.pending
      → IsWholeSpace (store_with words' new) new.ready new.waiting
  whole_freed new freed keeps listed' exact awaited =
      let s = sound_freed (store_with words t) whole.sound f.page f.cell b.0 b.1 inside new.pool new.map freed.pages in
      record {
        sound = record { agree = s.agree; used = s.used };
        listed = listed';
        exact = exact;
        awaited = awaited;
        pending = pending_row (store_with words t) (store_with words' new) f.page whole.pending (size_freed (store_with words t) whole.sound f.page f.cell b.0 b.1 inside new.pool new.map freed.pages) keeps;
      }

  loses : (new : PageTable) → FreesCell t.pool new.pool t.map new.map f.page f.cell → KeepsPending f.page t.map new.map t.pending new.pending → Loses (store_with words t) f (store_with words' new)
  loses new freed keeps = loses_cell (store_with words t) f.page f.cell b.0 b.1 inside words' (first_on (state_at t.map f.page)) new.pool new.map new.pending f
      (in_block (store_with words t) f b.0 (on_page (store_with words t) f lawful found) b.1).0 lawful found written freed keeps

  -- the page keeps another object
  module _ (kept : HasAllocated (with_put (state_at t.map f.page) f.cell)) where
    abbrev with_ready : List (List Bool) → PageTable
    with_ready ready = record t { map = mid; ready = ready }

    freed : FreesCell t.pool t.pool t.map mid f.page f.cell
    freed = frees_kept _ _ _ _ _ _ became x.is (left_allocated _ _ _ _ _ _ x kept) removed

    whole_kept : (ready : List (List Bool)) → AreReady ready mid t.pending → IsWholeSpace (store_with words' (with_ready ready)) ready t.waiting
    whole_kept ready exact = whole_freed (with_ready ready) freed (pending_put t.map mid f.page f.cell t.pending inside became) listed exact
        (awaited_kept t.ready t.ready _ _ _ _ f.cell _ whole.exact inside at became x.is is_class t.waiting t.waiting whole.awaited)

    pub loses_kept : Loses (store_with words t) f (store_with words' (with_ready t.ready))
    loses_kept = loses (with_ready t.ready) freed (pending_put t.map mid f.page f.cell t.pending inside became)

    pub whole_pending : Has t.pending f.page → IsWholeSpace (store_with words' (with_ready t.ready)) t.ready t.waiting
    whole_pending h = whole_kept t.ready (exact_unswept _ t.ready _ _ _ _ f.cell _ whole.exact inside at became x.is is_class h)

    pub whole_entered : (ready : List (List Bool)) → (Has t.pending f.page → ⊥) → IsBitSet t.ready ready told.class told.kind f.page true → IsWholeSpace (store_with words' (with_ready ready)) ready t.waiting
    whole_entered ready swept entered = whole_kept ready (exact_entered _ _ _ _ _ _ f.cell _ whole.exact inside at became x.is is_class _ _ x.of_class x.of_kind swept entered)

    pub whole_more : (Has t.pending f.page → ⊥) → HasFree (state_at t.map f.page) → IsWholeSpace (store_with words' (with_ready t.ready)) t.ready t.waiting
    whole_more swept more = whole_kept t.ready (exact_kept _ t.ready _ _ _ _ f.cell _ whole.exact inside at became x.is is_class more swept)

  -- and it keeps none, and becomes free
  module _ (empty : IsEmptyOn (with_put (state_at t.map f.page) f.cell)) (new : PageTable) (span : IsSpanSet mid new.map f.page (span_of (state_at mid f.page)) (λ _. free))
      (uncut : IsUncut f.page (state_at mid f.page) (found_in mid) (found_in new.map)) (given : IsFilled t.pool new.pool f.page 1 true) (row : new.pending ≡ set t.pending f.page false) (lawful' : IsLawful new.map) where
    gone : FreesCell t.pool new.pool t.map new.map f.page f.cell
    gone = frees_last _ _ _ _ _ _ _ _ became x.is (left_empty _ _ _ _ _ _ x empty) removed span uncut given

    keeps_row : KeepsPending f.page t.map new.map t.pending new.pending
    keeps_row = subst (KeepsPending f.page t.map new.map t.pending) (sym row)
        (pending_gone t.map mid new.map f.page f.cell t.pending inside (let size = whole.pending.size in let lt = inside in omega (arith, size, lt)) became
        (subst (λ n. IsSpanSet mid new.map f.page n (λ _. free)) (ap span_of x.is) span) lawful')

    pub loses_last : Loses (store_with words t) f (store_with words' new)
    loses_last = loses new gone keeps_row

    rest : (p : ℕ) → (p ≡ f.page → ⊥) → get_or new.pending p false ≡ get_or t.pending p false
    rest p ne = ap (λ r. get_or r p false) row ∙ get_or-set_other t.pending f.page p false false ne

    pub whole_last : IsBitSet t.ready new.ready told.class told.kind f.page false → IsBitSet t.waiting new.waiting told.class told.kind f.page false → IsWholeSpace (store_with words' new) new.ready new.waiting
    whole_last left' awaited = whole_freed new gone keeps_row (listed_span words' mid new.map f.page _ (λ _. free) span (λ k. tt) listed)
        (exact_uncut _ _ _ _ _ _ f.cell _ whole.exact inside at became x.is is_class _ _ _ x.of_class x.of_kind span _ rest left')
        (awaited_uncut t.ready t.ready _ _ _ _ f.cell _ whole.exact inside at became x.is is_class _ _ whole.awaited _ _ _ x.of_class x.of_kind span _ rest awaited)

-- the pages of a large object become free
module _ (words : List ℕ) (t : PageTable) (whole : IsWholeSpace (store_with words t) t.ready t.waiting) (laid : IsLaid t.map) (f : Found) (found : found_in t.map f.base ≡ Some f) (lawful : IsLawful t.map)
    (not_cut : IsCut (state_at t.map f.page) → ⊥) where
  large : (k : Kind) × (state_at t.map f.page ≡ head (f.len / PAGE_WORDS) k) × (0 < f.len / PAGE_WORDS) × (f.page + f.len / PAGE_WORDS ≤ length t.map) × (f ≡ large_object f.page (f.len / PAGE_WORDS) k)
  large = large_here (store_with words t) f lawful found not_cut

  module _ (free' : List Bool) (map' : List PageState) (states : IsSpanSet t.map map' f.page (span_of (state_at t.map f.page)) (λ _. free)) (uncut : IsUncut f.page (state_at t.map f.page) (found_in t.map) (found_in map'))
      (given : IsFilled t.pool free' f.page (f.len / PAGE_WORDS) true) where
    abbrev without : PageTable
    without = record t { pool = free'; map = map' }

    span : IsSpanSet t.map map' f.page (f.len / PAGE_WORDS) (λ _. free)
    span = subst (λ n. IsSpanSet t.map map' f.page n (λ _. free)) (ap span_of large.1) states

    first_inside : f.page < length t.map
    first_inside = let some = large.2 in let ends = large.3 in omega (arith, some, ends)

    pub whole_large : IsWholeSpace (store_with words without) t.ready t.waiting
    whole_large = record {
      sound = sound_large_gone (store_with words t) free' map' f.page (f.len / PAGE_WORDS) whole.sound given span;
      listed = listed_span words t.map map' f.page (f.len / PAGE_WORDS) (λ _. free) span (λ k. tt) whole.listed;
      exact = exact_large_gone t.ready t.map map' t.pending f.page (f.len / PAGE_WORDS) large.0 whole.exact laid first_inside large.1 span;
      awaited = waiting_span t.waiting t.map map' t.pending f.page (f.len / PAGE_WORDS) _ whole.awaited span whole.pending.cut (large_uncut t.map laid f.page (f.len / PAGE_WORDS) large.0 first_inside large.1);
      pending = pending_row (store_with words t) (store_with words without) f.page whole.pending span.size
          (pending_large t.map map' f.page (f.len / PAGE_WORDS) t.pending span (large_uncut t.map laid f.page (f.len / PAGE_WORDS) large.0 first_inside large.1));
    }

    pub loses_pages : Loses (store_with words t) f (store_with words without)
    loses_pages = loses_large (store_with words t) f free' map' large.0 (f.len / PAGE_WORDS) large.4 span (subst (λ st. IsUncut f.page st (found_in t.map) (found_in map')) large.1 uncut)
