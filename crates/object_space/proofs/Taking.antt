-- What it is to the space that the first free cell of a page is taken.
use Rattle.std.proofs.Common.{◌≡◌, ℕ, ◌<◌, Bool, true, false, List, length, set, refl, sym, ap, ◌∙◌, subst, arith, replicate, length-set, get_or-set_same, get_or-set_other}
use Rattle.std.specs.Prelude.{◌/◌, MatchBool}
use Rattle.std.proofs.lemmas.Bool.{false≢true}
use Rattle.std.proofs.lemmas.List.{get_or-replicate, length-replicate}
use Rattle.words.specs.declared.limits.TheConstants.{PAGE_WORDS}
use Rattle.words.specs.Classes.{IsSizeClass}
use Rattle.blocks.proofs.Places.{class_bounds}
use Rattle.words.specs.declared.class.Kind.{Kind}
use Rattle.words.specs.declared.class.Placement.TheVariants.{Small}
use Rattle.words.specs.Bits.{Has}
use Rattle.pages.specs.Memory.{IsZeroed, word_index}
use Rattle.block_map.specs.Changes.{IsAdded}
use Rattle.block_map.specs.FoundIn.{found_in, IsLawful}
use Rattle.block_map.specs.FreeCells.{IsFullOn}
use Rattle.block_map.specs.Listed.{first_object, first_on, with_taken, AreListed, HasFirst}
use Rattle.block_map.specs.States.{PageState, free, all_free, state_at, IsBlockFor, IsCut, IsLaid}
use Rattle.block_map.specs.declared.found.Found.{Found}
use Rattle.lazy_sweep.specs.AvailableRows.{AreReady, IsAvailable, IsBitSet, IsFreeCell}
use Rattle.lazy_sweep.specs.Sound.{store_with}
use Rattle.lazy_sweep.specs.declared.table.PageTable.{PageTable}
use Rattle.object_space.specs.Rooms.{HasRoomAt}
use Rattle.object_space.proofs.Rooms.{cell_below}
use Rattle.lazy_sweep.proofs.ExactRows.{free_cell_offers}
use Rattle.object_space.specs.Store.{IsWholeSpace, Store}
use Rattle.object_space.specs.Sweeps.{Gains}
use Rattle.object_space.proofs.Allocations.{allocates_cell, allocates_page, cut_laid, first_cell, first_is, first_zeroed, free_swept, gains_cell, gains_page, sound_cell, sound_page, takes_first, CutsPage, TakesCell}
use Rattle.object_space.proofs.AvailablePages.{available_class, available_inside, available_not_full, exact_cut, waiting_same}
use Rattle.object_space.proofs.Many.{KeepsPages, available_block, block_free_cell, cells_cut, cells_waiting, one_taken, ready_filled, ready_left}
use Rattle.object_space.proofs.Pending.{pending_cut, cut_page}

module _ (words : List ℕ) (t : PageTable) (whole : IsWholeSpace (store_with words t) t.ready t.waiting) (laid : IsLaid t.map) (lawful : IsLawful t.map)
    (class : ℕ) (kind : Kind) (page : ℕ) (has : IsAvailable (state_at t.map page) class kind) (swept : Has t.pending page → ⊥)
    (states' : List PageState) (f : Found) (first : HasFirst (state_at t.map page)) (became : states' ≡ set t.map page (with_taken words page (state_at t.map page)))
    (added : IsAdded (found_in t.map) (found_in states') f) (is : f ≡ first_object page (state_at t.map page)) (listed : AreListed words states')
    (words' : List ℕ) (zeroed : IsZeroed words words' (word_index f.base) f.len) where
  abbrev pub after : Store
  after = record { words = words'; free = t.pool; states = states'; pending = t.pending }

  inside : page < length t.map
  inside = available_inside t.map class kind page has

  block : IsBlockFor (state_at t.map page) class kind
  block = available_block (state_at t.map page) class kind has

  at : IsFreeCell t.map class kind page (first_on (state_at t.map page))
  at = block_free_cell t.map class kind page (first_on (state_at t.map page)) inside block first

  takes : TakesCell words words' t.map states' page (first_on (state_at t.map page)) f.base
  takes = takes_first words t.map states' page f laid inside first became added is words' zeroed

  pub room_taken : HasRoomAt (store_with words t) (Small class) kind f.base
  room_taken = allocates_cell (store_with words t) class kind page (first_on (state_at t.map page)) f.base words' states' whole.sound laid lawful at takes

  pub gains_taken : Gains (store_with words t) (Small class) kind f.base after
  gains_taken = gains_cell (store_with words t) class kind page (first_on (state_at t.map page)) f.base words' states' laid lawful at takes swept

  keeps : KeepsPages t.map states' page class kind
  keeps = one_taken words t.map states' class kind page inside block became

  whole_taken : (ready' : List (List Bool)) → AreReady ready' states' t.pending → IsWholeSpace after ready' t.waiting
  whole_taken ready' exact = record {
    sound = sound_cell (store_with words t) class kind page (first_on (state_at t.map page)) f.base words' states' whole.sound laid lawful at takes swept;
    listed = first_zeroed words t.map states' page f laid inside first became added is words' zeroed listed;
    pending = pending_cut (store_with words t) after whole.pending refl keeps.size (cells_cut t.map states' page class kind keeps);
    exact = exact;
    awaited = cells_waiting t.map states' page class kind keeps t.waiting t.pending whole.awaited swept;
  }

  -- the last free cell
  pub whole_filled : (ready' : List (List Bool)) → IsBitSet t.ready ready' class kind page false → IsFullOn (state_at states' page) → IsWholeSpace after ready' t.waiting
  whole_filled ready' left full = whole_taken ready' (ready_filled t.map states' page class kind keeps t.ready ready' t.pending whole.exact left full)

  -- or another is left
  pub whole_left : HasFirst (state_at states' page) → IsWholeSpace after t.ready t.waiting
  whole_left more = whole_taken t.ready (ready_left t.map states' page class kind keeps t.ready t.pending whole.exact (available_class t.map class kind page laid has) has swept more)

-- a page that is cut has more than one cell
second_left : (class : ℕ) (kind : Kind) (words : List ℕ) (page : ℕ) → IsSizeClass class → IsFullOn (with_taken words page (all_free class kind)) → ⊥
second_left class kind words page is_class full =
    let bounds = class_bounds class is_class in
    let more : 1 < PAGE_WORDS / class = cell_below class 1 (omega (arith, bounds.0)) (omega (arith, bounds.1)) in
    let row : List Bool = replicate (PAGE_WORDS / class) false in
    let size : length (set row 0 true) ≡ PAGE_WORDS / class = length-set row 0 true ∙ length-replicate (PAGE_WORDS / class) false in
    false≢true (sym (get_or-set_other row 0 1 true false (omega arith) ∙ get_or-replicate (PAGE_WORDS / class) 1 false false more) ∙ full 1 (omega (arith, size, more)))

-- a free page is cut
module _ (words : List ℕ) (t : PageTable) (whole : IsWholeSpace (store_with words t) t.ready t.waiting) (laid : IsLaid t.map) (lawful : IsLawful t.map)
    (class : ℕ) (kind : Kind) (is_class : IsSizeClass class) (page : ℕ) (words₁ : List ℕ) (free' : List Bool) (mid : List PageState) (cuts : CutsPage words words₁ t.pool free' t.map mid class kind page) where
  was : state_at t.map page ≡ free
  was = whole.sound.agree.free_in_map page (cuts.run.free page (omega arith) (omega arith))

  within : page < length t.map
  within = let fits = cuts.run.inside in let size = whole.sound.agree.size in omega (arith, fits, size)

  mid_size : length mid ≡ length t.map
  mid_size = ap length cuts.became ∙ length-set t.map page _

  mid_within : page < length mid
  mid_within = omega (arith, mid_size, within)

  offers : IsAvailable (state_at mid page) class kind
  offers = free_cell_offers mid class kind page 0 (first_cell (store_with words t) whole.sound laid lawful class kind is_class page words₁ free' mid cuts)

  not_swept : Has t.pending page → ⊥
  not_swept = free_swept (store_with words t) page whole.pending was

  pub never_full : IsFullOn (state_at mid page) → ⊥
  never_full full = available_not_full (state_at mid page) class kind offers full

  -- and its first cell is taken
  module _ (states' : List PageState) (f : Found) (first : HasFirst (state_at mid page)) (became : states' ≡ set mid page (with_taken words₁ page (state_at mid page)))
      (added : IsAdded (found_in mid) (found_in states') f) (is : f ≡ first_object page (state_at mid page)) (listed : AreListed words₁ states')
      (words' : List ℕ) (zeroed : IsZeroed words₁ words' (word_index f.base) f.len) where
    abbrev pub after_cut : Store
    after_cut = record { words = words'; free = free'; states = states'; pending = t.pending }

    mid_laid : IsLaid mid
    mid_laid = cut_laid (store_with words t) whole.sound laid lawful class kind is_class page words₁ free' mid cuts

    first_taken : TakesCell words₁ words' mid states' page 0 f.base
    first_taken = subst (λ i. TakesCell words₁ words' mid states' page i f.base) (first_is (store_with words t) whole.sound laid lawful class kind is_class page words₁ free' mid cuts)
        (takes_first words₁ mid states' page f mid_laid mid_within first became added is words' zeroed)

    pub room_cut : HasRoomAt (store_with words t) (Small class) kind f.base
    room_cut = allocates_page (store_with words t) whole.sound laid lawful class kind is_class page words₁ free' mid cuts f.base words' states' first_taken whole.pending

    pub gains_cut : Gains (store_with words t) (Small class) kind f.base after_cut
    gains_cut = gains_page (store_with words t) whole.sound laid lawful class kind is_class page words₁ free' mid cuts f.base words' states' first_taken whole.pending

    kept : KeepsPages mid states' page class kind
    kept = one_taken words₁ mid states' class kind page mid_within (available_block (state_at mid page) class kind offers) became

    more_left : (was_last : Bool) → MatchBool was_last (IsFullOn (state_at states' page)) (HasFirst (state_at states' page)) → HasFirst (state_at states' page)
    more_left false has = has
    more_left true full = absurd (second_left class kind words₁ page is_class (subst IsFullOn
        (ap (λ x. state_at x page) became ∙ get_or-set_same mid page _ free mid_within ∙ ap (with_taken words₁ page) (ap (λ x. state_at x page) cuts.became ∙ get_or-set_same t.map page _ free within)) full))

    pub whole_cut : (ready' : List (List Bool)) (was_last : Bool) → IsBitSet t.ready ready' class kind page true → MatchBool was_last (IsFullOn (state_at states' page)) (HasFirst (state_at states' page)) → IsWholeSpace after_cut ready' t.waiting
    whole_cut ready' was_last entered last = record {
      sound = sound_page (store_with words t) whole.sound laid lawful class kind is_class page words₁ free' mid cuts f.base words' states' first_taken whole.pending;
      listed = first_zeroed words₁ mid states' page f mid_laid mid_within first became added is words' zeroed listed;
      pending = pending_cut (store_with words t) after_cut whole.pending refl (kept.size ∙ mid_size)
          (λ p cut. cells_cut mid states' page class kind kept p (subst (λ (x : List PageState). IsCut (state_at x p)) (sym cuts.became) (cut_page t.map page (all_free class kind) was p cut)));
      exact = ready_left mid states' page class kind kept ready' t.pending (exact_cut t.ready ready' t.map mid t.pending class kind page whole.exact is_class within was whole.pending.cut cuts.became entered)
          is_class offers not_swept (more_left was_last last);
      awaited = cells_waiting mid states' page class kind kept t.waiting t.pending
          (waiting_same t.waiting t.map mid t.pending whole.awaited mid_size (λ p h. ap (λ x. state_at x p) cuts.became ∙ get_or-set_other t.map page p _ free (λ e. not_swept (subst (Has t.pending) e h)))) not_swept;
    }
