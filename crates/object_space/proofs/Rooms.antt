-- Where a heap has room, by the pages of the store that stands for it.
use Rattle.std.proofs.Common.{◌≡◌, ℕ, ◌+◌, ◌*◌, ◌/◌, ◌<◌, ◌≤◌, Bool, true, false, List, length, get_or, Option, Some, None, refl, sym, ap, ◌∙◌, subst, arith, inl, inr, ⊎_elim}
use Rattle.std.proofs.lemmas.Bool.{cases_lt}
use Rattle.std.proofs.lemmas.Option.{same_Some}
use Rattle.std.proofs.Math.Nat.{le-div_iff_mul-le, mul-le-mul_right}
use Rattle.words.specs.declared.limits.TheConstants.{MAX_SMALL_WORDS, PAGE_BYTES, PAGE_WORDS}
use Rattle.words.specs.declared.class.Kind.{Kind}
use Rattle.words.specs.Classes.{IsSizeClass}
use Rattle.words.specs.Layout.{page_start}
use Rattle.heap_spec.specs.Layout.{LiesOn}
use Rattle.heap_spec.specs.Heap.{Heap, Object}
use Rattle.heap_spec.specs.Room.{IsEmptyPage, IsCutFor, HasSmallRoom, HasLargeRoom}
use Rattle.pages.specs.Runs.{IsFreeRun, HasNoFreeRun}
use Rattle.blocks.specs.Cells.{Cells, IsCells}
use Rattle.blocks.proofs.Places.{class_bounds}
use Rattle.block_map.specs.States.{PageState, free, cut, head, body, state_at, LaidAt, IsLaid}
use Rattle.block_map.specs.Objects.{cell_object, large_object, IsObjectOn, IsObject}
use Rattle.block_map.specs.FoundIn.{found_in, IsLawful}
use Rattle.block_map.specs.declared.found.Found.{Found}
use Rattle.block_map.proofs.Words.{cells_end}
use Rattle.object_space.specs.Store.{Store, HasSoundPages}
use Rattle.object_space.specs.Stores.{Stores}
use Rattle.object_space.specs.Kept.{restrict}
use Rattle.object_space.proofs.Kept.{kept_cases, kept_is}
use Rattle.lazy_sweep.specs.AvailableRows.{IsFreeCell, HasNoFreeCell}
use Rattle.lazy_sweep.proofs.Lying.{Lies, cut_body, cut_head, free_body, free_cut, free_head, in_cell, in_large, in_row, large_page, lies_cases, same_block}

-- a cell that fits on a page is one of its cells
pub cell_below : (c i : ℕ) → 0 < c → c * (i + 1) ≤ PAGE_WORDS → i < PAGE_WORDS / c
cell_below c i some fits =
    let h : i + 1 ≤ PAGE_WORDS / c = (le-div_iff_mul-le {k = c} {x = i + 1} {y = PAGE_WORDS} some).1 (let e : (i + 1) * c ≡ c * (i + 1) = omega arith in omega arith) in omega arith

-- cells of one class that begin at one place are one
pub same_cell : (c i j : ℕ) → 0 < c → i * (8 * c) ≡ 8 * (c * j) → i ≡ j
same_cell c i j some e =
    let f : 8 * (i * c) ≡ 8 * (j * c) = (let g : i * (8 * c) ≡ 8 * (i * c) = omega arith in let h : 8 * (c * j) ≡ 8 * (j * c) = omega arith in omega arith) in
    ⊎_elim
    (λ less. absurd (let m : (i + 1) * c ≤ j * c = mul-le-mul_right c (before i j less) in let x : (i + 1) * c ≡ i * c + c = omega arith in omega arith))
    (λ ge. ⊎_elim
    (λ more. absurd (let m : (j + 1) * c ≤ i * c = mul-le-mul_right c (before j i more) in let x : (j + 1) * c ≡ j * c + c = omega arith in omega arith))
    (λ le. omega arith) (cases_lt j i))
    (cases_lt i j)
  where
    before : (a b : ℕ) → a < b → a + 1 ≤ b
    before a b less = omega arith

-- nothing is there if no object can be
pub none_of : {A : Type 0} (o : Option A) → ((x : A) → o ≡ Some x → ⊥) → o ≡ None
none_of None h = refl
none_of (Some x) h = absurd (h x refl)

module _ (states : List PageState) (laid : IsLaid states) where
  -- an object lies on each page that isn't free
  pub data Used (page : ℕ) (st : PageState) : Type 0 where
    by_none : st ≡ free → Used page st
    by_cell : (b : Cells) (i : ℕ) → st ≡ cut b → IsCells b → IsObject states (cell_object page b i) → LiesOn (cell_object page b i).base b.class page → Used page st
    by_large : (first n : ℕ) (k : Kind) → 0 < n → IsObject states (large_object first n k) → LiesOn (page_start first) (PAGE_WORDS * n) page → Used page st

  pub used_by : (page : ℕ) (st : PageState) → page < length states → state_at states page ≡ st → LaidAt states page st → ((b : Cells) → st ≡ cut b → (i : ℕ) × (get_or b.taken i false ≡ true)) → Used page st
  used_by page free lt is here has = by_none refl
  used_by page (cut b) lt is here has =
      let bit = has b refl in
      let inside : bit.0 < length b.taken = in_row b.taken bit.0 bit.1 in
      let bounds = class_bounds b.class here.class in let some = bounds.0 in let size = here.size in
      let ends : bit.0 * (8 * b.class) + 8 * b.class ≤ PAGE_BYTES = cells_end b.class bit.0 (omega arith) in
      by_cell b bit.0 refl here (record { page = lt; on = subst (λ x. IsObjectOn x (cell_object page b bit.0)) (sym is) (refl, inside, bit.1) }) (omega arith, omega arith)
  used_by page (head n k) lt is here has =
      let some = here.0 in
      by_large page n k here.0 (record { page = lt; on = subst (λ x. IsObjectOn x (large_object page n k)) (sym is) refl }) (omega arith, omega arith)
  used_by page (body q) lt is here has =
      let less = here.0 in let reach = here.4 in
      by_large q here.1 here.2 (omega arith) (record { page = omega arith; on = subst (λ x. IsObjectOn x (large_object q here.1 here.2)) (sym here.3) refl }) (omega arith, omega arith)

module _ (keep : Found → Bool) (t : Store) (s : Heap) (sound : HasSoundPages t) (laid : IsLaid t.states) (lawful : IsLawful t.states) (stores : Stores keep t s) where
  -- the heap's object is one of the store's
  pub heap_object : (base : ℕ) (o : Object) → s.objects base ≡ Some o → (f : Found) × IsObject t.states f × (f.base ≡ base) × (f.len ≡ length o.words) × (f.kind ≡ o.kind) × (0 < f.len)
  heap_object base o is =
      let only = stores.shows.shown.only base o is in
      let kept = stores.shows.shown.kept only.0 (ap (restrict keep (found_in t.states)) only.2 ∙ only.1) in
      let there = (kept_cases keep (found_in t.states) base only.0 only.1).0 in
      let same : kept.0 ≡ o = same_Some _ _ (sym kept.1 ∙ ap s.objects only.2 ∙ is) in
      (only.0, lawful.object base only.0 there, only.2, sym kept.2.size ∙ ap (λ (x : Object). length x.words) same, sym kept.2.kind ∙ ap (λ (x : Object). x.kind) same, (lawful.map.placed base only.0 there).some)

  -- if all are kept, the store's object is one of the heap's
  pub store_object : ((g : Found) → keep g ≡ true) → (f : Found) → IsObject t.states f → 0 < f.len → (o : Object) × (s.objects f.base ≡ Some o) × (length o.words ≡ f.len) × (o.kind ≡ f.kind)
  store_object all f is some =
      let kept = stores.shows.shown.kept f (kept_is keep (found_in t.states) f.base f (lawful.found f.base f is (record { from = omega arith; below = omega arith })) (all f)) in
      (kept.0, kept.1, kept.2.size, kept.2.kind)

  pub free_page : (page : ℕ) → state_at t.states page ≡ free → IsEmptyPage s page
  free_page page is base o has lies =
      let f = heap_object base o has in
      none f.0 f.1 (lies_cases t.states laid f.0 page f.1 (subst (λ l. LiesOn f.0.base l page) (sym f.3) (subst (λ b. LiesOn b (length o.words) page) (sym f.2) lies)))
    where
      none : (f : Found) → IsObject t.states f → Lies t.states f page → ⊥
      none f at (in_cell b c same taken) = free_cut b (sym is ∙ c)
      none f at (in_large n k h low high len) = ⊎_elim (λ e. free_head n k (sym is ∙ e)) (λ e. free_body f.page (sym is ∙ e)) (large_page t.states laid f.page n k page at.page h low high)

  used : (page : ℕ) → page < length t.states → Used t.states laid page (state_at t.states page)
  used page lt = used_by t.states laid page (state_at t.states page) lt refl (laid.each page lt) (sound.used page)

  pub page_free : ((g : Found) → keep g ≡ true) → (page : ℕ) → page < length t.states → IsEmptyPage s page → state_at t.states page ≡ free
  page_free all page lt none = by (used page lt)
    where
      by : Used t.states laid page (state_at t.states page) → state_at t.states page ≡ free
      by (by_none is) = is
      by (by_cell b i is cells o lies) =
          let some = (class_bounds b.class cells.class).0 in
          let h = store_object all (cell_object page b i) o (omega arith) in
          absurd (none (cell_object page b i).base h.0 h.1 (subst (λ l. LiesOn (cell_object page b i).base l page) (sym h.2) lies))
      by (by_large first n k some o lies) =
          let h = store_object all (large_object first n k) o (omega arith) in
          absurd (none (page_start first) h.0 h.1 (subst (λ l. LiesOn (page_start first) l page) (sym h.2) lies))

  pub cut_for : (page : ℕ) (b : Cells) → state_at t.states page ≡ cut b → IsCutFor s page b.class b.kind
  cut_for page b is base o has lies =
      let f = heap_object base o has in
      of f.0 f.1 f.3 f.4 (lies_cases t.states laid f.0 page f.1 (subst (λ l. LiesOn f.0.base l page) (sym f.3) (subst (λ b. LiesOn b (length o.words) page) (sym f.2) lies)))
    where
      of : (f : Found) → IsObject t.states f → f.len ≡ length o.words → f.kind ≡ o.kind → Lies t.states f page → (length o.words ≡ b.class) × (o.kind ≡ b.kind)
      of f at len kind (in_cell c there same taken) =
          let block : c ≡ b = same_block c b (sym there ∙ is) in
          (sym len ∙ ap (λ (x : Found). x.len) same ∙ ap (λ (x : Cells). x.class) block, sym kind ∙ ap (λ (x : Found). x.kind) same ∙ ap (λ (x : Cells). x.kind) block)
      of f at len kind (in_large n k h low high whole) =
          absurd (⊎_elim (λ e. cut_head b n k (sym is ∙ e)) (λ e. cut_body b f.page (sym is ∙ e)) (large_page t.states laid f.page n k page at.page h low high))

  -- a free cell of a block is room for its class and kind
  pub room_of_cell : (class : ℕ) (kind : Kind) (page cell : ℕ) → IsFreeCell t.states class kind page cell → HasSmallRoom s class kind (page_start page + 8 * (class * cell))
  room_of_cell class kind page cell r = record {
    page = page;
    cell = cell;
    in_heap = let pages = stores.pages in let inside = r.inside in omega arith;
    in_page = fits;
    is_cell = refl;
    cut = inr (subst (λ c. IsCutFor s page c kind) r.of_class (subst (λ k. IsCutFor s page r.block.class k) r.of_kind (cut_for page r.block r.is_cut)), none_of _ none);
  }
    where
      cells : IsCells r.block
      cells = subst (LaidAt t.states page) r.is_cut (laid.each page r.inside)

      some : 0 < class
      some = let c = (class_bounds r.block.class cells.class).0 in let e = r.of_class in omega arith

      ends : cell * (8 * class) + 8 * class ≤ PAGE_BYTES
      ends = cells_end class cell (subst (λ c. cell < PAGE_WORDS / c) r.of_class (let size = cells.size in let lt = r.in_row in omega arith))

      fits : class * (cell + 1) ≤ PAGE_WORDS
      fits = let e : cell * (8 * class) ≡ 8 * (cell * class) = omega arith in let f : class * (cell + 1) ≡ cell * class + class = omega arith in let g = ends in omega arith

      none : (o : Object) → s.objects (page_start page + 8 * (class * cell)) ≡ Some o → ⊥
      none o has =
          let f = heap_object _ o has in
          at f.0 f.1 f.2 (lies_cases t.states laid f.0 page f.1 (lies f.0 f.2 f.5))
        where
          at : (f : Found) → IsObject t.states f → f.base ≡ page_start page + 8 * (class * cell) → Lies t.states f page → ⊥
          at f o base (in_cell b there same taken) =
              let block : b ≡ r.block = same_block b r.block (sym there ∙ r.is_cut) in
              let class_is : b.class ≡ class = ap (λ (x : Cells). x.class) block ∙ r.of_class in
              let begins : page_start page + f.cell * (8 * class) ≡ page_start page + 8 * (class * cell) = ap (λ c. page_start page + f.cell * (8 * c)) (sym class_is) ∙ sym (ap (λ (x : Found). x.base) same) ∙ base in
              let one : f.cell ≡ cell = same_cell class f.cell cell some (omega arith) in
              let bit : get_or r.block.taken cell false ≡ true = ap (λ (x : Cells). get_or x.taken cell false) (sym block) ∙ ap (λ i. get_or b.taken i false) (sym one) ∙ taken in
              let clash : false ≡ true = sym r.is_free ∙ bit in cc
          at f o base (in_large n k h low high whole) =
              absurd (⊎_elim (λ e. cut_head r.block n k (sym r.is_cut ∙ e)) (λ e. cut_body r.block f.page (sym r.is_cut ∙ e)) (large_page t.states laid f.page n k page o.page h low high))

          lies : (f : Found) → f.base ≡ page_start page + 8 * (class * cell) → 0 < f.len → LiesOn f.base f.len page
          lies f base long = let e : cell * (8 * class) ≡ 8 * (class * cell) = omega arith in let g = ends in let h = some in (omega arith, omega arith)

  -- a free page is room for each class and kind
  pub room_of_page : (class : ℕ) (kind : Kind) (page : ℕ) → class ≤ PAGE_WORDS → page < length t.states → state_at t.states page ≡ free → HasSmallRoom s class kind (page_start page)
  room_of_page class kind page few lt is = record {
    page = page;
    cell = 0;
    in_heap = let pages = stores.pages in omega arith;
    in_page = omega arith;
    is_cell = omega arith;
    cut = inl (free_page page is);
  }

  -- with no free cell and no free page there is no room
  pub no_small_room : ((g : Found) → keep g ≡ true) → (class : ℕ) (kind : Kind) → IsSizeClass class → HasNoFreeCell t.states class kind → HasNoFreeRun t.free 1 → (a : ℕ) → HasSmallRoom s class kind a → ⊥
  no_small_room all class kind is_class no_cell no_page a r =
      ⊎_elim (λ free. none (page_free all r.page inside free)) (λ c. by c.0 c.1 (used r.page inside)) r.cut
    where
      inside : r.page < length t.states
      inside = let pages = stores.pages in let lt = r.in_heap in omega arith

      bounds : (2 ≤ class) × (class ≤ MAX_SMALL_WORDS)
      bounds = class_bounds class is_class

      none : state_at t.states r.page ≡ free → ⊥
      none is = no_page r.page (record {
        inside = let size = sound.agree.size in omega arith;
        free = λ k low high. let e : k ≡ r.page = omega arith in ap (λ p. get_or t.free p false) e ∙ sound.agree.free_in_pool r.page inside is;
      })

      by : IsCutFor s r.page class kind → s.objects a ≡ None → Used t.states laid r.page (state_at t.states r.page) → ⊥
      by cut_is no_object (by_none is) = none is
      by cut_is no_object (by_large first n k some o lies) =
          let h = store_object all (large_object first n k) o (omega arith) in
          let c = cut_is (page_start first) h.0 h.1 (subst (λ l. LiesOn (page_start first) l r.page) (sym h.2) lies) in
          let b = bounds in let e = c.0 in let l = h.2 in omega arith
      by cut_is no_object (by_cell b i is cells o lies) =
          let low = (class_bounds b.class cells.class).0 in
          let h = store_object all (cell_object r.page b i) o (omega arith) in
          let c = cut_is (cell_object r.page b i).base h.0 h.1 (subst (λ l. LiesOn (cell_object r.page b i).base l r.page) (sym h.2) lies) in
          let class_is : b.class ≡ class = sym h.2 ∙ c.0 in
          let kind_is : b.kind ≡ kind = sym h.3 ∙ c.1 in
          let in_cells : r.cell < length b.taken = (let lt : r.cell < PAGE_WORDS / class = cell_below class r.cell (let z = bounds in omega arith) r.in_page in subst (λ n. r.cell < n) (ap (λ x. PAGE_WORDS / x) (sym class_is) ∙ sym cells.size) lt) in
          bit b is class_is kind_is in_cells (get_or b.taken r.cell false) refl
        where
          turned : page_start r.page + r.cell * (8 * class) ≡ page_start r.page + 8 * (class * r.cell)
          turned = omega arith

          bit : (b : Cells) → state_at t.states r.page ≡ cut b → b.class ≡ class → b.kind ≡ kind → r.cell < length b.taken → (taken : Bool) → get_or b.taken r.cell false ≡ taken → ⊥
          bit b is class_is kind_is in_cells false e = no_cell r.page r.cell (record { block = b; inside = inside; is_cut = is; of_class = class_is; of_kind = kind_is; in_row = in_cells; is_free = e })
          bit b is class_is kind_is in_cells true e =
              let o : IsObject t.states (cell_object r.page b r.cell) = record { page = inside; on = subst (λ x. IsObjectOn x (cell_object r.page b r.cell)) (sym is) (refl, in_cells, e) } in
              let h = store_object all (cell_object r.page b r.cell) o (let z = bounds in omega arith) in
              let at : page_start r.page + r.cell * (8 * b.class) ≡ a = ap (λ c. page_start r.page + r.cell * (8 * c)) class_is ∙ turned ∙ sym r.is_cell in
              let some : s.objects a ≡ Some h.0 = ap s.objects (sym at) ∙ h.1 in cc

  -- a run of free pages is room for a large object
  pub large_room : (kind : Kind) (first n : ℕ) → IsFreeRun t.free first n → HasLargeRoom s n (page_start first)
  large_room kind first n run = record {
    first = first;
    in_heap = let pages = stores.pages in let size = sound.agree.size in let inside = run.inside in omega arith;
    is_start = refl;
    free = λ page low high. free_page page (sound.agree.free_in_map page (run.free page low high));
  }

  pub no_large_room : ((g : Found) → keep g ≡ true) → (n : ℕ) → HasNoFreeRun t.free n → (a : ℕ) → HasLargeRoom s n a → ⊥
  no_large_room all n none a r =
      let pages = stores.pages in let size = sound.agree.size in let fits = r.in_heap in
      none r.first (record {
        inside = omega arith;
        free = λ k low high. let lt : k < length t.states = omega arith in sound.agree.free_in_pool k lt (page_free all k lt (r.free k low high));
      })
