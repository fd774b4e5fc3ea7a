-- What it is to the heap that an object goes: a cell is free again, and with the last one its page, or all pages of a large
-- object.
use Rattle.std.proofs.Common.{◌≡◌, ℕ, ◌+◌, ◌*◌, ◌/◌, ◌<◌, ◌≤◌, ◌⊎◌, Bool, true, false, List, length, get_or, set, Option, Some, refl, sym, ap, ◌∙◌, subst, arith, ⊎_elim, length-set, get_or-set_same, get_or-set_other}
use Rattle.std.specs.Prelude.{◌≢◌}
use Rattle.std.proofs.lemmas.Bool.{cases_eq}
use Rattle.words.specs.declared.limits.TheConstants.{FIRST_ADDRESS, PAGE_BYTES, PAGE_WORDS}
use Rattle.words.specs.Bits.{IsEmptyFrom, IsFirstFrom}
use Rattle.words.specs.declared.class.Kind.{Kind}
use Rattle.pages.specs.Memory.{with_word_at}
use Rattle.pages.specs.Runs.{IsFilled}
use Rattle.blocks.specs.Cells.{Cells}
use Rattle.blocks.specs.Lists.{first_after_put}
use Rattle.block_map.specs.Listed.{with_put}
use Rattle.block_map.specs.States.{PageState, free, cut, head, body, state_at, span_of, IsCut, IsSpanSet, HasCell}
use Rattle.block_map.specs.Objects.{cell_object, large_object, object_on, IsObjectOn, IsObject}
use Rattle.block_map.specs.Changes.{IsRemoved, IsSameMap, IsUncut, HasNoObject}
use Rattle.block_map.specs.FoundIn.{found_in, IsLawful}
use Rattle.block_map.specs.declared.found.Found.{Found}
use Rattle.marker.specs.Mutations.{KeepsWords}
use Rattle.marker.proofs.Keeping.{written_kept}
use Rattle.object_space.specs.Store.{Store, HasSoundPages, IsPendingRow}
use Rattle.object_space.specs.Sweeps.{Loses}
use Rattle.object_space.proofs.Pending.{KeepsPending}
use Rattle.lazy_sweep.proofs.GivenPages.{agree_given, no_object, used_given}

-- the map with this cell put back
abbrev pub without_cell : List PageState → ℕ → ℕ → List PageState
without_cell states page cell = set states page (with_put (state_at states page) cell)

-- A cell becomes free: its page keeps another object, or it has none left and becomes free too.
pub data EmptiesCell (row row' : List Bool) (states states' : List PageState) (page cell : ℕ) : Type 0 where
  keeps : (b : Cells) (i : ℕ) → state_at states' page ≡ cut b → get_or b.taken i false ≡ true → row' ≡ row → states' ≡ without_cell states page cell
      → EmptiesCell row row' states states' page cell
  gives : IsFilled row row' page 1 true → IsSpanSet (without_cell states page cell) states' page 1 (λ _. free) → EmptiesCell row row' states states' page cell

-- A cell was freed, and its object is gone.
pub record FreesCell (row row' : List Bool) (states states' : List PageState) (page cell : ℕ) : Type 0 where
  pub pages : EmptiesCell row row' states states' page cell
  pub removed : IsRemoved (found_in states) (found_in states') (object_on page (state_at states page) cell)

-- all pages of a large object
pub sound_large_gone : (t : Store) (row' : List Bool) (states' : List PageState) (first n : ℕ) → HasSoundPages t → IsFilled t.free row' first n true → IsSpanSet t.states states' first n (λ _. free)
    → HasSoundPages (record t { free = row'; states = states' })
sound_large_gone t row' states' first n sound given span = record {
  agree = agree_given t.free row' t.states states' first n given span sound.agree.size (λ p out is. sound.agree.free_in_map p is) (λ p out lt is. sound.agree.free_in_pool p lt is);
  used = used_given t.free row' t.states states' first n given span (λ p b out is. sound.used p b is);
}

-- a cell of a page that keeps another object
module _ (t : Store) (sound : HasSoundPages t) (page cell : ℕ) (b : Cells) (is : state_at t.states page ≡ cut b) (inside : page < length t.states) (states' : List PageState)
    (put : states' ≡ set t.states page (with_put (state_at t.states page) cell)) where
  abbrev pub emptied : Cells
  emptied = record b { taken = set b.taken cell false; first = first_after_put b.first cell }

  pub state_after : state_at states' page ≡ cut emptied
  state_after = ap (λ x. state_at x page) put ∙ get_or-set_same t.states page _ free inside ∙ ap (λ st. with_put st cell) is

  other : (p : ℕ) → p ≢ page → state_at states' p ≡ state_at t.states p
  other p ne = ap (λ x. state_at x p) put ∙ get_or-set_other t.states page p _ free ne

  pub size_after : length states' ≡ length t.states
  size_after = ap length put ∙ length-set t.states page _

  not_free : cut b ≡ free → ⊥
  not_free e = cc

  after_not_free : cut emptied ≡ free → ⊥
  after_not_free e = cc

  same_cells : (c d : Cells) → cut c ≡ cut d → c ≡ d
  same_cells c d e = cc

  pub sound_kept : (i : ℕ) → get_or emptied.taken i false ≡ true → HasSoundPages (record t { states = states' })
  sound_kept i bit = record {
    agree = record {
      size = sound.agree.size ∙ sym size_after;
      free_in_map = λ p h. ⊎_elim
          (λ e. absurd (not_free (sym is ∙ ap (state_at t.states) (sym e) ∙ sound.agree.free_in_map p h)))
          (λ ne. other p ne ∙ sound.agree.free_in_map p h)
          (cases_eq p page);
      free_in_pool = λ p lt h. ⊎_elim
          (λ e. absurd (after_not_free (sym state_after ∙ ap (state_at states') (sym e) ∙ h)))
          (λ ne. sound.agree.free_in_pool p (let z = size_after in omega arith) (sym (other p ne) ∙ h))
          (cases_eq p page);
    };
    used = λ p c h. ⊎_elim
        (λ e. (i, ap (λ (x : Cells). get_or x.taken i false) (sym (same_cells emptied c (sym state_after ∙ ap (state_at states') (sym e) ∙ h))) ∙ bit))
        (λ ne. sound.used p c (sym (other p ne) ∙ h))
        (cases_eq p page);
  }

  ne_of : (p : ℕ) → (p < page) ⊎ (page + 1 ≤ p) → p ≢ page
  ne_of p out = ⊎_elim (λ a (h : p ≡ page). omega arith) (λ a (h : p ≡ page). omega arith) out

  -- and of a page that keeps none, which becomes free
  pub sound_emptied : (row' : List Bool) (states'' : List PageState) → IsFilled t.free row' page 1 true → IsSpanSet states' states'' page 1 (λ _. free) → HasSoundPages (record t { free = row'; states = states'' })
  sound_emptied row' states'' given span = record {
    agree = agree_given t.free row' states' states'' page 1 given span (sound.agree.size ∙ sym size_after)
        (λ p out h. other p (ne_of p out) ∙ sound.agree.free_in_map p h)
        (λ p out lt h. sound.agree.free_in_pool p (let z = size_after in omega arith) (sym (other p (ne_of p out)) ∙ h));
    used = used_given t.free row' states' states'' page 1 given span (λ p c out h. sound.used p c (sym (other p (ne_of p out)) ∙ h));
  }

-- a map that loses an object, and then nothing more
pub removed_same : (found mid after : ℕ → Option Found) (f : Found) → IsRemoved found mid f → IsSameMap mid after → IsRemoved found after f
removed_same found mid after f gone same = record {
  before = λ w r. same.same w ∙ gone.before w r;
  after = gone.after;
  others = λ w n. gone.others w n ∙ sym (same.same w);
}

-- a cell is freed, and another of its page is allocated still
pub frees_kept : (row : List Bool) (states states' : List PageState) (page cell : ℕ) (b : Cells) → states' ≡ without_cell states page cell → state_at states' page ≡ cut b → (i : ℕ) × IsFirstFrom b.taken 0 i
    → IsRemoved (found_in states) (found_in states') (object_on page (state_at states page) cell) → FreesCell row row states states' page cell
frees_kept row states states' page cell b became is first removed = record { pages = keeps b first.0 is first.1.member refl became; removed = removed }

-- the last cell of a page is freed
pub frees_last : (row row' : List Bool) (states mid states' : List PageState) (page cell : ℕ) (b : Cells) → mid ≡ without_cell states page cell → state_at mid page ≡ cut b → IsEmptyFrom b.taken 0
    → IsRemoved (found_in states) (found_in mid) (object_on page (state_at states page) cell) → IsSpanSet mid states' page (span_of (state_at mid page)) (λ _. free)
    → IsUncut page (state_at mid page) (found_in mid) (found_in states') → IsFilled row row' page 1 true → FreesCell row row' states states' page cell
frees_last row row' states mid states' page cell b became is empty removed span uncut given = record {
  pages = gives given (subst (λ m. IsSpanSet m states' page 1 (λ _. free)) became (subst (λ n. IsSpanSet mid states' page n (λ _. free)) (ap span_of is) span));
  removed = removed_same (found_in states) (found_in mid) (found_in states') (object_on page (state_at states page) cell) removed (same (no_object b.taken empty));
}
  where
    same : HasNoObject b.taken → IsSameMap (found_in mid) (found_in states')
    same = subst (λ st. IsUncut page st (found_in mid) (found_in states')) is uncut

-- a store whose cell was freed
module _ (t : Store) (sound : HasSoundPages t) (page cell : ℕ) (b : Cells) (is : state_at t.states page ≡ cut b) (inside : page < length t.states) (row' : List Bool) (states' : List PageState) where
  pub sound_freed : EmptiesCell t.free row' t.states states' page cell → HasSoundPages (record t { free = row'; states = states' })
  sound_freed (keeps c i at bit row became) =
      let same : c ≡ emptied t sound page cell b is inside states' became = cells_same c _ (sym at ∙ state_after t sound page cell b is inside states' became) in
      subst (λ r. HasSoundPages (record t { free = r; states = states' })) (sym row)
      (sound_kept t sound page cell b is inside states' became i (ap (λ (x : Cells). get_or x.taken i false) (sym same) ∙ bit))
    where
      cells_same : (x y : Cells) → cut x ≡ cut y → x ≡ y
      cells_same x y e = cc
  sound_freed (gives given span) = sound_emptied t sound page cell b is inside (without_cell t.states page cell) refl row' states' given span

  pub size_freed : EmptiesCell t.free row' t.states states' page cell → length states' ≡ length t.states
  size_freed (keeps c i at bit row became) = ap length became ∙ length-set t.states page _
  size_freed (gives given span) = span.size ∙ length-set t.states page _

-- and the store has lost its object
pub loses_cell : (t : Store) (page cell : ℕ) (b : Cells) → state_at t.states page ≡ cut b → page < length t.states → (words' : List ℕ) (v : ℕ) (row' : List Bool) (states' : List PageState) (pending' : List Bool) (f : Found) → f ≡ cell_object page b cell
    → IsLawful t.states → found_in t.states f.base ≡ Some f → words' ≡ with_word_at t.words (object_on page (state_at t.states page) cell).base v → FreesCell t.free row' t.states states' page cell → KeepsPending page t.states states' t.pending pending'
    → Loses t f (record { words = words'; free = row'; states = states'; pending = pending' })
loses_cell t page cell b is inside words' v row' states' pending' f same lawful found written freed keeps_row =
    record { words = subst (KeepsWords (found_in states') t.words) (sym wrote) (written_kept (length t.states) (found_in t.states) (found_in states') t.words v f lawful.map found removed); pages = size freed.pages; removed = removed; row_size = keeps_row.size; rest = λ p ne. keeps_row.rest p (λ e. ne (e ∙ sym (ap (λ (x : Found). x.page) same))); fewer = keeps_row.less; pending = keeps_row.same }
  where
    size : EmptiesCell t.free row' t.states states' page cell → length states' ≡ length t.states
    size (keeps c i at bit row became) = ap length became ∙ length-set t.states page _
    size (gives given span) = span.size ∙ length-set t.states page _

    object : object_on page (state_at t.states page) cell ≡ f
    object = ap (λ st. object_on page st cell) is ∙ sym same

    removed : IsRemoved (found_in t.states) (found_in states') f
    removed = subst (IsRemoved (found_in t.states) (found_in states')) object freed.removed

    wrote : words' ≡ with_word_at t.words f.base v
    wrote = written ∙ ap (λ (x : Found). with_word_at t.words x.base v) object

-- what is on the page of an object that is found
pub on_page : (t : Store) (f : Found) → IsLawful t.states → found_in t.states f.base ≡ Some f → IsObject t.states f
on_page t f lawful is = lawful.object f.base f is

pub in_block : (t : Store) (f : Found) (b : Cells) → IsObject t.states f → state_at t.states f.page ≡ cut b → (f ≡ cell_object f.page b f.cell) × HasCell (state_at t.states f.page) f.cell true
in_block t f b o is =
    let on : IsObjectOn (cut b) f = subst (λ st. IsObjectOn st f) is o.on in
    (on.0, subst (λ st. HasCell st f.cell true) (sym is) (on.1, on.2))

-- and if it isn't a block, the object is a large one
pub in_large : (t : Store) (f : Found) → IsObject t.states f → (IsCut (state_at t.states f.page) → ⊥) → (n : ℕ) × (k : Kind) × (state_at t.states f.page ≡ head n k) × (f ≡ large_object f.page n k)
in_large t f o uncut = by (state_at t.states f.page) refl o.on uncut
  where
    by : (st : PageState) → state_at t.states f.page ≡ st → IsObjectOn st f → (IsCut st → ⊥) → (n : ℕ) × (k : Kind) × (state_at t.states f.page ≡ head n k) × (f ≡ large_object f.page n k)
    by free is on uncut = absurd on
    by (cut b) is on uncut = absurd (uncut tt)
    by (head n k) is on uncut = (n, k, is, on)
    by (body q) is on uncut = absurd on

-- where the large object lies
pub large_here : (t : Store) (f : Found) → IsLawful t.states → found_in t.states f.base ≡ Some f → (IsCut (state_at t.states f.page) → ⊥)
    → (k : Kind) × (state_at t.states f.page ≡ head (f.len / PAGE_WORDS) k) × (0 < f.len / PAGE_WORDS) × (f.page + f.len / PAGE_WORDS ≤ length t.states) × (f ≡ large_object f.page (f.len / PAGE_WORDS) k)
large_here t f lawful is uncut = by (in_large t f (on_page t f lawful is) uncut)
  where
    by : (n : ℕ) × (k : Kind) × (state_at t.states f.page ≡ head n k) × (f ≡ large_object f.page n k)
        → (k : Kind) × (state_at t.states f.page ≡ head (f.len / PAGE_WORDS) k) × (0 < f.len / PAGE_WORDS) × (f.page + f.len / PAGE_WORDS ≤ length t.states) × (f ≡ large_object f.page (f.len / PAGE_WORDS) k)
    by l =
        let base : f.base ≡ FIRST_ADDRESS + PAGE_BYTES * f.page = ap (λ (x : Found). x.base) l.3 in
        let len : f.len ≡ PAGE_WORDS * l.0 = ap (λ (x : Found). x.len) l.3 in
        let n : l.0 ≡ f.len / PAGE_WORDS = omega arith in
        let some = (lawful.map.placed f.base f is).some in
        let ends = (lawful.map.placed f.base f is).below in
        (l.1, l.2 ∙ ap (λ m. head m l.1) n, omega arith, omega arith, l.3 ∙ ap (λ m. large_object f.page m l.1) n)

pub loses_large : (t : Store) (f : Found) (row' : List Bool) (states' : List PageState) (k : Kind) (n : ℕ) → f ≡ large_object f.page n k → IsSpanSet t.states states' f.page n (λ _. free)
    → IsRemoved (found_in t.states) (found_in states') (large_object f.page n k) → Loses t f (record t { free = row'; states = states' })
loses_large t f row' states' k n same span removed = record { words = λ g i now lt. refl; pages = span.size; removed = subst (IsRemoved (found_in t.states) (found_in states')) (sym same) removed; row_size = refl; rest = λ p ne. refl; fewer = λ p h. h; pending = λ w g there. refl }

-- the row of the pages to be swept
pub pending_row : (t t' : Store) (page : ℕ) → IsPendingRow t → length t'.states ≡ length t.states → KeepsPending page t.states t'.states t.pending t'.pending → IsPendingRow t'
pending_row t t' page row size keeps_row = record { size = keeps_row.size ∙ row.size ∙ sym size; cut = keeps_row.cut row.cut }
