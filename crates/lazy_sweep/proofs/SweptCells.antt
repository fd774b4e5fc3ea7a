-- A pending page whose cells are swept.
use Rattle.std.proofs.Common.{◌≡◌, ℕ, ◌+◌, ◌<◌, ◌≤◌, ◌⊎◌, Bool, true, false, List, length, get_or, set, sym, ap, ◌∙◌, subst, ⊎_elim, arith, length-set, get_or-set_other}
use Rattle.std.specs.Prelude.{◌≢◌}
use Rattle.std.proofs.lemmas.Bool.{cases_eq}
use Rattle.words.specs.declared.class.Kind.{Kind}
use Rattle.words.specs.Bits.{Has}
use Rattle.pages.specs.Memory.{word_at}
use Rattle.pages.specs.Runs.{IsFilled}
use Rattle.blocks.specs.Cells.{Cells}
use Rattle.block_map.specs.Changes.{IsSameMap}
use Rattle.block_map.specs.FoundIn.{found_in}
use Rattle.block_map.specs.States.{PageState, free, cut, state_at, IsBlockFor, IsCut, IsSpanSet}
use Rattle.block_map.specs.Sweeps.{SweepsObjects}
use Rattle.marker.specs.Marking.{word_address}
use Rattle.lazy_sweep.specs.AvailableRows.{IsAvailable, AreReady, AreWaiting}
use Rattle.lazy_sweep.specs.Sound.{AreExactRows}
use Rattle.lazy_sweep.specs.declared.table.PageTable.{PageTable}
use Rattle.lazy_sweep.specs.Store.{Store, Agree, HasObjects}
use Rattle.lazy_sweep.specs.Sweeps.{SweepsPage}
use Rattle.lazy_sweep.proofs.GivenPages.{agree_given, used_given}
use Rattle.lazy_sweep.proofs.Lying.{free_cut, same_block}

-- the page is a block of the same class and kind as before
module _ (states mid : List PageState) (page : ℕ) (a b : Cells) (was : state_at states page ≡ cut a) (is : state_at mid page ≡ cut b) (became : mid ≡ set states page (state_at mid page)) where
  pub size_swept : length mid ≡ length states
  size_swept = ap length became ∙ length-set states page _

  other : (p : ℕ) → p ≢ page → state_at mid p ≡ state_at states p
  other p ne = ap (λ x. state_at x p) became ∙ get_or-set_other states page p _ free ne

  ready_cells : (rows : List (List Bool)) (row : List Bool) → Has row page → AreReady rows states row → AreReady rows mid row
  ready_cells rows row pending exact = record {
    long = λ c k is. exact.long c k is ∙ sym size_swept;
    entered = λ c k p is has. exact.entered c k p is (subst (λ st. IsAvailable st c k) (other p (away p has.1)) has.0, has.1);
    only = λ c k p is bit. let has = exact.only c k p is bit in (subst (λ st. IsAvailable st c k) (sym (other p (away p has.1))) has.0, has.1);
  }
    where
      away : (p : ℕ) → (Has row p → ⊥) → p ≢ page
      away p not e = not (subst (Has row) (sym e) pending)

  pub waiting_cells : (rows : List (List Bool)) (row : List Bool) → b.class ≡ a.class → b.kind ≡ a.kind → AreWaiting rows states row → AreWaiting rows mid row
  waiting_cells rows row class kind exact = record {
    long = λ c k is. exact.long c k is ∙ sym size_swept;
    entered = λ c k p is has. exact.entered c k p is (back p c k has.0, has.1);
    only = λ c k p is bit. let has = exact.only c k p is bit in (onto p c k has.0, has.1);
  }
    where
      onto : (p c : ℕ) (k : Kind) → IsBlockFor (state_at states p) c k → IsBlockFor (state_at mid p) c k
      onto p c k has = ⊎_elim
          (λ (e : p ≡ page).
          let own : IsBlockFor (cut a) c k = subst (λ st. IsBlockFor st c k) (ap (state_at states) e ∙ was) has in
          subst (λ st. IsBlockFor st c k) (sym (ap (state_at mid) e ∙ is)) (class ∙ own.0, kind ∙ own.1))
          (λ ne. subst (λ st. IsBlockFor st c k) (sym (other p ne)) has)
          (cases_eq p page)

      back : (p c : ℕ) (k : Kind) → IsBlockFor (state_at mid p) c k → IsBlockFor (state_at states p) c k
      back p c k has = ⊎_elim
          (λ (e : p ≡ page).
          let own : IsBlockFor (cut b) c k = subst (λ st. IsBlockFor st c k) (ap (state_at mid) e ∙ is) has in
          subst (λ st. IsBlockFor st c k) (sym (ap (state_at states) e ∙ was)) (sym class ∙ own.0, sym kind ∙ own.1))
          (λ ne. subst (λ st. IsBlockFor st c k) (other p ne) has)
          (cases_eq p page)

  pub cut_cells : (p : ℕ) → IsCut (state_at states p) → IsCut (state_at mid p)
  cut_cells p has = ⊎_elim
      (λ (e : p ≡ page). subst IsCut (sym (ap (state_at mid) e ∙ is)) tt)
      (λ ne. subst IsCut (sym (other p ne)) has)
      (cases_eq p page)

  pub rows_cells : (t : PageTable) → t.map ≡ states → Has t.pending page → b.class ≡ a.class → b.kind ≡ a.kind → AreExactRows t → AreExactRows (record t { map = mid })
  rows_cells t at pending class kind rows = record {
    exact = ready_cells t.ready t.pending pending (subst (λ x. AreReady t.ready x t.pending) at rows.exact);
    awaited = waiting_cells t.waiting t.pending class kind (subst (λ x. AreWaiting t.waiting x t.pending) at rows.awaited);
    size = rows.size ∙ ap length at ∙ sym size_swept;
    cut = λ p h. cut_cells p (subst (λ (x : List PageState). IsCut (state_at x p)) at (rows.cut p h));
  }

  pub agree_cells : (row : List Bool) → Agree row states → Agree row mid
  agree_cells row agree = record {
    size = agree.size ∙ sym size_swept;
    free_in_map = λ p h. ⊎_elim
        (λ (e : p ≡ page). absurd (free_cut a (sym (agree.free_in_map p h) ∙ ap (state_at states) e ∙ was)))
        (λ ne. other p ne ∙ agree.free_in_map p h)
        (cases_eq p page);
    free_in_pool = λ p lt h. ⊎_elim
        (λ (e : p ≡ page). absurd (free_cut b (sym h ∙ ap (state_at mid) e ∙ is)))
        (λ ne. agree.free_in_pool p (let z = size_swept in omega arith) (sym (other p ne) ∙ h))
        (cases_eq p page);
  }

  pub used_cells : HasObjects states → (i : ℕ) → get_or b.taken i false ≡ true → HasObjects mid
  used_cells used i bit p c h = ⊎_elim
      (λ (e : p ≡ page). (i, ap (λ (x : Cells). get_or x.taken i false) (same_block c b (sym h ∙ ap (state_at mid) e ∙ is)) ∙ bit))
      (λ ne. used p c (sym (other p ne) ∙ h))
      (cases_eq p page)

  -- and then free
  module _ (row row' : List Bool) (states' : List PageState) (sound : Agree row states) (given : IsFilled row row' page 1 true) (span : IsSpanSet mid states' page 1 (λ _. free)) where
    ne_of : (p : ℕ) → (p < page) ⊎ (page + 1 ≤ p) → p ≢ page
    ne_of p out = ⊎_elim (λ lt (h : p ≡ page). omega arith) (λ ge (h : p ≡ page). omega arith) out

    pub agree_gone : Agree row' states'
    agree_gone = agree_given row row' mid states' page 1 given span (sound.size ∙ sym size_swept)
        (λ p out h. other p (ne_of p out) ∙ sound.free_in_map p h)
        (λ p out lt h. sound.free_in_pool p (let z = size_swept in omega arith) (sym (other p (ne_of p out)) ∙ h))

    pub used_gone : HasObjects states → HasObjects states'
    used_gone used = used_given row row' mid states' page 1 given span (λ p c out h. used p c (sym (other p (ne_of p out)) ∙ h))

-- what it is to the store, whose map has the objects that are left and none more
pub sweeps_cells : (old new : Store) (marks : List Bool) (page : ℕ) (mid : List PageState) → SweepsObjects (found_in old.states) (found_in mid) marks page → IsSameMap (found_in mid) (found_in new.states)
    → new.words ≡ old.words → length new.states ≡ length old.states → new.pending ≡ set old.pending page false → SweepsPage old marks page new
sweeps_cells old new marks page mid objects same words size pending = record {
  words = λ f i there lt. ap (λ ws. word_at ws (word_address f i)) words;
  pages = size;
  pending = pending;
  others = λ w f there ne. same.same w ∙ objects.others w f there ne;
  marked = λ w f there on has. same.same w ∙ objects.marked w f there on has;
  only = λ w f there. objects.only w f (sym (same.same w) ∙ there);
}
