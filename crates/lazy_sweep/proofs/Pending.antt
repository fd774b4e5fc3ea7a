-- The row of the pending pages, as a page is entered and left.
use Rattle.std.proofs.Common.{◌≡◌, ℕ, ◌<◌, Bool, true, false, List, length, get_or, set, refl, sym, ap, ◌∙◌, subst, ⊎_elim, length-set, get_or-set_same, get_or-set_other}
use Rattle.std.proofs.lemmas.Bool.{cases_eq, false≢true}
use Rattle.words.specs.Bits.{Has, IsFirstClearFrom, IsFullRow}
use Rattle.words.specs.Classes.{IsSizeClass}
use Rattle.words.specs.declared.class.Kind.{Kind}
use Rattle.blocks.specs.Cells.{Cells}
use Rattle.block_map.specs.States.{PageState, free, cut, head, body, state_at, IsBlockFor, IsCut}
use Rattle.lazy_sweep.specs.AvailableRows.{AreReady, AreWaiting, IsBitSet}
use Rattle.lazy_sweep.specs.Sound.{AreExactRows}
use Rattle.lazy_sweep.specs.declared.table.PageTable.{PageTable}
use Rattle.lazy_sweep.proofs.ExactRows.{ready_full, ready_pending, ready_swept, waiting_pending, waiting_swept}

-- the block of a page that is cut for a class and a kind
pub block_of : (st : PageState) (class : ℕ) (kind : Kind) → IsBlockFor st class kind → (b : Cells) × (st ≡ cut b) × (class ≡ b.class) × (kind ≡ b.kind)
block_of free class kind is = absurd is
block_of (cut b) class kind is = (b, refl, sym is.0, sym is.1)
block_of (head n k) class kind is = absurd is
block_of (body first) class kind is = absurd is

-- one page of the row changes: a page that is cut begins to wait, or one waits no more
cut_entered : (states : List PageState) (row : List Bool) (page : ℕ) → ((p : ℕ) → Has row p → IsCut (state_at states p)) → IsCut (state_at states page) → (p : ℕ) → Has (set row page true) p → IsCut (state_at states p)
cut_entered states row page cuts is p h = ⊎_elim
    (λ (e : p ≡ page). subst (λ x. IsCut (state_at states x)) (sym e) is)
    (λ ne. cuts p (sym (get_or-set_other row page p true false ne) ∙ h))
    (cases_eq p page)

cut_left : (states : List PageState) (row : List Bool) (page : ℕ) → ((p : ℕ) → Has row p → IsCut (state_at states p)) → page < length row → (p : ℕ) → Has (set row page false) p → IsCut (state_at states p)
cut_left states row page cuts inside p h = ⊎_elim
    (λ (e : p ≡ page). absurd (false≢true (sym (get_or-set_same row page false false inside) ∙ subst (λ x. get_or (set row page false) x false ≡ true) e h)))
    (λ ne. cuts p (sym (get_or-set_other row page p false false ne) ∙ h))
    (cases_eq p page)

-- a page of this block begins to wait for a sweep, or needs none any more
module _ (t : PageTable) (ready waiting : List (List Bool)) (pending : List Bool) (class : ℕ) (kind : Kind) (page : ℕ) (b : Cells)
    (is : state_at t.map page ≡ cut b) (of_class : class ≡ b.class) (of_kind : kind ≡ b.kind) (inside : page < length t.pending) (rows : AreExactRows t) where
  abbrev pub after : PageTable
  after = record t { ready = ready; waiting = waiting; pending = pending }

  pub rows_pending : pending ≡ set t.pending page true → IsBitSet t.ready ready class kind page false → IsBitSet t.waiting waiting class kind page true → AreExactRows after
  rows_pending row left entered = record {
    exact = subst (AreReady ready t.map) (sym row) (ready_pending t.ready ready t.waiting waiting t.map t.pending class kind page b is of_class of_kind inside rows.exact left);
    awaited = subst (AreWaiting waiting t.map) (sym row) (waiting_pending t.ready ready t.waiting waiting t.map t.pending class kind page b is of_class of_kind inside rows.awaited entered);
    size = ap length row ∙ length-set t.pending page true ∙ rows.size;
    cut = λ p h. cut_entered t.map t.pending page rows.cut (subst IsCut (sym is) tt) p (subst (λ r. Has r p) row h);
  }

  left_row : pending ≡ set t.pending page false → AreReady ready t.map (set t.pending page false) → IsBitSet t.waiting waiting class kind page false → AreExactRows after
  left_row row exact left = record {
    exact = subst (AreReady ready t.map) (sym row) exact;
    awaited = subst (AreWaiting waiting t.map) (sym row) (waiting_swept t.ready ready t.waiting waiting t.map t.pending class kind page b is of_class of_kind inside rows.awaited left);
    size = ap length row ∙ length-set t.pending page false ∙ rows.size;
    cut = λ p h. cut_left t.map t.pending page rows.cut inside p (subst (λ r. Has r p) row h);
  }

  pub rows_swept : pending ≡ set t.pending page false → IsBitSet t.ready ready class kind page true → IsBitSet t.waiting waiting class kind page false → (i : ℕ) × IsFirstClearFrom b.taken 0 i → AreExactRows after
  rows_swept row entered left cell = left_row row (ready_swept t.ready ready t.waiting waiting t.map t.pending class kind page b is of_class of_kind inside rows.exact entered cell) left

  pub rows_full : ready ≡ t.ready → pending ≡ set t.pending page false → IsBitSet t.waiting waiting class kind page false → IsSizeClass class → IsFullRow b.taken → AreExactRows after
  rows_full same row left is_class full = left_row row (subst (λ r. AreReady r t.map (set t.pending page false)) (sym same) (ready_full t.ready t.ready t.waiting waiting t.map t.pending class kind page b is of_class of_kind inside is_class rows.exact full)) left
