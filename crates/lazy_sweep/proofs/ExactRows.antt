-- The rows of pages with a free cell stay exact while pages change.
use Rattle.std.proofs.Common.{◌≡◌, ℕ, ◌<◌, ◌⊎◌, Bool, true, false, List, length, get_or, set, refl, sym, ◌∙◌, subst, arith, inl, inr, ⊎_elim, get_or-set_same, get_or-set_other}
use Rattle.std.specs.Prelude.{◌≢◌, IfNone, Option, None, Some}
use Rattle.std.proofs.lemmas.Bool.{cases_eq, true≢false}
use Rattle.words.specs.Bits.{Has, IsEmptyFrom, IsFirstClearFrom, IsFullRow}
use Rattle.words.specs.declared.class.Kind.{Kind}
use Rattle.words.specs.declared.class.Kind.TheVariants.{Normal, PointerFree}
use Rattle.words.specs.Classes.{IsSizeClass}
use Rattle.blocks.specs.Cells.{Cells}
use Rattle.block_map.specs.States.{PageState, free, cut, state_at, IsBlockFor}
use Rattle.lazy_sweep.specs.AvailableRows.{row_of, HasFreeCell, IsAvailable, IsReadyPage, IsWaitingPage, IsExact, AreReady, AreWaiting, IsBitSet, IsFreeCell, HasNoFreeCell}

kind_cases : (k l : Kind) → (k ≡ l) ⊎ (k ≢ l)
kind_cases Normal Normal = inl refl
kind_cases Normal PointerFree = inr (λ e. cc)
kind_cases PointerFree Normal = inr (λ e. cc)
kind_cases PointerFree PointerFree = inl refl

at_same : (P : ℕ → Kind → ℕ → Type 0) (c class : ℕ) (k kind : Kind) (p page : ℕ) → c ≡ class → k ≡ kind → p ≡ page → P class kind page → P c k p
at_same P c class k kind p page x y z h = subst (λ q. P c k q) (sym z) (subst (λ l. P c l page) (sym y) (subst (λ d. P d kind page) (sym x) h))

-- a state opens a page for no other class or kind
abbrev pub OffersOnly : PageState → ℕ → Kind → Type 0
OffersOnly st class kind = (c : ℕ) (k : Kind) → IsAvailable st c k → (c ≡ class) × (k ≡ kind)

pub cut_offers : (b : Cells) → OffersOnly (cut b) b.class b.kind
cut_offers b c k has = (sym has.of_class, sym has.of_kind)

pub free_offers : (class : ℕ) (kind : Kind) → OffersOnly free class kind
free_offers class kind c k has = absurd has

-- and a state is a block for no other
abbrev pub BlockOnly : PageState → ℕ → Kind → Type 0
BlockOnly st class kind = (c : ℕ) (k : Kind) → IsBlockFor st c k → (c ≡ class) × (k ≡ kind)

pub cut_block : (b : Cells) → BlockOnly (cut b) b.class b.kind
cut_block b c k has = (sym has.0, sym has.1)

pub free_block : (class : ℕ) (kind : Kind) → BlockOnly free class kind
free_block class kind c k has = absurd has

-- one page changes, and its bit with it
module _ (rows rows' : List (List Bool)) (n n' : ℕ) (holds holds' : ℕ → ℕ → Kind → Type 0) (class : ℕ) (kind : Kind) (page : ℕ) (b : Bool)
    (exact : IsExact rows n holds) (bit_is : IsBitSet rows rows' class kind page b) (size : n' ≡ n)
    (others : (p c : ℕ) (k : Kind) → p ≢ page → holds p c k → holds' p c k) (back : (p c : ℕ) (k : Kind) → p ≢ page → holds' p c k → holds p c k)
    (before : (c : ℕ) (k : Kind) → holds page c k → (c ≡ class) × (k ≡ kind)) (after : (c : ℕ) (k : Kind) → holds' page c k → (c ≡ class) × (k ≡ kind))
    (to : b ≡ true → holds' page class kind) (from : holds' page class kind → b ≡ true) where
  here_entered : (c : ℕ) (k : Kind) (p : ℕ) → p ≡ page → holds' p c k → get_or (row_of rows' c k) p false ≡ true
  here_entered c k p e has =
      let one = after c k (subst (λ q. holds' q c k) e has) in
      let own : holds' page class kind = at_same (λ d l q. holds' q d l) class c kind k page p (sym one.0) (sym one.1) (sym e) has in
      at_same (λ d l q. get_or (row_of rows' d l) q false ≡ true) c class k kind p page one.0 one.1 e (bit_is.here ∙ from own)

  here_only : (c : ℕ) (k : Kind) (p : ℕ) → IsSizeClass c → p ≡ page → get_or (row_of rows' c k) p false ≡ true → holds' p c k
  here_only c k p is e bit = ⊎_elim (λ x. ⊎_elim (own x) (λ y. absurd (apart (λ _ z. y z))) (kind_cases k kind)) (λ x. absurd (apart (λ z _. x z))) (cases_eq c class)
    where
      own : c ≡ class → k ≡ kind → holds' p c k
      own x y =
          let set_here : get_or (row_of rows' class kind) page false ≡ true = at_same (λ d l q. get_or (row_of rows' d l) q false ≡ true) class c kind k page p (sym x) (sym y) (sym e) bit in
          at_same (λ d l q. holds' q d l) c class k kind p page x y e (to (sym bit_is.here ∙ set_here))

      apart : (c ≡ class → k ≡ kind → ⊥) → ⊥
      apart ne =
          let was = exact.only c k p is (sym (bit_is.others c k p is (λ x y z. ne x y)) ∙ bit) in
          let one = before c k (subst (λ q. holds q c k) e was) in ne one.0 one.1

  pub exact_changed : IsExact rows' n' holds'
  exact_changed = record {
    long = λ c k is. bit_is.long c k is ∙ exact.long c k is ∙ sym size;
    entered = λ c k p is has. ⊎_elim
        (λ e. here_entered c k p e has)
        (λ ne. bit_is.others c k p is (λ x y z. ne z) ∙ exact.entered c k p is (back p c k ne has))
        (cases_eq p page);
    only = λ c k p is bit. ⊎_elim
        (λ e. here_only c k p is e bit)
        (λ ne. others p c k ne (exact.only c k p is (sym (bit_is.others c k p is (λ x y z. ne z)) ∙ bit)))
        (cases_eq p page);
  }

-- nothing changes for the rows
pub exact_same : (rows : List (List Bool)) (n n' : ℕ) (holds holds' : ℕ → ℕ → Kind → Type 0) → IsExact rows n holds → n' ≡ n → ((p c : ℕ) (k : Kind) → holds p c k → holds' p c k)
    → ((p c : ℕ) (k : Kind) → holds' p c k → holds p c k) → IsExact rows n' holds'
exact_same rows n n' holds holds' exact size to from = record {
  long = λ c k is. exact.long c k is ∙ sym size;
  entered = λ c k p is has. exact.entered c k p is (from p c k has);
  only = λ c k p is bit. to p c k (exact.only c k p is bit);
}

-- the rows as they were, where the bit was b already
pub same_bit : (rows : List (List Bool)) (class : ℕ) (kind : Kind) (page : ℕ) (b : Bool) → get_or (row_of rows class kind) page false ≡ b → IsBitSet rows rows class kind page b
same_bit rows class kind page b is = record { long = λ c k _. refl; here = is; others = λ c k p _ _. refl }

-- one page changes, and the rows of the pages that are ready, or that wait, with it
module _ (rows rows' : List (List Bool)) (states states' : List PageState) (row row' : List Bool) (class : ℕ) (kind : Kind) (page : ℕ) (b : Bool)
    (bit_is : IsBitSet rows rows' class kind page b) (size : length states' ≡ length states)
    (others : (p : ℕ) → p ≢ page → state_at states' p ≡ state_at states p) (rest : (p : ℕ) → p ≢ page → get_or row' p false ≡ get_or row p false) where
  pub ready_changed : AreReady rows states row → OffersOnly (state_at states page) class kind → OffersOnly (state_at states' page) class kind
      → (b ≡ true → IsReadyPage states' row' page class kind) → (IsReadyPage states' row' page class kind → b ≡ true) → AreReady rows' states' row'
  ready_changed exact before after to from = exact_changed rows rows' (length states) (length states') (IsReadyPage states row) (IsReadyPage states' row') class kind page b exact bit_is size
      (λ p c k ne has. (subst (λ st. IsAvailable st c k) (sym (others p ne)) has.0, λ h. has.1 (sym (rest p ne) ∙ h)))
      (λ p c k ne has. (subst (λ st. IsAvailable st c k) (others p ne) has.0, λ h. has.1 (rest p ne ∙ h)))
      (λ c k has. before c k has.0)
      (λ c k has. after c k has.0)
      to from

  pub waiting_changed : AreWaiting rows states row → BlockOnly (state_at states page) class kind → BlockOnly (state_at states' page) class kind
      → (b ≡ true → IsWaitingPage states' row' page class kind) → (IsWaitingPage states' row' page class kind → b ≡ true) → AreWaiting rows' states' row'
  waiting_changed exact before after to from = exact_changed rows rows' (length states) (length states') (IsWaitingPage states row) (IsWaitingPage states' row') class kind page b exact bit_is size
      (λ p c k ne has. (subst (λ st. IsBlockFor st c k) (sym (others p ne)) has.0, rest p ne ∙ has.1))
      (λ p c k ne has. (subst (λ st. IsBlockFor st c k) (others p ne) has.0, sym (rest p ne) ∙ has.1))
      (λ c k has. before c k has.0)
      (λ c k has. after c k has.0)
      to from

-- a page begins to wait for a sweep
module _ (ready ready' waiting waiting' : List (List Bool)) (states : List PageState) (row : List Bool) (class : ℕ) (kind : Kind) (page : ℕ) (b : Cells)
    (is : state_at states page ≡ cut b) (of_class : class ≡ b.class) (of_kind : kind ≡ b.kind) (inside : page < length row) where
  is_block : IsBlockFor (state_at states page) class kind
  is_block = subst (λ st. IsBlockFor st class kind) (sym is) (sym of_class, sym of_kind)

  only_block : BlockOnly (state_at states page) class kind
  only_block = subst (λ st. BlockOnly st class kind) (sym is) (λ c k has. (sym has.0 ∙ sym of_class, sym has.1 ∙ sym of_kind))

  only_offers : OffersOnly (state_at states page) class kind
  only_offers = subst (λ st. OffersOnly st class kind) (sym is) (λ c k has. (sym has.of_class ∙ sym of_class, sym has.of_kind ∙ sym of_kind))

  pub ready_pending : AreReady ready states row → IsBitSet ready ready' class kind page false → AreReady ready' states (set row page true)
  ready_pending exact bit_is = ready_changed ready ready' states states row (set row page true) class kind page false bit_is refl (λ p ne. refl) (λ p ne. get_or-set_other row page p true false ne) exact only_offers only_offers
      (λ e. absurd (true≢false (sym e)))
      (λ has. absurd (has.1 (get_or-set_same row page true false inside)))

  pub waiting_pending : AreWaiting waiting states row → IsBitSet waiting waiting' class kind page true → AreWaiting waiting' states (set row page true)
  waiting_pending exact bit_is = waiting_changed waiting waiting' states states row (set row page true) class kind page true bit_is refl (λ p ne. refl) (λ p ne. get_or-set_other row page p true false ne) exact only_block only_block
      (λ _. (is_block, get_or-set_same row page true false inside))
      (λ _. refl)

  not_pending : Has (set row page false) page → ⊥
  not_pending h = true≢false (sym h ∙ get_or-set_same row page false false inside)

  -- and does no more
  pub waiting_swept : AreWaiting waiting states row → IsBitSet waiting waiting' class kind page false → AreWaiting waiting' states (set row page false)
  waiting_swept exact bit_is = waiting_changed waiting waiting' states states row (set row page false) class kind page false bit_is refl (λ p ne. refl) (λ p ne. get_or-set_other row page p false false ne) exact only_block only_block
      (λ e. absurd (true≢false (sym e)))
      (λ has. absurd (not_pending has.1))

  pub ready_swept : AreReady ready states row → IsBitSet ready ready' class kind page true → (i : ℕ) × IsFirstClearFrom b.taken 0 i → AreReady ready' states (set row page false)
  ready_swept exact bit_is cell = ready_changed ready ready' states states row (set row page false) class kind page true bit_is refl (λ p ne. refl) (λ p ne. get_or-set_other row page p false false ne) exact only_offers only_offers
      (λ _. (subst (λ st. IsAvailable st class kind) (sym is) (record { of_class = sym of_class; of_kind = sym of_kind; cell = cell.0; in_row = cell.1.inside; is_free = cell.1.clear }), not_pending))
      (λ _. refl)

  pub ready_full : IsSizeClass class → AreReady ready states row → IsFullRow b.taken → AreReady ready states (set row page false)
  ready_full is_class exact full = ready_changed ready ready states states row (set row page false) class kind page false (same_bit ready class kind page false clear) refl (λ p ne. refl) (λ p ne. get_or-set_other row page p false false ne) exact only_offers only_offers
      (λ e. absurd (true≢false (sym e)))
      (λ has. absurd (none has.0))
    where
      none : IsAvailable (state_at states page) class kind → ⊥
      none has = let own : HasFreeCell b class kind = subst (λ st. IsAvailable st class kind) is has in true≢false (sym (full own.cell own.in_row) ∙ own.is_free)

      clear : get_or (row_of ready class kind) page false ≡ false
      clear = by (get_or (row_of ready class kind) page false) refl
        where
          by : (x : Bool) → get_or (row_of ready class kind) page false ≡ x → get_or (row_of ready class kind) page false ≡ false
          by false e = e
          by true e = absurd (none (exact.only class kind page is_class e).0)

-- the search of a free cell
pub free_cell_offers : (states : List PageState) (class : ℕ) (kind : Kind) (page cell : ℕ) → IsFreeCell states class kind page cell → IsAvailable (state_at states page) class kind
free_cell_offers states class kind page cell at =
    subst (λ st. IsAvailable st class kind) (sym at.is_cut) (record { of_class = at.of_class; of_kind = at.of_kind; cell = cell; in_row = at.in_row; is_free = at.is_free })

-- no page is ready, and none waits that is cut for the class and the kind
pub none_available : (rows : List (List Bool)) (states : List PageState) (row : List Bool) (class : ℕ) (kind : Kind) → AreReady rows states row → IsSizeClass class → IsEmptyFrom (row_of rows class kind) 0
    → ((p : ℕ) → Has row p → IsBlockFor (state_at states p) class kind → ⊥) → HasNoFreeCell states class kind
none_available rows states row class kind exact is empty unawaited page cell at =
    let long = exact.long class kind is in let inside = at.inside in
    true≢false (sym (exact.entered class kind page is (free_cell_offers states class kind page cell at, unpending)) ∙ empty page (omega arith) (omega arith))
  where
    unpending : Has row page → ⊥
    unpending h = unawaited page h (subst (λ st. IsBlockFor st class kind) (sym at.is_cut) (at.of_class, at.of_kind))

pub if_none_map : {A : Type 0} {P Q : Type 0} (o : Option A) → (P → Q) → IfNone o P → IfNone o Q
if_none_map None f p = f p
if_none_map (Some x) f p = tt
