-- The free cells of a page become a list, which no object is told of.
use Rattle.std.proofs.Common.{◌≡◌, ◌≢◌, ℕ, ◌*◌, ◌<◌, Bool, List, None, Some, length, set, refl, sym, ap, ◌∙◌, subst, ⊎_elim, arith, get_or-set_other}
use Rattle.std.proofs.lemmas.Bool.{cases_eq}
use Rattle.words.specs.declared.class.Kind.{Kind}
use Rattle.pages.specs.Memory.{word_index}
use Rattle.blocks.specs.Cells.{Cells}
use Rattle.blocks.specs.Lists.{cell_start, ChangesFree, IsFreeCellOf}
use Rattle.block_map.specs.Changes.{IsSameMap}
use Rattle.block_map.specs.FoundIn.{found_in, IsLawful}
use Rattle.block_map.specs.Listed.{first_on, with_first, AreListed, ChangesFreeOn}
use Rattle.block_map.specs.States.{PageState, free, cut, head, body, state_at, IsLaid}
use Rattle.block_map.specs.declared.found.Found.{Found}
use Rattle.block_map.proofs.Unread.{cell_unread}
use Rattle.marker.specs.Marking.{word_address}
use Rattle.marker.specs.Mutations.{KeepsWords}
use Rattle.lazy_sweep.specs.AvailableRows.{IsAvailable}
use Rattle.object_space.specs.Kept.{is_kept}
use Rattle.lazy_sweep.specs.Kept.{keep_if}
use Rattle.object_space.specs.Store.{Store, IsWholeSpace}
use Rattle.object_space.specs.Sweeps.{Sweeps}
use Rattle.object_space.proofs.Pending.{pending_cut}
use Rattle.lazy_sweep.proofs.SweptCells.{agree_cells, cut_cells, size_swept, used_cells, waiting_cells}

-- what a page offers does not hang on its list
pub offers_still : (st : PageState) (n class : ℕ) (kind : Kind) → IsAvailable st class kind → IsAvailable (with_first st n) class kind
offers_still free n class kind has = absurd has
offers_still (cut b) n class kind has = record { of_class = has.of_class; of_kind = has.of_kind; cell = has.cell; in_row = has.in_row; is_free = has.is_free }
offers_still (head m k) n class kind has = absurd has
offers_still (body q) n class kind has = absurd has

pub offers_before : (st : PageState) (n class : ℕ) (kind : Kind) → IsAvailable (with_first st n) class kind → IsAvailable st class kind
offers_before free n class kind has = absurd has
offers_before (cut b) n class kind has = record { of_class = has.of_class; of_kind = has.of_kind; cell = has.cell; in_row = has.in_row; is_free = has.is_free }
offers_before (head m k) n class kind has = absurd has
offers_before (body q) n class kind has = absurd has

pub offers_linked : (st now : PageState) (class : ℕ) (kind : Kind) → IsAvailable st class kind → now ≡ with_first st (first_on now) → IsAvailable now class kind
offers_linked st now class kind has is = subst (λ x. IsAvailable x class kind) (sym is) (offers_still st (first_on now) class kind has)

pub record IsABlock (st : PageState) : Type 0 where
  pub block : Cells
  pub is : st ≡ cut block

pub available_is : (st : PageState) (class : ℕ) (kind : Kind) → IsAvailable st class kind → IsABlock st
available_is free class kind has = absurd has
available_is (cut b) class kind has = record { block = b; is = refl }
available_is (head m k) class kind has = absurd has
available_is (body q) class kind has = absurd has

module _ (t : Store) (states' : List PageState) (words' : List ℕ) (page : ℕ) (laid : IsLaid t.states) (inside : page < length t.states) (x : IsABlock (state_at t.states page))
    (became : states' ≡ set t.states page (state_at states' page)) (first : state_at states' page ≡ with_first (state_at t.states page) (first_on (state_at states' page))) where
  abbrev pub linked : Cells
  linked = record x.block { first = first_on (state_at states' page) }

  now : state_at states' page ≡ cut linked
  now = first ∙ ap (λ st. with_first st (first_on (state_at states' page))) x.is

  others : (p : ℕ) → p ≢ page → state_at states' p ≡ state_at t.states p
  others p ne = ap (λ s. state_at s p) became ∙ get_or-set_other t.states page p (state_at states' page) free ne

  pub linked_size : length states' ≡ length t.states
  linked_size = size_swept t.states states' page x.block linked x.is now became

  onto : (p class : ℕ) (kind : Kind) → IsAvailable (state_at t.states p) class kind → IsAvailable (state_at states' p) class kind
  onto p class kind has = ⊎_elim
      (λ (e : p ≡ page). subst (λ q. IsAvailable (state_at states' q) class kind) (sym e) (subst (λ st. IsAvailable st class kind) (sym first) (offers_still (state_at t.states page) (first_on (state_at states' page)) class kind (subst (λ q. IsAvailable (state_at t.states q) class kind) e has))))
      (λ ne. subst (λ st. IsAvailable st class kind) (sym (others p ne)) has)
      (cases_eq p page)

  back : (p class : ℕ) (kind : Kind) → IsAvailable (state_at states' p) class kind → IsAvailable (state_at t.states p) class kind
  back p class kind has = ⊎_elim
      (λ (e : p ≡ page). subst (λ q. IsAvailable (state_at t.states q) class kind) (sym e) (offers_before (state_at t.states page) (first_on (state_at states' page)) class kind (subst (λ st. IsAvailable st class kind) first (subst (λ q. IsAvailable (state_at states' q) class kind) e has))))
      (λ ne. subst (λ st. IsAvailable st class kind) (others p ne) has)
      (cases_eq p page)

  -- the store is whole as before
  pub whole_linked : (ready waiting : List (List Bool)) → IsWholeSpace t ready waiting → AreListed words' states' → IsWholeSpace (record t { words = words'; states = states' }) ready waiting
  whole_linked ready waiting whole listed = record {
    sound = record {
      agree = agree_cells t.states states' page x.block linked x.is now became t.free whole.sound.agree;
      used = let u = whole.sound.used page x.block x.is in used_cells t.states states' page x.block linked x.is now became whole.sound.used u.0 u.1;
    };
    listed = listed;
    exact = record {
      long = λ c k is. whole.exact.long c k is ∙ sym linked_size;
      entered = λ c k p is has. whole.exact.entered c k p is (back p c k has.0, has.1);
      only = λ c k p is bit. let has = whole.exact.only c k p is bit in (onto p c k has.0, has.1);
    };
    awaited = waiting_cells t.states states' page x.block linked x.is now became waiting t.pending refl refl whole.awaited;
    pending = pending_cut t (record t { words = words'; states = states' }) whole.pending refl linked_size (cut_cells t.states states' page x.block linked x.is now became);
  }

  -- no object has a word that changed
  words_kept : IsLawful t.states → ChangesFreeOn t.words words' page (state_at t.states page) → KeepsWords (found_in t.states) t.words words'
  words_kept lawful changes f i there lt = of_block.others (word_index (word_address f i)) (λ k is_free same. absurd (no f
      (sym (cell_unread t.states page k x.block laid inside x.is is_free) ∙ at k is_free same)))
    where
      of_block : ChangesFree t.words words' page x.block.class x.block.taken
      of_block = subst (ChangesFreeOn t.words words' page) x.is changes

      no : (g : Found) → None ≡ Some g → ⊥
      no g e = cc

      at : (k : ℕ) → IsFreeCellOf x.block.taken k → word_index (word_address f i) ≡ word_index (cell_start page x.block.class k) → found_in t.states (cell_start page x.block.class k) ≡ Some f
      at k is_free same =
          let a = (lawful.map.placed f.base f there).aligned in let b = (lawful.map.placed f.base f there).above in
          let e : k * (8 * x.block.class) ≡ 8 * (k * x.block.class) = omega arith in
          lawful.map.whole f.base (cell_start page x.block.class k) f there (record { from = omega arith; below = omega arith })

  pub sweeps_linked : IsLawful t.states → IsSameMap (found_in t.states) (found_in states') → ChangesFreeOn t.words words' page (state_at t.states page) → (marks : List Bool) → Sweeps t marks (record t { words = words'; states = states' })
  sweeps_linked lawful same changes marks = record {
    before = lawful.map;
    words = λ f i there lt. words_kept lawful changes f i (sym (same.same f.base) ∙ there) lt;
    pages = linked_size;
    same = record { same = λ w. ap (keep_if (is_kept t.pending marks)) (same.same w) };
    less = record { before = λ w f there. sym (same.same w) ∙ there };
    waiting = λ w f is h. same.same w ∙ is;
    fewer = λ p h. h;
    number = omega arith;
  }
