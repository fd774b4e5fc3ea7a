-- The object with a base, from what stands on the base's page.
use Rattle.std.proofs.Common.{◌≡◌, ℕ, ◌+◌, ◌*◌, ◌/◌, ◌%◌, ◌<◌, ◌≤◌, true, false, List, length, get_or, Option, None, Some, refl, sym, ap, ◌∙◌, subst, arith}
use Rattle.std.specs.Prelude.{IfSome}
use Rattle.std.proofs.lemmas.Option.{same_Some}
use Rattle.words.specs.declared.class.Kind.{Kind}
use Rattle.words.specs.declared.limits.TheConstants.{FIRST_ADDRESS, GRANULE_BYTES, PAGE_BYTES, PAGE_WORDS}
use Rattle.words.specs.Layout.{page_of, page_start, IsOnPage}
use Rattle.words.proofs.Addresses.{on_its_page}
use Rattle.words.proofs.Classes.{class_even}
use Rattle.blocks.specs.Cells.{Cells, IsCells, IsInCell}
use Rattle.blocks.specs.Sweeps.{BeginsAt}
use Rattle.blocks.proofs.Places.{class_bounds}
use Rattle.block_map.specs.States.{PageState, free, cut, head, body, state_at, LaidAt, IsLaid}
use Rattle.block_map.specs.declared.page.Page.{Page}
use Rattle.block_map.specs.declared.page.Page.TheVariants.{Free, Cut, Head, Body}
use Rattle.block_map.specs.Shown.{shown}
use Rattle.block_map.specs.Objects.{cell_object, large_object}
use Rattle.block_map.specs.FoundIn.{found_in, found_in_block, found_large, IsLawful}
use Rattle.block_map.specs.declared.found.Found.{Found}
use Rattle.block_map.proofs.Seen.{laid_at}
use Rattle.block_map.proofs.Finding.{found_as, block_taken}

pub record HasBase (s : List PageState) (p w : ℕ) : Type 0 where
  pub object : Found
  pub is : found_in s w ≡ Some object
  pub base : object.base ≡ w
  pub low : FIRST_ADDRESS ≤ w
  pub on : IsOnPage p w
  pub inside : p < length s

pub has_base : (s : List PageState) (p w : ℕ) → IsLawful s → p ≡ page_of w → ((f : Found) × (found_in s w ≡ Some f) × (f.base ≡ w)) → HasBase s p w
has_base s p w lawful page f =
    let b = f.2 in
    let q = lawful.map.placed w f.0 f.1 in
    let above = q.above in let below = q.below in let some = q.some in
    let low : FIRST_ADDRESS ≤ w = omega arith in
    record { object = f.0; is = f.1; base = f.2; low = low; on = subst (λ n. IsOnPage n w) (sym page) (on_its_page w low); inside = omega arith }

-- the address of the cell that begins at a granule
begun_start : (p w i : ℕ) (b : Cells) → IsCells b → IsOnPage p w → w % GRANULE_BYTES ≡ 0 → BeginsAt b (w % PAGE_BYTES / GRANULE_BYTES) i → (i * (8 * b.class) ≡ w % PAGE_BYTES) × (page_start p + i * (8 * b.class) ≡ w)
begun_start p w i b cells on aligned begins =
    let even = class_even b.class cells.class in
    let double : b.class ≡ 2 * (b.class / 2) = omega arith in
    let at = begins.at in
    let bytes : i * (8 * b.class) ≡ 16 * (i * (b.class / 2)) = ap (λ c. i * (8 * c)) double ∙ (let h = b.class / 2 in let e : i * (8 * (2 * h)) ≡ 16 * (i * h) = omega arith in e) in
    let here : i * (8 * b.class) ≡ w % PAGE_BYTES = omega (arith, bytes, at, aligned) in
    let from = on.from in let below = on.below in
    (here, omega (arith, here, from, below))

abbrev at_cell : ℕ → ℕ → Kind → ℕ → ℕ → Found
at_cell base len kind page cell = record { base = base; len = len; kind = kind; page = page; cell = cell }

-- the object in that cell
pub begun_taken : (p w i len : ℕ) (kind : Kind) (b : Cells) → IsCells b → IsOnPage p w → w % GRANULE_BYTES ≡ 0 → BeginsAt b (w % PAGE_BYTES / GRANULE_BYTES) i
    → get_or b.taken i false ≡ true → len ≡ b.class → kind ≡ b.kind → found_in_block p b w ≡ Some (at_cell w len kind p i)
begun_taken p w i len kind b cells on aligned begins taken words is =
    let start = begun_start p w i b cells on aligned begins in
    let here = start.0 in
    let bounds = class_bounds b.class cells.class in let some = bounds.0 in
    let size = cells.size in let inside = begins.inside in
    let cell : IsInCell b.class i (w % PAGE_BYTES) = record { cell = omega arith; from = omega arith; below = omega arith } in
    let same : at_cell w len kind p i ≡ cell_object p b i =
    ap (λ n. at_cell n len kind p i) (sym start.1) ∙ ap (λ n. at_cell (page_start p + i * (8 * b.class)) n kind p i) words ∙ ap (λ k. at_cell (page_start p + i * (8 * b.class)) b.class k p i) is in
    sym (block_taken p w i b (at_cell w len kind p i) cell taken same)

-- what begins in a block at an address of its page
pub found_begun : (s : List PageState) (p w : ℕ) (b : Cells) (r : Option Found) → IsOnPage p w → state_at s p ≡ cut b → IfSome r (λ f. (found_in_block p b w ≡ Some f) × (f.base ≡ w)) → IfSome r (λ f. (found_in s w ≡ Some f) × (f.base ≡ w))
found_begun s p w b None on is h = tt
found_begun s p w b (Some f) on is h = (found_as s p w (cut b) on is ∙ h.0, h.1)

module _ (s : List PageState) (p w : ℕ) (h : HasBase s p w) where
  pub free_base : state_at s p ≡ free → ⊥
  free_base e = let z : None ≡ Some h.object = sym (found_as s p w free h.on e) ∙ h.is in absurd (cc z)

  pub body_base : (q : ℕ) → IsLaid s → state_at s p ≡ body q → ⊥
  body_base q laid e =
      let here : LaidAt s p (body q) = laid_at s p (body q) laid e h.inside in
      let less = here.0 in
      let large : large_object q here.1 here.2 ≡ h.object = same_Some _ _ (sym (found_as s p w (body q) h.on e ∙ ap (found_large q) here.3) ∙ h.is) in
      let at : page_start q ≡ w = ap (λ (x : Found). x.base) large ∙ h.base in
      let from = h.on.from in
      omega arith

  pub cut_base : (b : Cells) → state_at s p ≡ cut b → (f : Found) × (found_in_block p b w ≡ Some f) × (f.base ≡ w)
  cut_base b e = (h.object, sym (found_as s p w (cut b) h.on e) ∙ h.is, h.base)

  pub head_base : IsLaid s → (x : Page) → state_at s p ≡ shown x → ((b : Cells) → x ≡ Cut b → ⊥) → (n : ℕ) × (k : Kind) × (state_at s p ≡ head n k)
  head_base laid Free is other = absurd (free_base is)
  head_base laid (Cut b) is other = absurd (other b refl)
  head_base laid (Head large) is other = (large.pages, large.kind, is)
  head_base laid (Body q) is other = absurd (body_base q laid is)
