-- The objects of a map while a page is swept.
use Rattle.std.proofs.Common.{◌≡◌, ℕ, ◌+◌, ◌*◌, ◌/◌, ◌%◌, ◌<◌, ◌⊎◌, Bool, true, false, cond, List, length, get_or, set, None, Some, refl, sym, ap, ◌∙◌, subst, arith, inl, inr, ⊎_elim, get_or-set_same}
use Rattle.std.proofs.lemmas.Bool.{cases_lt}
use Rattle.std.proofs.lemmas.Nat.{div-add-mod'}
use Rattle.std.proofs.lemmas.Option.{same_Some}
use Rattle.words.specs.declared.limits.TheConstants.{PAGE_BYTES}
use Rattle.words.specs.Bits.{Has}
use Rattle.words.specs.Layout.{granule, page_start, IsOnPage}
use Rattle.words.proofs.Classes.{class_even}
use Rattle.blocks.specs.Cells.{Cells, IsCells}
use Rattle.blocks.specs.Sweeps.{mark_of, SweepsCells}
use Rattle.block_map.specs.States.{PageState, free, cut, state_at, IsLaid}
use Rattle.block_map.proofs.Laid.{laid_cut}
use Rattle.block_map.proofs.Seen.{laid_at}
use Rattle.block_map.specs.Objects.{cell_object, IsInside, IsObjectOn}
use Rattle.block_map.specs.FoundIn.{cell_at, found_in, IsLawful}
use Rattle.block_map.specs.Sweeps.{SweepsObjects}
use Rattle.block_map.specs.declared.found.Found.{Found}
use Rattle.block_map.proofs.Spans.{Out, IsPlain, cut_plain, closed_one, span_one}
use Rattle.block_map.proofs.Words.{read_cell}
use Rattle.block_map.proofs.Finding.{found_as}
use Rattle.block_map.proofs.Changing.{same_but}

none_some : (f : Found) → None ≡ Some f → ⊥
none_some f e = cc

-- an object that a condition gives
given : (x : Bool) (o f : Found) → cond x (Some o) None ≡ Some f → o ≡ f
given true o f e = same_Some o f e
given false o f e = absurd (none_some f e)

on_or_not : (p w : ℕ) → IsOnPage p w ⊎ (IsOnPage p w → ⊥)
on_or_not p w = ⊎_elim
    (λ (lt : w < page_start p). inr (λ (r : IsOnPage p w). let a = r.from in absurd (omega arith)))
    (λ ge. ⊎_elim
    (λ (lt : w < page_start (p + 1)). inl (record { from = omega arith; below = omega arith }))
    (λ le. inr (λ (r : IsOnPage p w). let b = r.below in absurd (omega arith)))
    (cases_lt w (page_start (p + 1))))
    (cases_lt w (page_start p))

cell_granules : (i c : ℕ) → c % 2 ≡ 0 → i * (8 * c) ≡ 16 * (i * (c / 2))
cell_granules i c even =
    let e : c / 2 * 2 + c % 2 ≡ c = div-add-mod' c 2 in
    let h : c ≡ 2 * (c / 2) = omega arith in
    let m : i * (8 * c) ≡ i * (8 * (2 * (c / 2))) = ap (λ x. i * (8 * x)) h in
    let k : i * (8 * (2 * (c / 2))) ≡ 16 * (i * (c / 2)) = omega arith in
    m ∙ k

-- the granule at which the object in a cell begins
pub cell_granule : (p i : ℕ) (b : Cells) → IsCells b → granule (cell_object p b i).base ≡ mark_of p b.class i
cell_granule p i b cells = let e = cell_granules i b.class (class_even b.class cells.class) in omega (arith, e)

module _ (s t : List PageState) (p : ℕ) (marks : List Bool) (b d : Cells) (laid : IsLaid s) (lawful : IsLawful s) (cells : IsCells b)
    (is : state_at s p ≡ cut b) (now : state_at t p ≡ cut d) (others : (k : ℕ) → Out p 1 k → state_at t k ≡ state_at s k) (x : SweepsCells marks p b d) where
  on_old : (w : ℕ) → IsOnPage p w → found_in s w ≡ cond (get_or b.taken (cell_at b w) false) (Some (cell_object p b (cell_at b w))) None
  on_old w at = found_as s p w (cut b) at is

  on_new : (w : ℕ) → IsOnPage p w → found_in t w ≡ cond (get_or d.taken (cell_at b w) false) (Some (cell_object p b (cell_at b w))) None
  on_new w at = found_as t p w (cut d) at now
      ∙ ap (λ c. cond (get_or d.taken (w % PAGE_BYTES / (8 * c)) false)
      (Some (record { base = page_start p + w % PAGE_BYTES / (8 * c) * (8 * c); len = c; kind = d.kind; page = p; cell = w % PAGE_BYTES / (8 * c) })) None) x.class
      ∙ ap (λ k. cond (get_or d.taken (cell_at b w) false) (Some (record { base = page_start p + cell_at b w * (8 * b.class); len = b.class; kind = k; page = p; cell = cell_at b w })) None) x.kind

  on_marked : (w : ℕ) → IsOnPage p w → Has marks (mark_of p b.class (cell_at b w)) → found_in t w ≡ found_in s w
  on_marked w at m = on_new w at ∙ ap (λ y. cond y (Some (cell_object p b (cell_at b w))) None) (x.marked (cell_at b w) m) ∙ sym (on_old w at)

  on_dead : (w : ℕ) → IsOnPage p w → get_or marks (mark_of p b.class (cell_at b w)) false ≡ false → found_in t w ≡ None
  on_dead w at un = on_new w at ∙ ap (λ y. cond y (Some (cell_object p b (cell_at b w))) None) (x.dead (cell_at b w) un)

  off : (w : ℕ) → (IsOnPage p w → ⊥) → found_in t w ≡ found_in s w
  off w away = same_but s t p 1 others (closed_one s p (subst IsPlain (sym is) (cut_plain (cut b) tt))) laid w
      (λ q a c at. let e : q ≡ p = omega arith in absurd (away (subst (λ y. IsOnPage y w) e at)))

  object_on_page : (w : ℕ) (f : Found) → IsOnPage p w → found_in s w ≡ Some f → f ≡ cell_object p b (cell_at b w)
  object_on_page w f at e = sym (given (get_or b.taken (cell_at b w) false) (cell_object p b (cell_at b w)) f (sym (on_old w at) ∙ e))

  page_of_object : (w : ℕ) (f : Found) → found_in s w ≡ Some f → f.page ≡ p → IsOnPage p w
  page_of_object w f e same =
      let o = lawful.object w f e in
      let on : IsObjectOn (cut b) f = subst (λ st. IsObjectOn st f) (ap (state_at s) same ∙ is) o.on in
      let one : f ≡ cell_object p b f.cell = on.0 ∙ ap (λ q. cell_object q b f.cell) same in
      let lt = on.1 in let size = cells.size in
      (read_cell p f.cell w b (omega arith) (subst (IsInside w) one (lawful.map.reads w f e))).0

  pub sweeps_objects : SweepsObjects (found_in s) (found_in t) marks p
  sweeps_objects = record {
    others = λ w f e ne. ⊎_elim
        (λ at. absurd (ne (ap (λ (y : Found). y.page) (object_on_page w f at e))))
        (λ away. off w away ∙ e)
        (on_or_not p w);
    marked = λ w f e same has.
        let at = page_of_object w f e same in
        on_marked w at (subst (Has marks) (ap (λ (y : Found). granule y.base) (object_on_page w f at e) ∙ cell_granule p (cell_at b w) b cells) has) ∙ e;
    only = λ w f e. ⊎_elim
        (λ at. by w f at e (get_or marks (mark_of p b.class (cell_at b w)) false) refl)
        (λ away. let was = sym (off w away) ∙ e in (was, λ same. absurd (away (page_of_object w f was same))))
        (on_or_not p w);
  }
    where
      by : (w : ℕ) (f : Found) → IsOnPage p w → found_in t w ≡ Some f → (m : Bool) → get_or marks (mark_of p b.class (cell_at b w)) false ≡ m → (found_in s w ≡ Some f) × (f.page ≡ p → Has marks (granule f.base))
      by w f at e true m =
          let was = sym (on_marked w at m) ∙ e in
          (was, λ same. subst (Has marks) (sym (ap (λ (y : Found). granule y.base) (object_on_page w f at was) ∙ cell_granule p (cell_at b w) b cells)) m)
      by w f at e false m = absurd (none_some f (sym (on_dead w at m) ∙ e))

-- what the map is then
module _ (s : List PageState) (p : ℕ) (marks : List Bool) (b d : Cells) (laid : IsLaid s) (lt : p < length s) (is : state_at s p ≡ cut b) (x : SweepsCells marks p b d) where
  pub laid_swept : IsLaid (set s p (cut d))
  laid_swept = laid_cut s p b d laid lt is x.class x.row

  pub objects_swept : IsLawful s → SweepsObjects (found_in s) (found_in (set s p (cut d))) marks p
  objects_swept lawful = sweeps_objects s (set s p (cut d)) p marks b d laid lawful (laid_at s p (cut b) laid is lt) is (get_or-set_same s p (cut d) free lt) (span_one s p (cut d) lt).others x
