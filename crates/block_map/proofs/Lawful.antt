-- What a word finds are exactly the objects of the states.
use Rattle.std.proofs.Common.{◌≡◌, ℕ, ◌+◌, ◌*◌, ◌/◌, ◌%◌, ◌<◌, ◌≤◌, ◌⊎◌, Bool, true, false, List, length, get_or, Option, None, Some, refl, sym, ap, ◌∙◌, subst, arith, inl, inr, ⊎_elim}
use Rattle.std.proofs.lemmas.Bool.{cond-true, cond-false, cases_lt, cases_eq}
use Rattle.std.proofs.lemmas.List.{get_or_past}
use Rattle.std.proofs.lemmas.Option.{same_Some}
use Rattle.words.specs.declared.limits.TheConstants.{FIRST_ADDRESS}
use Rattle.words.specs.declared.class.Kind.{Kind}
use Rattle.words.proofs.Classes.{class_even}
use Rattle.words.proofs.Addresses.{on_its_page}
use Rattle.blocks.specs.Cells.{Cells, IsCells}
use Rattle.blocks.proofs.Places.{class_bounds}
use Rattle.words.specs.Layout.{page_of, IsOnPage}
use Rattle.block_map.specs.States.{PageState, free, cut, head, body, state_at, LaidAt, IsLaid}
use Rattle.block_map.specs.Objects.{cell_object, large_object, IsObjectOn, IsObject, IsInside, IsFoundOrNone, IsPlaced}
use Rattle.block_map.specs.FoundIn.{cell_at, found_in, found_in_block, found_on, found_large, IsLawful}
use Rattle.block_map.specs.declared.found.Found.{Found}
use Rattle.block_map.proofs.Words.{read_cell, cell_read, cells_end}
use Rattle.block_map.proofs.Finding.{found_low, found_as}

-- ---- an object is found by each of its words
object_cut : (s : List PageState) (g : Found) (w : ℕ) (b : Cells) → IsCells b → state_at s g.page ≡ cut b → IsObjectOn (cut b) g → IsInside w g → found_in s w ≡ Some g
object_cut s g w b cells is on reads =
    let size = cells.size in let inside = on.1 in
    let r = read_cell g.page g.cell w b (omega arith) (subst (IsInside w) on.0 reads) in
    let t : get_or b.taken (cell_at b w) false ≡ true = ap (λ j. get_or b.taken j false) r.1 ∙ on.2 in
    found_as s g.page w (cut b) r.0 is
    ∙ cond-true (get_or b.taken (cell_at b w) false) (Some (cell_object g.page b (cell_at b w))) None t
    ∙ ap (λ j. Some (cell_object g.page b j)) r.1 ∙ ap Some (sym on.0)

object_head : (s : List PageState) (g : Found) (w n : ℕ) (k : Kind) → LaidAt s g.page (head n k) → state_at s g.page ≡ head n k → IsObjectOn (head n k) g → IsInside w g → found_in s w ≡ Some g
object_head s g w n k laid is on reads =
    let r : IsInside w (large_object g.page n k) = subst (IsInside w) on reads in
    let from = r.from in let below = r.below in
    let at : IsOnPage (page_of w) w = on_its_page w (omega arith) in
    ⊎_elim
    (λ (e : page_of w ≡ g.page). found_as s g.page w (head n k) (subst (λ p. IsOnPage p w) e at) is ∙ ap Some (sym on))
    (λ ne.
    found_as s (page_of w) w (body g.page) at (laid.2 (page_of w) (omega arith) (omega arith))
    ∙ ap (found_large g.page) is ∙ ap Some (sym on))
    (cases_eq (page_of w) g.page)

object_on_state : (s : List PageState) (st : PageState) (g : Found) (w : ℕ) → LaidAt s g.page st → state_at s g.page ≡ st → IsObjectOn st g → IsInside w g → found_in s w ≡ Some g
object_on_state s free g w laid is on reads = absurd on
object_on_state s (cut b) g w laid is on reads = object_cut s g w b laid is on reads
object_on_state s (head n k) g w laid is on reads = object_head s g w n k laid is on reads
object_on_state s (body q) g w laid is on reads = absurd on

pub found_object : (s : List PageState) (g : Found) (w : ℕ) → IsLaid s → IsObject s g → IsInside w g → found_in s w ≡ Some g
found_object s g w laid o reads = object_on_state s (state_at s g.page) g w (laid.each g.page o.page) refl o.on reads

-- ---- what is found is an object that reads the word
IsRead : List PageState → ℕ → Found → Type 0
IsRead s w f = IsObject s f × IsInside w f

none_some : (f : Found) → None ≡ Some f → ⊥
none_some f e = cc

test_cases : (b : Bool) → (b ≡ true) ⊎ (b ≡ false)
test_cases true = inl refl
test_cases false = inr refl

object_of : (s : List PageState) (st : PageState) (f : Found) → state_at s f.page ≡ st → f.page < length s → IsObjectOn st f → IsObject s f
object_of s st f is lt on = record { page = lt; on = subst (λ x. IsObjectOn x f) (sym is) on }

read_block : (s : List PageState) (p w : ℕ) (b : Cells) (f : Found) → IsCells b → state_at s p ≡ cut b → p < length s → IsOnPage p w → found_in_block p b w ≡ Some f → IsRead s w f
unfolding IsRead
read_block s p w b f cells is lt at e =
    ⊎_elim
    (λ (t : get_or b.taken (cell_at b w) false ≡ true).
    let same : cell_object p b (cell_at b w) ≡ f = same_Some _ _ (sym (cond-true (get_or b.taken (cell_at b w) false) (Some (cell_object p b (cell_at b w))) None t) ∙ e) in
    let inside : cell_at b w < length b.taken = ⊎_elim (λ (h : cell_at b w < length b.taken). h) (λ past. absurd (let z : false ≡ true = sym (get_or_past b.taken (cell_at b w) false past) ∙ t in cc)) (cases_lt (cell_at b w) (length b.taken)) in
    subst (λ g. IsObject s g × IsInside w g) same
    (object_of s (cut b) (cell_object p b (cell_at b w)) is lt (refl, inside, t), cell_read p w b cells.class at))
    (λ (t : get_or b.taken (cell_at b w) false ≡ false).
    absurd (none_some f (sym (cond-false (get_or b.taken (cell_at b w) false) (Some (cell_object p b (cell_at b w))) None t) ∙ e)))
    (test_cases (get_or b.taken (cell_at b w) false))

read_large : (s : List PageState) (p q w n : ℕ) (k : Kind) (f : Found) → state_at s q ≡ head n k → q < length s → IsOnPage p w → q ≤ p → p < q + n → large_object q n k ≡ f → IsRead s w f
unfolding IsRead
read_large s p q w n k f is lt at low high same =
    let from = at.from in let below = at.below in
    subst (λ g. IsObject s g × IsInside w g) same
    (object_of s (head n k) (large_object q n k) is lt refl, record { from = omega arith; below = omega arith })

read_on : (s : List PageState) (st : PageState) (p w : ℕ) (f : Found) → IsLaid s → state_at s p ≡ st → LaidAt s p st → (p < length s) ⊎ (st ≡ free) → IsOnPage p w → found_on s p st w ≡ Some f → IsRead s w f
read_on s free p w f laid is here lt at e = absurd (none_some f e)
read_on s (cut b) p w f laid is here lt at e = read_block s p w b f here is (⊎_elim (λ h. h) (λ h. absurd (let z : cut b ≡ free = h in cc)) lt) at e
read_on s (head n k) p w f laid is here lt at e =
    let pos = here.0 in
    read_large s p p w n k f is (⊎_elim (λ h. h) (λ h. absurd (let z : head n k ≡ free = h in cc)) lt) at (omega arith) (omega arith) (same_Some _ _ e)
read_on s (body q) p w f laid is here lt at e =
    let less = here.0 in let reach = here.4 in
    let inside : q < length s = ⊎_elim (λ (h : p < length s). let z : q < length s = omega arith in z) (λ h. absurd (let z : body q ≡ free = h in cc)) lt in
    read_large s p q w here.1 here.2 f here.3 inside at (omega arith) reach
    (same_Some _ _ (sym (ap (found_large q) here.3) ∙ e))

read_at : (s : List PageState) (p w : ℕ) (f : Found) → IsLaid s → IsOnPage p w → found_in s w ≡ Some f → IsRead s w f
read_at s p w f laid at e =
    ⊎_elim
    (λ (lt : p < length s). read_on s (state_at s p) p w f laid refl (laid.each p lt) (inl lt) at (sym (found_as s p w (state_at s p) at refl) ∙ e))
    (λ past. let is : state_at s p ≡ free = get_or_past s p free past in read_on s free p w f laid is tt (inr refl) at (sym (found_as s p w free at is) ∙ e))
    (cases_lt p (length s))

read_found : (s : List PageState) (w : ℕ) (f : Found) → IsLaid s → found_in s w ≡ Some f → IsRead s w f
read_found s w f laid e =
    ⊎_elim
    (λ low. absurd (none_some f (sym (found_low s w low) ∙ e)))
    (λ high. read_at s (page_of w) w f laid (on_its_page w high) e)
    (cases_lt w FIRST_ADDRESS)

pub object_found : (s : List PageState) (w : ℕ) (f : Found) → IsLaid s → found_in s w ≡ Some f → IsObject s f × IsInside w f
unfolding IsRead
object_found s w f laid e = read_found s w f laid e

-- ---- so it is the one object that the word reads
answer_of : (s : List PageState) (w : ℕ) (r : Option Found) → IsLaid s → found_in s w ≡ r → IsFoundOrNone s w r
answer_of s w None laid e = λ g o reads. none_some g (sym e ∙ found_object s g w laid o reads)
answer_of s w (Some f) laid e =
    let o = object_found s w f laid e in
    (o.0, o.1, (λ g p reads. same_Some _ _ (sym (found_object s g w laid p reads) ∙ e)))

pub answer_is : (s : List PageState) (w : ℕ) (r : Option Found) → IsLaid s → r ≡ found_in s w → IsFoundOrNone s w r
answer_is s w r laid e = answer_of s w r laid (sym e)

-- ---- where objects lie
cell_sixteen : (n c : ℕ) → c % 2 ≡ 0 → (n * (8 * c)) % 16 ≡ 0
cell_sixteen n c e =
    let d : c ≡ 2 * (c / 2) = omega arith in
    let m : n * (8 * (2 * (c / 2))) ≡ 16 * (n * (c / 2)) = omega arith in
    let q : ℕ = n * (c / 2) in
    let z : (16 * q) % 16 ≡ 0 = omega arith in
    ap (λ x. (n * (8 * x)) % 16) d ∙ ap (λ x. x % 16) m ∙ z

placed_cell : (s : List PageState) (p i : ℕ) (b : Cells) → IsCells b → p < length s → i < length b.taken → IsPlaced (length s) (cell_object p b i)
placed_cell s p i b cells lt inside =
    let size = cells.size in
    let z = cell_sixteen i b.class (class_even b.class cells.class) in
    let ends = cells_end b.class i (omega arith) in
    let bounds = class_bounds b.class cells.class in
    let q : ℕ = i * (8 * b.class) in
    record {
      aligned = omega (arith, z);
      above = omega arith;
      below = omega (arith, ends);
      some = omega (arith, bounds.0);
    }

placed_on : (s : List PageState) (st : PageState) (f : Found) → LaidAt s f.page st → f.page < length s → IsObjectOn st f → IsPlaced (length s) f
placed_on s free f laid lt on = absurd on
placed_on s (cut b) f laid lt on = subst (IsPlaced (length s)) (sym on.0) (placed_cell s f.page f.cell b laid lt on.1)
placed_on s (head n k) f laid lt on =
    let pos = laid.0 in let ends = laid.1 in
    let large : IsPlaced (length s) (large_object f.page n k) = record { aligned = omega arith; above = omega arith; below = omega arith; some = omega arith } in
    subst (IsPlaced (length s)) (sym on) large
placed_on s (body q) f laid lt on = absurd on

placed : (s : List PageState) (f : Found) → IsLaid s → IsObject s f → IsPlaced (length s) f
placed s f laid o = placed_on s (state_at s f.page) f (laid.each f.page o.page) o.page o.on

pub map_laws : (s : List PageState) → IsLaid s → IsLawful s
map_laws s laid = record {
  map = record {
    reads = λ w f e. (object_found s w f laid e).1;
    whole = λ w v f e reads. found_object s f v laid (object_found s w f laid e).0 reads;
    placed = λ w f e. placed s f laid (object_found s w f laid e).0;
  };
  object = λ w f e. (object_found s w f laid e).0;
  found = λ w f o reads. found_object s f w laid o reads;
}

pub ruleset laws = (map_laws, answer_is)
