-- What is forgotten, page by page.
use Rattle.std.proofs.Common.{inl, inr, ◌≡◌, ℕ, zero, suc, ◌-◌, ◌+◌, ◌*◌, ◌<◌, ◌≤◌, ◌⊎◌, Bool, true, false, List, [], ◌++◌, ◌∷◌, length, set, get_or, get_or-set_same, get_or-set_other, Contains, Some, None, refl, sym, ap, ◌∙◌, subst, ⊎_elim, arith, length-append, append_assoc, append-nil, nat_eq}
use Rattle.std.specs.Prelude.{All}
use Rattle.std.specs.List.{IsDistinct}
use Rattle.std.proofs.lemmas.Bool.{cases_lt, cases_eq, false≢true, eq-eqb}
use Rattle.std.proofs.lemmas.Cmp.{nat_eq_equiv}
use Rattle.std.proofs.lemmas.List.Elements.{All-push, All-append, All-weaker, All-contains, Contains-push, Contains-push_cases, Contains-append_left, Contains-append_right}
use Rattle.std.proofs.lemmas.Map.Keys.{IsDistinct-push, IsDistinct-tail, apart_from_distinct}
use Rattle.std.proofs.lemmas.Option.{same_Some}
use Rattle.std.proofs.lemmas.List.{get_or_default, nil_from_length}
use Rattle.words.specs.declared.class.Kind.{Kind}
use Rattle.words.specs.declared.limits.TheConstants.{PAGE_GRANULES, PAGE_WORDS}
use Rattle.words.specs.Bits.{Has, members}
use Rattle.words.specs.Layout.{granule}
use Rattle.mark_bits.specs.Granules.{marks_on}
use Rattle.blocks.specs.Cells.{Cells}
use Rattle.marker.specs.Marking.{Marking, IsConsistent, AreMarksObjects}
use Rattle.block_map.specs.declared.found.Found.{Found}
use Rattle.block_map.specs.FoundIn.{found_in, found_large, IsLawful}
use Rattle.block_map.specs.Objects.{IsObjectOn, IsMap, IsInside, large_object}
use Rattle.block_map.specs.States.{PageState, free, cut, head, body, state_at, IsCut, LaidAt, IsLaid}
use Rattle.marker.specs.Mutations.{KeepsWords}
use Rattle.object_space.specs.Store.{Store, IsSwept, IsPendingRow}
use Rattle.lazy_sweep.specs.Store.{Agree}
use Rattle.object_space.specs.Sweeps.{Loses, ForgetsLazily}
use Rattle.object_space.specs.Kept.{kept_in}
use Rattle.object_space.specs.Forgets.{IsUnmarkedOn, AreUnmarkedOn, nothing, unswept, gone, ForgetsBases, ForgetsOn}
use Rattle.object_space.proofs.Counting.{dead_cells, cells_few}
use Rattle.object_space.proofs.Kept.{ended_lazily}
use Rattle.heap_view.proofs.Shows.{at_base, one_at_base}
use Rattle.object_space.proofs.Sweeping.{distinct_none, not_any, read_or_not}

none_some : (f : Found) → None ≡ Some f → ⊥
none_some f e = cc

-- ---- nothing on a page is unmarked
pub none_unmarked : (t : Store) (marks : List Bool) (page : ℕ) → ((f : Found) → found_in t.states f.base ≡ Some f → f.page ≡ page → Has marks (granule f.base)) → ForgetsOn t marks page 0 t
none_unmarked t marks page marked = record {
  bases = [];
  number = refl;
  few = omega arith;
  objects = record { distinct = distinct_none; each = λ k d lt. absurd (omega arith); all = λ f there here not. absurd (not (marked f there here)) };
  change = nothing refl refl;
}

-- ---- a page that isn't cut
head_of : (st : PageState) (page : ℕ) (f : Found) → Some f ≡ found_large page st → (n : ℕ) × (k : Kind) × (st ≡ head n k) × (f ≡ large_object page n k)
head_of free page f e = absurd (none_some f (sym e))
head_of (cut b) page f e = absurd (none_some f (sym e))
head_of (head n k) page f e = (n, k, refl, same_Some f (large_object page n k) e)
head_of (body q) page f e = absurd (none_some f (sym e))

no_object : (st : PageState) (f : Found) → (IsCut st → ⊥) → None ≡ found_large f.page st → IsObjectOn st f → ⊥
no_object free f whole none on = on
no_object (cut b) f whole none on = whole tt
no_object (head n k) f whole none on = none_some (large_object f.page n k) none
no_object (body q) f whole none on = on

pub no_large : (t : Store) (marks : List Bool) (page : ℕ) → IsLawful t.states → (IsCut (state_at t.states page) → ⊥) → None ≡ found_large page (state_at t.states page) → ForgetsOn t marks page 0 t
no_large t marks page lawful whole none = none_unmarked t marks page
    (λ f there here. absurd (no_object (state_at t.states f.page) f (λ c. whole (subst (λ p. IsCut (state_at t.states p)) here c)) (subst (λ p. None ≡ found_large p (state_at t.states p)) (sym here) none) (lawful.object f.base f there).on))

module _ (t : Store) (marks : List Bool) (page : ℕ) (lawful : IsLawful t.states) (laid : IsLaid t.states) (inside : page < length t.states) (f : Found) (is : Some f ≡ found_large page (state_at t.states page)) where
  at_head : (n : ℕ) × (k : Kind) × (state_at t.states page ≡ head n k) × (f ≡ large_object page n k)
  at_head = head_of (state_at t.states page) page f is

  f_page : f.page ≡ page
  f_page = ap (λ (x : Found). x.page) at_head.3

  -- it is found, and the only one there
  pub large_found : found_in t.states f.base ≡ Some f
  large_found =
      let large : LaidAt t.states page (head at_head.0 at_head.1) = subst (LaidAt t.states page) at_head.2 (laid.each page inside) in
      let some = large.0 in
      let len : f.len ≡ PAGE_WORDS * at_head.0 = ap (λ (x : Found). x.len) at_head.3 in
      lawful.found f.base f (record { page = subst (λ p. p < length t.states) (sym f_page) inside; on = subst (λ st. IsObjectOn st f) (sym (ap (state_at t.states) f_page ∙ at_head.2)) (at_head.3 ∙ ap (λ p. large_object p at_head.0 at_head.1) (sym f_page)) })
      (record { from = omega arith; below = omega arith })

  long : PAGE_WORDS ≤ f.len
  long =
      let large : LaidAt t.states page (head at_head.0 at_head.1) = subst (LaidAt t.states page) at_head.2 (laid.each page inside) in
      let some = large.0 in
      let len : f.len ≡ PAGE_WORDS * at_head.0 = ap (λ (x : Found). x.len) at_head.3 in
      omega arith

  only_large : (g : Found) → found_in t.states g.base ≡ Some g → g.page ≡ page → g ≡ f
  only_large g there here =
      let on : IsObjectOn (head at_head.0 at_head.1) g = subst (λ st. IsObjectOn st g) (ap (state_at t.states) here ∙ at_head.2) (lawful.object g.base g there).on in
      on ∙ ap (λ p. large_object p at_head.0 at_head.1) here ∙ sym at_head.3

  pub marked_large : Has marks (granule f.base) → ForgetsOn t marks page 0 t
  marked_large marked = none_unmarked t marks page (λ g there here. subst (λ (x : Found). Has marks (granule x.base)) (sym (only_large g there here)) marked)

  pub dead_large : (new : Store) → (Has marks (granule f.base) → ⊥) → (Has t.pending page → ⊥) → Loses t f new → ForgetsOn t marks page 1 new
  dead_large new not whole loses = record {
    bases = f.base ∷ [];
    number = refl;
    few = omega arith;
    objects = record {
      distinct = IsDistinct-push nat_eq_equiv [] f.base distinct_none (not_any [] f.base (λ h. let lt = h.1 in omega arith));
      each = All-push (IsUnmarkedOn t.states marks page) [] f.base (λ k d lt. absurd (omega arith)) (record { object = f; is = large_found; at = refl; on = f_page; unmarked = not });
      all = λ g there here no_mark. subst (λ (x : Found). Contains (f.base ∷ []) x.base) (sym (only_large g there here)) (Contains-push [] f.base);
    };
    change = gone f large_found refl long (λ h. whole (subst (Has t.pending) f_page h)) loses;
  }

-- ---- a block
-- of n allocated cells, so many are marked, and the others are the unmarked objects of the page
pub record IsCounted (t : Store) (marks : List Bool) (page n marked : ℕ) : Type 0 where
  pub bases : List ℕ
  pub count : n ≡ marked + length bases
  pub few : n ≤ PAGE_GRANULES
  pub objects : AreUnmarkedOn t.states marks page bases

pub counted : (t : Store) (m : Marking) (page : ℕ) (b : Cells) (n marked : ℕ) → IsLaid t.states → IsLawful t.states → AreMarksObjects (found_in t.states) m → IsConsistent m → length m.dirty ≡ length t.states → page < length t.states
    → state_at t.states page ≡ cut b → n ≡ members b.taken → marked ≡ marks_on m.marks page → IsCounted t m.marks page n marked
counted t m page b n marked laid lawful objects consistent pages inside is count marks =
    let size : length m.marks ≡ PAGE_GRANULES * length t.states = consistent.marks ∙ ap (λ k. PAGE_GRANULES * k) pages in
    let dead = dead_cells t.states laid lawful m objects size page inside b is in
    let all = dead.1 in
    let few = cells_few t.states laid lawful m objects size page inside b is in
    record { bases = dead.0; count = omega arith; few = omega arith; objects = dead.2 }

pub some_dead : (t : Store) (marks : List Bool) (page n marked : ℕ) (row : List Bool) → IsCounted t marks page n marked → 0 < n - marked → IsCut (state_at t.states page) → page < length t.pending → row ≡ set t.pending page true
    → ForgetsOn t marks page (n - marked) (record t { pending = row })
some_dead t marks page n marked row h some is inside became =
    let count = h.count in let few = h.few in
    record {
      bases = h.bases;
      number = omega arith;
      few = omega arith;
      objects = h.objects;
      change = unswept is inside (get_or h.bases 0 0) (0, (omega arith), get_or_default h.bases 0 (get_or h.bases 0 0) 0 (omega arith)) (ap (λ r. record t { pending = r }) became);
    }

pub none_dead : (t : Store) (marks : List Bool) (page n marked : ℕ) → IsCounted t marks page n marked → n - marked ≡ 0 → ForgetsOn t marks page (n - marked) t
none_dead t marks page n marked h none =
    let count = h.count in
    record { bases = h.bases; number = omega arith; few = omega arith; objects = h.objects; change = nothing (nil_from_length h.bases (omega arith)) refl }

-- ---- two lists of bases
not_again : (y : ℕ) (ys : List ℕ) → IsDistinct nat_eq (y ∷ ys) → Contains ys y → ⊥
not_again y ys distinct has = false≢true (sym (apart_from_distinct nat_eq (y ∷ ys) 0 (has.0 + 1) 0 distinct (omega arith) (let lt = has.1 in omega arith)) ∙ eq-eqb y (get_or (y ∷ ys) (has.0 + 1) 0) (sym at))
  where
    at : get_or (y ∷ ys) (has.0 + 1) 0 ≡ y
    at = ap (λ k. get_or (y ∷ ys) k 0) (let e : has.0 + 1 ≡ suc has.0 = omega arith in e) ∙ get_or_default ys has.0 0 y has.1 ∙ has.2

distinct_append : (xs ys : List ℕ) → IsDistinct nat_eq xs → IsDistinct nat_eq ys → ((b : ℕ) → Contains xs b → Contains ys b → ⊥) → IsDistinct nat_eq (xs ++ ys)
distinct_append xs [] dx dy apart = subst (IsDistinct nat_eq) (sym (append-nil xs)) dx
distinct_append xs (y ∷ ys) dx dy apart =
    subst (IsDistinct nat_eq) (append_assoc xs (y ∷ []) ys)
    (distinct_append (xs ++ y ∷ []) ys
    (IsDistinct-push nat_eq_equiv xs y dx (not_any xs y (λ h. apart y h (0, omega arith, refl))))
    (IsDistinct-tail nat_eq y ys dy)
    (λ b hx hy. ⊎_elim
    (λ h. apart b h (Contains-append_right (y ∷ []) ys b hy))
    (λ (e : y ≡ b). not_again y ys dy (subst (Contains ys) (sym e) hy))
    (Contains-push_cases xs y b hx)))

-- ---- page by page

-- The unmarked objects that begin on pages below this one are forgotten, so many. The words of the objects of the map stay.
pub record HasForgotten (old : Store) (marks : List Bool) (page n : ℕ) (now : Store) : Type 0 where
  pub words : KeepsWords (found_in now.states) old.words now.words
  pub pages : length now.states ≡ length old.states
  pub few : n ≤ PAGE_GRANULES * page
  pub bases : List ℕ
  pub number : n ≡ length bases
  pub distinct : IsDistinct nat_eq bases
  pub each : All (λ b. (p : ℕ) × (p < page) × IsUnmarkedOn old.states marks p b) bases
  pub all : (f : Found) → found_in old.states f.base ≡ Some f → f.page < page → (Has marks (granule f.base) → ⊥) → Contains bases f.base
  pub less : (w : ℕ) (f : Found) → found_in now.states w ≡ Some f → found_in old.states w ≡ Some f
  pub small : (w : ℕ) (f : Found) → found_in old.states w ≡ Some f → f.len < PAGE_WORDS → found_in now.states w ≡ Some f
  pub stays : (w : ℕ) (f : Found) → found_in old.states w ≡ Some f → Has marks (granule f.base) ⊎ (page ≤ f.page) → found_in now.states w ≡ Some f
  pub unswept : (w : ℕ) (f : Found) → found_in now.states w ≡ Some f → f.page < page → (Has marks (granule f.base) → ⊥) → Has now.pending f.page
  pub only : (p : ℕ) → Has now.pending p → (w : ℕ) × (f : Found) × (found_in now.states w ≡ Some f) × (f.page ≡ p) × (Has marks (granule f.base) → ⊥)

pub forgotten_none : (old : Store) (marks : List Bool) → IsSwept old → HasForgotten old marks 0 0 old
forgotten_none old marks swept = record {
  words = λ f i there lt. refl;
  pages = refl;
  few = omega arith;
  bases = [];
  number = refl;
  distinct = distinct_none;
  each = λ k d lt. absurd (omega arith);
  all = λ f there lt not. absurd (omega arith);
  less = λ w f e. e;
  small = λ w f e short. e;
  stays = λ w f e h. e;
  unswept = λ w f e lt not. absurd (omega arith);
  only = λ p h. absurd (swept p h);
}

module _ (old : Store) (marks : List Bool) (page n : ℕ) (mid : Store) (before : IsMap (length old.states) (found_in old.states)) (map : IsMap (length mid.states) (found_in mid.states)) (h : HasForgotten old marks page n mid) where
  -- the objects of two pages have other bases
  other_bases : (bases : List ℕ) → AreUnmarkedOn mid.states marks page bases → (b : ℕ) → Contains h.bases b → Contains bases b → ⊥
  other_bases bases on b was is =
      let x = All-contains (λ c. (p : ℕ) × (p < page) × IsUnmarkedOn old.states marks p c) h.bases b h.each was in
      let y = All-contains (IsUnmarkedOn mid.states marks page) bases b on.each is in
      let one : x.2.object ≡ y.object = same_Some x.2.object y.object (sym x.2.is ∙ h.less b y.object y.is) in
      let low = x.1 in let at = sym x.2.on ∙ ap (λ (f : Found). f.page) one ∙ y.on in omega arith

  -- what the change of the page leaves
  module _ (k : ℕ) (new : Store) (bases : List ℕ) (number : k ≡ length bases) (few : k ≤ PAGE_GRANULES) (on : AreUnmarkedOn mid.states marks page bases)
      (words : KeepsWords (found_in new.states) mid.words new.words) (pages : length new.states ≡ length mid.states)
      (less : (w : ℕ) (f : Found) → found_in new.states w ≡ Some f → found_in mid.states w ≡ Some f)
      (small : (w : ℕ) (f : Found) → found_in mid.states w ≡ Some f → f.len < PAGE_WORDS → found_in new.states w ≡ Some f)
      (stays : (w : ℕ) (f : Found) → found_in mid.states w ≡ Some f → Has marks (granule f.base) ⊎ (page + 1 ≤ f.page) → found_in new.states w ≡ Some f)
      (keeps_row : (w : ℕ) (f : Found) → found_in new.states w ≡ Some f → Has mid.pending f.page → Has new.pending f.page)
      (unswept_here : (w : ℕ) (f : Found) → found_in new.states w ≡ Some f → f.page ≡ page → (Has marks (granule f.base) → ⊥) → Has new.pending f.page)
      (only : (p : ℕ) → Has new.pending p → (w : ℕ) × (f : Found) × (found_in new.states w ≡ Some f) × (f.page ≡ p) × (Has marks (granule f.base) → ⊥)) where
    pub page_more : HasForgotten old marks (page + 1) (n + k) new
    page_more = record {
      words = λ f i there lt. words f i there lt ∙ h.words f i (less f.base f there) lt;
      pages = pages ∙ h.pages;
      few = let was = h.few in omega arith;
      bases = h.bases ++ bases;
      number = let was = h.number in let long = length-append h.bases bases in omega arith;
      distinct = distinct_append h.bases bases h.distinct on.distinct (other_bases bases on);
      each = All-append (λ b. (p : ℕ) × (p < page + 1) × IsUnmarkedOn old.states marks p b) h.bases bases
          (All-weaker (λ b. (p : ℕ) × (p < page) × IsUnmarkedOn old.states marks p b) (λ b. (p : ℕ) × (p < page + 1) × IsUnmarkedOn old.states marks p b) (λ b x. let low = x.1 in (x.0, omega arith, x.2)) h.bases h.each)
          (All-weaker (IsUnmarkedOn mid.states marks page) (λ b. (p : ℕ) × (p < page + 1) × IsUnmarkedOn old.states marks p b)
          (λ b x. (page, omega arith, record { object = x.object; is = h.less b x.object x.is; at = x.at; on = x.on; unmarked = x.unmarked })) bases on.each);
      all = λ f there lt not. ⊎_elim
          (λ low. Contains-append_left h.bases bases f.base (h.all f there low not))
          (λ ge. Contains-append_right h.bases bases f.base (on.all f (h.stays f.base f there (inr ge)) (omega arith) not))
          (cases_lt f.page page);
      less = λ w f e. h.less w f (less w f e);
      small = λ w f e short. small w f (h.small w f e short) short;
      stays = λ w f e x. stays w f (h.stays w f e (⊎_elim (λ marked. inl marked) (λ ge. inr (omega arith)) x)) x;
      unswept = λ w f e lt not. ⊎_elim
          (λ low. keeps_row w f e (h.unswept w f (less w f e) low not))
          (λ ge. unswept_here w f e (omega arith) not)
          (cases_lt f.page page);
      only = only;
    }

  pub forgotten_more : (k : ℕ) (new : Store) → ForgetsOn mid marks page k new → HasForgotten old marks (page + 1) (n + k) new
  forgotten_more k new x = by x.change
    where
      none_here : x.bases ≡ [] → (w : ℕ) (f : Found) → found_in mid.states w ≡ Some f → f.page ≡ page → (Has marks (granule f.base) → ⊥) → ⊥
      none_here empty w f there here not =
          let has = subst (λ bs. Contains bs f.base) empty (x.objects.all f (at_base (found_in mid.states) (length mid.states) map w f there) here not) in
          let lt = has.1 in omega arith

      by : ForgetsBases mid page x.bases new → HasForgotten old marks (page + 1) (n + k) new
      by (nothing empty same) = subst (HasForgotten old marks (page + 1) (n + k)) (sym same)
          (page_more k mid x.bases x.number x.few x.objects (λ f i there lt. refl) refl (λ w f e. e) (λ w f e short. e) (λ w f e y. e) (λ w f e p. p)
          (λ w f e here not. absurd (none_here empty w f e here not)) h.only)
      by (unswept is_cut inside base has same) = subst (HasForgotten old marks (page + 1) (n + k)) (sym same)
          (page_more k (record mid { pending = set mid.pending page true }) x.bases x.number x.few x.objects (λ f i there lt. refl) refl (λ w f e. e) (λ w f e short. e) (λ w f e y. e)
          (λ w f e p. set_keeps f.page p)
          (λ w f e here not. ap (λ q. get_or (set mid.pending page true) q false) here ∙ get_or-set_same mid.pending page true false inside)
          (λ p now. ⊎_elim
          (λ (e : p ≡ page). let y = All-contains (IsUnmarkedOn mid.states marks page) x.bases base x.objects.each has in
          (base, y.object, y.is, y.on ∙ sym e, λ marked. y.unmarked (subst (λ a. Has marks (granule a)) y.at marked)))
          (λ ne. h.only p (sym (get_or-set_other mid.pending page p true false ne) ∙ now))
          (cases_eq p page)))
        where
          set_keeps : (p : ℕ) → Has mid.pending p → Has (set mid.pending page true) p
          set_keeps p was = ⊎_elim
              (λ (e : p ≡ page). ap (λ q. get_or (set mid.pending page true) q false) e ∙ get_or-set_same mid.pending page true false inside)
              (λ ne. get_or-set_other mid.pending page p true false ne ∙ was)
              (cases_eq p page)
      by (gone f there_f one long whole loses) =
          page_more k new x.bases x.number x.few x.objects loses.words loses.pages less
          (λ w g there short. sym (loses.removed.others w (λ r. let len = ap (λ (z : Found). z.len) (same_Some g f (sym there ∙ loses.removed.after w r)) in omega arith)) ∙ there)
          (λ w g there y. sym (loses.removed.others w (λ r. apart w g there r y)) ∙ there)
          (λ w g e was. loses.pending w g e ∙ was)
          (λ w g e here not. absurd (not_here w g e here not))
          (λ p now.
          let y = h.only p (loses.fewer p now) in
          (y.0, y.1, sym (loses.removed.others y.0 (λ r. whole (subst (Has mid.pending) (sym y.3 ∙ ap (λ (g : Found). g.page) (same_Some y.1 f (sym y.2 ∙ loses.removed.after y.0 r))) (loses.fewer p now)))) ∙ y.2, y.3, y.4))
        where
          dead : IsUnmarkedOn mid.states marks page f.base
          dead = All-contains (IsUnmarkedOn mid.states marks page) x.bases f.base x.objects.each (subst (λ bs. Contains bs f.base) (sym one) (Contains-push [] f.base))

          its_page : f.page ≡ page
          its_page = ap (λ (g : Found). g.page) (same_Some f dead.object (sym there_f ∙ dead.is)) ∙ dead.on

          less : (w : ℕ) (g : Found) → found_in new.states w ≡ Some g → found_in mid.states w ≡ Some g
          less w g e = ⊎_elim (λ r. absurd (none_some g (sym (loses.removed.before w r) ∙ e))) (λ not. loses.removed.others w not ∙ e) (read_or_not w f)

          apart : (w : ℕ) (g : Found) → found_in mid.states w ≡ Some g → IsInside w f → Has marks (granule g.base) ⊎ (page + 1 ≤ g.page) → ⊥
          apart w g there r y =
              let same : g ≡ f = same_Some g f (sym there ∙ loses.removed.after w r) in
              ⊎_elim (λ marked. dead.unmarked (subst (λ (z : Found). Has marks (granule z.base)) same marked)) (λ past. let at = ap (λ (z : Found). z.page) same ∙ its_page in omega arith) y

          not_here : (w : ℕ) (g : Found) → found_in new.states w ≡ Some g → g.page ≡ page → (Has marks (granule g.base) → ⊥) → ⊥
          not_here w g e here not =
              let was = less w g e in
              let there = at_base (found_in mid.states) (length mid.states) map w g was in
              let has = subst (λ bs. Contains bs g.base) one (x.objects.all g there here not) in
              ⊎_elim
              (λ (none : Contains [] g.base). let lt = none.1 in absurd (omega arith))
              (λ (same : f.base ≡ g.base).
              let object : g ≡ f = one_at_base (found_in mid.states) (length mid.states) map f g there_f there (sym same) in
              none_some g (sym (loses.removed.before w (subst (IsInside w) object (map.reads w g was))) ∙ e))
              (Contains-push_cases [] f.base g.base has)

-- ---- all pages
pub forgotten_all : (old : Store) (marks : List Bool) (n : ℕ) (now : Store) → IsLawful old.states → IsPendingRow now → HasForgotten old marks (length old.states) n now → ForgetsLazily old marks n now
forgotten_all old marks n now lawful row h = record {
  words = h.words;
  pages = h.pages;
  cells = record { less = h.less; small = h.small };
  pending = record {
    unmarked = λ w f there is_cut not. h.unswept w f there (below w f (h.less w f there)) not;
    only = λ p has. let x = h.only p has in (x.0, x.1, x.2, x.3, row.cut p has, x.4);
  };
  bases = h.bases;
  number = h.number;
  without = record {
    gone = All-weaker (λ b. (p : ℕ) × (p < length old.states) × IsUnmarkedOn old.states marks p b) (λ b. (f : Found) × (found_in old.states b ≡ Some f) × (f.base ≡ b)) (λ b x. (x.2.object, x.2.is, x.2.at)) h.bases h.each;
    distinct = h.distinct;
    left = λ w f e. let k = (ended w f).0 e in (k.0, λ has. unmarked_base f has k.1);
    kept = λ w f e stays. (ended w f).1 (e, marked f (at_base (found_in old.states) (length old.states) lawful.map w f e) stays (get_or marks (granule f.base) false) refl);
  };
  unmarked = λ f there. ((λ has k. unmarked_base f has k), λ not. h.all f there (below f.base f there) not);
}
  where
    below : (w : ℕ) (f : Found) → found_in old.states w ≡ Some f → f.page < length old.states
    below w f there = (lawful.object w f there).page

    ended : (w : ℕ) (f : Found) → (kept_in now.states now.pending marks w ≡ Some f → (found_in old.states w ≡ Some f) × Has marks (granule f.base)) × ((found_in old.states w ≡ Some f) × Has marks (granule f.base) → kept_in now.states now.pending marks w ≡ Some f)
    ended w f = ended_lazily marks now.pending (found_in old.states) (found_in now.states) h.less (λ v g there k. h.stays v g there (inl k)) (λ v g there not. h.unswept v g there (below v g (h.less v g there)) not) w f

    unmarked_base : (f : Found) → Contains h.bases f.base → Has marks (granule f.base) → ⊥
    unmarked_base f has k = (All-contains (λ b. (p : ℕ) × (p < length old.states) × IsUnmarkedOn old.states marks p b) h.bases f.base h.each has).2.unmarked k

    marked : (f : Found) → found_in old.states f.base ≡ Some f → (Contains h.bases f.base → ⊥) → (b : Bool) → get_or marks (granule f.base) false ≡ b → Has marks (granule f.base)
    marked f there stays true e = e
    marked f there stays false e = absurd (stays (h.all f there (below f.base f there) (λ k. false≢true (sym e ∙ k))))

-- ---- free pages have nothing to forget
pub free_has_nothing : (t : Store) (marks : List Bool) (page : ℕ) → IsLawful t.states → state_at t.states page ≡ free → ForgetsOn t marks page 0 t
free_has_nothing t marks page lawful is = no_large t marks page lawful (λ c. subst IsCut is c) (ap (found_large page) (sym is))

pub forgotten_over : (old : Store) (marks : List Bool) (page n : ℕ) (mid : Store) → IsMap (length old.states) (found_in old.states) → IsLawful mid.states → HasForgotten old marks page n mid → (k : ℕ)
    → ((p : ℕ) → page ≤ p → p < page + k → state_at mid.states p ≡ free) → HasForgotten old marks (page + k) n mid
forgotten_over old marks page n mid before lawful h zero free_there = subst (λ p. HasForgotten old marks p n mid) (omega arith) h
forgotten_over old marks page n mid before lawful h (suc k) free_there =
    let so_far = forgotten_over old marks page n mid before lawful h k (λ p a b. free_there p a (omega arith)) in
    subst (λ c. HasForgotten old marks (page + suc k) c mid) (omega arith)
    (subst (λ p. HasForgotten old marks p (n + 0) mid) (omega arith)
    (forgotten_more old marks (page + k) n mid before lawful.map so_far 0 mid (free_has_nothing mid marks (page + k) lawful (free_there (page + k) (omega arith) (omega arith)))))

-- up to a page that is further on, where those between are free
pub forgotten_to : (old : Store) (marks : List Bool) (page n : ℕ) (mid : Store) → IsMap (length old.states) (found_in old.states) → IsLawful mid.states → Agree mid.free mid.states → HasForgotten old marks page n mid
    → (to : ℕ) → page ≤ to → ((p : ℕ) → page ≤ p → p < to → Has mid.free p) → HasForgotten old marks to n mid
forgotten_to old marks page n mid before lawful agree h to le free_there =
    let k : ℕ = to - page in
    let same : page + k ≡ to = omega arith in
    subst (λ p. HasForgotten old marks p n mid) same
    (forgotten_over old marks page n mid before lawful h k (λ p a b. agree.free_in_map p (free_there p a (omega arith))))
