-- Paths that are found by going back along the list of reached objects.
use Rattle.std.proofs.Common.{◌≡◌, ℕ, ◌<◌, min, Bool, List, [], ◌∷◌, ◌++◌, length, get_or, take, reverse, refl, sym, ap, ◌∙◌, subst, arith, append_assoc}
use Rattle.std.specs.Prelude.{Some, All, Contains, slice_get}
use Rattle.std.specs.List.{IsDistinct}
use Rattle.std.specs.Prelude.{nat_eq}
use Rattle.std.proofs.lemmas.Bool.{eq-eqb, true≢false}
use Rattle.std.proofs.lemmas.Option.{same_Some, slice_get_within, slice_get-get_or, get_or_from_slice_get}
use Rattle.std.proofs.lemmas.List.{append-nil, reverse-append, get_or-take, length-take}
use Rattle.std.proofs.lemmas.List.Elements.{All-contains}
use Rattle.std.proofs.lemmas.Map.Keys.{apart_from_distinct}
use Rattle.heap_spec.specs.Layout.{PointsInto}
use Rattle.heap_spec.specs.Heap.{Heap}
use Rattle.heap_spec.specs.Closure.{Reached}
use Rattle.roots.specs.Roots.{RootSet, root_words_of}
use Rattle.roots.specs.Finding.{AreNotInto, RootsHave}
use Rattle.plain_heap.specs.declared.extent.Extent.{Extent}
use Rattle.plain_heap.specs.declared.keepers.Keeper.{Keeper}
use Rattle.plain_heap.specs.declared.keepers.Keeper.TheVariants.{ByRoot, ByWord}
use Rattle.plain_heap.specs.declared.paths.PathStep.{PathStep}
use Rattle.plain_heap.specs.PlainContents.{PlainContents, IsLaidOut}
use Rattle.plain_heap.specs.Standing.{StandsFor, words_at}
use Rattle.plain_heap.specs.Reached.{PointsIntoNth, MarksReached, links_of}
use Rattle.plain_heap.specs.Listing.{IsListOf}
use Rattle.plain_heap.specs.Discovery.{IsLedTo, by_root, by_earlier, IsDiscovered}
use Rattle.plain_heap.specs.Keepers.{roots_of, IsLinkAt, HasNoLink}
use Rattle.plain_heap.specs.Paths.{IsPath, from_root, from_word, IsRootStep, IsWordStep, IsRowPath, row_root, row_word, EndsAtRoot, GoesBack}
use Rattle.plain_heap.proofs.Objects.{object_of}
use Rattle.plain_heap.proofs.Collects.{in_row, reached_out, reached_in}
use Rattle.plain_heap.proofs.Forgets.{one_each}
use Rattle.plain_heap.proofs.Keeping.{read_at}

-- what stands in the first part of a list stands there in the whole
pub from_first : (place k x : ℕ) (order : List ℕ) → slice_get (take place order) k ≡ Some x → (k < place) × (slice_get order k ≡ Some x)
from_first place k x order at =
    let lt : k < length (take place order) = slice_get_within (take place order) k x at in
    let few : length (take place order) ≡ min place (length order) = length-take place order in
    (omega arith, slice_get-get_or order k x (omega arith) ∙ ap Some (sym (get_or-take place order k x (omega arith)) ∙ get_or_from_slice_get (take place order) k x x at))

-- and the other way round
in_first : (place k x : ℕ) (order : List ℕ) → k < place → slice_get order k ≡ Some x → Contains (take place order) x
in_first place k x order lt at =
    let short : k < length order = slice_get_within order k x at in
    let few : length (take place order) ≡ min place (length order) = length-take place order in
    (k, omega arith, get_or-take place order k x lt ∙ get_or_from_slice_get order k x x at)

-- an object stands at one place of the list
once_listed : (order : List ℕ) → IsDistinct nat_eq order → (j k x : ℕ) → j < k → slice_get order j ≡ Some x → slice_get order k ≡ Some x → ⊥
once_listed order distinct j k x lt at at' =
    let apart = apart_from_distinct nat_eq order j k x distinct lt (slice_get_within order k x at') in
    true≢false (sym (eq-eqb x x refl) ∙ ap (λ y. nat_eq x y) (sym (get_or_from_slice_get order k x x at')) ∙ ap (λ y. nat_eq y (get_or order k x)) (sym (get_or_from_slice_get order j x x at)) ∙ apart)

module _ (origin : ℕ) (roots words : List ℕ) (row : List Extent) (order : List ℕ) (distinct : IsDistinct nat_eq order) (d : IsDiscovered origin roots words row order) where
  -- a listed object into which no root points is pointed into by one that is listed before
  pub not_unled : (place own : ℕ) (e : Extent) → slice_get order place ≡ Some own → slice_get row own ≡ Some e → AreNotInto roots e.base e.length
      → All (HasNoLink origin words row own e) (take place order) → ⊥
  not_unled place own e at there rootless none = unled (d.led place own at)
    where
      into : (w : ℕ) → PointsIntoNth row w own → PointsInto w e.base e.length
      into w p = subst (λ (x : Extent). PointsInto w x.base x.length) (same_Some p.0 e (sym p.1 ∙ there)) p.2

      unled : IsLedTo origin roots words row order place own → ⊥
      unled (by_root {w = w} among p) = All-contains (λ v. PointsInto v e.base e.length → ⊥) roots w rootless among (into w p)
      unled (by_earlier {before = before} {from = from} {w = w} {e = f} lt bat fat among p) =
          let unlinked = All-contains (HasNoLink origin words row own e) (take place order) from none (in_first place before from order lt bat) in
          All-contains (λ v. PointsInto v e.base e.length → ⊥) (links_of origin words f) w
          (unlinked f fat (λ same. once_listed order distinct before place own lt (bat ∙ ap Some same) at)) among (into w p)

-- a word that keeps an object is a step
word_step : (origin : ℕ) (words : List ℕ) (row : List Extent) (position own : ℕ) (e : Extent) → slice_get row own ≡ Some e → (keeper : Keeper) → IsLinkAt origin words row own e position keeper → IsWordStep origin words row position own (record { keeper = keeper; base = e.base })
word_step origin words row position own e there (ByRoot root) is = absurd is
word_step origin words row position own e there (ByWord from index) is = record { object = e; there = there; to = refl; from = from; index = index; by = refl; into = is }

pub goes_back : (origin : ℕ) (words : List ℕ) (row : List Extent) (order : List ℕ) (place own : ℕ) (e : Extent) → slice_get order place ≡ Some own → slice_get row own ≡ Some e → (before : ℕ) (keeper : Keeper)
    → (position : ℕ) × (slice_get (take place order) before ≡ Some position) × IsLinkAt origin words row own e position keeper
    → (old new : List PathStep) → new ≡ old ++ record { keeper = keeper; base = e.base } ∷ [] → GoesBack origin words row order place old new before
goes_back origin words row order place own e at there before keeper found old new put =
    let first = from_first place before found.0 order found.1 in
    record {
      own = own;
      at = at;
      earlier = first.0;
      position = found.0;
      before_at = first.1;
      step = record { keeper = keeper; base = e.base };
      put = put;
      is_step = word_step origin words row found.0 own e there keeper found.2;
    }

-- The path from the object at one place of the list to that at the first, its last step first: what leads to the one leads to the
-- other.
pub record IsWalked (origin : ℕ) (roots : RootSet) (words : List ℕ) (row : List Extent) (order : List ℕ) (start : ℕ) (path : List PathStep) (place : ℕ) : Type 0 where
  pub within : place < length order
  pub on : (own first : ℕ) → slice_get order place ≡ Some own → slice_get order start ≡ Some first → (front : List PathStep) → IsRowPath origin roots words row front own → IsRowPath origin roots words row (front ++ reverse path) first

module _ (origin : ℕ) (roots : RootSet) (words : List ℕ) (row : List Extent) (order : List ℕ) (start : ℕ) where
  pub walked_none : (path : List PathStep) → path ≡ [] → start < length order → IsWalked origin roots words row order start path start
  walked_none path none within = record {
    within = within;
    on = λ own first at at' front leads.
        subst (λ p. IsRowPath origin roots words row (front ++ reverse p) first) (sym none)
        (subst (λ p. IsRowPath origin roots words row p first) (sym (append-nil front)) (subst (IsRowPath origin roots words row front) (same_Some own first (sym at ∙ at')) leads));
  }

  -- the last steps behind one step more
  turned : (front old new : List PathStep) (step : PathStep) → new ≡ old ++ step ∷ [] → (front ++ step ∷ []) ++ reverse old ≡ front ++ reverse new
  turned front old new step put = append_assoc front (step ∷ []) (reverse old) ∙ ap (λ p. front ++ p) (sym (ap reverse put ∙ reverse-append old (step ∷ [])))

  pub walked_more : (old new : List PathStep) (place before : ℕ) → IsWalked origin roots words row order start old place → GoesBack origin words row order place old new before → IsWalked origin roots words row order start new before
  walked_more old new place before h goes = record {
    within = slice_get_within order before goes.position goes.before_at;
    on = λ own first at at' front leads.
        let same : own ≡ goes.position = same_Some own goes.position (sym at ∙ goes.before_at) in
        subst (λ p. IsRowPath origin roots words row p first) (turned front old new goes.step goes.put)
        (h.on goes.own first goes.at at' (front ++ goes.step ∷ []) (row_word front goes.step (subst (IsRowPath origin roots words row front) same leads) goes.is_step));
  }

  pub walked_all : (old new : List PathStep) (place : ℕ) → IsWalked origin roots words row order start old place → EndsAtRoot roots row order place old new → (own : ℕ) → slice_get order start ≡ Some own → IsRowPath origin roots words row (reverse new) own
  walked_all old new place h ends first at =
      subst (λ p. IsRowPath origin roots words row p first) (turned [] old new ends.step ends.put)
      (h.on ends.own first ends.at at (ends.step ∷ []) (row_root ends.step ends.is_step))

-- a step by its two parts
step_is : (step : PathStep) (keeper : Keeper) (base : ℕ) → step.keeper ≡ keeper → step.base ≡ base → step ≡ record { keeper = keeper; base = base }
step_is step keeper base by to = ap (λ k. record { keeper = k; base = step.base }) by ∙ ap (λ b. record { keeper = keeper; base = b }) to

module _ (c : PlainContents) (sound : IsLaidOut c) (s : Heap) (h : StandsFor c s) where
  roots_are : roots_of s ≡ c.roots
  roots_are = ap (λ ms. record { mutators = ms; globals = s.globals; request_words = s.request_words }) h.mutators ∙ ap (λ gs. record { mutators = c.roots.mutators; globals = gs; request_words = s.request_words }) h.globals ∙ ap (λ n. record { mutators = c.roots.mutators; globals = c.roots.globals; request_words = n }) h.request_words

  root_path : (own : ℕ) (step : PathStep) (e : Extent) → slice_get c.objects own ≡ Some e → IsRootStep c.roots c.objects own step → IsPath s (step ∷ []) e.base
  root_path own step e there is =
      let same : is.object ≡ e = same_Some is.object e (sym is.there ∙ there) in
      let o = object_of c sound s h e (in_row c.objects own e there) in
      subst (λ x. IsPath s (x ∷ []) e.base) (sym (step_is step (ByRoot is.root) e.base is.by (is.to ∙ ap (λ (x : Extent). x.base) same)))
      (from_root o.1 (subst (RootsHave (roots_of s) is.root e.base) (sym o.2)
      (subst (λ (r : RootSet). RootsHave r is.root e.base e.length) (sym roots_are)
      (subst (λ (x : Extent). RootsHave c.roots is.root x.base x.length) same is.has))))

  word_path : (path : List PathStep) (position own : ℕ) (step : PathStep) (e : Extent) → slice_get c.objects own ≡ Some e → (is : IsWordStep c.origin c.words c.objects position own step)
      → IsPath s path is.into.holder.base → IsPath s (path ++ step ∷ []) e.base
  word_path path position own step e there is before =
      let l = is.into in
      let same : is.object ≡ e = same_Some is.object e (sym is.there ∙ there) in
      let o = object_of c sound s h e (in_row c.objects own e there) in
      let kept = h.kept l.holder (in_row c.objects position l.holder l.there) in
      let read = read_at l.holder.kind (words_at c.origin c.words l.holder) is.index l.into.0 l.into.1 in
      subst (λ x. IsPath s (path ++ x ∷ []) e.base) (sym (step_is step (ByWord is.from is.index) e.base is.by (is.to ∙ ap (λ (x : Extent). x.base) same)))
      (from_word path is.from is.index e.base (subst (IsPath s path) l.is_base before) (subst (λ b. s.objects b ≡ Some kept.0) l.is_base kept.1) (kept.2.kind ∙ read.0) o.1 (
        l.into.0,
        ap (λ ws. slice_get ws is.index) kept.2.words ∙ read.1,
        subst (PointsInto l.into.0 e.base) (sym o.2) (subst (λ (x : Extent). PointsInto l.into.0 x.base x.length) same l.into.2),
      ))

  -- steps in the row are a path of the heap
  pub path_of : (path : List PathStep) (own : ℕ) (e : Extent) → slice_get c.objects own ≡ Some e → IsRowPath c.origin c.roots c.words c.objects path own → IsPath s path e.base
  path_of path own e there (row_root step is) = root_path own step e there is
  path_of path own e there (row_word front {position = position} step before is) =
      word_path front position own step e there is (path_of front position is.into.holder is.into.there before)

module _ (c : PlainContents) (sound : IsLaidOut c) (own base : ℕ) (found : (f : Extent) × (slice_get c.objects own ≡ Some f) × (f.base ≡ base)) (order : List ℕ) (marks : List Bool) (listed : IsListOf (length c.objects) order marks)
    (m : MarksReached c.origin (root_words_of c.roots) c.words c.objects marks) where
  -- what isn't listed isn't reached
  pub unlisted : (Contains order own → ⊥) → (s : Heap) → StandsFor c s → Reached s base → ⊥
  unlisted none s h r =
      let f = reached_in c sound s h base r in
      let same : f.0 ≡ own = (one_each c sound).one f.0 own f.1 found.0 f.2 found.1 (f.3 ∙ sym found.2) in
      none (subst (Contains order) same (listed.only f.0 (m.marked f.0 f.4)))

  pub told_path : (place : ℕ) → slice_get order place ≡ Some own → (path : List PathStep) → IsRowPath c.origin c.roots c.words c.objects path own → (s : Heap) → StandsFor c s → IsPath s path base × Reached s base
  told_path place at path leads s h = (
    subst (IsPath s path) found.2 (path_of c sound s h path own found.0 found.1 leads),
    subst (Reached s) found.2 (reached_out c sound s h own found.0 (m.reached own (listed.marked own (in_row order place own at))) found.1),
  )
