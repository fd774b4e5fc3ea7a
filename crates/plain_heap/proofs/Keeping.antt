-- What keeps an object reached, from where it stands in the row.
use Rattle.std.proofs.Common.{◌≡◌, ℕ, Bool, List, length, refl, sym, ap, ◌∙◌, subst, ⊎_elim}
use Rattle.std.specs.Prelude.{Option, Some, None, All, Contains, slice_get, IfSome, IfNone}
use Rattle.std.proofs.lemmas.Bool.{cases_eq}
use Rattle.std.proofs.lemmas.Option.{same_Some, none-some}
use Rattle.std.proofs.lemmas.List.Elements.{All-contains}
use Rattle.words.specs.declared.class.Kind.{Kind}
use Rattle.words.specs.declared.class.Kind.TheVariants.{Normal, PointerFree}
use Rattle.heap_spec.specs.Layout.{PointsInto}
use Rattle.heap_spec.specs.Heap.{Heap}
use Rattle.heap_spec.specs.Closure.{Reached}
use Rattle.roots.specs.declared.finding.Root.{Root}
use Rattle.roots.specs.Roots.{RootSet, root_words_of}
use Rattle.roots.specs.Finding.{AreNotInto, RootsHave}
use Rattle.plain_heap.specs.declared.extent.Extent.{Extent}
use Rattle.plain_heap.specs.declared.keepers.Keeper.{Keeper}
use Rattle.plain_heap.specs.declared.keepers.Keeper.TheVariants.{ByRoot, ByWord}
use Rattle.plain_heap.specs.PlainContents.{PlainContents, IsLaidOut}
use Rattle.plain_heap.specs.Standing.{StandsFor, words_at}
use Rattle.plain_heap.specs.Reached.{PointsIntoNth, IsReachedNth, by_root, by_link, MarksReached, read_words, links_of}
use Rattle.plain_heap.specs.Listing.{IsListOf}
use Rattle.plain_heap.specs.Keepers.{roots_of, IsKeptBy, TellsKeeper, IsLinkInto, IsLinkAt, HasNoLink}
use Rattle.plain_heap.proofs.Objects.{object_of}
use Rattle.plain_heap.proofs.Collects.{in_row, reached_out, reached_in}
use Rattle.plain_heap.proofs.Forgets.{one_each}

-- what is read of an object stands there
pub read_at : (kind : Kind) (words : List ℕ) (i w : ℕ) → slice_get (read_words kind words) i ≡ Some w → (kind ≡ Normal) × (slice_get words i ≡ Some w)
read_at Normal words i w at = (refl, at)
read_at PointerFree words i w at = absurd (none-some w at)

module _ (c : PlainContents) (sound : IsLaidOut c) (own : ℕ) (e : Extent) (there : slice_get c.objects own ≡ Some e) where
  pub kept_by_root : (root : Root) → RootsHave c.roots root e.base e.length → (s : Heap) → StandsFor c s → IsKeptBy s e.base (ByRoot root)
  kept_by_root root has s h =
      let o = object_of c sound s h e (in_row c.objects own e there) in
      let roots : roots_of s ≡ c.roots = ap (λ ms. record { mutators = ms; globals = s.globals; request_words = s.request_words }) h.mutators ∙ ap (λ gs. record { mutators = c.roots.mutators; globals = gs; request_words = s.request_words }) h.globals ∙ ap (λ n. record { mutators = c.roots.mutators; globals = c.roots.globals; request_words = n }) h.request_words in
      (o.0, o.1, subst (RootsHave (roots_of s) root e.base) (sym o.2) (subst (λ (r : RootSet). RootsHave r root e.base e.length) (sym roots) has))

  module _ (order : List ℕ) (marks : List Bool) (listed : IsListOf (length c.objects) order marks) (m : MarksReached c.origin (root_words_of c.roots) c.words c.objects marks) where
    kept_by_word : (from index i : ℕ) → Contains order i → IsLinkInto c.origin c.words c.objects own e i from index → (s : Heap) → StandsFor c s → IsKeptBy s e.base (ByWord from index)
    kept_by_word from index i among l s h =
        let kept = h.kept l.holder (in_row c.objects i l.holder l.there) in
        let o = object_of c sound s h e (in_row c.objects own e there) in
        let read = read_at l.holder.kind (words_at c.origin c.words l.holder) index l.into.0 l.into.1 in (
          o.0,
          o.1,
          record {
            other = λ same. l.other ((one_each c sound).one i own l.holder e l.there there (l.is_base ∙ same));
            reached = subst (Reached s) l.is_base (reached_out c sound s h i l.holder (m.reached i (listed.marked i among)) l.there);
            holder = kept.0;
            has = subst (λ b. s.objects b ≡ Some kept.0) l.is_base kept.1;
            normal = kept.2.kind ∙ read.0;
            into = (l.into.0, ap (λ ws. slice_get ws index) kept.2.words ∙ read.1, subst (PointsInto l.into.0 e.base) (sym o.2) l.into.2);
          },
        )

    module _ (rootless : AreNotInto (root_words_of c.roots) e.base e.length) where
      module _ (none : All (HasNoLink c.origin c.words c.objects own e) order) where
        into_own : (i w : ℕ) (p : PointsIntoNth c.objects w i) → i ≡ own → PointsInto w e.base e.length
        into_own i w p same = subst (λ (x : Extent). PointsInto w x.base x.length) (same_Some p.0 e (sym p.1 ∙ ap (slice_get c.objects) same ∙ there)) p.2

        unkept : (i : ℕ) → IsReachedNth c.origin (root_words_of c.roots) c.words c.objects i → i ≡ own → ⊥
        unkept i (by_root {w = w} among p) same = All-contains (λ v. PointsInto v e.base e.length → ⊥) (root_words_of c.roots) w rootless among (into_own i w p same)
        unkept i (by_link {i = from} {w = w} {e = f} r at among p) same = ⊎_elim
            (λ is. unkept from r is)
            (λ ne. All-contains (λ v. PointsInto v e.base e.length → ⊥) (links_of c.origin c.words f) w
            (All-contains (HasNoLink c.origin c.words c.objects own e) order from none (listed.only from (m.marked from r)) f at ne) among (into_own i w p same))
            (cases_eq from own)

        not_kept : (s : Heap) → StandsFor c s → TellsKeeper s e.base None
        not_kept s h r = let f = reached_in c sound s h e.base r in unkept f.0 f.4 ((one_each c sound).one f.0 own f.1 e f.2 there f.3)

      -- what the search of the list answers is told
      pub kept_in_list : (found : Option Keeper) → IfSome found (λ k. (i : ℕ) × Contains order i × IsLinkAt c.origin c.words c.objects own e i k) → IfNone found (All (HasNoLink c.origin c.words c.objects own e) order)
          → (s : Heap) → StandsFor c s → TellsKeeper s e.base found
      kept_in_list None some none s h = not_kept none s h
      kept_in_list (Some (ByRoot root)) some none s h = absurd some.2
      kept_in_list (Some (ByWord from index)) some none s h = kept_by_word from index some.0 some.1 some.2 s h

-- an object that was found by its base
pub kept_root : (c : PlainContents) (sound : IsLaidOut c) (own base : ℕ) (found : (f : Extent) × (slice_get c.objects own ≡ Some f) × (f.base ≡ base)) (e : Extent) (there : slice_get c.objects own ≡ Some e)
    → (root : Root) → RootsHave c.roots root e.base e.length → (s : Heap) → StandsFor c s → IsKeptBy s base (ByRoot root)
kept_root c sound own base found e there root has s h =
    let is : e.base ≡ base = ap (λ (x : Extent). x.base) (same_Some e found.0 (sym there ∙ found.1)) ∙ found.2 in
    subst (λ b. IsKeptBy s b (ByRoot root)) is (kept_by_root c sound own e there root has s h)
