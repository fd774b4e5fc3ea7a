-- Where a plain heap has a place, the heaps that it stands for have room, and the other way round.
use Rattle.std.proofs.Common.{◌≡◌, ℕ, get_or, sym, ◌∙◌, inl, inr, ⊎_elim}
use Rattle.std.proofs.lemmas.List.Elements.{All-contains, Contains-get_or}
use Rattle.words.specs.declared.class.Kind.{Kind}
use Rattle.words.specs.declared.class.Placement.{Placement}
use Rattle.words.specs.declared.class.Placement.TheVariants.{Small, Large}
use Rattle.heap_spec.specs.Layout.{LiesOn}
use Rattle.heap_spec.specs.Heap.{Heap}
use Rattle.heap_spec.specs.Room.{IsEmptyPage, IsCutFor, HasRoom}
use Rattle.plain_heap.specs.declared.extent.Extent.{Extent}
use Rattle.plain_heap.specs.PlainContents.{PlainContents, IsLaidOut}
use Rattle.plain_heap.specs.Places.{IsPlace, IsFreePage, IsCutPage}
use Rattle.plain_heap.specs.Standing.{StandsFor}
use Rattle.plain_heap.proofs.Objects.{object_of, extent_of, none_at, none_in}

module _ (c : PlainContents) (sound : IsLaidOut c) (s : Heap) (h : StandsFor c s) where
  free_of : (page : ℕ) → IsFreePage c.objects page → IsEmptyPage s page
  free_of page free base o has lies =
      let e = extent_of c sound s h base o has in
      All-contains (λ (g : Extent). LiesOn g.base g.length page → ⊥) c.objects e.0 free e.1 (rw (e.2, e.3) lies)

  free_in : (page : ℕ) → IsEmptyPage s page → IsFreePage c.objects page
  free_in page free k d lt lies =
      let o = object_of c sound s h (get_or c.objects k d) (Contains-get_or c.objects k d lt) in
      free _ o.0 o.1 (rw o.2 lies)

  cut_of : (page n : ℕ) (kind : Kind) → IsCutPage c.objects page n kind → IsCutFor s page n kind
  cut_of page n kind cut base o has lies =
      let e = extent_of c sound s h base o has in
      let r = All-contains (λ (g : Extent). LiesOn g.base g.length page → (g.length ≡ n) × (g.kind ≡ kind)) c.objects e.0 cut e.1 (rw (e.2, e.3) lies) in
      (sym e.3 ∙ r.0, sym e.4 ∙ r.1)

  cut_in : (page n : ℕ) (kind : Kind) → IsCutFor s page n kind → IsCutPage c.objects page n kind
  cut_in page n kind cut k d lt lies =
      let o = object_of c sound s h (get_or c.objects k d) (Contains-get_or c.objects k d lt) in
      let r = cut _ o.0 o.1 (rw o.2 lies) in
      (sym o.2 ∙ r.0, sym o.3 ∙ r.1)

  pub room_of : (placement : Placement) (kind : Kind) (a : ℕ) → IsPlace c.objects c.pages placement kind a → HasRoom s placement kind a
  room_of (Small class) kind a p = record {
    page = p.page;
    cell = p.on.cell;
    in_heap = rw h.pages p.in_heap;
    in_page = p.on.in_page;
    is_cell = p.on.is_cell;
    cut = ⊎_elim (λ free. inl (free_of p.page free)) (λ cut. inr (cut_of p.page class kind cut.0, none_at c sound s h a cut.1)) p.on.cut;
  }
  room_of (Large count) kind a p = record {
    first = p.first;
    in_heap = rw h.pages p.in_heap;
    is_start = p.is_start;
    free = λ page low high. free_of page (p.free page low high);
  }

  pub place_of : (placement : Placement) (kind : Kind) (a : ℕ) → HasRoom s placement kind a → IsPlace c.objects c.pages placement kind a
  place_of (Small class) kind a r = record {
    page = r.page;
    in_heap = rw (← h.pages) r.in_heap;
    on = record {
      cell = r.cell;
      in_page = r.in_page;
      is_cell = r.is_cell;
      cut = ⊎_elim (λ free. inl (free_in r.page free)) (λ cut. inr (cut_in r.page class kind cut.0, none_in c sound s h a cut.1)) r.cut;
    };
  }
  place_of (Large count) kind a r = record {
    first = r.first;
    in_heap = rw (← h.pages) r.in_heap;
    is_start = r.is_start;
    free = λ page low high. free_in page (r.free page low high);
  }
