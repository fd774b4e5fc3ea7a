-- The calls on links.
use Rattle.std.proofs.Common.{inl, inr, ◌≡◌, ℕ, ◌%◌, ◌<◌, Bool, false, List, length, Some, refl, sym, ap, ◌∙◌, subst, arith}
use Rattle.std.specs.Prelude.{if◌then◌else◌}
use Rattle.words.specs.declared.limits.TheConstants.{MAX_LINKS}
use Rattle.words.specs.declared.class.Kind.TheVariants.{PointerFree}
use Rattle.words.specs.declared.refusal.Refusal.TheVariants.{LinksFull}
use Rattle.heap_spec.specs.declared.call.Call.TheVariants.{Link as LinkCall, Unlink}
use Rattle.heap_spec.specs.declared.event.Event.TheVariants.{Mutator}
use Rattle.heap_spec.specs.declared.reply.Reply.TheVariants.{Done, Count, Refused}
use Rattle.heap_spec.specs.Heap.{Heap, Mutator as HeapMutator}
use Rattle.heap_spec.specs.Steps.{Acts, Calls, address, register, with_link, without_link, HasLinkRoom}
use Rattle.block_map.specs.FoundIn.{found_in, IsLawful}
use Rattle.block_map.specs.declared.found.Found.{Found}
use Rattle.links.specs.declared.row.Link.{Link}
use Rattle.links.specs.Rows.{has_at, but_at, with_link_at, HasRowRoom}
use Rattle.links.specs.Named.{AreNamed}
use Rattle.links.proofs.Named.{named_length, named_at, named_but, named_push}
use Rattle.roots.specs.Roots.{RootSet, HasMutator}
use Rattle.object_space.specs.Store.{Store}
use Rattle.object_space.specs.Kept.{restrict, is_kept}
use Rattle.heap_core.specs.CoreContents.{Cycle}
use Rattle.heap_core.specs.MutatorCalls.{IsCall}
use Rattle.heap_core.proofs.Lookups.{finds}
use Rattle.heap_core.proofs.Roots.{core_of, attached, quiet, links_change}

-- there is room for a link in the heap where there is in the row
room_for : (s : Heap) (ls : List Link) (a : ℕ) → AreNamed s.objects ls s.links → HasRowRoom ls a → HasLinkRoom s a
room_for s ls a named (inl few) = inl (subst (λ n. n < MAX_LINKS) (named_length s.objects named) few)
room_for s ls a named (inr stands) = inr (sym (named_at s.objects a named) ∙ stands)

pub linked : (roots : RootSet) (t : Store) (y : Cycle) (ls : List Link) (slot a n r : ℕ) (m : HeapMutator) (f g : Found) → IsLawful t.states → HasMutator roots slot m → address m a n % 8 ≡ 0
    → restrict (is_kept t.pending y.marker.marks) (found_in t.states) (address m a n) ≡ Some f → f.kind ≡ PointerFree → restrict (is_kept t.pending y.marker.marks) (found_in t.states) (register m r) ≡ Some g
    → HasRowRoom ls (address m a n) → IsCall (core_of roots t y ls) (Mutator slot (LinkCall a n r)) Done (core_of roots t y (with_link_at ls (address m a n) g.base))
linked roots t y ls slot a n r m f g lawful at aligned is kind names room = links_change (core_of roots t y ls) (with_link_at ls (address m a n) g.base) (Mutator slot (LinkCall a n r)) Done (λ h. h) (λ s h.
    let holder = finds (is_kept t.pending y.marker.marks) t s (address m a n) f lawful h.store is in
    let object = finds (is_kept t.pending y.marker.marks) t s (register m r) g lawful h.store names in (
      with_link s (address m a n) object.0.birth,
      Calls.acts (attached roots t y s slot m h at) (Acts.linked aligned holder.1 (holder.2.kind ∙ kind) object.1 (room_for s ls (address m a n) h.links room)),
      record {
        mutators = h.mutators;
        globals = h.globals;
        request_words = h.request_words;
        store = record { pages = h.store.pages; shows = h.store.shows };
        links = named_push s.objects (named_but s.objects (address m a n) h.links) (record { address = refl; aligned = aligned; holder_base = f.base; holder = holder.0; held = holder.1.0; in_holder = holder.1.1; object = object.0; has = object.1.0; names = refl });
      },
    ))

-- there is no room for a link
pub no_room : (roots : RootSet) (t : Store) (y : Cycle) (ls : List Link) (slot a n r : ℕ) (m : HeapMutator) (f g : Found) → IsLawful t.states → HasMutator roots slot m → address m a n % 8 ≡ 0
    → restrict (is_kept t.pending y.marker.marks) (found_in t.states) (address m a n) ≡ Some f → f.kind ≡ PointerFree → restrict (is_kept t.pending y.marker.marks) (found_in t.states) (register m r) ≡ Some g
    → length ls ≡ MAX_LINKS → has_at ls (address m a n) ≡ false → IsCall (core_of roots t y ls) (Mutator slot (LinkCall a n r)) (Refused LinksFull) (core_of roots t y ls)
no_room roots t y ls slot a n r m f g lawful at aligned is kind names full free = quiet (core_of roots t y ls) roots (Mutator slot (LinkCall a n r)) (Refused LinksFull) (λ h. h) (λ s h.
    let holder = finds (is_kept t.pending y.marker.marks) t s (address m a n) f lawful h.store is in
    let object = finds (is_kept t.pending y.marker.marks) t s (register m r) g lawful h.store names in
    let long = named_length s.objects h.links in
    (s, Calls.acts (attached roots t y s slot m h at) (Acts.links_full aligned holder.1 (holder.2.kind ∙ kind) object.1 (omega arith) (sym (named_at s.objects (address m a n) h.links) ∙ free)), h))

abbrev pub one_if : Bool → ℕ
one_if b = if b then 1 else 0

pub unlinked : (roots : RootSet) (t : Store) (y : Cycle) (ls : List Link) (slot a n : ℕ) (m : HeapMutator) (count : ℕ) → HasMutator roots slot m → count ≡ one_if (has_at ls (address m a n))
    → IsCall (core_of roots t y ls) (Mutator slot (Unlink a n)) (Count count) (core_of roots t y (but_at ls (address m a n)))
unlinked roots t y ls slot a n m count at is = links_change (core_of roots t y ls) (but_at ls (address m a n)) (Mutator slot (Unlink a n)) (Count count) (λ h. h) (λ s h. (
  without_link s (address m a n),
  Calls.acts (attached roots t y s slot m h at)
      (subst (λ k. Acts s slot m (Unlink a n) (Count k) (without_link s (address m a n))) (sym (is ∙ ap one_if (named_at s.objects (address m a n) h.links))) Acts.unlinked),
  record { mutators = h.mutators; globals = h.globals; request_words = h.request_words; store = record { pages = h.store.pages; shows = h.store.shows }; links = named_but s.objects (address m a n) h.links },
))
