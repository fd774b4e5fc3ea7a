-- The calls on links.
use Rattle.std.proofs.Common.{inl, inr, ◌≡◌, ℕ, ◌%◌, ◌<◌, Bool, refl, sym, ap, ◌∙◌, subst, arith}
use Rattle.std.specs.Prelude.{Contains, if◌then◌else◌}
use Rattle.words.specs.declared.limits.TheConstants.{MAX_LINKS}
use Rattle.words.specs.declared.class.Kind.TheVariants.{PointerFree}
use Rattle.words.specs.declared.refusal.Refusal.TheVariants.{LinksFull}
use Rattle.heap_spec.specs.declared.call.Call.TheVariants.{Link as LinkCall, Unlink}
use Rattle.heap_spec.specs.declared.reply.Reply.TheVariants.{Done, Count, Refused}
use Rattle.heap_spec.specs.Layout.{PointsInto}
use Rattle.heap_spec.specs.Heap.{Heap, Object, Mutator, PointsIntoObject}
use Rattle.heap_spec.specs.Steps.{Acts, acts, address, register, with_link, without_link, HasLinkRoom}
use Rattle.links.specs.Rows.{has_at, but_at, with_link_at, HasRowRoom, LacksRowRoom}
use Rattle.links.proofs.Named.{named_length, named_at, named_but, named_push}
use Rattle.roots.specs.Roots.{HasMutator}
use Rattle.plain_heap.specs.declared.extent.Extent.{Extent}
use Rattle.plain_heap.specs.PlainContents.{PlainContents, IsLaidOut}
use Rattle.plain_heap.specs.Standing.{StandsFor}
use Rattle.plain_heap.proofs.Stands.{StepsCall, mutator_at}
use Rattle.plain_heap.proofs.Objects.{reads_object}

-- there is room for a link in the heap where there is in the row, and else there is none
pub room_for : (c : PlainContents) (s : Heap) (a : ℕ) → StandsFor c s → HasRowRoom c.links a → HasLinkRoom s a
room_for c s a h (inl few) = inl (subst (λ n. n < MAX_LINKS) (named_length s.objects h.links) few)
room_for c s a h (inr stands) = inr (sym (named_at s.objects a h.links) ∙ stands)

pub full_acts : (c : PlainContents) (s : Heap) → StandsFor c s → (slot a n r base named : ℕ) (m : Mutator) (o p : Object) → address m a n % 8 ≡ 0 → PointsIntoObject s (address m a n) base o → o.kind ≡ PointerFree
    → PointsIntoObject s (register m r) named p → LacksRowRoom c.links (address m a n) → Acts s slot m (LinkCall a n r) (Refused LinksFull) s
full_acts c s h slot a n r base named m o p aligned reads kind names lacks =
    let long = named_length s.objects h.links in
    let full = lacks.full in
    Acts.links_full aligned reads kind names (omega arith) (sym (named_at s.objects (address m a n) h.links) ∙ lacks.free)

pub linked : (c : PlainContents) → IsLaidOut c → (slot a n r : ℕ) (m : Mutator) (e g : Extent) → HasMutator c.roots slot m → address m a n % 8 ≡ 0 → Contains c.objects e → PointsInto (address m a n) e.base e.length → e.kind ≡ PointerFree
    → Contains c.objects g → PointsInto (register m r) g.base g.length → HasRowRoom c.links (address m a n) → StepsCall c slot (LinkCall a n r) Done (record c { links = with_link_at c.links (address m a n) g.base })
linked c sound slot a n r m e g at aligned has reads kind named names room s h =
    let holder = reads_object c sound s h e has (address m a n) reads in
    let object = reads_object c sound s h g named (register m r) names in (
      with_link s (address m a n) object.0.birth,
      acts (mutator_at c s h slot m at) (Acts.linked aligned holder.1 (holder.3 ∙ kind) object.1 (room_for c s (address m a n) h room)),
      record {
        pages = h.pages;
        mutators = h.mutators;
        globals = h.globals;
        request_words = h.request_words;
        kept = h.kept;
        only = h.only;
        born = h.born;
        distinct = h.distinct;
        links = named_push s.objects (named_but s.objects (address m a n) h.links)
            (record { address = refl; aligned = aligned; holder_base = e.base; holder = holder.0; held = holder.1.0; in_holder = holder.1.1; object = object.0; has = object.1.0; names = refl });
      },
    )

abbrev pub one_if : Bool → ℕ
one_if b = if b then 1 else 0

pub unlink_acts : (c : PlainContents) (s : Heap) → StandsFor c s → (slot a n : ℕ) (m : Mutator) (count : ℕ) → count ≡ one_if (has_at c.links (address m a n)) → Acts s slot m (Unlink a n) (Count count) (without_link s (address m a n))
unlink_acts c s h slot a n m count is =
    subst (λ k. Acts s slot m (Unlink a n) (Count k) (without_link s (address m a n))) (sym (is ∙ ap one_if (named_at s.objects (address m a n) h.links))) Acts.unlinked

pub unlinked : (c : PlainContents) (slot a n : ℕ) (m : Mutator) (count : ℕ) → HasMutator c.roots slot m → count ≡ one_if (has_at c.links (address m a n))
    → StepsCall c slot (Unlink a n) (Count count) (record c { links = but_at c.links (address m a n) })
unlinked c slot a n m count at is s h = (
  without_link s (address m a n),
  acts (mutator_at c s h slot m at) (unlink_acts c s h slot a n m count is),
  record {
    pages = h.pages;
    mutators = h.mutators;
    globals = h.globals;
    request_words = h.request_words;
    kept = h.kept;
    only = h.only;
    born = h.born;
    distinct = h.distinct;
    links = named_but s.objects (address m a n) h.links;
  },
)
