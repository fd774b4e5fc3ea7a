-- Loads, stores and sizes.
use Rattle.std.proofs.Common.{◌≡◌, ℕ, ◌-◌, ◌/◌, ◌%◌, ◌≤◌, List, get_or, set, refl, sym, ap, ◌∙◌, subst, arith, ⊎_elim}
use Rattle.std.specs.Prelude.{Some, Contains}
use Rattle.std.proofs.lemmas.Option.{same_Some}
use Rattle.std.proofs.lemmas.List.{get_or_read}
use Rattle.std.proofs.lemmas.Bool.{cases_eq}
use Rattle.words.specs.declared.limits.TheConstants.{WORD_BYTES}
use Rattle.heap_spec.specs.declared.call.Call.TheVariants.{Load, Store, Size}
use Rattle.heap_spec.specs.declared.reply.Reply.TheVariants.{Done, Word, Count}
use Rattle.heap_spec.specs.Layout.{PointsInto}
use Rattle.heap_spec.specs.Heap.{Heap, Object, Mutator, HasObject}
use Rattle.heap_spec.specs.Steps.{Acts, acts, with_object, with_register, register, address}
use Rattle.heap_spec.proofs.Objects.{with_at-same, with_at-other}
use Rattle.heap_spec.proofs.Calls.{stored_same}
use Rattle.links.specs.Leaving.{word_index}
use Rattle.links.proofs.Named.{named_kept}
use Rattle.roots.specs.Roots.{RootSet, HasMutator, SetsWord}
use Rattle.plain_heap.specs.declared.extent.Extent.{Extent}
use Rattle.plain_heap.specs.PlainContents.{PlainContents, IsLaidOut, IsInHeap}
use Rattle.plain_heap.specs.Standing.{IsShown}
use Rattle.plain_heap.proofs.Stands.{StepsCall, mutator_at, keeps_all, sets_register}
use Rattle.plain_heap.proofs.Memory.{word_in, written_in, written_out}
use Rattle.plain_heap.proofs.Objects.{in_heap, reads_base, in_row, length_shown, reads_object}

pub loads : (c : PlainContents) (roots : RootSet) (k d r n w : ℕ) (m : Mutator) (e : Extent) → IsLaidOut c → HasMutator c.roots k m → Contains c.objects e
    → PointsInto (address m r n) e.base e.length → address m r n % WORD_BYTES ≡ 0 → w ≡ get_or c.words (word_index c.origin (address m r n)) w
    → SetsWord c.roots k d w roots → StepsCall c k (Load d r n) (Word w) (record c { roots = roots })
loads c roots k d r n w m e sound at has reads al is sets =
    sets_register c roots k d w m (Load d r n) (Word w) at sets
    (λ s h.
    let a : ℕ = address m r n in
    let kept = h.kept e has in
    let word : get_or kept.0.words ((a - e.base) / WORD_BYTES) 0 ≡ w =
    ap (λ xs. get_or xs ((a - e.base) / WORD_BYTES) 0) kept.2.words
    ∙ word_in c.origin c.words c.pages a e sound.starts (in_heap c sound e has) reads
    ∙ sym (get_or_read c.words (word_index c.origin a) w (in_row c sound e has a reads) is 0) in
    subst (λ v. Acts s k m (Load d r n) (Word v) (with_register s k m d v)) word (Acts.loaded al (kept.1, rw (length_shown c sound e has kept.0 kept.2) reads)))

pub sizes : (c : PlainContents) (k r : ℕ) (m : Mutator) (e : Extent) → IsLaidOut c → HasMutator c.roots k m → Contains c.objects e → PointsInto (register m r) e.base e.length
    → StepsCall c k (Size r) (Count e.length) c
sizes c k r m e sound at has reads =
    keeps_all c k (Size r) (Count e.length) m at
    (λ s h. let o = reads_object c sound s h e has (register m r) reads in subst (λ n. Acts s k m (Size r) (Count n) s) o.2 (Acts.sized o.1))

-- an object that takes the place of one of the same birth
module _ (s : Heap) (base : ℕ) (o o' : Object) (has : HasObject s base o) (birth : o'.birth ≡ o.birth) where
  -- each object was there, with its birth
  pub was_there : (b : ℕ) (p : Object) → HasObject (with_object s base (Some o')) b p → (q : Object) × HasObject s b q × (q.birth ≡ p.birth)
  was_there b p is =
      ⊎_elim
      (λ same. (o, ap s.objects same ∙ has, sym birth ∙ ap (λ (x : Object). x.birth) (same_Some _ _ (sym (with_at-same s.objects base (Some o') b same) ∙ is))))
      (λ other. (p, sym (with_at-other s.objects base (Some o') b other) ∙ is, refl))
      (cases_eq b base)

pub stores : (c : PlainContents) (k r n f : ℕ) (m : Mutator) (e : Extent) → IsLaidOut c → HasMutator c.roots k m → Contains c.objects e
    → PointsInto (address m r n) e.base e.length → address m r n % WORD_BYTES ≡ 0
    → StepsCall c k (Store r n f) Done (record c { words = set c.words (word_index c.origin (address m r n)) (register m f) })
stores c k r n f m e sound at has reads al s h = (
  after,
  acts (mutator_at c s h k m at) (Acts.stored al (kept.1, rw (length_shown c sound e has kept.0 kept.2) reads)),
  record {
    pages = h.pages;
    mutators = h.mutators;
    globals = h.globals;
    request_words = h.request_words;
    kept = λ g hg. ⊎_elim
        (λ same. subst (λ (x : Extent). (p : Object) × HasObject after x.base p × IsShown c.origin row x p) (sound.apart e g g.base has hg (reads_base c sound e has g.base same) (reads_base c sound g hg g.base refl))
        (o', with_at-same s.objects e.base (Some o') e.base refl, record { kind = kept.2.kind; words = ap (λ xs. set xs ((a - e.base) / WORD_BYTES) v) kept.2.words ∙ sym (written_in c.origin c.words c.pages a v e sound.starts (in_heap c sound e has) reads) }))
        (λ other. let old = h.kept g hg in (
          old.0,
          with_at-other s.objects e.base (Some o') g.base other ∙ old.1,
          record { kind = old.2.kind; words = old.2.words ∙ sym (written_out c.origin c.words c.pages a v g sound.starts (in_heap c sound g hg) (low) al (λ rg. other (ap (λ (x : Extent). x.base) (sound.apart g e a hg has rg reads)))) },
        ))
        (cases_eq g.base e.base);
    only = λ b p is. let q = was_there s e.base kept.0 o' kept.1 refl b p is in h.only b q.0 q.1;
    born = λ b p is. let q = was_there s e.base kept.0 o' kept.1 refl b p is in subst (λ x. (1 ≤ x) × (x ≤ s.births)) q.2 (h.born b q.0 q.1);
    distinct = λ b d p t ip it same.
        let q = was_there s e.base kept.0 o' kept.1 refl b p ip in
        let u = was_there s e.base kept.0 o' kept.1 refl d t it in
        h.distinct b d q.0 u.0 q.1 u.1 (q.2 ∙ same ∙ sym u.2);
    links = named_kept s.objects after.objects (λ b p is. stored_same s e.base b kept.0 p ((a - e.base) / WORD_BYTES) v kept.1 is) h.links;
  },
)
  where
    a : ℕ
    a = address m r n

    v : ℕ
    v = register m f

    row : List ℕ
    row = set c.words (word_index c.origin a) v

    kept : (o : Object) × HasObject s e.base o × IsShown c.origin c.words e o
    kept = h.kept e has

    o' : Object
    o' = record kept.0 { words = set kept.0.words ((a - e.base) / WORD_BYTES) v }

    after : Heap
    after = with_object s e.base (Some o')

    low : c.origin ≤ a
    low = let i : IsInHeap c.origin c.pages e = in_heap c sound e has in omega arith
