-- The closure of births in the sequential heap is the closure of the objects that the collector sees.
use Rattle.std.proofs.Common.{◌≡◌, ℕ, ◌<◌, List, length, get_or, Bool, true, Option, Some, refl, sym, ap, ◌∙◌, subst, arith}
use Rattle.std.specs.Prelude.{◌↔◌}
use Rattle.std.proofs.lemmas.Option.{same_Some}
use Rattle.std.proofs.lemmas.List.{get_or_default}
use Rattle.pages.specs.Memory.{word_at}
use Rattle.block_map.specs.declared.found.Found.{Found}
use Rattle.block_map.specs.Objects.{IsMap}
use Rattle.heap_spec.specs.Heap.{Heap, Object, HasObject, PointsIntoObject, root_words}
use Rattle.heap_spec.specs.Sound.{HaveDistinctBirths}
use Rattle.heap_spec.specs.Closure as heap
use Rattle.marker.specs.Marking.{Marking, IsMarked, word_address}
use Rattle.marker.specs.Closure.{Closure, held, root, word}
use Rattle.marker.proofs.Closures.{at_base, is_object, closure_more}
use Rattle.heap_view.specs.Shows.{IsShown, ShowsObjects, HasBirth, IsMarkedBirth}
use Rattle.heap_view.proofs.Shows.{reads_object, seen, word_shown}

module _ (pages : ℕ) (s : Heap) (found : ℕ → Option Found) (words : List ℕ) (map : IsMap pages found) (shows : ShowsObjects found words s.objects) (births : ℕ → Type 0) where
  -- a word that reads an object of the collector reads one of the heap
  reads_real : (w : ℕ) (f : Found) → found w ≡ Some f → (o : Object) × PointsIntoObject s w f.base o
  reads_real w f e =
      let r = reads_object found pages map words s.objects shows w f e in
      (r.0, (r.1, r.3))

  seen_at : (base : ℕ) (o : Object) → HasObject s base o → (f : Found) × (found base ≡ Some f) × (f.base ≡ base) × IsShown words f o
  seen_at = seen found pages map words s.objects shows

  reads_seen : (w base : ℕ) (o : Object) → PointsIntoObject s w base o → (f : Found) × (found w ≡ Some f) × (f.base ≡ base)
  reads_seen w base o r =
      let q = seen_at base o r.0 in
      let b = q.2 in let l = q.3.size in let low = r.1.0 in let high = r.1.1 in
      let f = q.0 in
      (f, map.whole base w f q.1 (record { from = omega arith; below = omega arith }), b)

  -- a word of an object of the heap is the one that the memory has at its address
  word_is : (f : Found) (o : Object) → found f.base ≡ Some f → IsShown words f o → (i : ℕ) → i < f.len → get_or o.words i 0 ≡ word_at words (word_address f i)
  word_is = word_shown found pages map words

  pub to_heap : {f : Found} → Closure found words (root_words s) (HasBirth s births) f → heap.Closure s births f.base
  to_heap (held e h) = heap.given h.1 h.2
  to_heap (root {w = w} {f = f} c e) = heap.root c (reads_real w f e).1
  to_heap (word {p = p} {f = f} i c n lt e) =
      let there = is_object pages found words (root_words s) (HasBirth s births) map c in
      let r = shows.kept p there in
      let l = r.2.size in
      let i_in : i < length r.0.words = omega arith in
      let is = word_is p r.0 there r.2 i lt in
      heap.word (to_heap c) r.1 (r.2.kind ∙ n) (i, i_in, get_or_default r.0.words i (word_at words (word_address p i)) 0 i_in ∙ is) (reads_real (word_at words (word_address p i)) f e).1

  pub from_heap : {base : ℕ} → heap.Closure s births base → (f : Found) × (found base ≡ Some f) × (f.base ≡ base) × Closure found words (root_words s) (HasBirth s births) f
  from_heap (heap.given {base = b} {o = o} e h) =
      let q = seen_at b o e in
      (q.0, q.1, q.2, held (at_base pages found map b q.0 q.1) (o, ap s.objects q.2 ∙ e, h))
  from_heap (heap.root {w = w} {base = b} {o = o} c r) =
      let q = reads_seen w b o r in
      (q.0, ap found (sym q.2) ∙ at_base pages found map w q.0 q.1, q.2, root c q.1)
  from_heap (heap.word {from = from} {w = w} {base = b} {p = p} {o = o} c e n k r) =
      let q = reads_seen w b o r in
      let y = from_heap c in
      let z = seen_at from p e in
      let same : z.0 ≡ y.0 = same_Some z.0 y.0 (sym z.1 ∙ y.1) in
      let fits : IsShown words y.0 p = subst (λ f. IsShown words f p) same z.3 in
      let l = fits.size in let lt = k.1 in
      let i_in : k.0 < y.0.len = omega arith in
      let there : found y.0.base ≡ Some y.0 = ap found y.2 ∙ y.1 in
      let is : word_at words (word_address y.0 k.0) ≡ w = sym (word_is y.0 p there fits k.0 i_in) ∙ get_or_default p.words k.0 0 w lt ∙ k.2 in
      (q.0, ap found (sym q.2) ∙ at_base pages found map w q.0 q.1, q.2, word k.0 y.3 (sym fits.kind ∙ n) i_in (ap found is ∙ q.1))

  pub agree : (f : Found) → found f.base ≡ Some f → Closure found words (root_words s) (HasBirth s births) f ↔ heap.Closure s births f.base
  agree f e = (
    (λ c. to_heap c),
    (λ c. let q = from_heap c in subst (Closure found words (root_words s) (HasBirth s births)) (same_Some q.0 f (sym q.1 ∙ e)) q.3),
  )

pub births_agree : (pages : ℕ) (s : Heap) (found : ℕ → Option Found) (words : List ℕ) (births : ℕ → Bool) → IsMap pages found → ShowsObjects found words s.objects → (f : Found) → found f.base ≡ Some f
    → Closure found words (root_words s) (HasBirth s (λ b. births b ≡ true)) f ↔ heap.Closure s (λ b. births b ≡ true) f.base
births_agree pages s found words births map shows f e = agree pages s found words map shows (λ b. births b ≡ true) f e

-- marked objects are those of marked births
module _ (pages : ℕ) (s : Heap) (found : ℕ → Option Found) (words : List ℕ) (m : Marking) (map : IsMap pages found) (shows : ShowsObjects found words s.objects) (distinct : HaveDistinctBirths s.objects) where
  marked_birth : (g : Found) → found g.base ≡ Some g → IsMarked m g.base → HasBirth s (IsMarkedBirth s m) g.base
  marked_birth g e k = let r = shows.kept g e in (r.0, r.1, record { base = g.base; object = r.0; has = r.1; same = refl; marked = k })

  birth_marked : (b : ℕ) → HasBirth s (IsMarkedBirth s m) b → IsMarked m b
  birth_marked b h = let x = h.2 in subst (IsMarked m) (distinct x.base b x.object h.0 x.has h.1 x.same) x.marked

  pub marks_agree : (f : Found) → found f.base ≡ Some f → Closure found words (root_words s) (IsMarked m) f ↔ heap.Closure s (IsMarkedBirth s m) f.base
  marks_agree f e =
      let a = agree pages s found words map shows (IsMarkedBirth s m) f e in (
        (λ c. a.0 (closure_more found words (root_words s) (root_words s) (IsMarked m) (HasBirth s (IsMarkedBirth s m)) (λ w h. h) (λ g o k. held o (marked_birth g o k)) c)),
        (λ c. closure_more found words (root_words s) (root_words s) (HasBirth s (IsMarkedBirth s m)) (IsMarked m) (λ w h. h) (λ g o k. held o (birth_marked g.base k)) (a.1 c)),
      )

pub ruleset agreeing = (births_agree, marks_agree)
