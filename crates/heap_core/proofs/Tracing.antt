-- What keeps a core traced: its marker is one of its pages, and while marking the dirty-page invariant holds.
use Rattle.std.proofs.Common.{◌≡◌, ℕ, Bool, true, false, List, length, Option, Some, None, refl, sym, ap, ◌∙◌, subst, ⊎_elim}
use Rattle.std.proofs.lemmas.Bool.{false≢true}
use Rattle.std.proofs.lemmas.List.{set-get_or}
use Rattle.pages.specs.Memory.{word_index, word_at, with_word_at}
use Rattle.pages.specs.Reads.{CountedReads}
use Rattle.block_map.specs.declared.found.Found.{Found}
use Rattle.block_map.specs.FoundIn.{found_in}
use Rattle.block_map.specs.Objects.{IsMap, IsInside}
use Rattle.block_map.specs.Changes.{IsRemoved}
use Rattle.words.specs.Bits.{Has}
use Rattle.words.specs.declared.class.Kind.{Kind}
use Rattle.words.specs.declared.class.Placement.{Placement}
use Rattle.words.specs.Layout.{granule}
use Rattle.marker.specs.Marking.{Marking, IsMarked, IsBlank, IsObjectGranule, AreMarksObjects}
use Rattle.marker.specs.Growth.{Traces}
use Rattle.marker.specs.Invariant.{DirtyPageInvariant, CarriedPageInvariant}
use Rattle.marker.specs.Mutations.{BeginsPartial, KeepsWords, IsFreed}
use Rattle.marker.proofs.Mutating.{free_traced, came_carried}
use Rattle.marker.proofs.Closures.{same_object}
use Rattle.marker.proofs.Objects.{blank_objects}
use Rattle.object_space.proofs.Forgetting.{carried_swept}
use Rattle.object_space.specs.Kept.{is_kept}
use Rattle.object_space.proofs.Kept.{kept_cases, kept_is, marked_kept}
use Rattle.object_space.specs.Store.{Store, IsSwept}
use Rattle.heap_core.specs.CoreContents.{Cycle, IsTraced}
use Rattle.heap_core.specs.Beside.{NotesWrite, NotesObject}
use Rattle.object_space.specs.Sweeps.{Gains, Loses, Sweeps}

-- the marker goes on
pub traced_on : (t : Store) (y : Cycle) (roots : List ℕ) (m : Marking) → IsTraced t y → Traces (found_in t.states) t.words roots y.marker m → IsTraced t (record y { marker = m })
traced_on t y roots m x traces = record {
  pages = traces.dirty_len ∙ x.pages;
  objects = λ k h. ⊎_elim (x.objects k) (λ o. o) (traces.objects k h);
  swept = x.swept;
  invariant = λ is. traces.keeps (x.invariant is);
  carried = λ is. traces.carries (x.carried is);
}

-- a word is stored
pub traced_write : (t t' : Store) (y y' : Cycle) (address word : ℕ) → IsTraced t y → t' ≡ record t { words = with_word_at t.words address word } → NotesWrite address y.marker y'.marker
    → y'.is_marking ≡ y.is_marking → y'.needs_full ≡ y.needs_full → IsTraced t' y'
traced_write t t' y y' address word x writes notes phase needs = subst (λ (z : Store). IsTraced z y') (sym writes) (record {
  pages = notes.dirty_len ∙ x.pages;
  objects = λ k h. x.objects k (subst (λ ms. Has ms k) notes.marks h);
  swept = λ is. x.swept (sym phase ∙ is);
  invariant = λ is. notes.keeps (found_in t.states) t.words word (x.invariant (sym phase ∙ is));
  carried = λ is. notes.carries (found_in t.states) t.words word (x.carried (sym needs ∙ is));
})

-- a page has become dirty
pub traced_told : (t : Store) (y y' : Cycle) (address : ℕ) → IsTraced t y → NotesWrite address y.marker y'.marker → y'.is_marking ≡ y.is_marking → y'.needs_full ≡ y.needs_full → IsTraced t y'
traced_told t y y' address x notes phase needs = subst (λ (ws : List ℕ). IsTraced (record t { words = ws }) y') (set-get_or t.words (word_index address) 0)
    (traced_write t (record t { words = with_word_at t.words address (word_at t.words address) }) y y' address (word_at t.words address) x refl notes phase needs)

-- an object that comes has no mark of before, since marks are those of objects that were there
pub unmarked_new : (t t' : Store) (y : Cycle) (p : Placement) (kind : Kind) (base : ℕ) → AreMarksObjects (found_in t.states) y.marker → (g : Gains t p kind base t') → IsMarked y.marker g.object.base → ⊥
unmarked_new t t' y p kind base objects g marked =
    let o = objects (granule g.object.base) marked in
    let there : found_in t'.states g.object.base ≡ Some g.object = ap (found_in t'.states) g.at ∙ g.found in
    let one : o.object ≡ g.object = same_object (length t'.states) (found_in t'.states) g.map o.object g.object (g.added.others o.object.base (λ r. clash (sym (g.added.before o.object.base r) ∙ o.is)) ∙ o.is) there o.first in
    clash (sym (g.added.before o.object.base (subst (λ (f : Found). IsInside f.base g.object) (sym one) (g.map.reads g.object.base g.object there))) ∙ o.is)
  where
    clash : {o : Found} → None ≡ Some o → ⊥
    clash e = cc

-- an object comes
pub traced_object : (t t' : Store) (y y' : Cycle) (p : Placement) (kind : Kind) (base : ℕ) → IsTraced t y → Gains t p kind base t' → NotesObject y.is_marking base y.marker y'.marker → y'.is_marking ≡ y.is_marking → y'.needs_full ≡ y.needs_full → IsTraced t' y'
traced_object t t' y y' p kind base x g notes phase needs = record {
  pages = ap length notes.dirty ∙ x.pages ∙ sym g.pages;
  objects = λ k h. ⊎_elim (λ old. stays k (x.objects k old)) (λ same. record { object = g.object; is = ap (found_in t'.states) g.at ∙ g.found; first = ap granule g.at ∙ sym same }) (notes.marks k h);
  swept = λ is. subst (λ row. (page : ℕ) → Has row page → ⊥) (sym g.pending) (x.swept (sym phase ∙ is));
  invariant = λ is. notes.keeps (sym phase ∙ is) (length t'.states) (found_in t.states) (found_in t'.states) t.words t'.words g.object g.at g.map g.found g.added g.words g.zeroed (x.invariant (sym phase ∙ is));
  carried = λ is. by_phase (x.carried (sym needs ∙ is)) y.is_marking refl;
}
  where
    by_phase : CarriedPageInvariant (found_in t.states) t.words y.marker → (b : Bool) → y.is_marking ≡ b → CarriedPageInvariant (found_in t'.states) t'.words y'.marker
    by_phase c true is = notes.carries is (length t'.states) (found_in t.states) (found_in t'.states) t.words t'.words g.object g.at g.map g.found g.added g.words g.zeroed c
    by_phase c false is = subst (CarriedPageInvariant (found_in t'.states) t'.words) (sym (notes.idle is)) (came_carried (found_in t.states) (found_in t'.states) t.words t'.words g.object y.marker g.added (unmarked_new t t' y p kind base x.objects g) (ap (found_in t'.states) g.at ∙ g.found) g.words c)

    -- an object that was there is there
    stays : (k : ℕ) → IsObjectGranule (found_in t.states) k → IsObjectGranule (found_in t'.states) k
    stays k o = record { object = o.object; is = g.added.others o.object.base apart ∙ o.is; first = o.first }
      where
        clash : None ≡ Some o.object → ⊥
        clash e = cc

        apart : IsInside o.object.base g.object → ⊥
        apart r = clash (sym (g.added.before o.object.base r) ∙ o.is)

-- an object goes
pub traced_freed : (t t' : Store) (y y' : Cycle) (f : Found) → IsTraced t y → (AreMarksObjects (found_in t.states) y.marker → AreMarksObjects (found_in t'.states) y'.marker) → IsMap (length t.states) (found_in t.states) → found_in t.states f.base ≡ Some f → Loses t f t' → IsFreed f.base y.marker y'.marker → y'.is_marking ≡ y.is_marking → y'.needs_full ≡ true
    → ((pages : ℕ) (found after : ℕ → Option Found) (words words' : List ℕ) (g : Found) → g.base ≡ f.base → IsMap pages found → found f.base ≡ Some g → IsRemoved found after g → KeepsWords after words words' → DirtyPageInvariant found words y.marker → DirtyPageInvariant after words' y'.marker)
    → IsTraced t' y'
traced_freed t t' y y' f x objects map there loses frees phase needs keeps = record {
  pages = ap length frees.dirty ∙ x.pages ∙ sym loses.pages;
  objects = objects x.objects;
  swept = λ is page h. x.swept (sym phase ∙ is) page (loses.fewer page h);
  invariant = λ is. keeps (length t.states) (found_in t.states) (found_in t'.states) t.words t'.words f refl map there loses.removed loses.words (x.invariant (sym phase ∙ is));
  carried = λ is. absurd (false≢true (sym is ∙ needs));
}

-- a cycle has ended
pub traced_ended : (t : Store) (m : Marking) (needs : Bool) (count : ℕ) {reads : CountedReads} → length m.dirty ≡ length t.states → AreMarksObjects (found_in t.states) m → (needs ≡ false → CarriedPageInvariant (found_in t.states) t.words m) → IsTraced t (record { marker = m; is_marking = false; needs_full = needs; count = count; reads = reads })
traced_ended t m needs count pages objects carried = record { carried = carried; pages = pages; objects = objects; swept = λ is. absurd (clash is); invariant = λ is. absurd (clash is) }
  where
    clash : false ≡ true → ⊥
    clash e = cc

-- pages were swept; while a cycle is marking there was none to be swept
pub traced_swept : (t0 t : Store) (y : Cycle) → IsTraced t0 y → Sweeps t0 y.marker.marks t → IsTraced t y
traced_swept t0 t y x sweeps = record {
  pages = x.pages ∙ sym sweeps.pages;
  objects = λ k h. let o = x.objects k h in record { object = o.object; is = kept_stays o.object (subst (Has y.marker.marks) (sym o.first) h) o.is; first = o.first };
  swept = λ is page h. x.swept is page (sweeps.fewer page h);
  carried = λ is. carried_swept t0 t y.marker sweeps (x.carried is);
  invariant = λ is. free_traced (found_in t0.states) (found_in t.states) t0.words t.words y.marker sweeps.less sweeps.words (x.invariant is);
}
  where
    -- a marked object is kept
    kept_stays : (f : Found) → Has y.marker.marks (granule f.base) → found_in t0.states f.base ≡ Some f → found_in t.states f.base ≡ Some f
    kept_stays f marked there =
        (kept_cases (is_kept t.pending y.marker.marks) (found_in t.states) f.base f (sweeps.same.same f.base ∙ kept_is (is_kept t0.pending y.marker.marks) (found_in t0.states) f.base f there (marked_kept t0.pending y.marker.marks f marked))).0

-- a cycle begins with no mark
pub traced_begun : (t0 t : Store) (y : Cycle) (m : Marking) (count : ℕ) {reads : CountedReads} → IsTraced t0 y → Sweeps t0 y.marker.marks t → IsSwept t → IsBlank (length y.marker.dirty) m
    → ((found : ℕ → Option Found) (words : List ℕ) → DirtyPageInvariant found words m) → ((found : ℕ → Option Found) (words : List ℕ) → CarriedPageInvariant found words m)
    → IsTraced t (record { marker = m; is_marking = true; needs_full = false; count = count; reads = reads })
traced_begun t0 t y m count x sweeps swept blank invariant carried = record {
  pages = blank.dirty.size ∙ x.pages ∙ sym sweeps.pages;
  objects = blank_objects (found_in t.states) (length y.marker.dirty) m blank;
  swept = λ is. swept;
  invariant = λ is. invariant (found_in t.states) t.words;
  carried = λ is. carried (found_in t.states) t.words;
}

-- a cycle begins with the marks of the last one
pub traced_partial : (t0 t : Store) (y : Cycle) (m : Marking) (count : ℕ) {reads : CountedReads} → IsTraced t0 y → Sweeps t0 y.marker.marks t → IsSwept t → IsMap (length t.states) (found_in t.states) → y.needs_full ≡ false → BeginsPartial y.marker m
    → ((found : ℕ → Option Found) (words : List ℕ) → IsMap (length y.marker.dirty) found → CarriedPageInvariant found words y.marker → DirtyPageInvariant found words m)
    → ((found : ℕ → Option Found) (words : List ℕ) → CarriedPageInvariant found words y.marker → CarriedPageInvariant found words m)
    → IsTraced t (record { marker = m; is_marking = true; needs_full = y.needs_full; count = count; reads = reads })
traced_partial t0 t y m count x sweeps swept map needs begins keeps carries =
    let now = traced_swept t0 t y x sweeps in record {
      pages = begins.dirty_len ∙ now.pages;
      objects = λ k h. now.objects k (subst (λ r. Has r k) begins.marks h);
      swept = λ is. swept;
      invariant = λ is. keeps (found_in t.states) t.words (subst (λ n. IsMap n (found_in t.states)) (sym now.pages) map) (now.carried needs);
      carried = λ is. carries (found_in t.states) t.words (now.carried needs);
    }
