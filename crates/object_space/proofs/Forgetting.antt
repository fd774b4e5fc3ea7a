-- What is closed and then forgotten.
use Rattle.std.proofs.Common.{length, ◌≡◌, ℕ, subst, sym, refl, ◌∙◌, Bool, true, false, List, get_or}
use Rattle.std.proofs.lemmas.Bool.{false≢true}
use Rattle.words.specs.Bits.{Has}
use Rattle.words.specs.Layout.{granule}
use Rattle.block_map.specs.FoundIn.{found_in}
use Rattle.marker.specs.Marking.{Marking, IsMarked, AreMarksObjects}
use Rattle.marker.specs.Closure.{AreClosed}
use Rattle.marker.specs.Invariant.{CarriedPageInvariant}
use Rattle.marker.proofs.Closures.{at_base}
use Rattle.marker.proofs.Mutating.{left_carried}
use Rattle.block_map.specs.Objects.{IsMap}
use Rattle.object_space.specs.Store.{Store}
use Rattle.object_space.specs.Kept.{is_kept}
use Rattle.object_space.specs.Sweeps.{ForgetsUnreached, ForgetsLazily, Sweeps}
use Rattle.object_space.proofs.Kept.{kept_cases, kept_is, marked_kept}

-- what is not without a mark has one
marked_not : (marks : List Bool) (k : ℕ) → ((Has marks k → ⊥) → ⊥) → Has marks k
marked_not marks k not = by (get_or marks k false) refl
  where
    by : (b : Bool) → get_or marks k false ≡ b → Has marks k
    by true e = e
    by false e = absurd (not (λ h. false≢true (sym e ∙ h)))

-- lazily
pub forgets_lazily : (old : Store) (roots : List ℕ) (m m' : Marking) (n : ℕ) (new : Store) → ForgetsLazily old m'.marks n new
    → AreClosed (found_in old.states) old.words roots m m' → ForgetsUnreached old roots m n m'.marks new
forgets_lazily old roots m m' n new x closes = record {
  words = λ f i there lt. x.words f i (kept_cases (is_kept new.pending m'.marks) (found_in new.states) f.base f there).0 lt;
  pages = x.pages;
  bases = x.bases;
  number = x.number;
  without = x.without;
  outside = λ f there. (
    (λ is inside. (x.unmarked f there).0 is ((closes f there).1 inside)),
    (λ outside. (x.unmarked f there).1 (λ marked. outside ((closes f there).0 marked))),
  );
  marked = λ f there. let k = x.without.left f.base f there in marked_not m'.marks (granule f.base) (λ not. k.1 ((x.unmarked f k.0).1 not));
}

-- and what is left to be swept is swept at once
pub sweeps_unreached : (old : Store) (roots : List ℕ) (m : Marking) (n : ℕ) (marks : List Bool) (mid new : Store) → ForgetsUnreached old roots m n marks mid → Sweeps mid marks new → ForgetsUnreached old roots m n marks new
sweeps_unreached old roots m n marks mid new x y = record {
  words = λ f i there lt. y.words f i (kept_cases (is_kept new.pending marks) (found_in new.states) f.base f there).0 lt ∙ x.words f i (sym (y.same.same f.base) ∙ there) lt;
  pages = y.pages ∙ x.pages;
  bases = x.bases;
  number = x.number;
  without = record {
    gone = x.without.gone;
    distinct = x.without.distinct;
    left = λ w f e. x.without.left w f (sym (y.same.same w) ∙ e);
    kept = λ w f e stays. y.same.same w ∙ x.without.kept w f e stays;
  };
  outside = x.outside;
  marked = λ f there. x.marked f (sym (y.same.same f.base) ∙ there);
}

-- Each mark is that of an object that is left while pages are swept, since marked objects are kept.
pub objects_swept : (mid new : Store) (m : Marking) → Sweeps mid m.marks new → AreMarksObjects (found_in mid.states) m → AreMarksObjects (found_in new.states) m
objects_swept mid new m y objects k marked =
    let o = objects k marked in
    let kept = kept_is (is_kept mid.pending m.marks) (found_in mid.states) o.object.base o.object o.is (marked_kept mid.pending m.marks o.object (subst (Has m.marks) (sym o.first) marked)) in
    record { object = o.object; is = (kept_cases (is_kept new.pending m.marks) (found_in new.states) o.object.base o.object (y.same.same o.object.base ∙ kept)).0; first = o.first }

-- Each mark is that of an object that is left.
pub objects_forgotten : (old new : Store) (m : Marking) (n : ℕ) → ForgetsLazily old m.marks n new → AreMarksObjects (found_in old.states) m → AreMarksObjects (found_in new.states) m
objects_forgotten old new m n x objects k marked =
    let o = objects k marked in
    let is : IsMarked m o.object.base = subst (Has m.marks) (sym o.first) marked in
    let kept = x.without.kept o.object.base o.object o.is (λ has. (x.unmarked o.object o.is).0 has is) in
    record { object = o.object; is = (kept_cases (is_kept new.pending m.marks) (found_in new.states) o.object.base o.object kept).0; first = o.first }

-- the carried invariant stays while unmarked objects are forgotten
pub carried_lazily : (old new : Store) (m : Marking) (n : ℕ) → IsMap (length old.states) (found_in old.states) → ForgetsLazily old m.marks n new → CarriedPageInvariant (found_in old.states) old.words m → CarriedPageInvariant (found_in new.states) new.words m
carried_lazily old new m n map x =
    left_carried (found_in old.states) (found_in new.states) old.words new.words m (record { before = λ w f e. x.cells.less w f e })
    (λ w g there marked. (kept_cases (is_kept new.pending m.marks) (found_in new.states) w g (x.without.kept w g there (λ has. (x.unmarked g (at_base (length old.states) (found_in old.states) map w g there)).0 has marked))).0)
    x.words

-- and while pages are swept
pub carried_swept : (mid new : Store) (m : Marking) → Sweeps mid m.marks new → CarriedPageInvariant (found_in mid.states) mid.words m → CarriedPageInvariant (found_in new.states) new.words m
carried_swept mid new m y =
    left_carried (found_in mid.states) (found_in new.states) mid.words new.words m y.less
    (λ w g there marked. (kept_cases (is_kept new.pending m.marks) (found_in new.states) w g (y.same.same w ∙ kept_is (is_kept mid.pending m.marks) (found_in mid.states) w g there (marked_kept mid.pending m.marks g marked))).0)
    y.words
