-- The objects of a heap after a change at one base.
use Rattle.std.proofs.Common.{◌≡◌, ◌≢◌, ℕ, ◌+◌, ◌*◌, ◌<◌, ◌≤◌, ◌⊎◌, Bool, true, false, List, length, get_or, cond, eqb, [], ◌∷◌, refl, sym, ap, ◌∙◌, subst, arith, inl, inr, ⊎_elim}
use Rattle.std.specs.Prelude.{Option, Some, None, All, Contains, ◌||◌, ◌==◌, slice_set}
use Rattle.std.specs.List.{list_any}
use Rattle.std.proofs.lemmas.Bool.{cases_lt, cases_eq, cases_order, cond-true, cond-false, eq-eqb, ne_eqb, true≢false}
use Rattle.std.proofs.lemmas.Option.{same_Some, none-some}
use Rattle.std.proofs.lemmas.List.{length-set}
use Rattle.std.proofs.lemmas.List.Elements.{All-set, Contains-get_or}
use Rattle.std.proofs.lemmas.List.Folds.{list_any_none, list_any-from_Any}
use Rattle.words.specs.declared.limits.TheConstants.{MAX_SMALL_WORDS, PAGE_WORDS}
use Rattle.words.specs.declared.class.Kind.{Kind}
use Rattle.words.specs.declared.class.Placement.{Placement}
use Rattle.words.specs.declared.class.Placement.TheVariants.{Small, Large}
use Rattle.words.proofs.Classes.{class_few, class_some}
use Rattle.words.specs.Layout.{page_start}
use Rattle.heap_spec.specs.Layout.{LiesOn}
use Rattle.heap_spec.specs.Heap.{Heap, Object, IsSameObject, HasObject, PointsIntoObject, with_at, without_at}
use Rattle.heap_spec.specs.Room.{HasRoom, length_of}
use Rattle.heap_spec.specs.Ranges.{IsWord}
use Rattle.heap_spec.specs.Sound.{IsSound, AreObjects, IsCell, ArePages, LieInHeap}
use Rattle.heap_spec.proofs.Layouts.{IsPlacement, AreApart, cell_lies, pages_lie, off_pages, cell_off, cell_apart}

-- what is at a base after a change at one
pub with_at-same : {A : Type 0} (m : ℕ → Option A) (k : ℕ) (v : Option A) (q : ℕ) → q ≡ k → with_at m k v q ≡ v
with_at-same m k v q e = cond-true (eqb q k) v (m q) (eq-eqb q k e)

pub with_at-other : {A : Type 0} (m : ℕ → Option A) (k : ℕ) (v : Option A) (q : ℕ) → q ≢ k → with_at m k v q ≡ m q
with_at-other m k v q ne = cond-false (eqb q k) v (m q) (ne_eqb q k ne)

pub at_cases : {A : Type 0} (m : ℕ → Option A) (k : ℕ) (v : Option A) (q : ℕ) (x : Option A) → with_at m k v q ≡ x → ((q ≡ k) × (v ≡ x)) ⊎ ((q ≢ k) × (m q ≡ x))
at_cases m k v q x e =
    ⊎_elim (λ same. inl (same, sym (with_at-same m k v q same) ∙ e)) (λ other. inr (other, sym (with_at-other m k v q other) ∙ e)) (cases_eq q k)

-- what is left where some are taken out
pub left_over : {A : Type 0} (b : Bool) (x : Option A) (o : A) → cond b None x ≡ Some o → (b ≡ false) × (x ≡ Some o)
left_over true x o e = absurd (none-some o e)
left_over false x o e = (refl, e)

-- what is there without some is none of them, and was there
pub without_some : {A : Type 0} (m : ℕ → Option A) (bases : List ℕ) (q : ℕ) (x : A) → without_at m bases q ≡ Some x → (Contains bases q → ⊥) × (m q ≡ Some x)
without_some m bases q x e =
    let left = left_over (list_any (λ b. b == q) bases) (m q) x e in
    (λ among. true≢false (sym (list_any-from_Any (λ b. b == q) bases (among.0, q, among.1, among.2, eq-eqb q q refl)) ∙ left.0), left.1)

-- and what is none of them is there still
pub without_other : {A : Type 0} (m : ℕ → Option A) (bases : List ℕ) (q : ℕ) → (Contains bases q → ⊥) → without_at m bases q ≡ m q
without_other m bases q out = cond-false _ None (m q) (list_any_none (λ b. b == q) bases (λ k d lt. ne_eqb (get_or bases k d) q (λ same. out (subst (Contains bases) same (Contains-get_or bases k d lt)))))

-- what is left where one is taken out
one_or_none : (b : Bool) → (b || false) ≡ b
one_or_none true = refl
one_or_none false = refl

pub without_one : {A : Type 0} (m : ℕ → Option A) (k q : ℕ) (x : A) → without_at m (k ∷ []) q ≡ Some x → (q ≢ k) × (m q ≡ Some x)
without_one m k q x e = let left = left_over _ (m q) x e in (λ same. true≢false (sym (one_or_none (eqb k q) ∙ eq-eqb k q (sym same)) ∙ left.0), left.1)

pub without_one-other : {A : Type 0} (m : ℕ → Option A) (k q : ℕ) → q ≢ k → without_at m (k ∷ []) q ≡ m q
without_one-other m k q ne = cond-false _ None (m q) (one_or_none (eqb k q) ∙ ne_eqb k q (λ e. ne (sym e)))

pub same_object : (o : Object) → IsSameObject o o
same_object o = record { birth = refl; kind = refl; size = refl }

-- an object was there before, of the same length and birth
abbrev pub Was : (ℕ → Option Object) → ℕ → Object → Type 0
Was objects base o = (p : Object) × (objects base ≡ Some p) × (length p.words ≡ length o.words) × (p.birth ≡ o.birth) × All IsWord o.words

pub objects_kept : (pages births : ℕ) (old new : ℕ → Option Object) → AreObjects pages births old → ((base : ℕ) (o : Object) → new base ≡ Some o → Was old base o) → AreObjects pages births new
objects_kept pages births old new h was = record {
  laid = λ base o is. let w = was base o is in subst (λ n. IsCell pages base n ⊎ ArePages pages base n) w.2 (h.laid base w.0 w.1);
  words = λ base o is. (was base o is).4;
  born = λ base o is. let w = was base o is in subst (λ n. (1 ≤ n) × (n ≤ births)) w.3 (h.born base w.0 w.1);
  distinct = λ a b o p io ip e. let u = was a o io in let v = was b p ip in h.distinct a b u.0 v.0 u.1 v.1 (u.3 ∙ e ∙ sym v.3);
  apart = λ a b o p io ip lt. let u = was a o io in let v = was b p ip in subst (λ n. a + 8 * n ≤ b) u.2 (h.apart a b u.0 v.0 u.1 v.1 lt);
}

-- an object as it was
was_same : (pages births : ℕ) (objects : ℕ → Option Object) → AreObjects pages births objects → (base : ℕ) (o : Object) → objects base ≡ Some o → Was objects base o
was_same pages births objects h base o is = (o, is, refl, refl, h.words base o is)

-- one with a word written
pub objects_stored : (pages births : ℕ) (objects : ℕ → Option Object) (k i w : ℕ) (o : Object) → AreObjects pages births objects → objects k ≡ Some o → IsWord w
    → AreObjects pages births (with_at objects k (Some (record o { words = slice_set o.words i w })))
objects_stored pages births objects k i w o h has fits = objects_kept pages births objects _ h (λ base p is.
    ⊎_elim
    (λ same. let e = same_Some _ p same.1 in (
      o,
      ap objects same.0 ∙ has,
      sym (length-set o.words i w) ∙ ap (λ (x : Object). length x.words) e,
      ap (λ (x : Object). x.birth) e,
      subst (λ (x : Object). All IsWord x.words) e (All-set IsWord o.words i w fits (h.words k o has)),
    ))
    (λ other. was_same pages births objects h base p other.1)
    (at_cases objects k _ base (Some p) is))

-- one object more
module _ (pages births : ℕ) (objects : ℕ → Option Object) (a : ℕ) (new : Object) where
  at_new : (P : ℕ → Object → Type 0) → P a new → ((q : ℕ) (p : Object) → objects q ≡ Some p → q ≢ a → P q p) → (q : ℕ) (p : Object) → with_at objects a (Some new) q ≡ Some p → P q p
  at_new P here old q p is =
      ⊎_elim (λ s. subst (λ x. P x p) (sym s.0) (subst (P a) (same_Some new p s.1) here)) (λ t. old q p t.1 t.0) (at_cases objects a (Some new) q (Some p) is)

  pub objects_more : AreObjects pages births objects → new.birth ≡ births + 1 → IsCell pages a (length new.words) ⊎ ArePages pages a (length new.words) → All IsWord new.words
      → ((b : ℕ) (p : Object) → objects b ≡ Some p → b ≢ a → AreApart a (length new.words) b (length p.words))
      → AreObjects pages (births + 1) (with_at objects a (Some new))
  objects_more h birth laid words away = record {
    laid = at_new (λ q p. IsCell pages q (length p.words) ⊎ ArePages pages q (length p.words)) laid (λ q p is ne. h.laid q p is);
    words = at_new (λ q p. All IsWord p.words) words (λ q p is ne. h.words q p is);
    born = at_new (λ q p. (1 ≤ p.birth) × (p.birth ≤ births + 1)) (omega arith, omega arith) (λ q p is ne. let b = h.born q p is in (b.0, omega arith));
    distinct = λ x y o p ix iy. at_new (λ x o. o.birth ≡ p.birth → x ≡ y)
        (at_new (λ y p. new.birth ≡ p.birth → a ≡ y) (λ e. refl) (λ q p is ne e. let b = h.born q p is in absurd (omega arith)) y p iy)
        (λ x o is ne. at_new (λ y p. o.birth ≡ p.birth → x ≡ y) (λ e. let b = h.born x o is in absurd (omega arith)) (λ q p js nf e. h.distinct x q o p is js e) y p iy)
        x o ix;
    apart = λ x y o p ix iy. at_new (λ x o. x < y → x + 8 * length o.words ≤ y)
        (at_new (λ y p. a < y → a + 8 * length new.words ≤ y) (λ lt. absurd (omega arith)) (λ q p is ne lt. ⊎_elim (λ before. before) (λ after. absurd (omega arith)) (away q p is ne)) y p iy)
        (λ x o is ne. at_new (λ y p. x < y → x + 8 * length o.words ≤ y) (λ lt. ⊎_elim (λ before. absurd (omega arith)) (λ after. after) (away x o is ne)) (λ q p js nf lt. h.apart x q o p is js lt) y p iy)
        x o ix;
  }

-- each object has words, lies in the heap, and begins at a granule
pub object_lies : (s : Heap) → IsSound s → (base : ℕ) (o : Object) → HasObject s base o → LieInHeap s.pages base (length o.words)
object_lies s h base o has = ⊎_elim (cell_lies _ _ _) (pages_lie _ _ _) (h.objects.laid base o has)

-- a place with room is a cell or pages
pub room_laid : (s : Heap) (placement : Placement) (kind : Kind) (a : ℕ) → IsPlacement placement → HasRoom s placement kind a → IsCell s.pages a (length_of placement) ⊎ ArePages s.pages a (length_of placement)
room_laid s (Small n) kind a is room = inl (record { page = room.page; cell = room.cell; class = is; in_heap = room.in_heap; in_page = room.in_page; is_cell = room.is_cell })
room_laid s (Large count) kind a some room = inr (record { first = room.first; count = count; some = some; in_heap = room.in_heap; is_start = room.is_start; whole = refl })

lies_or_not : (b m page : ℕ) → LiesOn b m page ⊎ (LiesOn b m page → ⊥)
lies_or_not b m page =
    ⊎_elim
    (λ low. ⊎_elim (λ high. inl (low, high)) (λ none. inr (λ on. let h = on.1 in omega arith)) (cases_lt (page_start page) (b + 8 * m)))
    (λ none. inr (λ on. let h = on.0 in omega arith))
    (cases_lt b (page_start (page + 1)))

-- and each object is apart from it
pub room_apart : (s : Heap) → IsSound s → (placement : Placement) (kind : Kind) (a : ℕ) → IsPlacement placement → HasRoom s placement kind a
    → (b : ℕ) (p : Object) → HasObject s b p → b ≢ a → AreApart a (length_of placement) b (length p.words)
room_apart s h (Large count) kind a some room b p is ne =
    let lies = object_lies s h b p is in
    subst (λ x. AreApart x (PAGE_WORDS * count) b (length p.words)) (sym room.is_start)
    (off_pages room.first count b (length p.words) some lies.some (λ page from below. room.free page from below b p is))
room_apart s h (Small n) kind a class room b p is ne =
    ⊎_elim
    (λ free. off (free b p is))
    (λ cut. ⊎_elim (λ on. inside (cut.0 b p is on).0 on) off (lies_or_not b (length p.words) room.page))
    room.cut
  where
    cell : IsCell s.pages a n
    cell = record { page = room.page; cell = room.cell; class = class; in_heap = room.in_heap; in_page = room.in_page; is_cell = room.is_cell }

    off : (LiesOn b (length p.words) room.page → ⊥) → AreApart a n b (length p.words)
    off out = cell_off s.pages a n b (length p.words) cell out

    same_size : (m : ℕ) → m ≡ n → LiesOn b m room.page → IsCell s.pages b m ⊎ ArePages s.pages b m → AreApart a n b m
    same_size m e on laid =
        ⊎_elim
        (λ c. subst (AreApart a n b) (sym e) (cell_apart s.pages a n b cell ne (subst (λ x. LiesOn b x room.page) e on) (subst (IsCell s.pages b) e c)))
        (λ whole. let few : n ≤ MAX_SMALL_WORDS = class_few n class in let some = whole.some in let size = whole.whole in absurd (omega arith))
        laid

    inside : length p.words ≡ n → LiesOn b (length p.words) room.page → AreApart a n b (length p.words)
    inside e on = same_size (length p.words) e on (h.objects.laid b p is)

-- no object is where there is room for another
pub no_object_at : (s : Heap) → IsSound s → (placement : Placement) (kind : Kind) (a : ℕ) → IsPlacement placement → HasRoom s placement kind a → (o : Object) → HasObject s a o → ⊥
no_object_at s h (Large count) kind a some room o has =
    let lies = object_lies s h a o has in let some' = lies.some in let start = room.is_start in
    room.free room.first (omega arith) (omega arith) a o has (omega arith, omega arith)
no_object_at s h (Small n) kind a class room o has =
    ⊎_elim
    (λ free. free a o has (on a o has))
    (λ cut. none-some o (sym cut.1 ∙ has))
    room.cut
  where
    on : (b : ℕ) (p : Object) → HasObject s a p → LiesOn a (length p.words) room.page
    on b p hasp =
        let lies = object_lies s h a p hasp in let some = lies.some in let at = room.is_cell in let within = room.in_page in
        let n0 : 2 ≤ n = class_some n class in omega arith

-- a word reads at most one object
pub one_read : (s : Heap) → IsSound s → (w a b : ℕ) (o p : Object) → PointsIntoObject s w a o → PointsIntoObject s w b p → a ≡ b
one_read s h w a b o p r q =
    let from = r.1 in
    let from' = q.1 in
    ⊎_elim (λ e. e)
    (⊎_elim
    (λ lt. let end = h.objects.apart a b o p r.0 q.0 lt in absurd (omega arith))
    (λ lt. let end = h.objects.apart b a p o q.0 r.0 lt in absurd (omega arith)))
    (cases_order a b)
