-- What leaves takes its links along: of the heap, and of the core.
use Rattle.std.proofs.Common.{inl, inr, ⊎_elim, ◌⊎◌, ◌≡◌, ℕ, ◌+◌, ◌*◌, ◌%◌, ◌<◌, ◌≤◌, Bool, true, false, cond, length, List, Some, None, refl, sym, ap, ◌∙◌, subst, arith}
use Rattle.std.specs.Prelude.{Option, Contains, ◌==◌, ◌&&◌, ◌||◌, ◌≢◌, not, filter, option_map, slice_index, slice_set, is_some}
use Rattle.std.proofs.lemmas.List.{length-set}
use Rattle.std.proofs.lemmas.Bool.{true≢false, eq-eqb, ne_eqb, eqb-true, leb-true, ltb-true, cases_eq}
use Rattle.std.proofs.lemmas.Option.{same_Some}
use Rattle.std.proofs.lemmas.List.Folds.{Any-from_list_any}
use Rattle.heap_spec.specs.Layout.{PointsInto}
use Rattle.heap_spec.specs.Heap.{Heap, Object, Link as HeapLink, IsSameObject, with_at, HasObject, PointsIntoObject, without, without_at, names, lies_in, loses_word, is_born, covers, with_cleared}
use Rattle.heap_spec.specs.Sound.{HaveDistinctBirths}
use Rattle.heap_spec.proofs.Objects.{without_some, without_other, with_at-same, with_at-other}
use Rattle.heap_spec.proofs.Links.{left_by, stays_by, names_yes, lies_yes, neither, length-cleared, cleared_at}
use Rattle.pages.specs.Memory.{word_index}
use Rattle.block_map.specs.Objects.{IsMap}
use Rattle.block_map.specs.declared.found.Found.{Found}
use Rattle.links.specs.declared.row.Link.{Link}
use Rattle.links.specs.Named.{IsNamed, AreNamed}
use Rattle.links.proofs.Named.{named_any, named_filter}
use Rattle.heap_view.specs.Shows.{Shows, ShowsObjects}
use Rattle.block_map.specs.FoundIn.{found_in}
use Rattle.marker.specs.Marking.{Marking, word_address}
use Rattle.marker.specs.Invariant.{IsTargetMarked, IsSettled}
use Rattle.heap_core.specs.CoreContents.{Cycle, IsTraced}
use Rattle.heap_view.proofs.Shows.{reads_object, seen}
use Rattle.object_space.specs.Store.{Store}
use Rattle.object_space.specs.Along.{IsBesideWords, TakesAlong, clears, stays, is_kept_at, is_base_of, has_base, is_cleared}

-- the heap but for the objects with these bases, whose links stand yet
abbrev pub less : Heap → List ℕ → Heap
less s bases = record s { objects = without_at s.objects bases }

-- a store of which nothing but words has changed
pub beside_is : (t t' : Store) → IsBesideWords t t' → t' ≡ record t { words = t'.words }
beside_is t t' b =
    ap (λ x. record t' { free = x }) b.free ∙ ap (λ x. record t' { free = t.free; states = x }) b.states ∙ ap (λ x. record t' { free = t.free; states = t.states; pending = x }) b.pending

-- objects whose addresses are read by one alone
abbrev pub PointsIntoOne : Heap → Type 0
PointsIntoOne s = (w a b : ℕ) (o p : Object) → PointsIntoObject s w a o → PointsIntoObject s w b p → a ≡ b

both_not : (x y a b : Bool) → a ≡ not y → b ≡ not x → (a && b) ≡ not (x || y)
both_not true y a b ea eb = ap (λ c. a && c) eb ∙ and_no a
  where
    and_no : (a : Bool) → (a && false) ≡ false
    and_no true = refl
    and_no false = refl
both_not false y a b ea eb = ap (λ c. a && c) eb ∙ and_yes a ∙ ea
  where
    and_yes : (a : Bool) → (a && true) ≡ a
    and_yes true = refl
    and_yes false = refl

not_not : (b : Bool) → not (not b) ≡ b
not_not true = refl
not_not false = refl

born_some : (x : Option Object) (birth : ℕ) → is_born x birth ≡ true → (o : Object) × (x ≡ Some o) × (o.birth ≡ birth)
born_some None birth e = absurd (true≢false (sym e))
born_some (Some o) birth e = (o, refl, eqb-true o.birth birth e)

and_parts : (x y : Bool) → (x && y) ≡ true → (x ≡ true) × (y ≡ true)
and_parts true y e = (refl, e)
and_parts false y e = absurd (true≢false (sym e))

covers_some : (b : ℕ) (x : Option Object) (w : ℕ) → covers b x w ≡ true → (o : Object) × (x ≡ Some o) × PointsInto w b (length o.words)
covers_some b None w e = absurd (true≢false (sym e))
covers_some b (Some o) w e = let both = and_parts _ _ e in (o, refl, (leb-true _ _ both.0, ltb-true _ _ both.1))

module _ (kept : ℕ → Option Found) (pages : ℕ) (map : IsMap pages kept) (words words' : List ℕ) (s : Heap) (bases : List ℕ) (row : List Link)
    (shows : Shows kept words (without_at s.objects bases) s.births) (distinct : HaveDistinctBirths s.objects) (one : PointsIntoOne s) where
  -- the object that a link names stays, or not
  base_kept : (l : Link) (h : HeapLink) → IsNamed s.objects l h → (Contains bases l.base → ⊥) → is_base_of kept l.base ≡ true
  base_kept l h n out =
      let f = shows.shown.only l.base n.object (without_other s.objects bases l.base out ∙ n.has) in
      ap (λ r. has_base r l.base) f.1 ∙ eq-eqb f.0.base l.base f.2

  base_gone : (l : Link) (r : Option Found) → kept l.base ≡ r → Contains bases l.base → has_base r l.base ≡ false
  base_gone l None e among = refl
  base_gone l (Some g) e among = ne_eqb g.base l.base (λ same.
      let there = shows.shown.kept g (ap kept same ∙ e) in
      (without_some s.objects bases g.base there.0 there.1).0 (subst (Contains bases) (sym same) among))

  base_names : (l : Link) (h : HeapLink) → IsNamed s.objects l h → (b : Bool) → names s bases h ≡ b → is_base_of kept l.base ≡ not b
  base_names l h n true e =
      let b = Any-from_list_any (λ b. is_born (s.objects b) h.birth) bases e in
      let o = born_some (s.objects b.1) h.birth b.4 in
      let same : b.1 ≡ l.base = distinct b.1 l.base o.0 n.object o.1 n.has (o.2 ∙ sym n.names) in
      base_gone l (kept l.base) refl (subst (Contains bases) same (b.0, b.2, b.3))
  base_names l h n false e = base_kept l h n (λ among. true≢false (sym (names_yes s bases h l.base n.object n.has n.names among) ∙ e))

  -- its holder stays, or not
  holder_stays : (l : Link) (h : HeapLink) → (n : IsNamed s.objects l h) → (Contains bases n.holder_base → ⊥) → is_kept_at kept l.address ≡ true
  holder_stays l h n out =
      let still : without_at s.objects bases n.holder_base ≡ Some n.holder = without_other s.objects bases n.holder_base out ∙ n.held in
      let f = seen kept pages map words (without_at s.objects bases) shows.shown n.holder_base n.holder still in
      let size = f.3.size in let at = f.2 in let from = n.in_holder.0 in let below = n.in_holder.1 in
      ap is_some (map.whole n.holder_base l.address f.0 f.1 (record { from = omega arith; below = omega arith }))

  holder_gone : (l : Link) (r : Option Found) → kept l.address ≡ r → (b : ℕ) (o : Object) → Contains bases b → s.objects b ≡ Some o → PointsInto l.address b (length o.words) → is_some r ≡ false
  holder_gone l None e b o among has reads = refl
  holder_gone l (Some g) e b o among has reads =
      let read = reads_object kept pages map words (without_at s.objects bases) shows.shown l.address g e in
      let was = without_some s.objects bases g.base read.0 read.1 in
      let same : g.base ≡ b = one l.address g.base b read.0 o (was.1, read.3) (has, reads) in
      absurd (was.0 (subst (Contains bases) (sym same) among))

  holder_lies : (l : Link) (h : HeapLink) → IsNamed s.objects l h → (b : Bool) → lies_in s bases h ≡ b → is_kept_at kept l.address ≡ not b
  holder_lies l h n true e =
      let b = Any-from_list_any (λ b. covers b (s.objects b) h.address) bases e in
      let o = covers_some b.1 (s.objects b.1) h.address b.4 in
      holder_gone l (kept l.address) refl b.1 o.0 (b.0, b.2, b.3) o.1 (subst (λ a. PointsInto a b.1 (length o.0.words)) n.address o.2)
  holder_lies l h n false e =
      holder_stays l h n (λ among. true≢false (sym (lies_yes s bases h n.holder_base n.holder (n.held, subst (λ a. PointsInto a n.holder_base (length n.holder.words)) (sym n.address) n.in_holder) among) ∙ e))

  stay_same : (l : Link) (h : HeapLink) → IsNamed s.objects l h → stays kept l ≡ not (names s bases h || lies_in s bases h)
  stay_same l h n = both_not (names s bases h) (lies_in s bases h) (is_kept_at kept l.address) (is_base_of kept l.base) (holder_lies l h n (lies_in s bases h) refl) (base_names l h n (names s bases h) refl)

  kept_named : (l : Link) (h : HeapLink) → IsNamed s.objects l h → stays kept l ≡ true → IsNamed (without s bases).objects l h
  kept_named l h n is =
      let no = neither (names s bases h) (lies_in s bases h) (sym (stay_same l h n) ∙ is) in
      let out : Contains bases l.base → ⊥ = λ among. true≢false (sym (names_yes s bases h l.base n.object n.has n.names among) ∙ no.0) in
      let apart : Contains bases n.holder_base → ⊥ =
      λ among. true≢false (sym (lies_yes s bases h n.holder_base n.holder (n.held, subst (λ a. PointsInto a n.holder_base (length n.holder.words)) (sym n.address) n.in_holder) among) ∙ no.1) in
      record {
        address = n.address;
        aligned = n.aligned;
        holder_base = n.holder_base;
        holder = with_cleared (loses_word s bases) n.holder_base n.holder;
        held = stays_by s bases n.holder_base n.holder n.held apart;
        in_holder = (n.in_holder.0, subst (λ k. l.address < n.holder_base + 8 * k) (sym (length-cleared (loses_word s bases) n.holder_base n.holder.words)) n.in_holder.1);
        object = with_cleared (loses_word s bases) l.base n.object;
        has = stays_by s bases l.base n.object n.has out;
        names = n.names;
      }

  pub named_along : AreNamed s.objects row s.links → AreNamed (without s bases).objects (filter (stays kept) row) (without s bases).links
  named_along are = named_filter s.objects (without s bases).objects (stays kept) (λ h. not (names s bases h || lies_in s bases h)) stay_same kept_named are

  -- a link at the address of the word i of a kept object
  module _ (f : Found) (there : kept f.base ≡ Some f) (i : ℕ) (lt : i < f.len) where
    unkept : (l : Link) (r : Option Found) → kept l.address ≡ r → l.address % 8 ≡ 0 → l.address ≢ f.base + 8 * i → word_index l.address ≡ word_index f.base + i → is_some r ≡ false
    unkept l None e aligned ne same = refl
    unkept l (Some g) e aligned ne same =
        let above = (map.placed l.address g e).above in let from = (map.reads l.address g e).from in
        let low = (map.placed f.base f there).above in let even = (map.placed f.base f there).aligned in
        absurd (ne (omega arith))

    here : (l : Link) (h : HeapLink) → IsNamed s.objects l h → h.address ≡ f.base + 8 * i
        → ((word_index l.address == (word_index f.base + i)) && is_cleared kept l) ≡ ((h.address == (f.base + 8 * i)) && names s bases h)
    here l h n e =
        let at : l.address ≡ f.base + 8 * i = sym n.address ∙ e in
        let low = (map.placed f.base f there).above in let even = (map.placed f.base f there).aligned in
        let found : kept l.address ≡ Some f = map.whole f.base l.address f there (record { from = omega arith; below = omega arith }) in
        ap (λ b. b && is_cleared kept l) (eq-eqb (word_index l.address) (word_index f.base + i) (omega arith))
        ∙ ap (λ r. is_some r && not (is_base_of kept l.base)) found
        ∙ ap not (base_names l h n (names s bases h) refl)
        ∙ not_not (names s bases h)
        ∙ sym (ap (λ b. b && names s bases h) (eq-eqb h.address (f.base + 8 * i) e))

    elsewhere : (l : Link) (h : HeapLink) → IsNamed s.objects l h → h.address ≢ f.base + 8 * i
        → ((word_index l.address == (word_index f.base + i)) && is_cleared kept l) ≡ ((h.address == (f.base + 8 * i)) && names s bases h)
    elsewhere l h n ne =
        ⊎_elim
        (λ same. ap (λ b. b && is_cleared kept l) (eq-eqb (word_index l.address) (word_index f.base + i) same)
        ∙ ap (λ b. b && not (is_base_of kept l.base)) (unkept l (kept l.address) refl n.aligned (λ e. ne (n.address ∙ e)) same))
        (λ other. ap (λ b. b && is_cleared kept l) (ne_eqb (word_index l.address) (word_index f.base + i) other))
        (cases_eq (word_index l.address) (word_index f.base + i))
        ∙ sym (ap (λ b. b && names s bases h) (ne_eqb h.address (f.base + 8 * i) ne))

    word_same : AreNamed s.objects row s.links → clears kept row (word_index f.base + i) ≡ loses_word s bases (f.base + 8 * i)
    word_same are = named_any s.objects (λ l. (word_index l.address == (word_index f.base + i)) && is_cleared kept l) (λ h. (h.address == (f.base + 8 * i)) && names s bases h)
        (λ l h n. ⊎_elim (here l h n) (elsewhere l h n) (cases_eq h.address (f.base + 8 * i))) are

  -- what is left, with the words of the links that have gone
  pub shows_along : AreNamed s.objects row s.links → ((k : ℕ) → slice_index words' k ≡ cond (clears kept row k) 0 (slice_index words k)) → Shows kept words' (without s bases).objects s.births
  shows_along are changed = record {
    shown = record {
      kept = λ f there.
          let old = shows.shown.kept f there in (
            with_cleared (loses_word s bases) f.base old.0,
            ap (option_map (with_cleared (loses_word s bases) f.base)) old.1,
            record {
              kind = old.2.kind;
              size = length-cleared (loses_word s bases) f.base old.0.words ∙ old.2.size;
              word = λ i lt.
                  cleared_at (loses_word s bases) f.base old.0.words i
                  ∙ ap (λ b. cond b 0 (slice_index old.0.words i)) (sym (word_same f there i lt are))
                  ∙ ap (λ w. cond (clears kept row (word_index f.base + i)) 0 w) (old.2.word i lt)
                  ∙ sym (changed (word_index f.base + i));
            },
          );
      only = λ b p e. let left = left_by s bases b p e in shows.shown.only b left.object (without_other s.objects bases b left.out ∙ left.has);
    };
    born = λ b p e. let left = left_by s bases b p e in subst (λ n. (1 ≤ n) × (n ≤ s.births)) (ap (λ (x : Object). x.birth) left.is) (shows.born b left.object (without_other s.objects bases b left.out ∙ left.has));
    distinct = λ a b p q x y same.
        let u = left_by s bases a p x in let v = left_by s bases b q y in
        distinct a b u.object v.object u.has v.has (ap (λ (z : Object). z.birth) u.is ∙ same ∙ sym (ap (λ (z : Object). z.birth) v.is));
  }

-- words of which some have become 0
pub record Zeroes (words words' : List ℕ) : Type 0 where
  pub each : (k : ℕ) → (slice_index words' k ≡ slice_index words k) ⊎ (slice_index words' k ≡ 0)

zero_or_same : (b : Bool) (x w : ℕ) → x ≡ cond b 0 w → (x ≡ w) ⊎ (x ≡ 0)
zero_or_same true x w e = inr e
zero_or_same false x w e = inl e

pub zeroes_along : (kept : ℕ → Option Found) (row : List Link) (t t' : Store) → TakesAlong kept row t t' → Zeroes t.words t'.words
zeroes_along kept row t t' x = record { each = λ k. zero_or_same (clears kept row k) (slice_index t'.words k) (slice_index t.words k) (x.words k) }

-- an address is read by one object of a heap alone
pub reads_one : (kept : ℕ → Option Found) (pages : ℕ) → IsMap pages kept → (words : List ℕ) (s : Heap) → ShowsObjects kept words s.objects → PointsIntoOne s
reads_one kept pages map words s shows w a b o p r q =
    let f = seen kept pages map words s.objects shows a o r.0 in
    let g = seen kept pages map words s.objects shows b p q.0 in
    let size = f.3.size in let size' = g.3.size in let at = f.2 in let at' = g.2 in
    let from = r.1.0 in let below = r.1.1 in let from' = q.1.0 in let below' = q.1.1 in
    let here : kept w ≡ Some f.0 = map.whole a w f.0 f.1 (record { from = omega arith; below = omega arith }) in
    let here' : kept w ≡ Some g.0 = map.whole b w g.0 g.1 (record { from = omega arith; below = omega arith }) in
    sym f.2 ∙ ap (λ (x : Found). x.base) (same_Some f.0 g.0 (sym here ∙ here')) ∙ g.2

-- after a store each object is there still
pub stored_same : (s : Heap) (base : ℕ) (o : Object) (i w : ℕ) → HasObject s base o → (b : ℕ) (p : Object) → HasObject s b p
    → (q : Object) × (with_at s.objects base (Some (record o { words = slice_set o.words i w })) b ≡ Some q) × IsSameObject p q
stored_same s base o i w has b p hasb = ⊎_elim
    (λ same. let e : p ≡ o = same_Some p o (sym hasb ∙ ap s.objects same ∙ has) in (
      record o { words = slice_set o.words i w },
      with_at-same s.objects base _ b same,
      subst (λ (x : Object). IsSameObject x (record o { words = slice_set o.words i w })) (sym e) (record { birth = refl; kind = refl; size = length-set o.words i w }),
    ))
    (λ ne. (p, with_at-other s.objects base _ b ne ∙ hasb, record { birth = refl; kind = refl; size = refl }))
    (cases_eq b base)

-- what reads 0 reads no object
nothing_at : (pages : ℕ) (found : ℕ → Option Found) → IsMap pages found → (m : Marking) → IsTargetMarked found m 0
nothing_at pages found map m g e = let above = (map.placed 0 g e).above in let from = (map.reads 0 g e).from in absurd (omega arith)

-- the words of links become 0
pub traced_along : (kept : ℕ → Option Found) (row : List Link) (t t' : Store) (y : Cycle) → IsMap (length t.states) (found_in t.states) → IsTraced t y → TakesAlong kept row t t' → IsTraced t' y
traced_along kept row t t' y map x along = subst (λ z. IsTraced z y) (sym (beside_is t t' along.beside)) (record {
  pages = x.pages;
  objects = x.objects;
  swept = x.swept;
  invariant = λ is f there kind marked i lt.
      let each = (zeroes_along kept row t t' along).each (word_index (word_address f i)) in
      ⊎_elim
      (λ target. inl (⊎_elim
      (λ same. subst (IsTargetMarked (found_in t.states) y.marker) (sym same) target)
      (λ zero. subst (IsTargetMarked (found_in t.states) y.marker) (sym zero) (nothing_at (length t.states) (found_in t.states) map y.marker))
      each))
      (λ awaited. inr awaited)
      (x.invariant is f there kind marked i lt);
  carried = λ is f there kind marked i lt.
      let each = (zeroes_along kept row t t' along).each (word_index (word_address f i)) in
      ⊎_elim
      (λ settled. inl (⊎_elim
      (λ same. subst (IsSettled (found_in t.states) y.marker (word_address f i)) (sym same) settled)
      (λ zero. subst (IsSettled (found_in t.states) y.marker (word_address f i)) (sym zero) (IsSettled.outside (inl (omega arith))))
      each))
      (λ awaited. inr awaited)
      (x.carried is f there kind marked i lt);
})
