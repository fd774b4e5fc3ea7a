-- Flags of old objects: how they are set, and what roots and old objects lead to.
use Rattle.std.proofs.Common.{◌≡◌, ◌≢◌, ℕ, ◌+◌, ◌<◌, ◌≤◌, Bool, true, false, List, [], ◌∷◌, ◌++◌, length, get_or, take, refl, sym, ap, ◌∙◌, subst, arith, ⊎_elim}
use Rattle.std.specs.Prelude.{Some, Contains, slice_get, slice_set}
use Rattle.std.proofs.lemmas.Bool.{true≢false, cases_lt}
use Rattle.std.proofs.lemmas.Option.{same_Some, slice_get_within, get_or_from_slice_get}
use Rattle.std.proofs.lemmas.List.{append-nil, length-set, get_or-set_same, get_or-set_other, get_or_past, take_more}
use Rattle.std.proofs.lemmas.List.Elements.{Contains-append_left, Contains-append_right, Contains-append_cases}
use Rattle.heap_spec.specs.Layout.{PointsInto}
use Rattle.heap_spec.specs.Heap.{Heap, Object}
use Rattle.heap_spec.specs.Closure.{Closure, given, root, word}
use Rattle.links.specs.Leaving.{word_index}
use Rattle.roots.specs.Roots.{root_words_of}
use Rattle.plain_heap.specs.declared.extent.Extent.{Extent}
use Rattle.plain_heap.specs.declared.listing.Listing.{Listing}
use Rattle.plain_heap.specs.PlainContents.{PlainContents, IsLaidOut}
use Rattle.plain_heap.specs.Standing.{StandsFor, words_at}
use Rattle.plain_heap.specs.Flags.{IsFlagged, FlagsMarked}
use Rattle.plain_heap.specs.Listing.{IsListing}
use Rattle.plain_heap.specs.Reached.{PointsIntoNth, IsReachedNth, by_root, by_link, MarksReached}
use Rattle.plain_heap.specs.Aging.{TellOld, FlagsAll, FlagUnset, FlagsClosure, AreFlaggedBases, ListsFlagged, MarksClosure}
use Rattle.plain_heap.specs.Discovery.{IsDiscovered}
use Rattle.plain_heap.proofs.Objects.{extent_of, reads_base}
use Rattle.plain_heap.proofs.Lists.{nothing_in, the_one, lists_none, lists_more}
use Rattle.plain_heap.proofs.Collects.{roots_are, in_row, at_place, read_of, read_in, reads_at, points_at}
use Rattle.plain_heap.proofs.Flagging.{one_place, has_flag, flag_of, flag_sets}

-- all flags are set
pub all_set : (c : PlainContents) → IsLaidOut c → (flags : List Bool) → ((k : ℕ) → k < length flags → get_or flags k false ≡ true) → FlagsAll c flags
all_set c sound flags all room s h base o has = let e = extent_of c sound s h base o has in subst (IsFlagged c.origin flags) e.2 (all (word_index c.origin e.0.base) (has_flag c sound flags room e.0 e.1))

-- a flag that is unset isn't set
unset_here : (flags : List Bool) (k : ℕ) → get_or (slice_set flags k false) k false ≡ true → ⊥
unset_here flags k is = true≢false (sym is ∙ ⊎_elim
    (λ lt. get_or-set_same flags k false false lt)
    (λ past. get_or_past (slice_set flags k false) k false (let size = length-set flags k false in omega arith))
    (cases_lt k (length flags)))

-- one flag is unset
module _ (c : PlainContents) (sound : IsLaidOut c) (base : ℕ) (old new : List Bool) where
  pub one_unset : new ≡ slice_set old (word_index c.origin base) false → FlagUnset c base old new
  one_unset is = subst (FlagUnset c base old) (sym is) (record {
    size = length-set old (word_index c.origin base) false;
    unset = λ s h o has set. unset_here old (word_index c.origin base) set;
    others = λ s h o has at p there ne.
        let e = extent_of c sound s h base o has in
        let f = extent_of c sound s h at p there in
        let away : word_index c.origin at ≢ word_index c.origin base = λ same. ne (sym f.2 ∙ one_place c sound f.0 e.0 f.1 e.1 (ap (word_index c.origin) f.2 ∙ same ∙ ap (word_index c.origin) (sym e.2)) ∙ e.2) in
        let same = get_or-set_other old (word_index c.origin base) (word_index c.origin at) false false away in
        (λ set. sym same ∙ set, λ set. same ∙ set);
  })

-- the flagged ones of no objects, and of one
pub flagged_none : (origin : ℕ) (flags : List Bool) → AreFlaggedBases origin [] flags []
flagged_none origin flags = record { all = λ e has is. absurd (nothing_in e has); only = λ b has. absurd (nothing_in b has) }

pub flagged_is : (origin : ℕ) (flags : List Bool) (e : Extent) → IsFlagged origin flags e.base → AreFlaggedBases origin (e ∷ []) flags (e.base ∷ [])
flagged_is origin flags e is = record {
  all = λ f has set. subst (λ (x : Extent). Contains (e.base ∷ []) x.base) (the_one e f has) (0, omega arith, refl);
  only = λ b has. (e, (0, omega arith, refl), the_one e.base b has, is);
}

pub flagged_not : (origin : ℕ) (flags : List Bool) (e : Extent) → (IsFlagged origin flags e.base → ⊥) → AreFlaggedBases origin (e ∷ []) flags []
flagged_not origin flags e not = record {
  all = λ f has set. absurd (not (subst (λ (x : Extent). IsFlagged origin flags x.base) (sym (the_one e f has)) set));
  only = λ b has. absurd (nothing_in b has);
}

flagged_more : (origin : ℕ) (flags : List Bool) (xs ys : List Extent) (bs cs : List ℕ) → AreFlaggedBases origin xs flags bs → AreFlaggedBases origin ys flags cs → AreFlaggedBases origin (xs ++ ys) flags (bs ++ cs)
flagged_more origin flags xs ys bs cs x y = record {
  all = λ e has is. ⊎_elim
      (λ first. Contains-append_left bs cs e.base (x.all e first is))
      (λ second. Contains-append_right bs cs e.base (y.all e second is))
      (Contains-append_cases xs ys e has);
  only = λ b has. ⊎_elim
      (λ first. let o = x.only b first in (o.0, Contains-append_left xs ys o.0 o.1, o.2, o.3))
      (λ second. let o = y.only b second in (o.0, Contains-append_right xs ys o.0 o.1, o.2, o.3))
      (Contains-append_cases bs cs b has);
}

-- no object has one of no flags
pub no_flags : (origin : ℕ) (row : List Extent) (bases : List ℕ) → AreFlaggedBases origin row [] bases → bases ≡ []
no_flags origin row [] are = refl
no_flags origin row (b ∷ bases) are = let o = are.only b (0, omega arith, refl) in absurd (true≢false (sym o.3 ∙ get_or_past [] (word_index origin o.0.base) false (omega arith)))

module _ (origin : ℕ) (row : List Extent) (flags : List Bool) where
  pub lists_flagged_none : (l : Listing) → IsListing row l → ListsFlagged origin row [] flags l l
  lists_flagged_none l ready = record { bases = []; are = flagged_none origin flags; lists = lists_none row l ready }

  -- the objects one after another
  pub lists_flagged_next : (a b l : Listing) (i : ℕ) (e : Extent) → slice_get row i ≡ Some e → ListsFlagged origin row (take i row) flags a b → ListsFlagged origin row (e ∷ []) flags b l → ListsFlagged origin row (take (i + 1) row) flags a l
  lists_flagged_next a b l i e at x y =
      let more : take (i + 1) row ≡ take i row ++ e ∷ [] = take_more row i e (slice_get_within row i e at) ∙ ap (λ f. take i row ++ f ∷ []) (get_or_from_slice_get row i e e at) in
      subst (λ some. ListsFlagged origin row some flags a l) (sym more) (record {
        bases = x.bases ++ y.bases;
        are = flagged_more origin flags (take i row) (e ∷ []) x.bases y.bases x.are y.are;
        lists = lists_more row x.bases y.bases a b l x.lists y.lists;
      })

-- what roots and objects with flags lead to, told by where it stands in the row
module _ (c : PlainContents) (sound : IsLaidOut c) (s : Heap) (h : StandsFor c s) (aged : List Bool) (last : ℕ) (tell : TellOld c.origin s aged last) (bases : List ℕ) (are : AreFlaggedBases c.origin c.objects aged bases) where
  abbrev IsOld : ℕ → Type 0
  IsOld birth = birth ≤ last

  abbrev Leads : ℕ → Type 0
  Leads = IsReachedNth c.origin (root_words_of c.roots ++ bases) c.words c.objects

  -- an old object is given
  old_out : (i : ℕ) (e : Extent) (w : ℕ) → Contains bases w → PointsIntoNth c.objects w i → slice_get c.objects i ≡ Some e → Closure s IsOld e.base
  old_out i e w among p at =
      let f = are.only w among in
      let here : PointsInto w f.0.base f.0.length = reads_base c sound f.0 f.1 w (sym f.2) in
      let there : PointsInto w e.base e.length = subst (λ (x : Extent). PointsInto w x.base x.length) (same_Some p.0 e (sym p.1 ∙ at)) p.2 in
      let same : f.0 ≡ e = sound.apart f.0 e w f.1 (in_row c.objects i e at) here there in
      let kept = h.kept f.0 f.1 in
      subst (λ (x : Extent). Closure s IsOld x.base) same (given kept.1 ((tell f.0.base kept.0 kept.1).0 f.3))

  closure_out : (i : ℕ) (e : Extent) → Leads i → slice_get c.objects i ≡ Some e → Closure s IsOld e.base
  closure_out i e (by_root {w = w} among p) at = ⊎_elim
      (λ first. root (subst (λ ws. Contains ws w) (sym (roots_are c sound s h)) first) (reads_at c sound s h w i p e at).1)
      (λ second. old_out i e w second p at)
      (Contains-append_cases (root_words_of c.roots) bases w among)
  closure_out i e (by_link {i = from} {w = w} {e = f} r there among p) at =
      let kept = h.kept f (in_row c.objects from f there) in
      let link = read_of f.kind (words_at c.origin c.words f) w among in
      word (closure_out from f r there) kept.1 (kept.2.kind ∙ link.0) (subst (λ ws. Contains ws w) (sym kept.2.words) link.1) (reads_at c sound s h w i p e at).1

  closure_in : (base : ℕ) → Closure s IsOld base → (i : ℕ) × (e : Extent) × (slice_get c.objects i ≡ Some e) × (e.base ≡ base) × Leads i
  closure_in base (given {o = o} has old) =
      let e = extent_of c sound s h base o has in
      let i = at_place c.objects e.0 e.1 in
      let among : Contains bases e.0.base = are.all e.0 e.1 (subst (IsFlagged c.origin aged) (sym e.2) ((tell base o has).1 old)) in
      (i.0, e.0, i.1, e.2, by_root (Contains-append_right (root_words_of c.roots) bases e.0.base among) (e.0, i.1, reads_base c sound e.0 e.1 e.0.base refl))
  closure_in base (root {w = w} {o = o} among r) =
      let p = points_at c sound s h w base o r in
      (p.0, p.1, p.2, p.3, by_root (Contains-append_left (root_words_of c.roots) bases w (subst (λ ws. Contains ws w) (roots_are c sound s h) among)) (p.1, p.2, p.4))
  closure_in base (word {from = from} {w = w} {p = q} {o = o} inner has normal among r) =
      let f = closure_in from inner in
      let kept = h.kept f.1 (in_row c.objects f.0 f.1 f.2) in
      let same : kept.0 ≡ q = same_Some kept.0 q (sym kept.1 ∙ ap s.objects f.3 ∙ has) in
      let words : Contains (words_at c.origin c.words f.1) w = subst (λ ws. Contains ws w) (sym (ap (λ (x : Object). x.words) same) ∙ kept.2.words) among in
      let p = points_at c sound s h w base o r in
      (p.0, p.1, p.2, p.3, by_link f.4 f.2 (read_in f.1.kind (words_at c.origin c.words f.1) w (sym kept.2.kind ∙ ap (λ (x : Object). x.kind) same ∙ normal) words) (p.1, p.2, p.4))

pub closure_flagged : (c : PlainContents) → IsLaidOut c → (aged marks old new : List Bool) → FlagsMarked c.origin c.objects marks old new → ((k : ℕ) → get_or old k false ≡ false)
    → MarksClosure c.origin (root_words_of c.roots) c.words c.objects aged marks → FlagsClosure c aged new
closure_flagged c sound aged marks old new f none m room s h last tell base o has = (
  λ is. ⊎_elim
      (λ before. absurd (true≢false (sym before ∙ none (word_index c.origin base))))
      (λ x. subst (Closure s (λ birth. birth ≤ last)) x.4 (closure_out c sound s h aged last tell m.bases m.are x.0 x.1 (m.marks_all.reached x.0 x.3) x.2))
      (flag_of c sound marks old new f s h base o has is),
  λ r.
      let x = closure_in c sound s h aged last tell m.bases m.are base r in
      subst (IsFlagged c.origin new) x.3 (flag_sets c sound marks old new f (let size = f.size in omega (arith, room)) x.0 x.1 x.2 (m.marks_all.marked x.0 x.4)),
)

-- with no flags it is what the roots lead to
pub closure_reached : (origin : ℕ) (roots words : List ℕ) (row : List Extent) (marks : List Bool) → MarksClosure origin roots words row [] marks → MarksReached origin roots words row marks
closure_reached origin roots words row marks m = subst (λ r. MarksReached origin r words row marks) (ap (λ b. roots ++ b) (no_flags origin row m.bases m.are) ∙ append-nil roots) m.marks_all

-- A root word, or an object with its flag, leads to each object on the list, or else a word of an object that is listed before it.
pub record DiscoversClosure (origin : ℕ) (roots words : List ℕ) (row : List Extent) (flags : List Bool) (order : List ℕ) : Type 0 where
  pub bases : List ℕ
  pub are : AreFlaggedBases origin row flags bases
  pub discovered : IsDiscovered origin (roots ++ bases) words row order

pub discovered_reached : (origin : ℕ) (roots words : List ℕ) (row : List Extent) (order : List ℕ) → DiscoversClosure origin roots words row [] order → IsDiscovered origin roots words row order
discovered_reached origin roots words row order m = subst (λ r. IsDiscovered origin r words row order) (ap (λ b. roots ++ b) (no_flags origin row m.bases m.are) ∙ append-nil roots) m.discovered
