-- What leaves a heap takes its links along.
use Rattle.std.proofs.Common.{suc, zero, ◌≡◌, ◌≢◌, ℕ, ◌+◌, ◌*◌, ◌%◌, ◌<◌, ◌≤◌, ◌⊎◌, Bool, true, false, List, length, get_or, cond, [], ◌∷◌, ◌++◌, refl, sym, ap, ◌∙◌, subst, arith, inl, inr, ⊎_elim}
use Rattle.std.specs.Prelude.{Option, Some, None, option_map, All, AllPairs, Contains, not, ◌||◌, ◌==◌, filter}
use Rattle.std.specs.List.{list_any}
use Rattle.std.proofs.lemmas.Bool.{true≢false, eq-eqb, le-leb, lt-ltb, and_from}
use Rattle.std.proofs.lemmas.Option.{same_Some, none-some}
use Rattle.std.proofs.lemmas.List.{length_push}
use Rattle.std.proofs.lemmas.List.Elements.{All-filter, filter_passes, All-push, All-weaker}
use Rattle.std.proofs.lemmas.List.Kept.{AllPairs-filter}
use Rattle.std.proofs.lemmas.List.Quantifiers.{all_pairs_push}
use Rattle.std.proofs.lemmas.List.Folds.{list_any-from_Any}
use Rattle.std.proofs.lemmas.List.Sums.{length-filter, count_by-le-length}
use Rattle.words.specs.declared.limits.TheConstants.{MAX_LINKS}
use Rattle.words.specs.declared.class.Kind.TheVariants.{PointerFree}
use Rattle.heap_spec.specs.Ranges.{IsWord}
use Rattle.heap_spec.specs.Heap.{Heap, Object, Link, IsSameObject, HasObject, PointsIntoObject, is_born, covers, names, lies_in, loses_word, cleared, with_cleared, without, without_at}
use Rattle.heap_spec.specs.Steps.{links_but, with_link, without_link, HasLinkRoom}
use Rattle.heap_spec.specs.Sound.{IsLink, AreLinks}
use Rattle.heap_spec.proofs.Objects.{without_some, without_other}

-- words of which some are cleared
pub length-cleared : (gone : ℕ → Bool) (a : ℕ) (ws : List ℕ) → length (cleared gone a ws) ≡ length ws
length-cleared gone a [] = refl
length-cleared gone a (w ∷ ws) = ap suc (length-cleared gone (a + 8) ws)

both_zero : (z : ℕ) (b : Bool) → cond b z z ≡ z
both_zero z true = refl
both_zero z false = refl

pub cleared_at : (gone : ℕ → Bool) (a : ℕ) (ws : List ℕ) (i : ℕ) → get_or (cleared gone a ws) i 0 ≡ cond (gone (a + 8 * i)) 0 (get_or ws i 0)
cleared_at gone a [] i = sym (both_zero 0 (gone (a + 8 * i)))
cleared_at gone a (w ∷ ws) zero = ap (λ x. cond (gone x) 0 w) (omega arith)
cleared_at gone a (w ∷ ws) (suc i) = cleared_at gone (a + 8) ws i ∙ ap (λ x. cond (gone x) 0 (get_or ws i 0)) (omega arith)

-- a word that is left is 0, or was there
pub cleared_among : (gone : ℕ → Bool) (a : ℕ) (ws : List ℕ) (v : ℕ) → Contains (cleared gone a ws) v → (v ≡ 0) ⊎ Contains ws v
cleared_among gone a [] v among = inr among
cleared_among gone a (w ∷ ws) v (zero, lt, is) = first (gone a) is
  where
    first : (b : Bool) → cond b 0 w ≡ v → (v ≡ 0) ⊎ Contains (w ∷ ws) v
    first true e = inl (sym e)
    first false e = inr (0, omega arith, e)
cleared_among gone a (w ∷ ws) v (suc i, lt, is) =
    ⊎_elim (λ z. inl z) (λ old. inr (suc old.0, (let l = old.1 in omega arith), old.2)) (cleared_among gone (a + 8) ws v (i, omega arith, is))

cleared_word : (b : Bool) (w : ℕ) → IsWord w → IsWord (cond b 0 w)
cleared_word true w h = omega arith
cleared_word false w h = h

pub cleared_words : (gone : ℕ → Bool) (a : ℕ) (ws : List ℕ) → All IsWord ws → All IsWord (cleared gone a ws)
cleared_words gone a ws h i d lt =
    let long = length-cleared gone a ws in
    subst IsWord (sym (cleared_at gone a ws i) ∙ get_or_any (cleared gone a ws) i 0 d lt) (cleared_word (gone (a + 8 * i)) (get_or ws i 0) (h i 0 (omega arith)))
  where
    get_or_any : (xs : List ℕ) (i d e : ℕ) → i < length xs → get_or xs i d ≡ get_or xs i e
    get_or_any [] i d e lt = absurd (omega arith)
    get_or_any (x ∷ xs) zero d e lt = refl
    get_or_any (x ∷ xs) (suc i) d e lt = get_or_any xs i d e (omega arith)

-- the object that is left is one that was there, with some words cleared
mapped : (f : Object → Object) (x : Option Object) (p : Object) → option_map f x ≡ Some p → (o : Object) × (x ≡ Some o) × (f o ≡ p)
mapped f None p e = absurd (none-some p e)
mapped f (Some o) p e = (o, refl, same_Some (f o) p e)

pub same_cleared : (gone : ℕ → Bool) (base : ℕ) (o : Object) → IsSameObject o (with_cleared gone base o)
same_cleared gone base o = record { birth = refl; kind = refl; size = length-cleared gone base o.words }

-- What is there without some was there, is none of them, and has its words but for those that are cleared.
pub record WasThere (s : Heap) (bases : List ℕ) (base : ℕ) (p : Object) : Type 0 where
  pub object : Object
  pub has : HasObject s base object
  pub out : Contains bases base → ⊥
  pub is : with_cleared (loses_word s bases) base object ≡ p

pub left_by : (s : Heap) (bases : List ℕ) (base : ℕ) (p : Object) → HasObject (without s bases) base p → WasThere s bases base p
left_by s bases base p has =
    let m = mapped (with_cleared (loses_word s bases) base) (without_at s.objects bases base) p has in
    let w = without_some s.objects bases base m.0 m.1 in
    record { object = m.0; has = w.1; out = w.0; is = m.2 }

-- and what is none of them is there still
pub stays_by : (s : Heap) (bases : List ℕ) (base : ℕ) (o : Object) → HasObject s base o → (Contains bases base → ⊥) → HasObject (without s bases) base (with_cleared (loses_word s bases) base o)
stays_by s bases base o has out = ap (option_map (with_cleared (loses_word s bases) base)) (without_other s.objects bases base out ∙ has)

pub same_left : (s : Heap) (bases : List ℕ) (base : ℕ) (p : Object) → (w : WasThere s bases base p) → IsSameObject w.object p
same_left s bases base p w = subst (IsSameObject w.object) w.is (same_cleared (loses_word s bases) base w.object)

-- a link that names an object which leaves, and one whose word lies in it
pub names_yes : (s : Heap) (bases : List ℕ) (l : Link) (base : ℕ) (o : Object) → HasObject s base o → o.birth ≡ l.birth → Contains bases base → names s bases l ≡ true
names_yes s bases l base o has same among =
    list_any-from_Any (λ b. is_born (s.objects b) l.birth) bases (among.0, base, among.1, among.2, ap (λ x. is_born x l.birth) has ∙ eq-eqb _ _ same)

pub lies_yes : (s : Heap) (bases : List ℕ) (l : Link) (base : ℕ) (o : Object) → PointsIntoObject s l.address base o → Contains bases base → lies_in s bases l ≡ true
lies_yes s bases l base o reads among =
    list_any-from_Any (λ b. covers b (s.objects b) l.address) bases
    (among.0, base, among.1, among.2, ap (λ x. covers base x l.address) reads.0 ∙ and_from _ _ (le-leb _ _ reads.1.0) (lt-ltb _ _ reads.1.1))

-- a link that stays names none of them, and lies in none
pub neither : (a b : Bool) → not (a || b) ≡ true → (a ≡ false) × (b ≡ false)
neither true b e = absurd (true≢false (sym e))
neither false true e = absurd (true≢false (sym e))
neither false false e = (refl, refl)

still : (s : Heap) (bases : List ℕ) (l : Link) → IsLink s l → not (names s bases l || lies_in s bases l) ≡ true → IsLink (without s bases) l
still s bases l h e =
    let no = neither _ _ e in
    let out : Contains bases h.named → ⊥ = λ among. true≢false (sym (names_yes s bases l h.named h.object h.has h.names among) ∙ no.0) in
    let apart : Contains bases h.base → ⊥ = λ among. true≢false (sym (lies_yes s bases l h.base h.holder h.in_holder among) ∙ no.1) in
    record {
      aligned = h.aligned;
      base = h.base;
      holder = with_cleared (loses_word s bases) h.base h.holder;
      in_holder = (stays_by s bases h.base h.holder h.in_holder.0 apart, (h.in_holder.1.0, subst (λ n. l.address < h.base + 8 * n) (sym (length-cleared (loses_word s bases) h.base h.holder.words)) h.in_holder.1.1));
      kind = h.kind;
      named = h.named;
      object = with_cleared (loses_word s bases) h.named h.object;
      has = stays_by s bases h.named h.object h.has out;
      names = h.names;
    }

few_left : (p : Link → Bool) (ls : List Link) → length (filter p ls) ≤ length ls
few_left p ls = subst (λ n. n ≤ length ls) (sym (length-filter p ls)) (count_by-le-length p ls)

pub links_left : (s : Heap) (bases : List ℕ) → AreLinks s → AreLinks (without s bases)
links_left s bases h = record {
  each = λ i d lt. still s bases _ (All-filter stays (IsLink s) s.links h.each i d lt) (filter_passes stays s.links i d lt);
  distinct = AllPairs-filter (λ k l. k.address ≢ l.address) stays s.links h.distinct;
  few = let fewer = few_left stays s.links in let few = h.few in omega arith;
}
  where
    stays : Link → Bool
    stays l = not (names s bases l || lies_in s bases l)

-- links of a heap whose objects are all there still, of the same births, kinds and lengths
same_link : (s s' : Heap) → ((base : ℕ) (o : Object) → HasObject s base o → (p : Object) × HasObject s' base p × IsSameObject o p) → (l : Link) → IsLink s l → IsLink s' l
same_link s s' keep l h =
    let holder = keep h.base h.holder h.in_holder.0 in
    let object = keep h.named h.object h.has in
    record {
      aligned = h.aligned;
      base = h.base;
      holder = holder.0;
      in_holder = (holder.1, (h.in_holder.1.0, subst (λ n. l.address < h.base + 8 * n) (sym holder.2.size) h.in_holder.1.1));
      kind = holder.2.kind ∙ h.kind;
      named = h.named;
      object = object.0;
      has = object.1;
      names = object.2.birth ∙ h.names;
    }

pub links_kept : (s s' : Heap) → s'.links ≡ s.links → ((base : ℕ) (o : Object) → HasObject s base o → (p : Object) × HasObject s' base p × IsSameObject o p) → AreLinks s → AreLinks s'
links_kept s s' same keep h = record {
  each = subst (All (IsLink s')) (sym same) (All-weaker (IsLink s) (IsLink s') (same_link s s' keep) s.links h.each);
  distinct = subst (AllPairs (λ k l. k.address ≢ l.address)) (sym same) h.distinct;
  few = subst (λ ls. length ls ≤ MAX_LINKS) (sym same) h.few;
}

-- links but for one at an address
pub links_unlinked : (s : Heap) (a : ℕ) → AreLinks s → AreLinks (without_link s a)
links_unlinked s a h = record {
  each = All-weaker (IsLink s) (IsLink (without_link s a)) (same_link s (without_link s a) (λ base o has. (o, has, record { birth = refl; kind = refl; size = refl }))) _ (All-filter other (IsLink s) s.links h.each);
  distinct = AllPairs-filter (λ k l. k.address ≢ l.address) other s.links h.distinct;
  few = let fewer = few_left other s.links in let few = h.few in omega arith;
}
  where
    other : Link → Bool
    other l = not (l.address == a)

-- where one stands at the address, fewer are left
not_eq : (x y : ℕ) → not (x == y) ≡ true → x ≢ y
not_eq x y e same = true≢false (sym e ∙ ap not (eq-eqb x y same))

one_fewer : (l : Link) (us ls : List Link) (b c : Bool) → length us ≤ length ls → (c ≡ true → length us < length ls) → (not b || c) ≡ true → length (cond b (l ∷ us) us) < length (l ∷ ls)
one_fewer l us ls true c few fewer e = let r = fewer e in omega arith
one_fewer l us ls false c few fewer e = omega arith

fewer_but : (p : Link → Bool) (ls : List Link) → list_any (λ l. not (p l)) ls ≡ true → length (filter p ls) < length ls
fewer_but p [] e = absurd (true≢false (sym e))
fewer_but p (l ∷ ls) e = one_fewer l (filter p ls) ls (p l) (list_any (λ l. not (p l)) ls) (few_left p ls) (fewer_but p ls) e

not_not : (b : Bool) → not (not b) ≡ b
not_not true = refl
not_not false = refl

room_left : (s : Heap) (a : ℕ) → AreLinks s → HasLinkRoom s a → length (links_but s a) < MAX_LINKS
room_left s a h (inl few) = let fewer = few_left (λ l. not (l.address == a)) s.links in omega arith
room_left s a h (inr stands) =
    let fewer = fewer_but (λ l. not (l.address == a)) s.links (any_same s.links ∙ stands) in let few = h.few in omega arith
  where
    any_same : (ls : List Link) → list_any (λ l. not (not (l.address == a))) ls ≡ list_any (λ l. l.address == a) ls
    any_same [] = refl
    any_same (l ∷ ls) = ap (λ b. b || list_any (λ l. not (not (l.address == a))) ls) (not_not (l.address == a)) ∙ ap (λ b. (l.address == a) || b) (any_same ls)

-- and one more
pub links_linked : (s : Heap) (a base named : ℕ) (o p : Object) → AreLinks s → a % 8 ≡ 0 → PointsIntoObject s a base o → o.kind ≡ PointerFree → HasObject s named p → HasLinkRoom s a → AreLinks (with_link s a p.birth)
links_linked s a base named o p h aligned reads kind has room = record {
  each = All-push (IsLink (with_link s a p.birth)) (links_but s a) _ (links_but_are) (record { aligned = aligned; base = base; holder = o; in_holder = reads; kind = kind; named = named; object = p; has = has; names = refl });
  distinct = all_pairs_push (λ k l. k.address ≢ l.address) (links_but s a) _ (AllPairs-filter (λ k l. k.address ≢ l.address) other s.links h.distinct) (λ k d lt. not_eq _ a (filter_passes other s.links k d lt));
  few = let l : length (links_but s a ++ record { address = a; birth = p.birth } ∷ []) ≡ length (links_but s a) + 1 = length_push (links_but s a) _ in let left = room_left s a h room in omega arith;
}
  where
    other : Link → Bool
    other l = not (l.address == a)

    links_but_are : All (IsLink (with_link s a p.birth)) (links_but s a)
    links_but_are = All-weaker (IsLink s) (IsLink (with_link s a p.birth)) (same_link s (with_link s a p.birth) (λ b x hx. (x, hx, record { birth = refl; kind = refl; size = refl }))) _ (All-filter other (IsLink s) s.links h.each)
