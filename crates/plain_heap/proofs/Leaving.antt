-- The objects that are left tell which links stay, and which words become 0.
use Rattle.std.proofs.Common.{◌≡◌, ℕ, ◌+◌, ◌*◌, ◌<◌, Bool, true, false, cond, List, [], ◌∷◌, ◌++◌, length, get_or, take, drop, refl, sym, ap, ◌∙◌, arith}
use Rattle.std.specs.Prelude.{All, Contains, ◌==◌, ◌&&◌, filter, nat_le, nat_lt}
use Rattle.std.proofs.lemmas.Bool.{true≢false, eq-eqb, eqb-true, le-leb, lt-ltb, leb-true, ltb-true, and_from}
use Rattle.std.proofs.lemmas.List.{ext_get_or, get_or-take, get_or-drop}
use Rattle.std.proofs.lemmas.List.Elements.{filter_more}
use Rattle.std.proofs.lemmas.List.Folds.{Any-from_list_any, list_any-from_Any, list_any_none}
use Rattle.words.specs.declared.limits.TheConstants.{WORD_BYTES, PAGE_WORDS}
use Rattle.heap_spec.specs.Layout.{PointsInto}
use Rattle.heap_spec.specs.Heap.{cleared}
use Rattle.heap_spec.proofs.Links.{length-cleared, cleared_at}
use Rattle.links.specs.declared.row.Link.{Link}
use Rattle.links.specs.Leaving.{ClearsWords, word_index}
use Rattle.links.proofs.Leaving.{clears_more}
use Rattle.plain_heap.specs.declared.extent.Extent.{Extent}
use Rattle.plain_heap.specs.PlainContents.{IsInHeap}
use Rattle.plain_heap.specs.Standing.{LiesIn, words_at}
use Rattle.plain_heap.specs.Along.{holds_word, has_base, ClearsWord}
use Rattle.plain_heap.proofs.Memory.{length_words}

and_parts : (x y : Bool) → (x && y) ≡ true → (x ≡ true) × (y ≡ true)
and_parts true y e = (refl, e)
and_parts false y e = absurd (true≢false (sym e))

not_true : (b : Bool) → (b ≡ true → ⊥) → b ≡ false
not_true true out = absurd (out refl)
not_true false out = refl

abbrev has_word : ℕ → Extent → Bool
has_word a e = nat_le e.base a && nat_lt a (e.base + WORD_BYTES * e.length)

-- the tests say what they say
pub holds_yes : (row : List Extent) (e : Extent) (a : ℕ) → Contains row e → PointsInto a e.base e.length → holds_word row a ≡ true
holds_yes row e a has reads = list_any-from_Any (has_word a) row (has.0, e, has.1, has.2, and_from _ _ (le-leb _ _ reads.0) (lt-ltb _ _ reads.1))

pub holds_no : (row : List Extent) (a : ℕ) → All (λ e. PointsInto a e.base e.length → ⊥) row → holds_word row a ≡ false
holds_no row a none = list_any_none (has_word a) row (λ k d lt. not_true _ (λ is. let both = and_parts _ _ is in none k d lt (leb-true _ _ both.0, ltb-true _ _ both.1)))

pub held_by : (row : List Extent) (a : ℕ) → holds_word row a ≡ true → (e : Extent) × Contains row e × PointsInto a e.base e.length
held_by row a is =
    let x = Any-from_list_any (has_word a) row is in
    let both = and_parts _ _ x.4 in
    (x.1, (x.0, x.2, x.3), (leb-true _ _ both.0, ltb-true _ _ both.1))

pub base_yes : (row : List Extent) (e : Extent) (b : ℕ) → Contains row e → e.base ≡ b → has_base row b ≡ true
base_yes row e b has is = list_any-from_Any (λ (x : Extent). x.base == b) row (has.0, e, has.1, has.2, eq-eqb _ _ is)

pub base_no : (row : List Extent) (b : ℕ) → ((e : Extent) → Contains row e → e.base ≡ b → ⊥) → has_base row b ≡ false
base_no row b none = not_true _ (λ is. let x = Any-from_list_any (λ (e : Extent). e.base == b) row is in none x.1 (x.0, x.2, x.3) (eqb-true _ _ x.4))

-- rows of words of one length lie the same
pub lie_same : (origin : ℕ) (words words' : List ℕ) (row : List Extent) → length words' ≡ length words → All (LiesIn origin words) row → All (LiesIn origin words') row
lie_same origin words words' row size lie = λ k d lt. let l = lie k d lt in record { start = l.start; aligned = l.aligned; some = l.some; ends = let e = l.ends in omega arith }

-- one link after another
pub along_more : (origin : ℕ) (objects : List Extent) (row : List Link) (i : ℕ) (l d : Link) (words mid words' : List ℕ) → i < length row → l ≡ get_or row i d
    → ClearsWords origin (holds_word objects) (has_base objects) (take i row) words mid → ClearsWord origin objects l mid words' → ClearsWords origin (holds_word objects) (has_base objects) (take (i + 1) row) words words'
along_more origin objects row i l d words mid words' lt is so one = clears_more origin (holds_word objects) (has_base objects) row i l d words mid words' lt is so one.size one.words

pub kept_more : (p : Link → Bool) (row : List Link) (i : ℕ) (d : Link) (b : Bool) (us vs : List Link) → i < length row → p (get_or row i d) ≡ b → us ≡ filter p (take i row)
    → vs ≡ us ++ cond b (get_or row i d ∷ []) [] → vs ≡ filter p (take (i + 1) row)
kept_more p row i d b us vs lt test so now =
    now ∙ ap (λ l. l ++ cond b (get_or row i d ∷ []) []) so ∙ ap (λ c. filter p (take i row) ++ cond c (get_or row i d ∷ []) []) (sym test) ∙ sym (filter_more p row i d lt)

-- the words of an object, of which some have become 0
word_of : (origin : ℕ) (row : List ℕ) (e : Extent) (i : ℕ) → i < e.length → get_or (words_at origin row e) i 0 ≡ get_or row (word_index origin e.base + i) 0
word_of origin row e i lt = get_or-take e.length (drop (word_index origin e.base) row) i 0 lt ∙ get_or-drop (word_index origin e.base) row i 0

pub words_along : (origin : ℕ) (row row' : List ℕ) (pages : ℕ) (e : Extent) → IsInHeap origin pages e → length row ≡ PAGE_WORDS * pages → length row' ≡ length row → (gone clears : ℕ → Bool)
    → ((i : ℕ) → i < e.length → clears (word_index origin e.base + i) ≡ gone (e.base + WORD_BYTES * i)) → ((k : ℕ) → get_or row' k 0 ≡ cond (clears k) 0 (get_or row k 0))
    → cleared gone e.base (words_at origin row e) ≡ words_at origin row' e
words_along origin row row' pages e inside long size gone clears same changed =
    let here : length (words_at origin row e) ≡ e.length = length_words origin row pages e long inside in
    let there : length (words_at origin row' e) ≡ e.length = length_words origin row' pages e (size ∙ long) inside in
    let kept = length-cleared gone e.base (words_at origin row e) in
    ext_get_or 0 _ _ (kept ∙ here ∙ sym there) (λ i lt.
    let within : i < e.length = omega arith in
    cleared_at gone e.base (words_at origin row e) i
    ∙ ap (λ b. cond b 0 (get_or (words_at origin row e) i 0)) (sym (same i within))
    ∙ ap (λ w. cond (clears (word_index origin e.base + i)) 0 w) (word_of origin row e i within)
    ∙ sym (changed (word_index origin e.base + i))
    ∙ sym (word_of origin row' e i within))
