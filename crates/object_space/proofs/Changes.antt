-- What changes of a map and of the memory are to the heap: a word is stored, an object goes, an object comes.
use Rattle.std.proofs.Common.{◌≡◌, ℕ, ◌+◌, ◌-◌, ◌/◌, ◌%◌, ◌<◌, ◌≤◌, List, [], ◌∷◌, length, get_or, set, replicate, Option, Some, None, refl, sym, ap, ◌∙◌, subst, arith, ⊎_elim, length-set, get_or-set_same, get_or-set_other}
use Rattle.std.specs.Prelude.{◌≢◌, slice_index}
use Rattle.std.proofs.lemmas.Bool.{cases_eq}
use Rattle.std.proofs.lemmas.List.{get_or-replicate, length-replicate}
use Rattle.std.proofs.lemmas.Option.{same_Some}
use Rattle.words.specs.declared.limits.TheConstants.{FIRST_ADDRESS}
use Rattle.words.specs.declared.class.Kind.{Kind}
use Rattle.heap_spec.specs.Heap.{Object, with_at, without_at}
use Rattle.pages.specs.Memory.{word_index, with_word_at}
use Rattle.marker.specs.Mutations.{KeepsWords, HasZeroWords}
use Rattle.block_map.specs.Objects.{IsMap, IsInside}
use Rattle.block_map.specs.Changes.{IsAdded, IsRemoved}
use Rattle.block_map.specs.declared.found.Found.{Found}
use Rattle.heap_view.specs.Shows.{IsShown, Shows}
use Rattle.heap_spec.proofs.Objects.{without_one, without_one-other}
use Rattle.object_space.proofs.Tables.{with_at-same, with_at-other, with_at-cases}
use Rattle.heap_view.proofs.Shows.{at_base, one_at_base, index_of_word, reads_place}
use Rattle.object_space.proofs.Words.{shown_kept, word_is}

-- a word is stored
module _ (found : ℕ → Option Found) (pages : ℕ) (map : IsMap pages found) (words : List ℕ) (objects : ℕ → Option Object) (births : ℕ) (shows : Shows found words objects births)
    (w v : ℕ) (f : Found) (o : Object) (is : found w ≡ Some f) (has : objects f.base ≡ Some o) (shown : IsShown words f o) (aligned : w % 8 ≡ 0) (inside : word_index w < length words) where
  abbrev pub written : Object
  written = record o { words = set o.words ((w - f.base) / 8) v }

  low : FIRST_ADDRESS ≤ w
  low = let above = (map.placed w f is).above in let from = (map.reads w f is).from in omega arith

  written_shown : IsShown (set words (word_index w) v) f written
  written_shown = record {
    kind = shown.kind;
    size = length-set o.words ((w - f.base) / 8) v ∙ shown.size;
    word = λ i lt. ⊎_elim (same i) (other i lt) (cases_eq i ((w - f.base) / 8));
  }
    where
      at : ((w - f.base) / 8 < f.len) × (word_index f.base + (w - f.base) / 8 ≡ word_index w)
      at = index_of_word found pages map w f is aligned

      same : (i : ℕ) → i ≡ (w - f.base) / 8 → slice_index (set o.words ((w - f.base) / 8) v) i ≡ slice_index (set words (word_index w) v) (word_index f.base + i)
      same i e =
          let short : (w - f.base) / 8 < length o.words = let size = shown.size in let lt = at.0 in omega arith in
          ap (λ j. get_or (set o.words ((w - f.base) / 8) v) j 0) e
          ∙ get_or-set_same o.words ((w - f.base) / 8) v 0 short
          ∙ sym (get_or-set_same words (word_index w) v 0 inside)
          ∙ ap (λ j. get_or (set words (word_index w) v) j 0) (sym (ap (λ j. word_index f.base + j) e ∙ at.1))

      other : (i : ℕ) → i < f.len → i ≢ (w - f.base) / 8 → slice_index (set o.words ((w - f.base) / 8) v) i ≡ slice_index (set words (word_index w) v) (word_index f.base + i)
      other i lt ne =
          let apart : word_index f.base + i ≢ word_index w = λ e. let there = at.1 in ne (omega arith) in
          get_or-set_other o.words ((w - f.base) / 8) i v 0 ne ∙ shown.word i lt ∙ sym (get_or-set_other words (word_index w) (word_index f.base + i) v 0 apart)

  others_shown : (g : Found) (p : Object) → found g.base ≡ Some g → g.base ≢ f.base → IsShown words g p → IsShown (set words (word_index w) v) g p
  others_shown g p there ne old = record {
    kind = old.kind;
    size = old.size;
    word = λ i lt.
        let apart : word_index g.base + i ≢ word_index w = λ e. ne (ap (λ (x : Found). x.base) (one_found (reads_place found pages map w i g there lt low aligned e))) in
        old.word i lt ∙ sym (get_or-set_other words (word_index w) (word_index g.base + i) v 0 apart);
  }
    where
      one_found : found w ≡ Some g → g ≡ f
      one_found e = same_Some _ _ (sym e ∙ is)

  pub shows_stored : Shows found (with_word_at words w v) (with_at objects f.base (Some written)) births
  shows_stored = record {
    shown = record {
      kept = λ g there. ⊎_elim
          (λ same. subst (λ (x : Found). (p : Object) × (with_at objects f.base (Some written) x.base ≡ Some p) × IsShown (set words (word_index w) v) x p)
          (sym (one_at_base found pages map f g (at_base found pages map w f is) there same))
          (written, with_at-same objects f.base (Some written) f.base refl, written_shown))
          (λ ne. let old = shows.shown.kept g there in (old.0, with_at-other objects f.base (Some written) g.base ne ∙ old.1, others_shown g old.0 there ne old.2))
          (cases_eq g.base f.base);
      only = λ b p e. let was = was_there b p e in shows.shown.only b was.0 was.1;
    };
    born = λ b p e. let was = was_there b p e in subst (λ n. (1 ≤ n) × (n ≤ births)) was.2 (shows.born b was.0 was.1);
    distinct = λ a b p q x y same. let p' = was_there a p x in let q' = was_there b q y in shows.distinct a b p'.0 q'.0 p'.1 q'.1 (p'.2 ∙ same ∙ sym q'.2);
  }
    where
      was_there : (b : ℕ) (p : Object) → with_at objects f.base (Some written) b ≡ Some p → (q : Object) × (objects b ≡ Some q) × (q.birth ≡ p.birth)
      was_there b p e = ⊎_elim
          (λ h. (o, ap objects h.0 ∙ has, ap (λ (x : Object). x.birth) h.1))
          (λ h. (p, h.1, refl))
          (with_at-cases objects f.base written b p e)

-- an object goes
module _ (found after : ℕ → Option Found) (pages : ℕ) (map : IsMap pages found) (words : List ℕ) (objects : ℕ → Option Object) (births : ℕ) (shows : Shows found words objects births)
    (f : Found) (is : found f.base ≡ Some f) (gone : IsRemoved found after f) where
  base_read : IsInside f.base f
  base_read = map.reads f.base f is

  pub shows_removed : Shows after words (without_at objects (f.base ∷ [])) births
  shows_removed = record {
    shown = record {
      kept = λ g there. let ne = other g there in let old = shows.shown.kept g (was g there ne) in (old.0, without_one-other objects f.base g.base ne ∙ old.1, old.2);
      only = λ b p e.
          let h = without_one objects f.base b p e in
          let old = shows.shown.only b p h.1 in
          (old.0, sym (gone.others b (λ r. h.0 (sym old.2 ∙ ap (λ (x : Found). x.base) (one b old.0 old.1 r)))) ∙ old.1, old.2);
    };
    born = λ b p e. shows.born b p (without_one objects f.base b p e).1;
    distinct = λ a b p q x y same. shows.distinct a b p q (without_one objects f.base a p x).1 (without_one objects f.base b q y).1 same;
  }
    where
      one : (b : ℕ) (g : Found) → found b ≡ Some g → IsInside b f → g ≡ f
      one b g there r = same_Some _ _ (sym there ∙ gone.after b r)

      other : (g : Found) → after g.base ≡ Some g → g.base ≢ f.base
      other g there same = let none : after f.base ≡ None = gone.before f.base base_read in let some : after f.base ≡ Some g = ap after (sym same) ∙ there in cc

      was : (g : Found) → after g.base ≡ Some g → g.base ≢ f.base → found g.base ≡ Some g
      was g there ne = gone.others g.base (λ r. let none : after g.base ≡ None = gone.before g.base r in cc) ∙ there

-- an object comes, all its words 0
module _ (found after : ℕ → Option Found) (pages : ℕ) (map : IsMap pages found) (words zeroed : List ℕ) (objects : ℕ → Option Object) (births : ℕ) (shows : Shows found words objects births)
    (f : Found) (len : ℕ) (kind : Kind) (came : IsAdded found after f) (keeps : KeepsWords found words zeroed) (zero : HasZeroWords zeroed f) (same_len : f.len ≡ len) (same_kind : f.kind ≡ kind)
    (some : 0 < f.len) (low : FIRST_ADDRESS ≤ f.base) (even : f.base % 16 ≡ 0) where
  abbrev pub fresh : Object
  fresh = record { birth = births + 1; kind = kind; words = replicate len 0 }

  new_base_read : IsInside f.base f
  new_base_read = record { from = omega arith; below = omega arith }

  fresh_shown : IsShown zeroed f fresh
  fresh_shown = record {
    kind = sym same_kind;
    size = length-replicate len 0 ∙ sym same_len;
    word = λ i lt. get_or-replicate len i 0 0 (omega arith) ∙ sym (zero i lt) ∙ word_is zeroed f i low;
  }

  pub shows_added : Shows after zeroed (with_at objects f.base (Some fresh)) (births + 1)
  shows_added = record {
    shown = record {
      kept = λ g there. ⊎_elim
          (λ same. subst (λ (x : Found). (p : Object) × (with_at objects f.base (Some fresh) x.base ≡ Some p) × IsShown zeroed x p)
          (sym (new_one g there same))
          (fresh, with_at-same objects f.base (Some fresh) f.base refl, fresh_shown))
          (λ ne. let was = was_found g there ne in let old = shows.shown.kept g was in (old.0, with_at-other objects f.base (Some fresh) g.base ne ∙ old.1, shown_kept words zeroed g old.0 (map.placed g.base g was).above (λ i lt. keeps g i was lt) old.2))
          (cases_eq g.base f.base);
      only = λ b p e. ⊎_elim
          (λ h. (f, ap after h.0 ∙ came.after f.base new_base_read, sym h.0))
          (λ h. let old = shows.shown.only b p h.1 in (old.0, came.others b (λ r. let none : found b ≡ None = came.before b r in let some = old.1 in cc) ∙ old.1, old.2))
          (with_at-cases objects f.base fresh b p e);
    };
    born = λ b p e. ⊎_elim
        (λ h. subst (λ (x : Object). (1 ≤ x.birth) × (x.birth ≤ births + 1)) h.1 (omega arith, omega arith))
        (λ h. let born = shows.born b p h.1 in (born.0, omega (arith, born.1)))
        (with_at-cases objects f.base fresh b p e);
    distinct = λ a b p q x y same. ⊎_elim
        (λ h. ⊎_elim (λ k. h.0 ∙ sym k.0) (λ k. absurd (too_late b q k.1 (ap (λ (z : Object). z.birth) h.1 ∙ same))) (with_at-cases objects f.base fresh b q y))
        (λ h. ⊎_elim (λ k. absurd (too_late a p h.1 (ap (λ (z : Object). z.birth) k.1 ∙ sym same))) (λ k. shows.distinct a b p q h.1 k.1 same) (with_at-cases objects f.base fresh b q y))
        (with_at-cases objects f.base fresh a p x);
  }
    where
      new_one : (g : Found) → after g.base ≡ Some g → g.base ≡ f.base → g ≡ f
      new_one g there same = same_Some _ _ (sym there ∙ ap after same ∙ came.after f.base new_base_read)

      was_found : (g : Found) → after g.base ≡ Some g → g.base ≢ f.base → found g.base ≡ Some g
      was_found g there ne = sym (came.others g.base (λ r. ne (ap (λ (x : Found). x.base) (same_Some _ _ (sym there ∙ came.after g.base r))))) ∙ there

      too_late : (b : ℕ) (q : Object) → objects b ≡ Some q → births + 1 ≡ q.birth → ⊥
      too_late b q there late = let born = (shows.born b q there).1 in omega arith
