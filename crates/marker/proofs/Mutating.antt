-- What mutators do while the heap is marked keeps the invariant.
use Rattle.std.proofs.Common.{◌≡◌, ◌≢◌, ℕ, ◌+◌, ◌*◌, ◌<◌, ◌≤◌, List, length, Bool, true, false, get_or, set, Contains, Option, Some, None, refl, sym, ap, ◌∙◌, subst, inl, inr, ⊎_elim, arith, length-set, get_or-set_same, get_or-set_other}
use Rattle.std.specs.Prelude.{◌⊎◌}
use Rattle.std.proofs.lemmas.Option.{same_Some}
use Rattle.std.proofs.lemmas.Bool.{false≢true, cases_eq, cases_lt}
use Rattle.std.proofs.lemmas.List.{get_or_past}
use Rattle.block_map.specs.declared.found.Found.{Found}
use Rattle.block_map.specs.Objects.{IsInside, IsMap}
use Rattle.words.specs.declared.limits.TheConstants.{FIRST_ADDRESS, PAGE_BYTES, WORD_BYTES}
use Rattle.words.specs.Bits.{Has}
use Rattle.words.specs.Layout.{page_of, granule}
use Rattle.pages.specs.Memory.{word_index, word_at, with_word_at}
use Rattle.marker.specs.Marking.{Marking, IsBlank, IsMarked, IsDirtyAt, IsLeftToEntry, IsOutside, word_address}
use Rattle.marker.specs.Invariant.{DirtyPageInvariant, CarriedPageInvariant, IsSettled, IsTargetMarked, IsAwaited}
use Rattle.marker.specs.Mutations.{BeginsPartial, DirtiesPage, IsAllocated, IsFreed, HasNoNew, KeepsWords, HasZeroWords}
use Rattle.block_map.specs.Changes.{IsAdded, IsRemoved, IsSameMap}
use Rattle.marker.proofs.Closures.{at_base, same_object}
use Rattle.marker.proofs.Spreads.{has_set, has_set_back}

-- the entries are the same
pending_same : (a b : Marking) → b.current ≡ a.current → b.stack ≡ a.stack → (base i : ℕ) → IsLeftToEntry a base i → IsLeftToEntry b base i
pending_same a b c s base i p = record {
  entry = p.entry;
  one = ⊎_elim (λ (h : a.current ≡ Some p.entry). inl (c ∙ h)) (λ h. inr (subst (λ y. Contains y p.entry) (sym s) h)) p.one;
  same = p.same;
  left = p.left;
}

-- where a place was cleared and there is a member, there was one, at another place
was_set : (row : List Bool) (k p : ℕ) → Has (set row k false) p → Has row p × (p ≢ k)
was_set row k p h =
    ⊎_elim
    (λ (e : p ≡ k). ⊎_elim
    (λ (lt : k < length row). absurd (false≢true (sym (get_or-set_same row k false false lt) ∙ ap (λ j. get_or (set row k false) j false) (sym e) ∙ h)))
    (λ (ge : length row ≤ k). absurd (false≢true (sym (get_or_past (set row k false) p false (let l = length-set row k false in omega (arith, l))) ∙ h)))
    (cases_lt k (length row)))
    (λ ne. (sym (get_or-set_other row k p false false ne) ∙ h, ne))
    (cases_eq p k)

-- a word is stored
pub store_traced : (found : ℕ → Option Found) (words : List ℕ) (address w : ℕ) (old new : Marking) → DirtiesPage address old new → page_of address < length old.dirty
    → DirtyPageInvariant found words old → DirtyPageInvariant found (with_word_at words address w) new
store_traced found words address w old new x inside t f e n k i lt =
    ⊎_elim
    (λ (z : page_of (word_address f i) ≡ page_of address).
    inr (inl (ap (λ q. get_or new.dirty q false) z ∙ ap (λ y. get_or y (page_of address) false) x.dirty ∙ get_or-set_same old.dirty (page_of address) true false inside)))
    (λ ne.
    let apart : word_index (word_address f i) ≢ word_index address = λ m. ne (omega arith) in
    ⊎_elim
    (λ g. inl (λ o y. subst (λ q. Has q (granule o.base)) (sym x.marks) (g o (ap found (sym (get_or-set_other words (word_index address) (word_index (word_address f i)) w 0 apart)) ∙ y))))
    (λ a. inr (⊎_elim (λ d. inl (subst (λ q. Has q (page_of (word_address f i))) (sym x.dirty) (has_set old.dirty (page_of address) (page_of (word_address f i)) inside d)))
    (λ p. inr (pending_same old new x.current x.stack f.base i p)) a))
    (t f e n (subst (λ q. Has q (granule f.base)) x.marks k) i lt))
    (cases_eq (page_of (word_address f i)) (page_of address))

-- the address is one of the object's, or it isn't
reads_cases : (w : ℕ) (f : Found) → IsInside w f ⊎ (IsInside w f → ⊥)
reads_cases w f =
    ⊎_elim (λ (lt : w < f.base). inr (λ (r : IsInside w f). let a = r.from in absurd (omega arith)))
    (λ ge. ⊎_elim (λ (lt : w < f.base + WORD_BYTES * f.len). inl (record { from = omega arith; below = lt })) (λ le. inr (λ (r : IsInside w f). let b = r.below in absurd (omega arith))) (cases_lt w (f.base + WORD_BYTES * f.len)))
    (cases_lt w f.base)

-- where an object has left, none has come
pub removed_less : (found after : ℕ → Option Found) (f : Found) → IsRemoved found after f → HasNoNew found after
removed_less found after f r = record {
  before = λ w g e. ⊎_elim
      (λ (in_it : IsInside w f). let x : None ≡ Some g = sym (r.before w in_it) ∙ e in absurd (cc x))
      (λ (not : IsInside w f → ⊥). r.others w not ∙ e)
      (reads_cases w f);
}

-- where each word reads what it read before, none has come
pub same_less : (found after : ℕ → Option Found) → IsSameMap found after → HasNoNew found after
same_less found after s = record { before = λ w g e. sym (s.same w) ∙ e }

-- objects leave
pub free_traced : (found after : ℕ → Option Found) (words words' : List ℕ) (m : Marking) → HasNoNew found after → KeepsWords after words words' → DirtyPageInvariant found words m → DirtyPageInvariant after words' m
free_traced found after words words' m r same t f e n k i lt =
    ⊎_elim (λ g. inl (λ o z. g o (r.before _ o (ap after (sym (same f i e lt)) ∙ z)))) (λ a. inr a)
    (t f (r.before f.base f e) n k i lt)

-- the mark of an object that has left is taken away
pub freed_traced : (pages : ℕ) (found after : ℕ → Option Found) (words words' : List ℕ) (f : Found) (old new : Marking) → IsMap pages found → found f.base ≡ Some f → IsRemoved found after f
    → KeepsWords after words words' → IsFreed f.base old new → DirtyPageInvariant found words old → DirtyPageInvariant after words' new
freed_traced pages found after words words' f old new map object removed same x t g e n k i lt =
    let r = removed_less found after f removed in
    ⊎_elim
    (λ h. inl (λ o y.
    let there = r.before _ o y in
    let apart : granule o.base ≢ granule f.base = λ z.
    let s = same_object pages found map o f (at_base pages found map _ o there) object z in
    let in_it = map.reads _ f (there ∙ ap Some s) in
    let gone : None ≡ Some o = sym (removed.before _ in_it) ∙ y in absurd (cc gone) in
    subst (λ q. Has q (granule o.base)) (sym x.marks) (get_or-set_other old.marks (granule f.base) (granule o.base) false false apart ∙ h o (ap found (sym (same g i e lt)) ∙ there))))
    (λ a. inr (⊎_elim (λ d. inl (subst (λ q. Has q (page_of (word_address g i))) (sym x.dirty) d)) (λ p. inr (pending_same old new x.current x.stack g.base i p)) a))
    (t g (r.before g.base g e) n (was_set old.marks (granule f.base) (granule g.base) (subst (λ q. Has q (granule g.base)) x.marks k)).0 i lt)

-- the object that leaves is one that has the base
pub freed_keeps : (pages : ℕ) (found after : ℕ → Option Found) (words words' : List ℕ) (f : Found) (base : ℕ) (old new : Marking) → IsFreed base old new → f.base ≡ base
    → IsMap pages found → found f.base ≡ Some f → IsRemoved found after f → KeepsWords after words words' → DirtyPageInvariant found words old → DirtyPageInvariant after words' new
freed_keeps pages found after words words' f base old new x b map object removed same t =
    freed_traced pages found after words words' f old new map object removed same (subst (λ (a : ℕ). IsFreed a old new) (sym b) x) t

-- where an object has come, the others are there
pub added_still : (found after : ℕ → Option Found) (f : Found) → IsAdded found after f → (w : ℕ) (o : Found) → found w ≡ Some o → after w ≡ Some o
added_still found after f added w o e = added.others w (λ r. let z : None ≡ Some o = sym (added.before w r) ∙ e in absurd (cc z)) ∙ e

-- an object comes, with words 0
pub alloc_traced : (pages : ℕ) (found after : ℕ → Option Found) (words words' : List ℕ) (f : Found) (old new : Marking) → IsMap pages after → after f.base ≡ Some f → IsAdded found after f
    → KeepsWords found words words' → HasZeroWords words' f → IsAllocated f.base old new → granule f.base < length old.marks
    → DirtyPageInvariant found words old → DirtyPageInvariant after words' new
alloc_traced pages found after words words' f old new map object added same zero x inside t g e n k i lt =
    ⊎_elim
    (λ (r : IsInside g.base f).
    let s : g ≡ f = same_Some g f (sym e ∙ added.after g.base r) in
    inl (λ o y. absurd (
    let z : word_at words' (word_address g i) ≡ 0 = ap (λ h. word_at words' (word_address h i)) s ∙ zero i (subst (λ (h : Found). i < h.len) s lt) in
    let y0 : after 0 ≡ Some o = ap after (sym z) ∙ y in
    let p = (map.placed 0 o y0).above in let q = (map.reads 0 o y0).from in omega arith)))
    (λ not.
    let was : found g.base ≡ Some g = sym (added.others g.base not) ∙ e in
    let some = (map.placed f.base f object).some in
    let marked : IsMarked old g.base =
    ⊎_elim (λ h. h)
    (λ (z : granule g.base ≡ granule f.base). absurd (not (subst (λ (h : Found). IsInside h.base f) (sym (same_object pages after map g f e object z)) (record { from = omega arith; below = omega arith }))))
    (has_set_back old.marks (granule f.base) (granule g.base) (subst (λ q. Has q (granule g.base)) x.marks k)) in
    let more = λ (o : Found) (h : IsMarked old o.base). let y : IsMarked new o.base = subst (λ q. Has q (granule o.base)) (sym x.marks) (has_set old.marks (granule f.base) (granule o.base) inside h) in y in
    let here : IsMarked new f.base = subst (λ q. Has q (granule f.base)) (sym x.marks) (get_or-set_same old.marks (granule f.base) true false inside) in
    ⊎_elim
    (λ h. inl (λ o y. ⊎_elim
    (λ (r : IsInside (word_at words' (word_address g i)) f). subst (λ (q : Found). IsMarked new q.base) (same_Some f o (sym (added.after _ r) ∙ y)) here)
    (λ no. more o (h o (ap found (sym (same g i was lt)) ∙ sym (added.others _ no) ∙ y)))
    (reads_cases (word_at words' (word_address g i)) f)))
    (λ a. inr (⊎_elim (λ d. inl (subst (λ q. Has q (page_of (word_address g i))) (sym x.dirty) d)) (λ p. inr (pending_same old new x.current x.stack g.base i p)) a))
    (t g was n marked i lt))
    (reads_cases g.base f)

-- the object that comes is one that has the base
pub alloc_keeps : (pages : ℕ) (found after : ℕ → Option Found) (words words' : List ℕ) (f : Found) (base : ℕ) (old new : Marking) → granule base < length old.marks → IsAllocated base old new → f.base ≡ base
    → IsMap pages after → after f.base ≡ Some f → IsAdded found after f → KeepsWords found words words' → HasZeroWords words' f → DirtyPageInvariant found words old → DirtyPageInvariant after words' new
alloc_keeps pages found after words words' f base old new inside x b map object added same zero t =
    alloc_traced pages found after words words' f old new map object added same zero (subst (λ (a : ℕ). IsAllocated a old new) (sym b) x) (subst (λ (a : ℕ). granule a < length old.marks) (sym b) inside) t

-- nothing is marked
pub fresh_traced : (pages : ℕ) (found : ℕ → Option Found) (words : List ℕ) (m : Marking) → IsBlank pages m → DirtyPageInvariant found words m
fresh_traced pages found words m fresh f e n k i lt = absurd (false≢true (sym (fresh.marks.clear (granule f.base)) ∙ k))

pub fresh_carried : (pages : ℕ) (found : ℕ → Option Found) (words : List ℕ) (m : Marking) → IsBlank pages m → CarriedPageInvariant found words m
fresh_carried pages found words m fresh f e n k i lt = absurd (false≢true (sym (fresh.marks.clear (granule f.base)) ∙ k))

-- what is settled stays settled
pub settled_same : (found after : ℕ → Option Found) (old new : Marking) (p w : ℕ) → ((g : Found) → found w ≡ Some g → IsMarked old g.base → (after w ≡ Some g) × IsMarked new g.base) → length new.dirty ≡ length old.dirty
    → ((q : ℕ) → Has old.carried q → Has new.carried q) → IsSettled found old p w → IsSettled after new p w
settled_same found after old new p w held size carried (IsSettled.held g e k) = let h = held g e k in IsSettled.held g h.0 h.1
settled_same found after old new p w held size carried (IsSettled.outside o) = IsSettled.outside (subst (λ (n : ℕ). IsOutside (PAGE_BYTES * n) w) (sym size) o)
settled_same found after old new p w held size carried (IsSettled.carried h) = IsSettled.carried (carried _ h)

-- a word is stored
pub store_carried : (found : ℕ → Option Found) (words : List ℕ) (address w : ℕ) (old new : Marking) → DirtiesPage address old new → page_of address < length old.dirty
    → CarriedPageInvariant found words old → CarriedPageInvariant found (with_word_at words address w) new
store_carried found words address w old new x inside t f e n k i lt =
    ⊎_elim
    (λ (z : page_of (word_address f i) ≡ page_of address).
    inr (inl (ap (λ q. get_or new.dirty q false) z ∙ ap (λ y. get_or y (page_of address) false) x.dirty ∙ get_or-set_same old.dirty (page_of address) true false inside)))
    (λ ne.
    let apart : word_index (word_address f i) ≢ word_index address = λ m. ne (omega arith) in
    let same : word_at (with_word_at words address w) (word_address f i) ≡ word_at words (word_address f i) = get_or-set_other words (word_index address) (word_index (word_address f i)) w 0 apart in
    ⊎_elim
    (λ g. inl (subst (IsSettled found new (word_address f i)) (sym same)
    (settled_same found found old new _ _ (λ o y k. (y, subst (λ q. Has q (granule o.base)) (sym x.marks) k)) (ap length x.dirty ∙ length-set old.dirty (page_of address) true) (λ q h. subst (λ r. Has r q) (sym x.carried) h) g)))
    (λ a. inr (⊎_elim (λ d. inl (subst (λ q. Has q (page_of (word_address f i))) (sym x.dirty) (has_set old.dirty (page_of address) (page_of (word_address f i)) inside d)))
    (λ p. inr (pending_same old new x.current x.stack f.base i p)) a))
    (t f e n (subst (λ q. Has q (granule f.base)) x.marks k) i lt))
    (cases_eq (page_of (word_address f i)) (page_of address))

-- unmarked objects leave, and none comes
pub left_carried : (found after : ℕ → Option Found) (words words' : List ℕ) (m : Marking) → HasNoNew found after → ((w : ℕ) (g : Found) → found w ≡ Some g → IsMarked m g.base → after w ≡ Some g) → KeepsWords after words words'
    → CarriedPageInvariant found words m → CarriedPageInvariant after words' m
left_carried found after words words' m r stay same t f e n k i lt =
    ⊎_elim
    (λ g. inl (subst (IsSettled after m (word_address f i)) (sym (same f i e lt)) (settled_same found after m m _ _ (λ o y z. (stay _ o y z, z)) refl (λ q h. h) g)))
    (λ a. inr a)
    (t f (r.before f.base f e) n k i lt)

-- an object comes and isn't marked
pub came_carried : (found after : ℕ → Option Found) (words words' : List ℕ) (f : Found) (m : Marking) → IsAdded found after f → (IsMarked m f.base → ⊥) → after f.base ≡ Some f → KeepsWords found words words'
    → CarriedPageInvariant found words m → CarriedPageInvariant after words' m
came_carried found after words words' f m added unmarked object same t g e n k i lt =
    ⊎_elim
    (λ (r : IsInside g.base f).
    let s : g ≡ f = same_Some g f (sym e ∙ added.after g.base r) in
    absurd (unmarked (subst (λ (h : Found). IsMarked m h.base) s k)))
    (λ not.
    let was : found g.base ≡ Some g = sym (added.others g.base not) ∙ e in
    ⊎_elim
    (λ h. inl (subst (IsSettled after m (word_address g i)) (sym (same g i was lt)) (settled_same found after m m _ _ (λ o y z. (added_still found after f added _ o y, z)) refl (λ q h. h) h)))
    (λ a. inr a)
    (t g was n k i lt))
    (reads_cases g.base f)

-- an object comes and is marked, with words 0
pub alloc_carried : (pages : ℕ) (found after : ℕ → Option Found) (words words' : List ℕ) (f : Found) (base : ℕ) (old new : Marking) → granule base < length old.marks → IsAllocated base old new → f.base ≡ base
    → IsMap pages after → after f.base ≡ Some f → IsAdded found after f → KeepsWords found words words' → HasZeroWords words' f → CarriedPageInvariant found words old → CarriedPageInvariant after words' new
alloc_carried pages found after words words' f base old new inside x b map object added same zero t g e n k i lt =
    ⊎_elim
    (λ (r : IsInside g.base f).
    let s : g ≡ f = same_Some g f (sym e ∙ added.after g.base r) in
    let z : word_at words' (word_address g i) ≡ 0 = ap (λ h. word_at words' (word_address h i)) s ∙ zero i (subst (λ (h : Found). i < h.len) s lt) in
    inl (subst (IsSettled after new (word_address g i)) (sym z) (IsSettled.outside (inl (let l : 0 < FIRST_ADDRESS = omega arith in l)))))
    (λ not.
    let was : found g.base ≡ Some g = sym (added.others g.base not) ∙ e in
    let some = (map.placed f.base f object).some in
    let marked : IsMarked old g.base =
    ⊎_elim (λ h. h)
    (λ (z : granule g.base ≡ granule base). absurd (not (subst (λ (h : Found). IsInside h.base f) (sym (same_object pages after map g f e object (z ∙ ap granule (sym b)))) (record { from = omega arith; below = omega arith }))))
    (has_set_back old.marks (granule base) (granule g.base) (subst (λ q. Has q (granule g.base)) x.marks k)) in
    let more = λ (o : Found) (h : IsMarked old o.base). let y : IsMarked new o.base = subst (λ q. Has q (granule o.base)) (sym x.marks) (has_set old.marks (granule base) (granule o.base) inside h) in y in
    ⊎_elim
    (λ h. inl (subst (IsSettled after new (word_address g i)) (sym (same g i was lt)) (settled_same found after old new _ _ (λ o y z. (added_still found after f added _ o y, more o z)) (ap length x.dirty) (λ q h. subst (λ r. Has r q) (sym x.carried) h) h)))
    (λ a. inr (⊎_elim (λ d. inl (subst (λ q. Has q (page_of (word_address g i))) (sym x.dirty) d)) (λ p. inr (pending_same old new x.current x.stack g.base i p)) a))
    (t g was n marked i lt))
    (reads_cases g.base f)

-- the carried pages become dirty: what is settled by its page is awaited now
pub partial_traced : (pages : ℕ) (found : ℕ → Option Found) (words : List ℕ) (old new : Marking) → IsMap pages found → pages ≡ length old.dirty → BeginsPartial old new → CarriedPageInvariant found words old → DirtyPageInvariant found words new
partial_traced pages found words old new map size x t f e n k i lt =
    ⊎_elim
    (λ s. by_settled s)
    (λ a. inr (awaited a))
    (t f e n (subst (λ q. Has q (granule f.base)) x.marks k) i lt)
  where
    awaited : IsDirtyAt old (word_address f i) ⊎ IsLeftToEntry old f.base i → IsAwaited new f i
    awaited a = ⊎_elim (λ d. inl (x.dirty _ d)) (λ p. inr (pending_same old new x.current x.stack f.base i p)) a

    by_settled : IsSettled found old (word_address f i) (word_at words (word_address f i)) → IsTargetMarked found new (word_at words (word_address f i)) ⊎ IsAwaited new f i
    by_settled (IsSettled.held g there marked) = inl (λ o y. subst (λ q. Has q (granule o.base)) (sym x.marks) (subst (λ (z : Found). IsMarked old z.base) (same_Some g o (sym there ∙ y)) marked))
    by_settled (IsSettled.outside out) = inl (λ o y. absurd (
        let r = map.reads _ o y in let p = map.placed _ o y in
        let a = r.from in let b = r.below in let c = p.above in let d = p.below in
        ⊎_elim (λ low. omega arith) (λ high. omega arith) out))
    by_settled (IsSettled.carried h) = inr (inl (x.carried _ h))

-- and the invariant of carried pages stays
pub partial_carried : (found : ℕ → Option Found) (words : List ℕ) (old new : Marking) → BeginsPartial old new → CarriedPageInvariant found words old → CarriedPageInvariant found words new
partial_carried found words old new x t f e n k i lt =
    ⊎_elim
    (λ s. by_settled s)
    (λ a. inr (⊎_elim (λ d. inl (x.dirty _ d)) (λ p. inr (pending_same old new x.current x.stack f.base i p)) a))
    (t f e n (subst (λ q. Has q (granule f.base)) x.marks k) i lt)
  where
    by_settled : IsSettled found old (word_address f i) (word_at words (word_address f i)) → IsSettled found new (word_address f i) (word_at words (word_address f i)) ⊎ IsAwaited new f i
    by_settled (IsSettled.held g there marked) = inl (IsSettled.held g there (subst (λ q. Has q (granule g.base)) (sym x.marks) marked))
    by_settled (IsSettled.outside out) = inl (IsSettled.outside (subst (λ (n : ℕ). IsOutside (PAGE_BYTES * n) (word_at words (word_address f i))) (sym x.dirty_len) out))
    by_settled (IsSettled.carried h) = inr (inl (x.carried _ h))

pub ruleset mutating = (store_traced, store_carried, fresh_traced, fresh_carried, partial_traced, partial_carried)
