-- Entries are dropped.
use Rattle.std.proofs.Common.{◌≡◌, ℕ, ◌+◌, ◌-◌, ◌<◌, ◌≤◌, Bool, true, false, List, [], ◌∷◌, ◌++◌, length, get_or, sum_by, Contains, Option, Some, None, refl, sym, ap, ◌∙◌, subst, inl, inr, ⊎_elim, append_assoc, append-nil, length-append, arith}
use Rattle.std.specs.Prelude.{◌⊎◌, option_to_list}
use Rattle.std.proofs.lemmas.Option.{same_Some}
use Rattle.std.proofs.lemmas.List.Sums.{sum_by-append}
use Rattle.std.proofs.lemmas.List.Elements.{Contains-append_cases, Contains-append_left, Contains-push}
use Rattle.std.proofs.lemmas.List.{same_from_push, length_push, get_or_push}
use Rattle.std.proofs.lemmas.List.{get_or-append-add}
use Rattle.words.specs.Bits.{Has}
use Rattle.words.specs.Layout.{granule}
use Rattle.block_map.specs.declared.found.Found.{Found}
use Rattle.marker.specs.declared.entry.Entry.{Entry}
use Rattle.marker.specs.Marking.{Marking, IsEmpty, IsEntry, entries}
use Rattle.marker.specs.Work.{left, left_of, page_words, unmarked_from, cost}
use Rattle.marker.specs.Entries.{IsSpent, IsLive, ReadsOn, read_on, Settles}
use Rattle.marker.proofs.Dropping.{Keeps}

-- Entries on top that have no word to read are dropped, so far.
pub record Drops (found : ℕ → Option Found) (old new : Marking) : Type 0 where
  pub marks : new.marks ≡ old.marks
  pub dirty : new.dirty ≡ old.dirty
  pub carried : new.carried ≡ old.carried
  pub dropped : List Entry
  pub entries_are : entries old ≡ entries new ++ dropped
  pub spent : (e : Entry) → Contains dropped e → IsSpent found old e

none_in : (e : Entry) → Contains [] e → ⊥
none_in e h = let l = h.1 in omega arith

in_option : (o : Option Entry) (e : Entry) → Contains (option_to_list o) e → o ≡ Some e
in_option None e h = absurd (none_in e h)
in_option (Some x) e (k, lt, is) =
    let z : k ≡ 0 = omega arith in
    let y : x ≡ e = sym (ap (λ j. get_or (x ∷ []) j e) z) ∙ is in
    ap Some y

pub entry_in : (m : Marking) (e : Entry) → IsEntry m e → Contains (entries m) e
entry_in m e one =
    ⊎_elim (λ (c : m.current ≡ Some e). subst (λ o. Contains (m.stack ++ option_to_list o) e) (sym c) (Contains-push m.stack e))
    (λ c. Contains-append_left m.stack (option_to_list m.current) e c) one

pub in_entry : (m : Marking) (e : Entry) → Contains (entries m) e → IsEntry m e
in_entry m e h = ⊎_elim (λ c. inr c) (λ c. inl (in_option m.current e c)) (Contains-append_cases m.stack (option_to_list m.current) e h)

-- the last one of a list stands in each end of it that isn't empty
top_in : (s t d : List Entry) (e : Entry) → s ++ e ∷ [] ≡ t ++ d → 0 < length d → Contains d e
top_in s t d e h some =
    let l : length (s ++ e ∷ []) ≡ length (t ++ d) = ap length h in
    let m = length_push s e in let n = length-append t d in
    let at : length t + (length d - 1) ≡ length s = omega arith in
    (length d - 1, omega arith, sym (get_or-append-add t d (length d - 1) e) ∙ ap (λ j. get_or (t ++ d) j e) at ∙ ap (λ y. get_or y (length s) e) (sym h) ∙ get_or_push s e e (length s) refl)

left_list : (found : ℕ → Option Found) (o : Option Entry) → sum_by (left found) (option_to_list o) ≡ left_of found o
left_list found None = refl
left_list found (Some e) = let h : 0 + left found e ≡ left found e = omega arith in h

-- what all entries have left
entries_left : (found : ℕ → Option Found) (m : Marking) → sum_by (left found) (entries m) ≡ left_of found m.current + sum_by (left found) m.stack
entries_left found m =
    let a = sum_by-append (left found) m.stack (option_to_list m.current) in
    let b = left_list found m.current in omega arith

-- an entry that was read to the end of its object has no word left
pub read_out : (found : ℕ → Option Found) (words : List ℕ) (n : ℕ) (old on : Marking) (f : Found) (r : ReadsOn found words n old on) (l : IsLive found old f) → l.entry.next + n ≡ f.len
    → (e : Entry) → on.current ≡ Some e → IsSpent found on e
read_out found words n old on f r l all e is g there base normal marked =
    let same : r.live.entry ≡ l.entry = same_Some r.live.entry l.entry (sym r.live.current ∙ l.current) in
    let now : e ≡ read_on r.object r.live.entry n = same_Some e (read_on r.object r.live.entry n) (sym is ∙ ap (λ (m : Marking). m.current) r.new_is) in
    let next : e.next ≡ r.live.entry.next + n = ap (λ (x : Entry). x.next) now in
    let at : e.base ≡ r.live.entry.base = ap (λ (x : Entry). x.base) now in
    let first = ap (λ (x : Entry). x.next) same in
    let first_base = ap (λ (x : Entry). x.base) same in
    let object_base : f.base ≡ g.base = l.unread.base ∙ sym first_base ∙ sym at ∙ sym base in
    let s : f ≡ g = same_Some f g (sym l.unread.object ∙ ap found object_base ∙ there) in
    let len = ap (λ (x : Found). x.len) s in
    omega arith

module _ (found : ℕ → Option Found) where
  pub drops_refl : (m : Marking) → Drops found m m
  drops_refl m = record { marks = refl; dirty = refl; carried = refl; dropped = []; entries_are = sym (append-nil (entries m)); spent = λ e h. absurd (none_in e h) }

  -- the next entry is taken
  pub drops_more : (a b c : Marking) → Drops found a b → c.marks ≡ b.marks → c.dirty ≡ b.dirty → c.carried ≡ b.carried → b.stack ≡ entries c → ((e : Entry) → b.current ≡ Some e → IsSpent found b e) → Drops found a c
  drops_more a b c x m d r s spent = record {
    carried = r ∙ x.carried;
    marks = m ∙ x.marks;
    dirty = d ∙ x.dirty;
    dropped = option_to_list b.current ++ x.dropped;
    entries_are = x.entries_are ∙ ap (λ l. (l ++ option_to_list b.current) ++ x.dropped) s ∙ append_assoc (entries c) (option_to_list b.current) x.dropped;
    spent = λ e h. ⊎_elim
        (λ k f is base n o. spent e (in_option b.current e k) f is base n (subst (λ r. Has r (granule f.base)) (sym x.marks) o))
        (λ k. x.spent e k) (Contains-append_cases (option_to_list b.current) x.dropped e h);
  }

  pub drops_settles : (a b : Marking) → Drops found a b → (b.current ≡ None → b.stack ≡ []) → Settles found a b
  drops_settles a b x n = record { marks = x.marks; dirty = x.dirty; carried = x.carried; dropped = x.dropped; entries_are = x.entries_are; spent = x.spent; next = n }

  -- an entry is being read, and nothing is dropped
  pub settles_none : (m : Marking) (e : Entry) → m.current ≡ Some e → Settles found m m
  settles_none m e is = drops_settles m m (drops_refl m) (λ n. let z : None ≡ Some e = sym n ∙ is in absurd (cc z))

  -- the entry that is being read has no word left, and the next one is taken
  pub settles_next : (m new : Marking) (taken : Bool) → new.marks ≡ m.marks → new.dirty ≡ m.dirty → new.carried ≡ m.carried → m.stack ≡ entries new → ((e : Entry) → m.current ≡ Some e → IsSpent found m e)
      → (taken ≡ true → length new.stack + 1 ≡ length m.stack) → (taken ≡ false → IsEmpty new) → Settles found m new
  settles_next m new taken k d r s spent fewer none = drops_settles m new (drops_more m m new (drops_refl m) k d r s spent) (empty taken fewer none)
    where
      empty : (t : Bool) → (t ≡ true → length new.stack + 1 ≡ length m.stack) → (t ≡ false → IsEmpty new) → new.current ≡ None → new.stack ≡ []
      empty false f n c = (n refl).stack
      empty true f n c =
          let l = f refl in
          let same : length m.stack ≡ length new.stack = ap length s ∙ ap (λ o. length (new.stack ++ option_to_list o)) c ∙ ap length (append-nil new.stack) in
          absurd (omega arith)

  module _ (a b : Marking) (x : Settles found a b) where
    settled_entry : (e : Entry) → IsEntry a e → IsEntry b e ⊎ IsSpent found a e
    settled_entry e one =
        ⊎_elim (λ h. inl (in_entry b e h)) (λ h. inr (x.spent e h))
        (Contains-append_cases (entries b) x.dropped e (subst (λ l. Contains l e) x.entries_are (entry_in a e one)))

    pub settled_cost : cost found b ≤ cost found a
    unfolding cost
    settled_cost =
        let s : sum_by (left found) (entries a) ≡ sum_by (left found) (entries b) + sum_by (left found) x.dropped = ap (sum_by (left found)) x.entries_are ∙ sum_by-append (left found) (entries b) x.dropped in
        let p = entries_left found a in let q = entries_left found b in
        let d : sum_by page_words b.dirty ≡ sum_by page_words a.dirty = ap (sum_by page_words) x.dirty in
        let u : unmarked_from found 0 b.marks ≡ unmarked_from found 0 a.marks = ap (unmarked_from found 0) x.marks in
        omega arith

    -- the entry that is being read is dropped only if it is spent
    by_next : (o : Option Entry) (s : List Entry) (e : Entry) → a.stack ++ e ∷ [] ≡ s ++ option_to_list o → (o ≡ None → s ≡ []) → (o ≡ Some e) × (a.stack ≡ s)
    by_next None s e h n =
        let z : a.stack ++ e ∷ [] ≡ [] = h ∙ append-nil s ∙ n refl in
        let l : length (a.stack ++ e ∷ []) ≡ 0 = ap length z in
        let k = length_push a.stack e in absurd (omega arith)
    by_next (Some y) s e h n = let p = same_from_push a.stack s e y h in (ap Some (sym p.1), p.0)

    by_dropped : (d : List Entry) (e : Entry) → a.stack ++ e ∷ [] ≡ entries b ++ d → (Contains d e) ⊎ ((b.current ≡ Some e) × (a.stack ≡ b.stack))
    by_dropped [] e h = inr (by_next b.current b.stack e (h ∙ append-nil (entries b)) x.next)
    by_dropped (y ∷ d) e h = inl (top_in a.stack (entries b) (y ∷ d) e h (omega arith))

    settled_current : (e : Entry) → a.current ≡ Some e → IsSpent found a e ⊎ ((b.current ≡ Some e) × (a.stack ≡ b.stack))
    settled_current e c = ⊎_elim (λ h. inl (x.spent e h)) (λ s. inr s) (by_dropped x.dropped e (sym (ap (λ o. a.stack ++ option_to_list o) c) ∙ x.entries_are))

    pub settled_keeps : Keeps found a b
    settled_keeps = record { marks = x.marks; dirty = x.dirty; carried = x.carried; kept = settled_entry; current = settled_current; cost = settled_cost }
