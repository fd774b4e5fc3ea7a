-- What words that are written past the calls of a core are to a run: sets and stores of a mutator.
use Rattle.std.proofs.Common.{◌≡◌, ℕ, ◌*◌, ◌%◌, ◌<◌, true, false, List, [], ◌∷◌, ◌++◌, length, get_or, set, Some, None, refl, sym, ap, ◌∙◌, subst, arith, length-set, get_or-set_same, get_or-set_other}
use Rattle.std.specs.Prelude.{Bool, All}
use Rattle.std.proofs.lemmas.List.{length-replicate, set-set, set-get_or}
use Rattle.std.proofs.lemmas.List.Elements.{All-push}
use Rattle.std.proofs.lemmas.Option.{slice_get_within, slice_get-get_or, get_or_from_slice_get}
use Rattle.words.specs.declared.limits.TheConstants.{PAGE_WORDS, REGISTERS}
use Rattle.words.specs.Layout.{page_of}
use Rattle.heap_spec.specs.declared.call.Call.TheVariants.{Detach, Set, Store as StoreCall}
use Rattle.heap_spec.specs.declared.event.Event.{Event}
use Rattle.heap_spec.specs.declared.event.Event.TheVariants.{Attach, Mutator}
use Rattle.heap_spec.specs.declared.reply.Reply.TheVariants.{Done, Slot}
use Rattle.heap_spec.specs.Heap.{Mutator as HeapMutator}
use Rattle.heap_spec.specs.Layout.{word_end}
use Rattle.heap_spec.specs.Ranges.{IsWord}
use Rattle.heap_spec.specs.Runs.{Start, Run, Told}
use Rattle.heap_spec.specs.Steps.{Acts, Attaches, Calls, newcomer, register, address}
use Rattle.pages.specs.Memory.{IsWordAddress, word_at, with_word_at}
use Rattle.block_map.specs.declared.found.Found.{Found}
use Rattle.block_map.specs.FoundIn.{IsLawful}
use Rattle.marker.specs.Marking.{with_dirty}
use Rattle.marker.specs.Mutations.{DirtiesPage}
use Rattle.marker.proofs.Mutating.{store_traced, store_carried}
use Rattle.marker.proofs.Spreads.{has_set, has_set_back}
use Rattle.links.specs.declared.row.Link.{Link}
use Rattle.roots.specs.Roots.{RootSet, HasMutator, IsNextSlot, SetsWord, with_word}
use Rattle.roots.proofs.Steps.{sets}
use Rattle.object_space.specs.Store.{Store}
use Rattle.heap_core.specs.Beside.{NotesWrite}
use Rattle.heap_core.specs.MutatorCalls.{IsCall}
use Rattle.heap_core.specs.CoreContents.{CoreContents, Cycle}
use Rattle.heap_core.specs.Following.{Follows, AreLines}
use Rattle.heap_core.specs.Standing.{objects_of}
use Rattle.heap_core.specs.DirectWrites.{with_memory, IsWriteLine, IsVisitLine, WritesAreLines, WritesAreVisits}
use Rattle.heap_core.proofs.Following.{call_line, no_lines, lines_more}
use Rattle.heap_core.proofs.Lookups.{stores}
use Rattle.heap_core.proofs.Roots.{core_of, steps_roots}
use Rattle.heap_core.proofs.DirectStores.{by_words}

-- the roots with this mutator at the slot
abbrev pub with_slot : RootSet → ℕ → HeapMutator → RootSet
with_slot roots slot m = record roots { mutators = set roots.mutators slot (Some m) }

pub slot_has : (roots : RootSet) (slot : ℕ) (m n : HeapMutator) → HasMutator roots slot m → HasMutator (with_slot roots slot n) slot n
slot_has roots slot m n at =
    let lt = slice_get_within roots.mutators slot (Some m) at in
    slice_get-get_or (set roots.mutators slot (Some n)) slot (Some n) (rw (length-set roots.mutators slot (Some n)) lt) ∙ ap Some (get_or-set_same roots.mutators slot (Some n) (Some n) lt)

-- a mutator puts a word into a register of its own
pub set_call : (roots : RootSet) (t : Store) (y : Cycle) (ls : List Link) (slot r w : ℕ) (m : HeapMutator) → HasMutator roots slot m → IsCall (core_of roots t y ls) (Mutator slot (Set r w)) Done (core_of (with_slot roots slot (with_word m r w)) t y ls)
set_call roots t y ls slot r w m at =
    let is : SetsWord roots slot r w (with_slot roots slot (with_word m r w)) = (record { globals = refl; request_words = refl }, record { before = m; after = with_word m r w; at = at; change = refl; only = refl }) in
    steps_roots roots (with_slot roots slot (with_word m r w)) t y (Mutator slot (Set r w)) Done (λ h. h) (sets roots (with_slot roots slot (with_word m r w)) slot r w m (Set r w) Done at is (λ s. Acts.set))

-- the cycle once a page is dirty
abbrev noted : Cycle → ℕ → Cycle
noted y p = record y { marker = with_dirty y.marker (set y.marker.dirty p true) }

notes : (y : Cycle) (a : ℕ) → page_of a < length y.marker.dirty → NotesWrite a y.marker (noted y (page_of a)).marker
notes y a inside = record {
  marks = refl;
  dirty_len = length-set y.marker.dirty (page_of a) true;
  dirty = λ p h. has_set_back y.marker.dirty (page_of a) p h;
  written = get_or-set_same y.marker.dirty (page_of a) true false inside;
  stays_dirty = λ p h. has_set y.marker.dirty (page_of a) p inside h;
  carried = refl;
  current = refl;
  stack = refl;
  keeps = λ found words w old. store_traced found words a w y.marker (noted y (page_of a)).marker dirties inside old;
  carries = λ found words w old. store_carried found words a w y.marker (noted y (page_of a)).marker dirties inside old;
}
  where
    dirties : DirtiesPage a y.marker (noted y (page_of a)).marker
    dirties = record { marks = refl; dirty = refl; carried = refl; current = refl; stack = refl }

-- the dirty pages are nothing to a run
follows_dirty : (roots : RootSet) (t : Store) (y : Cycle) (ls : List Link) (dirty : List Bool) (start : Start) (run : Run) → Follows (core_of roots t (record y { marker = with_dirty y.marker dirty }) ls) start run → Follows (core_of roots t y ls) start run
follows_dirty roots t y ls dirty start run f = record {
  stands = record { mutators = f.stands.mutators; globals = f.stands.globals; request_words = f.stands.request_words; store = record { pages = f.stands.store.pages; shows = f.stands.store.shows }; links = f.stands.links };
  phase = f.phase;
  count = f.count;
  small = f.small;
  needs = f.needs;
  past = f.past;
  aged = f.aged;
  kept = f.kept;
  touched = f.touched;
}

other_dirty : (old : CoreContents) (words : List ℕ) (dirty : List Bool) (start : Start) (run : Run) → Follows (with_memory old words old.cycle.marker.dirty) start run → Follows (with_memory old words dirty) start run
other_dirty old words dirty start run f = record {
  stands = record { mutators = f.stands.mutators; globals = f.stands.globals; request_words = f.stands.request_words; store = record { pages = f.stands.store.pages; shows = f.stands.store.shows }; links = f.stands.links };
  phase = f.phase;
  count = f.count;
  small = f.small;
  needs = f.needs;
  past = f.past;
  aged = f.aged;
  kept = f.kept;
  touched = f.touched;
}

-- two registers are set and then set back
restored : (rs : List ℕ) (a v : ℕ) → set (set (set (set rs 0 a) 1 v) 1 (get_or rs 1 0)) 0 (get_or rs 0 0) ≡ rs
restored rs a v =
    ap (λ l. set l 0 (get_or rs 0 0)) (set-set (set rs 0 a) 1 v (get_or rs 1 0) ∙ ap (λ x. set (set rs 0 a) 1 x) (sym (get_or-set_other rs 0 1 a 0 (λ e. cc))) ∙ set-get_or (set rs 0 a) 1 0)
    ∙ set-set rs 0 a (get_or rs 0 0)
    ∙ set-get_or rs 0 0

abbrev told : Event → Told
told event = record { event = event; reply = Done }

-- One word of a kept object is written: a mutator puts its address and the word into registers, stores it, and puts back what
-- stood in them.
module _ (roots : RootSet) (t : Store) (y : Cycle) (ls : List Link) (slot a v : ℕ) (m : HeapMutator) (f : Found) (lawful : IsLawful t.states) (long : length t.words ≡ PAGE_WORDS * length t.states)
    (at : HasMutator roots slot m) (registers : length m.registers ≡ REGISTERS) (aligned : a % 8 ≡ 0) (small : a < word_end) (inside : page_of a < length y.marker.dirty) (is : objects_of (core_of roots t y ls) a ≡ Some f) where
  abbrev m1 : HeapMutator
  m1 = with_word m 0 a

  abbrev m2 : HeapMutator
  m2 = with_word m1 1 v

  abbrev m3 : HeapMutator
  m3 = with_word m2 1 (register m 1)

  abbrev m4 : HeapMutator
  m4 = with_word m3 0 (register m 0)

  abbrev r1 : RootSet
  r1 = with_slot roots slot m1

  abbrev r2 : RootSet
  r2 = with_slot r1 slot m2

  abbrev r3 : RootSet
  r3 = with_slot r2 slot m3

  abbrev r4 : RootSet
  r4 = with_slot r3 slot m4

  abbrev t' : Store
  t' = record t { words = with_word_at t.words a v }

  abbrev y' : Cycle
  y' = noted y (page_of a)

  at_address : address m2 0 0 ≡ a
  at_address =
      let e : get_or (set (set m.registers 0 a) 1 v) 0 0 ≡ a = get_or-set_other (set m.registers 0 a) 1 0 v 0 (λ e. cc) ∙ get_or-set_same m.registers 0 a 0 (omega (arith, registers)) in
      omega arith

  has_word : register m2 1 ≡ v
  has_word = get_or-set_same (set m.registers 0 a) 1 v 0 (let l = length-set m.registers 0 a in omega arith)

  stored : IsCall (core_of r2 t y ls) (Mutator slot (StoreCall 0 0 1)) Done (core_of r2 t' y' ls)
  stored = stores r2 t t' y y' slot 0 0 1 m2 f lawful long (slot_has r1 slot m1 m2 (slot_has roots slot m m1 at))
      (subst (λ x. x % 8 ≡ 0) (sym at_address) aligned)
      (subst (λ x. objects_of (core_of roots t y ls) x ≡ Some f) (sym at_address) is)
      (ap (λ x. record t { words = with_word_at t.words x v }) (sym at_address) ∙ ap (λ w. record t { words = with_word_at t.words (address m2 0 0) w }) (sym has_word))
      (subst (λ x. NotesWrite x y.marker y'.marker) (sym at_address) (notes y a inside))
      refl refl refl refl

  back : r4 ≡ roots
  back =
      let one : set r3.mutators slot (Some m4) ≡ set roots.mutators slot (Some m4) =
      set-set r2.mutators slot (Some m3) (Some m4) ∙ set-set r1.mutators slot (Some m2) (Some m4) ∙ set-set roots.mutators slot (Some m1) (Some m4) in
      let same : m4 ≡ m = ap (λ rs. record m { registers = rs }) (restored m.registers a v) in
      let there : set roots.mutators slot (Some m) ≡ roots.mutators =
      ap (λ o. set roots.mutators slot o) (sym (get_or_from_slice_get roots.mutators slot (Some m) (Some m) at)) ∙ set-get_or roots.mutators slot (Some m) in
      ap (λ ms. record roots { mutators = ms }) (one ∙ ap (λ n. set roots.mutators slot (Some n)) same ∙ there)

  pub one_word : (old : CoreContents) (lines : List Told) → All IsWord m.registers → IsWord v → All (IsWriteLine slot) lines → AreLines old lines (core_of roots t y ls)
      → (more : List Told) × All (IsWriteLine slot) more × AreLines old more (core_of roots t' y ls)
  one_word old lines words word fine so =
      let h1 = slot_has roots slot m m1 at in let h2 = slot_has r1 slot m1 m2 h1 in let h3 = slot_has r2 slot m2 m3 h2 in
      let s1 = lines_more old (core_of roots t y ls) (core_of r1 t y ls) lines (Mutator slot (Set 0 a)) Done so (call_line _ _ _ _ lawful (set_call roots t y ls slot 0 a m at)) in
      let l1 = lines ++ told (Mutator slot (Set 0 a)) ∷ [] in
      let s2 = lines_more old (core_of r1 t y ls) (core_of r2 t y ls) l1 (Mutator slot (Set 1 v)) Done s1 (call_line _ _ _ _ lawful (set_call r1 t y ls slot 1 v m1 h1)) in
      let l2 = l1 ++ told (Mutator slot (Set 1 v)) ∷ [] in
      let s3 = lines_more old (core_of r2 t y ls) (core_of r2 t' y' ls) l2 (Mutator slot (StoreCall 0 0 1)) Done s2 (call_line _ _ _ _ lawful stored) in
      let l3 = l2 ++ told (Mutator slot (StoreCall 0 0 1)) ∷ [] in
      let s4 = lines_more old (core_of r2 t' y' ls) (core_of r3 t' y' ls) l3 (Mutator slot (Set 1 (register m 1))) Done s3 (call_line _ _ _ _ lawful (set_call r2 t' y' ls slot 1 (register m 1) m2 h2)) in
      let l4 = l3 ++ told (Mutator slot (Set 1 (register m 1))) ∷ [] in
      let s5 = lines_more old (core_of r3 t' y' ls) (core_of r4 t' y' ls) l4 (Mutator slot (Set 0 (register m 0))) Done s4 (call_line _ _ _ _ lawful (set_call r3 t' y' ls slot 0 (register m 0) m3 h3)) in
      let l5 = l4 ++ told (Mutator slot (Set 0 (register m 0))) ∷ [] in
      let fine1 = All-push (IsWriteLine slot) lines (told (Mutator slot (Set 0 a))) fine (IsWriteLine.set (omega arith) small) in
      let fine2 = All-push (IsWriteLine slot) l1 (told (Mutator slot (Set 1 v))) fine1 (IsWriteLine.set (omega arith) word) in
      let fine3 = All-push (IsWriteLine slot) l2 (told (Mutator slot (StoreCall 0 0 1))) fine2 (IsWriteLine.store (omega arith) (omega arith) (omega arith)) in
      let fine4 = All-push (IsWriteLine slot) l3 (told (Mutator slot (Set 1 (register m 1)))) fine3 (IsWriteLine.set (omega arith) (words 1 0 (omega (arith, registers)))) in
      let fine5 = All-push (IsWriteLine slot) l4 (told (Mutator slot (Set 0 (register m 0)))) fine4 (IsWriteLine.set (omega arith) (words 0 0 (omega (arith, registers)))) in
      (l5, fine5, λ start run follows. let w = s5 start run follows in (w.0, w.1, follows_dirty roots t' y ls (set y.marker.dirty (page_of a) true) start w.0 (subst (λ (rs : RootSet). Follows (core_of rs t' y' ls) start w.0) back w.2)))

-- lines of the mutator lead to what the core with these words follows
abbrev LinesTo : CoreContents → ℕ → List ℕ → Type 0
LinesTo old slot ws = (lines : List Told) × All (IsWriteLine slot) lines × AreLines old lines (with_memory old ws old.cycle.marker.dirty)

pub writes_line : WritesAreLines
writes_line old new slot m whole at row writes =
    let went = by_words old new.store.words new.cycle.marker.dirty writes.size writes.words (LinesTo old slot) ([], (λ k d lt. absurd (omega arith)), no_lines old) on in
    (went.0, went.1, λ start run follows. let w = went.2 start run follows in (w.0, w.1, subst (λ (c : CoreContents). Follows c start w.0) (sym writes.alone) (other_dirty old new.store.words new.cycle.marker.dirty start w.0 w.2)))
  where
    on : (ws : List ℕ) (a : ℕ) (f : Found) → length ws ≡ length old.store.words → IsWordAddress old.store.words a → objects_of old a ≡ Some f → IsWord (word_at new.store.words a) → LinesTo old slot ws → LinesTo old slot (with_word_at ws a (word_at new.store.words a))
    on ws a f len there is word p =
        let size = whole.space.whole.listed.size in let few = whole.core.laid.few in let pages = whole.core.traced.pages in let above = there.above in let below = there.below in
        one_word old.roots (record old.store { words = ws }) (record old.cycle { marker = with_dirty old.cycle.marker old.cycle.marker.dirty }) old.links slot a (word_at new.store.words a) m f whole.core.lawful (len ∙ size)
        at row.size there.aligned (omega arith) (omega arith) is old p.0 row.words word p.1 p.2

-- the roots with no mutator at the slot
abbrev without_slot : RootSet → ℕ → RootSet
without_slot roots slot = record roots { mutators = set roots.mutators slot None }

comes_call : (roots : RootSet) (t : Store) (y : Cycle) (ls : List Link) (slot : ℕ) → IsNextSlot roots slot → IsCall (core_of roots t y ls) Attach (Slot slot) (core_of (with_slot roots slot newcomer) t y ls)
comes_call roots t y ls slot next = steps_roots roots (with_slot roots slot newcomer) t y Attach (Slot slot) (λ h. h) (λ s. Attaches.attached (next.is_vacant, next.lowest))

goes_call : (roots : RootSet) (t : Store) (y : Cycle) (ls : List Link) (slot : ℕ) (m : HeapMutator) → HasMutator roots slot m → IsCall (core_of roots t y ls) (Mutator slot Detach) Done (core_of (without_slot roots slot) t y ls)
goes_call roots t y ls slot m at = steps_roots roots (without_slot roots slot) t y (Mutator slot Detach) Done (λ h. h) (λ s. Calls.acts at Acts.detached)

-- One word of a kept object is written by a mutator that comes and goes.
module _ (roots : RootSet) (t : Store) (y : Cycle) (ls : List Link) (slot a v : ℕ) (f : Found) (lawful : IsLawful t.states) (long : length t.words ≡ PAGE_WORDS * length t.states)
    (next : IsNextSlot roots slot) (aligned : a % 8 ≡ 0) (small : a < word_end) (inside : page_of a < length y.marker.dirty) (is : objects_of (core_of roots t y ls) a ≡ Some f) where
  abbrev n1 : HeapMutator
  n1 = with_word newcomer 0 a

  abbrev n2 : HeapMutator
  n2 = with_word n1 1 v

  abbrev c0 : RootSet
  c0 = with_slot roots slot newcomer

  abbrev c1 : RootSet
  c1 = with_slot c0 slot n1

  abbrev c2 : RootSet
  c2 = with_slot c1 slot n2

  abbrev u' : Store
  u' = record t { words = with_word_at t.words a v }

  abbrev z' : Cycle
  z' = noted y (page_of a)

  came : HasMutator c0 slot newcomer
  came =
      let lt = slice_get_within roots.mutators slot None next.is_vacant in
      slice_get-get_or (set roots.mutators slot (Some newcomer)) slot (Some newcomer) (rw (length-set roots.mutators slot (Some newcomer)) lt) ∙ ap Some (get_or-set_same roots.mutators slot (Some newcomer) (Some newcomer) lt)

  gone : without_slot c2 slot ≡ roots
  gone =
      let one : set c2.mutators slot None ≡ set roots.mutators slot None =
      set-set c1.mutators slot (Some n2) None ∙ set-set c0.mutators slot (Some n1) None ∙ set-set roots.mutators slot (Some newcomer) None in
      let there : set roots.mutators slot None ≡ roots.mutators =
      ap (λ o. set roots.mutators slot o) (sym (get_or_from_slice_get roots.mutators slot None None next.is_vacant)) ∙ set-get_or roots.mutators slot None in
      ap (λ ms. record roots { mutators = ms }) (one ∙ there)

  pub one_visit : (old : CoreContents) (lines : List Told) → IsWord v → All (IsVisitLine slot) lines → AreLines old lines (core_of roots t y ls)
      → (more : List Told) × All (IsVisitLine slot) more × AreLines old more (core_of roots u' y ls)
  one_visit old lines word fine so =
      let h1 = slot_has c0 slot newcomer n1 came in let h2 = slot_has c1 slot n1 n2 h1 in
      let s0 = lines_more old (core_of roots t y ls) (core_of c0 t y ls) lines Attach (Slot slot) so (call_line _ _ _ _ lawful (comes_call roots t y ls slot next)) in
      let l0 = lines ++ record { event = Attach; reply = Slot slot } ∷ [] in
      let s1 = lines_more old (core_of c0 t y ls) (core_of c1 t y ls) l0 (Mutator slot (Set 0 a)) Done s0 (call_line _ _ _ _ lawful (set_call c0 t y ls slot 0 a newcomer came)) in
      let l1 = l0 ++ told (Mutator slot (Set 0 a)) ∷ [] in
      let s2 = lines_more old (core_of c1 t y ls) (core_of c2 t y ls) l1 (Mutator slot (Set 1 v)) Done s1 (call_line _ _ _ _ lawful (set_call c1 t y ls slot 1 v n1 h1)) in
      let l2 = l1 ++ told (Mutator slot (Set 1 v)) ∷ [] in
      let s3 = lines_more old (core_of c2 t y ls) (core_of c2 u' z' ls) l2 (Mutator slot (StoreCall 0 0 1)) Done s2 (call_line _ _ _ _ lawful (stored c0 t y ls slot a v newcomer f lawful long came (length-replicate {A = ℕ} REGISTERS 0) aligned small inside is)) in
      let l3 = l2 ++ told (Mutator slot (StoreCall 0 0 1)) ∷ [] in
      let s4 = lines_more old (core_of c2 u' z' ls) (core_of (without_slot c2 slot) u' z' ls) l3 (Mutator slot Detach) Done s3 (call_line _ _ _ _ lawful (goes_call c2 u' z' ls slot n2 h2)) in
      let l4 = l3 ++ told (Mutator slot Detach) ∷ [] in
      let fine0 = All-push (IsVisitLine slot) lines (record { event = Attach; reply = Slot slot }) fine IsVisitLine.comes in
      let fine1 = All-push (IsVisitLine slot) l0 (told (Mutator slot (Set 0 a))) fine0 (IsVisitLine.writes (IsWriteLine.set (omega arith) small)) in
      let fine2 = All-push (IsVisitLine slot) l1 (told (Mutator slot (Set 1 v))) fine1 (IsVisitLine.writes (IsWriteLine.set (omega arith) word)) in
      let fine3 = All-push (IsVisitLine slot) l2 (told (Mutator slot (StoreCall 0 0 1))) fine2 (IsVisitLine.writes (IsWriteLine.store (omega arith) (omega arith) (omega arith))) in
      let fine4 = All-push (IsVisitLine slot) l3 (told (Mutator slot Detach)) fine3 IsVisitLine.goes in
      (l4, fine4, λ start run follows. let w = s4 start run follows in (w.0, w.1, follows_dirty roots u' y ls (set y.marker.dirty (page_of a) true) start w.0 (subst (λ (rs : RootSet). Follows (core_of rs u' z' ls) start w.0) gone w.2)))

-- lines of visits lead to what the core with these words follows
abbrev VisitsTo : CoreContents → ℕ → List ℕ → Type 0
VisitsTo old slot ws = (lines : List Told) × All (IsVisitLine slot) lines × AreLines old lines (with_memory old ws old.cycle.marker.dirty)

pub writes_visit : WritesAreVisits
writes_visit old new slot whole next writes =
    let went = by_words old new.store.words new.cycle.marker.dirty writes.size writes.words (VisitsTo old slot) ([], (λ k d lt. absurd (omega arith)), no_lines old) on in
    (went.0, went.1, λ start run follows. let w = went.2 start run follows in (w.0, w.1, subst (λ (c : CoreContents). Follows c start w.0) (sym writes.alone) (other_dirty old new.store.words new.cycle.marker.dirty start w.0 w.2)))
  where
    on : (ws : List ℕ) (a : ℕ) (f : Found) → length ws ≡ length old.store.words → IsWordAddress old.store.words a → objects_of old a ≡ Some f → IsWord (word_at new.store.words a) → VisitsTo old slot ws → VisitsTo old slot (with_word_at ws a (word_at new.store.words a))
    on ws a f len there is word p =
        let size = whole.space.whole.listed.size in let few = whole.core.laid.few in let pages = whole.core.traced.pages in let above = there.above in let below = there.below in
        one_visit old.roots (record old.store { words = ws }) (record old.cycle { marker = with_dirty old.cycle.marker old.cycle.marker.dirty }) old.links slot a (word_at new.store.words a) f whole.core.lawful (len ∙ size)
        next there.aligned (omega arith) (omega arith) is old p.0 word p.1 p.2
