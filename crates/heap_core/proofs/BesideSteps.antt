-- What marking beside writers is to a run.
use Rattle.std.proofs.Common.{◌≡◌, ℕ, zero, suc, ◌*◌, ◌<◌, ◌≤◌, true, false, List, [], ◌∷◌, ◌++◌, length, get_or, set, Contains, Option, Some, None, refl, sym, ap, ◌∙◌, subst, inr, ⊎_elim, arith, length-set, get_or-set_same}
use Rattle.std.specs.Prelude.{Bool, All, ◌-◌, ◌/◌}
use Rattle.std.proofs.lemmas.Bool.{cases_Bool, cases_eq, cases_lt, false≢true}
use Rattle.std.proofs.lemmas.List.{set-set, set-get_or}
use Rattle.std.proofs.lemmas.List.Elements.{All-append, All-push, Contains-append_cases, Contains-append_left, Contains-append_right}
use Rattle.std.proofs.lemmas.Option.{get_or_from_slice_get, same_Some}
use Rattle.words.specs.declared.class.Kind.{Kind}
use Rattle.words.specs.declared.class.Kind.TheVariants.{Normal, PointerFree}
use Rattle.words.specs.declared.limits.TheConstants.{PAGE_GRANULES, PAGE_WORDS, REGISTERS}
use Rattle.words.specs.Bits.{Has}
use Rattle.words.specs.Layout.{granule, page_of}
use Rattle.heap_spec.specs.declared.call.Call.TheVariants.{Set}
use Rattle.heap_spec.specs.declared.event.Event.TheVariants.{Mutator}
use Rattle.heap_spec.specs.declared.reply.Reply.TheVariants.{Done}
use Rattle.heap_spec.specs.Closure as heap
use Rattle.heap_spec.specs.Heap.{Object, Mutator as HeapMutator}
use Rattle.heap_spec.specs.Layout.{PointsInto}
use Rattle.heap_spec.specs.Ranges.{IsWord}
use Rattle.heap_spec.specs.Runs.{Start, Run, Told, heap_after}
use Rattle.heap_spec.specs.Steps.{register}
use Rattle.heap_spec.proofs.Gaining.{attached_words}
use Rattle.pages.specs.Memory.{IsWordAddress, word_index, word_at}
use Rattle.pages.specs.Reads.{AreMoments}
use Rattle.block_map.specs.declared.found.Found.{Found}
use Rattle.block_map.specs.FoundIn.{found_in, IsLawful}
use Rattle.block_map.specs.Objects.{IsMap}
use Rattle.links.specs.declared.row.Link.{Link}
use Rattle.marker.specs.Marking.{Marking, IsMarked, word_address}
use Rattle.marker.specs.Beside.{ClosureIn, TracesIn}
use Rattle.marker.specs.Closure.{Closure}
use Rattle.marker.proofs.Closures.{at_base, closure_more, same_object}
use Rattle.marker.proofs.MarkWord.{markable}
use Rattle.marker.proofs.Spreads.{has_set, has_set_back}
use Rattle.heap_view.specs.Shows.{IsMarkedBirth}
use Rattle.heap_view.proofs.Shows.{reads_object}
use Rattle.roots.specs.Roots.{RootSet, HasMutator, root_words_of, with_word}
use Rattle.object_space.specs.Kept.{is_kept}
use Rattle.object_space.specs.Store.{Store, IsSwept}
use Rattle.object_space.proofs.Kept.{kept_cases, kept_same, nothing_pending}
use Rattle.heap_core.specs.CoreContents.{CoreContents, Cycle, IsTraced}
use Rattle.heap_core.specs.DirectWrites.{IsLeftOrWritten, WritesWords, with_memory}
use Rattle.heap_core.specs.BesideSteps.{IsWrittenIn, IsBringLine, BesideIsLines, WrittenBesideIsWrittenAfter}
use Rattle.heap_core.specs.Following.{Follows, AreLines}
use Rattle.heap_core.specs.MutatorCalls.{IsCall}
use Rattle.heap_core.specs.Standing.{keeps, objects_of}
use Rattle.heap_core.proofs.Collecting.{all_shown, found_at, closures}
use Rattle.heap_core.proofs.Cycling.{stands_still}
use Rattle.heap_core.proofs.DirectLines.{with_slot, slot_has, set_call}
use Rattle.heap_core.proofs.Following.{call_line, no_lines, lines_more, reached_touched}
use Rattle.heap_core.proofs.Roots.{core_of}

none_in : (w : ℕ) → Contains [] w → ⊥
none_in w h = let l = h.1 in omega arith

-- The words that were written, as a list: of one moment, and of all.
of_one : (words m : List ℕ) (n : ℕ) (Q : ℕ → Type 0) → ((k : ℕ) → k < n → (get_or m k 0 ≡ get_or words k 0 → ⊥) → Q (get_or m k 0))
    → (vs : List ℕ) × All Q vs × ((k : ℕ) → k < n → (get_or m k 0 ≡ get_or words k 0 → ⊥) → Contains vs (get_or m k 0))
of_one words m zero Q q = ([], (λ k d lt. absurd (omega arith)), (λ k lt no. absurd (omega arith)))
of_one words m (suc n) Q q =
    let r = of_one words m n Q (λ k lt no. q k (omega arith) no) in
    ⊎_elim
    (λ (same : get_or m n 0 ≡ get_or words n 0).
    (r.0, r.1, λ k lt no. ⊎_elim (λ (below : k < n). r.2 k below no) (λ (past : n ≤ k). let at : k ≡ n = omega arith in absurd (no (subst (λ (j : ℕ). get_or m j 0 ≡ get_or words j 0) (sym at) same))) (cases_lt k n)))
    (λ (other : get_or m n 0 ≡ get_or words n 0 → ⊥). (
      r.0 ++ get_or m n 0 ∷ [],
      All-push Q r.0 (get_or m n 0) r.1 (q n (omega arith) other),
      λ k lt no. ⊎_elim (λ (below : k < n). Contains-append_left r.0 (get_or m n 0 ∷ []) (get_or m k 0) (r.2 k below no))
          (λ (past : n ≤ k). let at : n ≡ k = omega arith in
          Contains-append_right r.0 (get_or m n 0 ∷ []) (get_or m k 0) (subst (λ (j : ℕ). Contains (get_or m n 0 ∷ []) (get_or m j 0)) at (0, (let l : 0 < 1 = omega arith in l), refl)))
          (cases_lt k n),
    ))
    (cases_eq (get_or m n 0) (get_or words n 0))

of_all : (words : List ℕ) (ms : List (List ℕ)) (n : ℕ) (Q : ℕ → Type 0) → ((m : List ℕ) → Contains ms m → (k : ℕ) → k < n → (get_or m k 0 ≡ get_or words k 0 → ⊥) → Q (get_or m k 0))
    → (vs : List ℕ) × All Q vs × ((m : List ℕ) → Contains ms m → (k : ℕ) → k < n → (get_or m k 0 ≡ get_or words k 0 → ⊥) → Contains vs (get_or m k 0))
of_all words [] n Q q = ([], (λ k d lt. absurd (omega arith)), (λ m h k lt no. absurd (let l = h.1 in omega arith)))
of_all words (x ∷ ms) n Q q =
    let a = of_one words x n Q (λ k lt no. q x (0, (let l : 0 < suc (length ms) = omega arith in l), refl) k lt no) in
    let b = of_all words ms n Q (λ m h k lt no. q m (Contains-append_right (x ∷ []) ms m h) k lt no) in (
      a.0 ++ b.0,
      All-append Q a.0 b.0 a.1 b.1,
      λ m h k lt no. ⊎_elim
          (λ (here : Contains (x ∷ []) m).
          let l = here.1 in let z : here.0 ≡ 0 = omega arith in
          let e : x ≡ m = sym (ap (λ j. get_or (x ∷ []) j m) z) ∙ here.2 in
          Contains-append_left a.0 b.0 (get_or m k 0) (subst (λ (w : List ℕ). (get_or w k 0 ≡ get_or words k 0 → ⊥) → Contains a.0 (get_or w k 0)) e (a.2 k lt) no))
          (λ there. Contains-append_right a.0 b.0 (get_or m k 0) (b.2 m there k lt no))
          (Contains-append_cases (x ∷ []) ms m h),
    )

-- the marker goes on beside writers
pub traced_beside : (t : Store) (y : Cycle) (moments : List (List ℕ)) (m : Marking) → IsTraced t y → AreMoments t.words moments → TracesIn (found_in t.states) moments y.marker m → IsTraced t (record y { marker = m })
traced_beside t y moments m x are traces = record {
  pages = traces.dirty_len ∙ x.pages;
  objects = λ k h. ⊎_elim (x.objects k) (λ o. o) (traces.objects k h);
  swept = x.swept;
  invariant = λ is. traces.keeps t.words t.words are.one are.one (x.invariant is);
  carried = λ is. traces.carries t.words t.words are.one are.one (x.carried is);
}

-- the cycle with other marks
abbrev with_marks : Cycle → List Bool → Cycle
with_marks y marks = record y { marker = record y.marker { marks = marks } }

module _ (roots : RootSet) (t : Store) (y : Cycle) (ls : List Link) (slot : ℕ) (m : HeapMutator) (lawful : IsLawful t.states) (swept : IsSwept t) (at : HasMutator roots slot m) (registers : length m.registers ≡ REGISTERS)
    (size : length y.marker.marks ≡ PAGE_GRANULES * length t.states) (marking : y.is_marking ≡ true) where
  -- the core once the register has a word, with these marks
  abbrev core : ℕ → List Bool → CoreContents
  core w marks = core_of (with_slot roots slot (with_word m 0 w)) t (with_marks y marks) ls

  abbrev old : CoreContents
  old = core_of roots t y ls

  -- the register gets another word
  set_line : (w v : ℕ) (marks : List Bool) → IsCall (core w marks) (Mutator slot (Set 0 v)) Done (core v marks)
  set_line w v marks =
      let a = with_word m 0 w in
      let twice : with_slot (with_slot roots slot a) slot (with_word a 0 v) ≡ with_slot roots slot (with_word m 0 v)
      = ap (λ (ms : List (Option HeapMutator)). record roots { mutators = ms }) (set-set roots.mutators slot (Some a) (Some (with_word a 0 v)))
      ∙ ap (λ (rs : List ℕ). with_slot roots slot (record m { registers = rs })) (set-set m.registers 0 w v) in
      subst (λ (r : RootSet). IsCall (core w marks) (Mutator slot (Set 0 v)) Done (core_of r t (with_marks y marks) ls)) twice
      (set_call (with_slot roots slot a) t (with_marks y marks) ls slot 0 v a (slot_has roots slot m a at))

  -- what the word in the register points into is touched, so that it may be marked
  mark_one : (w : ℕ) (marks : List Bool) (f : Found) → found_in t.states w ≡ Some f → (start : Start) (run : Run) → Follows (core w marks) start run → Follows (core w (set marks (granule f.base) true)) start run
  mark_one w marks f is start run follows =
      let c = core w marks in
      let s = heap_after start run in
      let map = lawful.map in
      let pages = length t.states in
      record {
        stands = stands_still c (with_marks y (set marks (granule f.base) true)) swept s follows.stands;
        phase = follows.phase;
        count = follows.count;
        small = follows.small;
        needs = follows.needs;
        past = follows.past;
        aged = λ idle. absurd (false≢true (sym idle ∙ marking));
        kept = λ idle. absurd (false≢true (sym idle ∙ marking));
        touched = λ now base o has marked. ⊎_elim
            (λ (was : Has marks (granule base)). follows.touched now base o has was)
            (λ (same : granule base ≡ granule f.base).
            let x = found_at c map swept s follows.stands base o has in
            let one : x.0 ≡ f = same_object pages (found_in t.states) map x.0 f (ap (found_in t.states) x.2 ∙ x.1) (at_base pages (found_in t.states) map w f is) (ap granule x.2 ∙ same) in
            let base_is : f.base ≡ base = sym (ap (λ (z : Found). z.base) one) ∙ x.2 in
            let r = reads_object (found_in t.states) pages map t.words s.objects (all_shown c map swept s follows.stands).shown w f is in
            let o_is : r.0 ≡ o = same_Some r.0 o (sym r.1 ∙ ap s.objects base_is ∙ has) in
            let points : PointsInto w base (length o.words) = subst (λ (z : Object). PointsInto w base (length z.words)) o_is (subst (λ (b : ℕ). PointsInto w b (length r.0.words)) base_is r.3) in
            let holds : Contains (set m.registers 0 w) w = (0, (let l = length-set m.registers 0 w in omega (arith, registers)), get_or-set_same m.registers 0 w w (omega (arith, registers))) in
            let rooted = attached_words s slot (with_word m 0 w) w (ap (λ (ms : List (Option HeapMutator)). Rattle.std.specs.Prelude.slice_get ms slot) follows.stands.mutators ∙ slot_has roots slot m (with_word m 0 w) at)
            (Contains-append_left (set m.registers 0 w) m.stack w holds) in
            reached_touched c start run follows now base o has (heap.Closure.root rooted (has, points)))
            (has_set_back marks (granule f.base) (granule base) marked);
      }

  -- Words are brought, one after another: what they point into is marked.
  record Brings (words : List ℕ) (moments : List (List ℕ)) (done : List ℕ) : Type 0 where
    lines : List Told
    fine : All (IsBringLine words moments slot m) lines
    word : ℕ
    marks : List Bool
    len : length marks ≡ length y.marker.marks
    more : (k : ℕ) → Has y.marker.marks k → Has marks k
    has : (v : ℕ) → Contains done v → (f : Found) → found_in t.states v ≡ Some f → Has marks (granule f.base)
    so : AreLines old lines (core word marks)

  module _ (words : List ℕ) (moments : List (List ℕ)) where
    one_is : (v x : ℕ) → Contains (v ∷ []) x → v ≡ x
    one_is v x h = let l = h.1 in let z : h.0 ≡ 0 = omega arith in sym (ap (λ j. get_or (v ∷ []) j x) z) ∙ h.2

    add : (v : ℕ) (vs : List ℕ) → IsWrittenIn words moments v → IsWord v → Brings words moments vs → (o : Option Found) → found_in t.states v ≡ o → Brings words moments (v ∷ vs)
    add v vs written word b None none = record {
      lines = b.lines ++ record { event = Mutator slot (Set 0 v); reply = Done } ∷ [];
      fine = All-push (IsBringLine words moments slot m) b.lines (record { event = Mutator slot (Set 0 v); reply = Done }) b.fine (IsBringLine.brings written word);
      word = v;
      marks = b.marks;
      len = b.len;
      more = b.more;
      has = λ x h f is. ⊎_elim
          (λ (here : Contains (v ∷ []) x). let z : None ≡ Some f = sym none ∙ ap (found_in t.states) (one_is v x here) ∙ is in absurd (cc z))
          (λ there. b.has x there f is)
          (Contains-append_cases (v ∷ []) vs x h);
      so = lines_more old (core b.word b.marks) (core v b.marks) b.lines (Mutator slot (Set 0 v)) Done b.so (call_line _ _ _ _ lawful (set_line b.word v b.marks));
    }
    add v vs written word b (Some f) is =
        let inside : granule f.base < length b.marks = (markable (length t.states) (found_in t.states) v f b.marks lawful.map is (b.len ∙ size)).1 in
        let so1 = lines_more old (core b.word b.marks) (core v b.marks) b.lines (Mutator slot (Set 0 v)) Done b.so (call_line _ _ _ _ lawful (set_line b.word v b.marks)) in
        record {
          lines = b.lines ++ record { event = Mutator slot (Set 0 v); reply = Done } ∷ [];
          fine = All-push (IsBringLine words moments slot m) b.lines (record { event = Mutator slot (Set 0 v); reply = Done }) b.fine (IsBringLine.brings written word);
          word = v;
          marks = set b.marks (granule f.base) true;
          len = length-set b.marks (granule f.base) true ∙ b.len;
          more = λ k h. has_set b.marks (granule f.base) k inside (b.more k h);
          has = λ x h g there. ⊎_elim
              (λ (here : Contains (v ∷ []) x).
              let e : f ≡ g = same_Some f g (sym is ∙ ap (found_in t.states) (one_is v x here) ∙ there) in
              subst (λ (z : Found). Has (set b.marks (granule f.base) true) (granule z.base)) e (get_or-set_same b.marks (granule f.base) true false inside))
              (λ among. has_set b.marks (granule f.base) (granule g.base) inside (b.has x among g there))
              (Contains-append_cases (v ∷ []) vs x h);
          so = λ start run follows. (let w = so1 start run follows in (w.0, w.1, mark_one v b.marks f is start w.0 w.2));
        }

    -- the roots are as they were
    same_roots : with_slot roots slot (with_word m 0 (register m 0)) ≡ roots
    same_roots =
        ap (λ (rs : List ℕ). with_slot roots slot (record m { registers = rs })) (set-get_or m.registers 0 0)
        ∙ ap (λ (ms : List (Option HeapMutator)). record roots { mutators = ms }) (ap (λ (o : Option HeapMutator). set roots.mutators slot o) (sym (get_or_from_slice_get roots.mutators slot (Some m) (Some m) at)) ∙ set-get_or roots.mutators slot (Some m))

    bring : (vs : List ℕ) → ((v : ℕ) → Contains vs v → IsWrittenIn words moments v × IsWord v) → Brings words moments vs
    bring [] all = record {
      lines = [];
      fine = λ k d lt. absurd (omega arith);
      word = register m 0;
      marks = y.marker.marks;
      len = refl;
      more = λ k h. h;
      has = λ v h. absurd (none_in v h);
      so = subst (λ (r : RootSet). AreLines old [] (core_of r t y ls)) (sym same_roots) (no_lines old);
    }
    bring (v ∷ vs) all =
        let here = all v (0, (let l : 0 < suc (length vs) = omega arith in l), refl) in
        add v vs here.0 here.1 (bring vs (λ x h. all x (Contains-append_right (v ∷ []) vs x h))) (found_in t.states v) refl

    -- and then the register gets back what it had
    restored : (vs : List ℕ) (b : Brings words moments vs) → AreLines old (b.lines ++ record { event = Mutator slot (Set 0 (register m 0)); reply = Done } ∷ []) (core_of roots t (with_marks y b.marks) ls)
    restored vs b =
        subst (λ (r : RootSet). AreLines old (b.lines ++ record { event = Mutator slot (Set 0 (register m 0)); reply = Done } ∷ []) (core_of r t (with_marks y b.marks) ls)) same_roots
        (lines_more old (core b.word b.marks) (core (register m 0) b.marks) b.lines (Mutator slot (Set 0 (register m 0))) Done b.so (call_line _ _ _ _ lawful (set_line b.word (register m 0) b.marks)))

in_object : (pages : ℕ) (found : ℕ → Option Found) (moments : List (List ℕ)) (given : ℕ → Type 0) → IsMap pages found → {f : Found} → ClosureIn found moments given f → found f.base ≡ Some f
in_object pages found moments given map (ClosureIn.given e k) = e
in_object pages found moments given map (ClosureIn.word {f = f} i w h c n lt e) = at_base pages found map _ f e

-- What words of the moments lead to, the first words lead to where all is marked that the words point into that were written.
in_one : (pages : ℕ) (found : ℕ → Option Found) (words : List ℕ) (moments : List (List ℕ)) (a b : Marking) (vs : List ℕ) → IsMap pages found → length words ≡ PAGE_WORDS * pages → ((k : ℕ) → IsMarked a k → IsMarked b k)
    → ((v : ℕ) → Contains vs v → (f : Found) → found v ≡ Some f → IsMarked b f.base)
    → ((m : List ℕ) → Contains moments m → (k : ℕ) → k < length words → (get_or m k 0 ≡ get_or words k 0 → ⊥) → Contains vs (get_or m k 0))
    → {f : Found} → ClosureIn found moments (IsMarked a) f → Closure found words [] (IsMarked b) f
in_one pages found words moments a b vs map long more has all (ClosureIn.given {f = f} e k) = Closure.held e (more f.base k)
in_one pages found words moments a b vs map long more has all (ClosureIn.word {p = p} {f = f} i w h c n lt e) =
    let there = in_object pages found moments (IsMarked a) map c in
    let placed = map.placed p.base p there in
    let above = placed.above in let below = placed.below in
    let k = word_index (word_address p i) in
    let inside : k < length words = omega arith in
    ⊎_elim
    (λ (same : get_or w k 0 ≡ get_or words k 0). Closure.word i (in_one pages found words moments a b vs map long more has all c) n lt (ap found (sym same) ∙ e))
    (λ (other : get_or w k 0 ≡ get_or words k 0 → ⊥). Closure.held (at_base pages found map _ f e) (has (get_or w k 0) (all w h k inside other) f e))
    (cases_eq (get_or w k 0) (get_or words k 0))

pub beside_line : BesideIsLines
beside_line old new moments slot m whole marking at row are words marks =
    let c = old in
    let found = found_in old.store.states in
    let map = whole.core.lawful.map in
    let swept = whole.core.traced.swept marking in
    let long = whole.space.whole.listed.size in
    let size : length old.cycle.marker.marks ≡ PAGE_GRANULES * length old.store.states = whole.marker.marks ∙ ap (λ k. PAGE_GRANULES * k) whole.core.traced.pages in
    let Q : ℕ → Type 0 = λ v. IsWrittenIn old.store.words moments v × IsWord v in
    let all = of_all old.store.words moments (length old.store.words) Q
    (λ w h k lt no. let is : IsWrittenIn old.store.words moments (get_or w k 0) = record { after = w; moment = h; index = k; inside = lt; word = refl; other = no } in (is, words (get_or w k 0) is)) in
    let b = bring old.roots old.store old.cycle old.links slot m whole.core.lawful swept at row.size size marking old.store.words moments all.0
    (λ v h. subst Q h.2 (all.1 h.0 v h.1)) in
    let restore : Told = record { event = Mutator slot (Set 0 (register m 0)); reply = Done } in
    let lines = b.lines ++ restore ∷ [] in
    let so = restored old.roots old.store old.cycle old.links slot m whole.core.lawful swept at row.size size marking old.store.words moments all.0 b in (
      lines,
      All-push (IsBringLine old.store.words moments slot m) b.lines restore b.fine IsBringLine.restores,
      λ start run follows.
          let w = so start run follows in
          let mid = core_of old.roots old.store (with_marks old.cycle b.marks) old.links in
          let s = heap_after start w.0 in (
            w.0,
            w.1,
            subst (λ (z : CoreContents). Follows z start w.0) (sym marks.alone) (record {
              stands = stands_still mid (record old.cycle { marker = new.cycle.marker }) swept s w.2.stands;
              phase = w.2.phase;
              count = w.2.count;
              small = w.2.small;
              needs = w.2.needs;
              past = w.2.past;
              aged = λ idle. absurd (false≢true (sym idle ∙ marking));
              kept = λ idle. absurd (false≢true (sym idle ∙ marking));
              touched = λ now base o has marked.
                  let x = found_at mid map swept s w.2.stands base o has in
                  let there = ap found x.2 ∙ x.1 in
                  let inner = marks.traces.within x.0 there (subst (IsMarked new.cycle.marker) (sym x.2) marked) in
                  let one = in_one (length old.store.states) found old.store.words moments old.cycle.marker mid.cycle.marker all.0 map long (λ k h. b.more (granule k) h) (λ v h f is. b.has v h f is) all.2 inner in
                  let outer = closure_more found old.store.words [] (root_words_of old.roots) (IsMarked mid.cycle.marker) (IsMarked mid.cycle.marker) (λ v h. absurd (none_in v h)) (λ g e k. Closure.held e k) one in
                  reached_touched mid start w.0 w.2 now base o has (subst (heap.Closure s (IsMarkedBirth s mid.cycle.marker)) x.2 ((closures mid map swept s w.2.stands x.0 there).0 outer));
            }),
          ),
    )

-- what is written beside the marker is written after it
pub written_after : WrittenBesideIsWrittenAfter
written_after old new moments after whole marking are h writes on =
    subst (λ (z : CoreContents). WritesWords z (with_memory z after z.cycle.marker.dirty)) (sym on.alone) (record { alone = refl; size = are.size after h; words = each; dirty_len = refl; stays_dirty = λ p d. d })
  where
    kept : (a : ℕ) (f : Found) → objects_of old a ≡ Some f → objects_of (record old { cycle = record old.cycle { marker = new.cycle.marker } }) a ≡ Some f
    kept a f is =
        let swept = whole.core.traced.swept marking in
        (kept_same (is_kept old.store.pending old.cycle.marker.marks) (is_kept old.store.pending new.cycle.marker.marks) (found_in old.store.states)
        (λ w g there. nothing_pending old.store.pending new.cycle.marker.marks g (swept g.page) ∙ sym (nothing_pending old.store.pending old.cycle.marker.marks g (swept g.page)))).same a
        ∙ is

    -- a word of a Normal object on a page that isn't dirty is as it was
    clean_same : (a : ℕ) (f : Found) → IsWordAddress old.store.words a → objects_of old a ≡ Some f → f.kind ≡ Normal → (Has new.cycle.marker.dirty (page_of a) → ⊥) → word_at after a ≡ word_at old.store.words a
    clean_same a f address is normal clean =
        let map = whole.core.lawful.map in
        let there = (kept_cases (keeps old) (found_in old.store.states) a f is).0 in
        let placed = map.placed a f there in let even = placed.aligned in
        let from = (map.reads a f there).from in let below = (map.reads a f there).below in
        let aligned = address.aligned in
        let i : ℕ = (a - f.base) / 8 in
        let at : word_address f i ≡ a = omega arith in
        let inside : i < f.len = omega arith in
        subst (λ (x : ℕ). (Has new.cycle.marker.dirty (page_of x) → ⊥) → word_at after x ≡ word_at old.store.words x) at
        (on.traces.beside.same after old.store.words h are.one f (at_base (length old.store.states) (found_in old.store.states) map a f there) normal i inside) clean

    told : (a : ℕ) → IsWordAddress old.store.words a → IsLeftOrWritten old after old.cycle.marker.dirty a → (k : Kind) → ((f : Found) → objects_of old a ≡ Some f → f.kind ≡ k) → IsLeftOrWritten (record old { cycle = record old.cycle { marker = new.cycle.marker } }) after new.cycle.marker.dirty a
    told a address (IsLeftOrWritten.left same) k of = IsLeftOrWritten.left same
    told a address (IsLeftOrWritten.written f is word on' off) PointerFree of =
        let other : f.kind ≡ Normal → ⊥ = λ normal. (let z : PointerFree ≡ Normal = sym (of f is) ∙ normal in absurd (cc z)) in
        IsLeftOrWritten.written f (kept a f is) word (λ now normal. absurd (other normal)) (λ needs normal marked. absurd (other normal))
    told a address (IsLeftOrWritten.written f is word on' off) Normal of =
        ⊎_elim
        (λ (d : get_or new.cycle.marker.dirty (page_of a) false ≡ true). IsLeftOrWritten.written f (kept a f is) word (λ now normal. inr d) (λ needs normal marked. inr d))
        (λ (clean : get_or new.cycle.marker.dirty (page_of a) false ≡ false). IsLeftOrWritten.left (clean_same a f address is (of f is) (λ d. false≢true (sym clean ∙ d))))
        (cases_Bool (get_or new.cycle.marker.dirty (page_of a) false))

    each : (a : ℕ) → IsWordAddress old.store.words a → IsLeftOrWritten (record old { cycle = record old.cycle { marker = new.cycle.marker } }) after new.cycle.marker.dirty a
    each a is = by (objects_of old a) refl
      where
        by : (o : Option Found) → objects_of old a ≡ o → IsLeftOrWritten (record old { cycle = record old.cycle { marker = new.cycle.marker } }) after new.cycle.marker.dirty a
        by None none = told a is (writes.words a is) Normal (λ f e. let z : None ≡ Some f = sym none ∙ e in absurd (cc z))
        by (Some g) e = told a is (writes.words a is) g.kind (λ f d. ap (λ (x : Found). x.kind) (same_Some f g (sym d ∙ e)))
