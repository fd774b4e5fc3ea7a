-- Words are taken off the entries.
use Rattle.std.proofs.Common.{◌≡◌, ℕ, ◌+◌, ◌*◌, ◌≤◌, List, [], ◌∷◌, length, Option, refl, sym, ◌∙◌, subst, inl, inr, ⊎_elim, arith}
use Rattle.std.proofs.lemmas.Bool.{cases_lt}
use Rattle.words.specs.declared.limits.TheConstants.{PAGE_GRANULES}
use Rattle.words.specs.Bits.{Has}
use Rattle.words.specs.Layout.{granule}
use Rattle.block_map.specs.declared.found.Found.{Found}
use Rattle.block_map.specs.Objects.{IsMap}
use Rattle.marker.specs.Marking.{Marking, IsMarked, StaysDirty}
use Rattle.marker.specs.Work.{cost}
use Rattle.marker.specs.Growth.{Traces}
use Rattle.marker.specs.Beside.{AreBeside, TracesIn}
use Rattle.marker.specs.Entries.{WentOn, IsReadOut, TakesOff, Takes, nothing, settled, picked, turned, read}
use Rattle.marker.proofs.Growing.{below_refl, below_trans}
use Rattle.marker.proofs.Beside.{beside_more, only_woven, still_one, traces_in, traces_in_all, traces_in_refl, traces_in_trans, traces_one}
use Rattle.marker.proofs.Dropping.{Keeps, keeps_traces, keeps_taken}
use Rattle.marker.proofs.Settling.{settled_keeps}
use Rattle.marker.proofs.Picking.{picks_keeps}
use Rattle.marker.proofs.Turning.{turns_keeps}
use Rattle.marker.proofs.Reading.{read_traces, read_cost, read_taken, read_dirty}

taken_refl : (found : ℕ → Option Found) (words : List ℕ) (m : Marking) → TakesOff found words m m
taken_refl found words m e one =
    inl (record { now = e; one = one; base = refl; further = omega arith; read = λ f is b i le lt. absurd (omega arith); first = λ c. (c, below_refl m.stack) })

taken_trans : (found : ℕ → Option Found) (words : List ℕ) (a b c : Marking) → ((d : ℕ) → IsMarked a d → IsMarked b d) → ((d : ℕ) → IsMarked b d → IsMarked c d)
    → TakesOff found words a b → TakesOff found words b c → TakesOff found words a c
taken_trans found words a b c ab bc x y e one =
    ⊎_elim
    (λ (w : WentOn found words a b e).
    ⊎_elim
    (λ (v : WentOn found words b c w.now). inl (record {
      now = v.now;
      one = v.one;
      base = v.base ∙ w.base;
      further = (let p = w.further in let q = v.further in omega arith);
      read = λ f is s i le lt. ⊎_elim (λ l g r. bc g.base (w.read f is s i le l g r)) (λ l. v.read f is (s ∙ sym w.base) i l lt) (cases_lt i w.now.next);
      first = λ h. let p = w.first h in let q = v.first p.0 in (q.0, below_trans a.stack b.stack c.stack p.1 q.1);
    }))
    (λ (o : IsReadOut found words b c w.now). inr (λ f is s n k i le lt.
    ⊎_elim (λ l g r. bc g.base (w.read f is s i le l g r)) (λ l. o f is (s ∙ sym w.base) n (ab f.base k) i l lt) (cases_lt i w.now.next)))
    (y w.now w.one))
    (λ (o : IsReadOut found words a b e). inr (λ f is s n k i le lt g r. bc g.base (o f is s n k i le lt g r)))
    (x e one)

-- words are taken off, and then more
pub takes_trans : (found : ℕ → Option Found) (moments : List (List ℕ)) (old mid : Marking) {n k : ℕ} {new : Marking} → Takes found moments old n mid → Takes found moments mid k new → Takes found moments old (n + k) new
takes_trans found moments old mid {n = n} t nothing = subst (λ j. Takes found moments old j mid) (let same : n ≡ n + 0 = omega arith in same) t
takes_trans found moments old mid t (settled u x) = settled (takes_trans found moments old mid t u) x
takes_trans found moments old mid t (picked u x) = picked (takes_trans found moments old mid t u) x
takes_trans found moments old mid t (turned u x) = turned (takes_trans found moments old mid t u) x
takes_trans found moments old mid {n = n} t (read {n = m} {k = j} {b = b} u x) =
    subst (λ i. Takes found moments old i b) (let same : n + m + j ≡ n + (m + j) = omega arith in same) (read (takes_trans found moments old mid t u) x)

-- Marks only come, and pages stay dirty.
pub record Grows (old new : Marking) : Type 0 where
  pub marks_len : length new.marks ≡ length old.marks
  pub dirty_len : length new.dirty ≡ length old.dirty
  pub marks : (b : ℕ) → IsMarked old b → IsMarked new b
  pub dirty : StaysDirty old new

keeps_grows : (found : ℕ → Option Found) (old a b : Marking) → Keeps found a b → Grows old a → Grows old b
keeps_grows found old a b k g =
    let s = keeps_traces found a b k [] in
    record {
      marks_len = s.marks_len ∙ g.marks_len;
      dirty_len = s.dirty_len ∙ g.dirty_len;
      marks = λ d h. s.marks d (g.marks d h);
      dirty = λ p h. subst (λ r. Has r p) (sym k.dirty) (g.dirty p h);
    }

module _ (pages : ℕ) (found : ℕ → Option Found) (map : IsMap pages found) (moments : List (List ℕ)) (old : Marking) (size : length old.marks ≡ PAGE_GRANULES * pages) where
  pub takes_grows : {n : ℕ} {new : Marking} → Takes found moments old n new → Grows old new
  takes_grows nothing = record { marks_len = refl; dirty_len = refl; marks = λ b h. h; dirty = λ p h. h }
  takes_grows (settled {a = a} {b = b} t x) = keeps_grows found old a b (settled_keeps found a b x) (takes_grows t)
  takes_grows (picked {a = a} {b = b} t x) = keeps_grows found old a b (picks_keeps found a b x) (takes_grows t)
  takes_grows (turned {a = a} {b = b} t x) = keeps_grows found old a b (turns_keeps found a b x) (takes_grows t)
  takes_grows (read {k = k} {a = a} {b = b} t x) =
      let g = takes_grows t in
      let s = read_traces pages found map x.seen k a b (g.marks_len ∙ size) x.reads in
      record {
        marks_len = s.marks_len ∙ g.marks_len;
        dirty_len = s.dirty_len ∙ g.dirty_len;
        marks = λ d h. s.marks d (g.marks d h);
        dirty = λ p h. read_dirty pages found map x.seen k a b (g.marks_len ∙ size) x.reads p (g.dirty p h);
      }

  keeps_in : (a b : Marking) → Keeps found a b → AreBeside found a.dirty moments → TracesIn found moments a b
  keeps_in a b k beside = traces_in_all found moments a b beside (λ p h. subst (λ r. Has r p) (sym k.dirty) h) (keeps_traces found a b k) (λ f e h. subst (λ y. Has y (granule f.base)) k.marks h) (λ p h. subst (λ y. Has y p) k.carried h)

  -- beside writers
  pub takes_traces : {n : ℕ} {new : Marking} → AreBeside found old.dirty moments → Takes found moments old n new → TracesIn found moments old new
  takes_traces beside nothing = traces_in_refl found moments old beside
  takes_traces beside (settled {a = a} {b = b} t x) = traces_in_trans found moments old a b (takes_traces beside t) (keeps_in a b (settled_keeps found a b x) (beside_more found old a moments (takes_grows t).dirty beside))
  takes_traces beside (picked {a = a} {b = b} t x) = traces_in_trans found moments old a b (takes_traces beside t) (keeps_in a b (picks_keeps found a b x) (beside_more found old a moments (takes_grows t).dirty beside))
  takes_traces beside (turned {a = a} {b = b} t x) = traces_in_trans found moments old a b (takes_traces beside t) (keeps_in a b (turns_keeps found a b x) (beside_more found old a moments (takes_grows t).dirty beside))
  takes_traces beside (read {k = k} {a = a} {b = b} t x) =
      let g = takes_grows t in
      let s = beside_more found old a moments g.dirty beside in
      traces_in_trans found moments old a b (takes_traces beside t)
      (traces_in found moments x.seen a b x.woven s (read_dirty pages found map x.seen k a b (g.marks_len ∙ size) x.reads) (read_traces pages found map x.seen k a b (g.marks_len ∙ size) x.reads))

  pub takes_cost : {n : ℕ} {new : Marking} → Takes found moments old n new → cost found new + n ≤ cost found old
  takes_cost nothing = omega arith
  takes_cost (settled {a = a} {b = b} t x) = let p = takes_cost t in let q = (settled_keeps found a b x).cost in omega arith
  takes_cost (picked {a = a} {b = b} t x) = let p = takes_cost t in let q = (picks_keeps found a b x).cost in omega arith
  takes_cost (turned {a = a} {b = b} t x) = let p = takes_cost t in let q = (turns_keeps found a b x).cost in omega arith
  takes_cost (read {k = k} {a = a} {b = b} t x) =
      let p = takes_cost t in let q = read_cost pages found map x.seen k a b ((takes_grows t).marks_len ∙ size) x.reads in omega arith

  pub takes_dirty : {n : ℕ} {new : Marking} → Takes found moments old n new → StaysDirty old new
  takes_dirty t = (takes_grows t).dirty

-- where nobody writes
module _ (pages : ℕ) (found : ℕ → Option Found) (map : IsMap pages found) (words : List ℕ) (old : Marking) (size : length old.marks ≡ PAGE_GRANULES * pages) where
  pub takes_one : {n : ℕ} {new : Marking} → Takes found (words ∷ []) old n new → Traces found words [] old new
  takes_one {new = new} t = traces_one found words old new (takes_traces pages found map (words ∷ []) old size (still_one found words old.dirty) t)

  kept_taken : (a b : Marking) → Grows old a → Keeps found a b → TakesOff found words old a → TakesOff found words old b
  kept_taken a b g k t = taken_trans found words old a b g.marks (keeps_traces found a b k words).marks t (keeps_taken found a b k words)

  pub takes_taken : {n : ℕ} {new : Marking} → Takes found (words ∷ []) old n new → TakesOff found words old new
  takes_taken nothing = taken_refl found words old
  takes_taken (settled {a = a} {b = b} t x) = kept_taken a b (takes_grows pages found map (words ∷ []) old size t) (settled_keeps found a b x) (takes_taken t)
  takes_taken (picked {a = a} {b = b} t x) = kept_taken a b (takes_grows pages found map (words ∷ []) old size t) (picks_keeps found a b x) (takes_taken t)
  takes_taken (turned {a = a} {b = b} t x) = kept_taken a b (takes_grows pages found map (words ∷ []) old size t) (turns_keeps found a b x) (takes_taken t)
  takes_taken (read {k = k} {a = a} {b = b} t x) =
      let s = (takes_grows pages found map (words ∷ []) old size t).marks_len ∙ size in
      taken_trans found words old a b (takes_grows pages found map (words ∷ []) old size t).marks (read_traces pages found map x.seen k a b s x.reads).marks (takes_taken t)
      (subst (λ (v : List ℕ). TakesOff found v a b) (only_woven words x.seen x.woven) (read_taken pages found map x.seen k a b s x.reads))
