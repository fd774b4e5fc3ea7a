-- The end of the marking.
use Rattle.std.proofs.Common.{◌≡◌, ℕ, ◌+◌, ◌*◌, ◌≤◌, List, [], Contains, Option, sym, subst, arith}
use Rattle.block_map.specs.declared.found.Found.{Found}
use Rattle.block_map.specs.Objects.{IsMap}
use Rattle.words.specs.Bits.{Has}
use Rattle.words.specs.declared.limits.TheConstants.{FIRST_ADDRESS, GRANULE_BYTES, PAGE_WORDS}
use Rattle.words.specs.Layout.{granule}
use Rattle.marker.specs.Marking.{Marking, IsMarked, IsDone}
use Rattle.marker.specs.Work.{cost, dirty_pages, newly_pages, entry_words}
use Rattle.marker.specs.Closure.{AreClosed}
use Rattle.marker.specs.Invariant.{DirtyPageInvariant, AreRootsMarked}
use Rattle.marker.specs.Growth.{Traces}
use Rattle.final_pause.proofs.Final.{closure_marked}
use Rattle.marker.proofs.Costs.{newly_rest, dirty_words}
use Rattle.marker.proofs.Growing.{traces_trans, traces_more}

-- The state of the loop that ends the marking.
pub record Closes (found : ℕ → Option Found) (words roots : List ℕ) (reads : ℕ) (old : Marking) (now_reads : ℕ) (now : Marking) : Type 0 where
  pub traces : Traces found words roots old now
  pub scanned : AreRootsMarked found roots now
  pub less : now_reads + cost found now ≤ reads + cost found old

none_in : (w : ℕ) → Contains [] w → ⊥
none_in w h = let l = h.1 in omega arith

at : (i : ℕ) → granule (FIRST_ADDRESS + GRANULE_BYTES * i) ≡ i
at i = omega arith

-- a reader's words, which are the memory's, are read on
pub closes_step : (found : ℕ → Option Found) (words read roots : List ℕ) (reads : ℕ) (old : Marking) (mid_reads : ℕ) (mid : Marking) (now_reads : ℕ) (now : Marking)
    → read ≡ words → Closes found words roots reads old mid_reads mid → Traces found read [] mid now → now_reads + cost found now ≤ mid_reads + cost found mid → Closes found words roots reads old now_reads now
closes_step found words read roots reads old mid_reads mid now_reads now same c t less =
    let here = subst (λ (w : List ℕ). Traces found w [] mid now) same t in
    record {
      traces = traces_trans found words roots old mid now c.traces (traces_more found words [] roots mid now (λ w h. absurd (none_in w h)) here);
      scanned = λ w h g e. here.marks g.base (c.scanned w h g e);
      less = (let a = c.less in omega arith);
    }

pub closed : (pages : ℕ) (found : ℕ → Option Found) (words roots : List ℕ) (reads : ℕ) (old : Marking) (now_reads : ℕ) (now : Marking) → IsMap pages found → DirtyPageInvariant found words old
    → Closes found words roots reads old now_reads now → IsDone now
    → AreClosed found words roots old now
closed pages found words roots reads old now_reads now map t c d f e = (
  c.traces.within f e,
  (λ k. closure_marked pages found words roots (IsMarked old) now map (c.traces.keeps t) d c.scanned c.traces.marks k),
)

-- the words that were read
pub closed_reads : (found : ℕ → Option Found) (words roots : List ℕ) (reads : ℕ) (old : Marking) (now_reads : ℕ) (now : Marking) → Closes found words roots reads old now_reads now
    → now_reads ≤ reads + (PAGE_WORDS * (dirty_pages old + newly_pages found old now) + entry_words found old)
unfolding cost
closed_reads found words roots reads old now_reads now c =
    let l = c.less in
    let n = newly_rest found 0 old.marks now.marks c.traces.marks_len (λ i h. subst (Has now.marks) (at i) (c.traces.marks (FIRST_ADDRESS + GRANULE_BYTES * i) (subst (Has old.marks) (sym (at i)) h))) in
    let d = dirty_words old.dirty in
    omega (arith, l, n, d)
