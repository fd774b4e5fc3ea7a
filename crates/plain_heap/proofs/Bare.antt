-- A new object shares no byte with those that are there, if none of these has the first byte of one of its words.
use Rattle.std.proofs.Common.{◌≡◌, ℕ, ◌+◌, ◌-◌, ◌*◌, ◌/◌, ◌%◌, ◌<◌, List, get_or, arith}
use Rattle.std.specs.Prelude.{All}
use Rattle.std.proofs.lemmas.List.Elements.{All-contains, Contains-get_or}
use Rattle.words.specs.declared.limits.TheConstants.{WORD_BYTES}
use Rattle.heap_spec.specs.Layout.{PointsInto}
use Rattle.plain_heap.specs.declared.extent.Extent.{Extent}
use Rattle.plain_heap.specs.Places.{IsFresh}

module _ (row : List Extent) (evens : All (λ e. e.base % WORD_BYTES ≡ 0) row) (e : Extent) (even : e.base % WORD_BYTES ≡ 0) where
  pub fresh_by : ((i : ℕ) → i < e.length → All (λ f. PointsInto (e.base + WORD_BYTES * i) f.base f.length → ⊥) row) → IsFresh row e
  fresh_by bare f w has re rf =
      let straight = All-contains (λ (g : Extent). g.base % WORD_BYTES ≡ 0) row f evens has in
      let i : ℕ = (w - e.base) / WORD_BYTES in
      All-contains (λ (g : Extent). PointsInto (e.base + WORD_BYTES * i) g.base g.length → ⊥) row f (bare i (omega (arith, re.0, re.1))) has
      (omega (arith, re.0, re.1, rf.0, rf.1), omega (arith, re.0, re.1, rf.0, rf.1))

  pub not_fresh : (i : ℕ) → i < e.length → (All (λ f. PointsInto (e.base + WORD_BYTES * i) f.base f.length → ⊥) row → ⊥) → IsFresh row e → ⊥
  not_fresh i lt shared fresh = shared (λ k d below rf. fresh (get_or row k d) (e.base + WORD_BYTES * i) (Contains-get_or row k d below) (omega arith, omega arith) rf)
