-- Helpers of one table.
use Rattle.std.specs.Prelude.{◌≡◌, ℕ, ◌+◌, ◌<◌, true, List, length, slice_index_or}
use Rattle.mark_bits.specs.declared.table.MarkTable.{MarkTable}
use Rattle.mark_bits.specs.declared.table.Claimer.{Claimer}
use Rattle.mark_bits.specs.Tables.{view, IsOf}
use Rattle.mark_bits.specs.Claims.{knows, HasPart}

-- the claimer that was cut off for the helper of this place claims on the table, with half of what was left
pub record IsReady (t : MarkTable) (place : ℕ) (c : Claimer) : Type 0 where
  pub of : IsOf t c
  pub part : HasPart (view c) (place + 1)

-- and knows that the first n bits are set
pub record IsDoneClaiming (t : MarkTable) (n place : ℕ) (c : Claimer) : Type 0 where
  pub of : IsOf t c
  pub part : HasPart (view c) (place + 1)
  pub all : (k : ℕ) → k < n → knows (view c) k ≡ true

-- each helper is so at its place
abbrev pub Each : {A : Type 0} → (ℕ → A → Type 0) → List A → Type 0
Each {A} P crew = (i : ℕ) (d : A) → i < length crew → P i (slice_index_or crew i d)
