-- A table and its claimers, as clauses see them.
use Rattle.std.specs.Prelude.{◌≡◌, ℕ, ◌*◌, Bool, List}
use Rattle.mark_bits.specs.declared.claimer_view.ClaimerView.{ClaimerView}
use Rattle.mark_bits.specs.declared.table.Claimer.{Claimer}
use Rattle.mark_bits.specs.declared.table.MarkTable.{MarkTable}

-- what the claimer knows and has won
abbrev pub view : Claimer → ClaimerView
view c = c.seat.me.0

-- the marks when the table was made
abbrev pub start_of : MarkTable → List Bool
start_of t = t.table.shared.key.marks.value

-- the granules whose words the table has: those below this one
abbrev pub granules_of : MarkTable → ℕ
granules_of t = 64 * t.table.shared.table_id.words

-- the claimer belongs to the table
pub record IsOf (t : MarkTable) (c : Claimer) : Type 0 where
  pub table : c.seat.table_id ≡ t.table.shared.table_id
  pub start : (view c).start ≡ start_of t
