-- The register as plain data, and its steps.
use Rattle.std.specs.Prelude.{◌≡◌, ◌≢◌, ℕ, ◌+◌, ◌%◌, ◌^◌, ◌<◌, Bool, true, false, length, slice_index_or}
use Rattle.history.specs.declared.object.TheConstants.{COLLECTOR}
use Rattle.history.specs.declared.object.Rank.{Rank}
use Rattle.history.specs.declared.object.Rank.TheVariants as ranks
use Rattle.shared_register.specs.declared.register.Register.{Register}
use Rattle.shared_register.specs.declared.register.Call.{Call}
use Rattle.shared_register.specs.declared.register.Call.TheVariants.{Attach, Set, Add, Get, Begin, Finish, Collect, Detach}
use Rattle.shared_register.specs.declared.register.Reply.{Reply}
use Rattle.shared_register.specs.declared.register.Reply.TheVariants.{Slot, Done, Value}

-- which slots are attached, the number, and whether a cycle runs
pub record State : Type 0 where
  pub attached : ℕ → Bool
  pub value : ℕ
  pub running : Bool

-- which calls are a slot's first and its last, and which are counted
abbrev pub rank_of : Call → Rank
rank_of Attach = ranks.First
rank_of (Set n) = ranks.Plain
rank_of (Add n) = ranks.Plain
rank_of Get = ranks.Plain
rank_of Begin = ranks.Plain
rank_of Finish = ranks.Counted
rank_of Collect = ranks.Counted
rank_of Detach = ranks.Last

-- nobody is attached, no cycle runs, and this is the number
pub record IsOpening (start : ℕ) (s : State) : Type 0 where
  pub none : (k : ℕ) → s.attached k ≡ false
  pub idle : s.running ≡ false
  pub value : s.value ≡ start

-- a register stands for a state
pub record Stands (register : Register) (s : State) : Type 0 where
  pub slots : length register.attached ≡ 16
  pub attached : (k : ℕ) → k < 16 → slice_index_or register.attached k false ≡ s.attached k
  pub value : register.value ≡ s.value
  pub running : register.running ≡ s.running

-- only this slot's attachment becomes b
pub record Turns (s : State) (who : ℕ) (b : Bool) (t : State) : Type 0 where
  pub here : t.attached who ≡ b
  pub else : (k : ℕ) → k ≢ who → s.attached k ≡ t.attached k
  pub value : s.value ≡ t.value
  pub running : s.running ≡ t.running

-- an attached slot, or for the last three the collector, makes the call with this reply
abbrev pub Steps : State → ℕ → Call → Reply → State → Type 0
Steps s who Attach r t = (r ≡ Slot who) × (who < COLLECTOR) × (s.attached who ≡ false) × Turns s who true t
Steps s who (Set n) r t = (r ≡ Done) × (who < COLLECTOR) × (s.attached who ≡ true) × (t ≡ record s { value = n })
Steps s who (Add n) r t = (r ≡ Value s.value) × (who < COLLECTOR) × (s.attached who ≡ true) × (t ≡ record s { value = (s.value + n) % 2 ^ 64 })
Steps s who Get r t = (r ≡ Value s.value) × (who < COLLECTOR) × (s.attached who ≡ true) × (t ≡ s)
Steps s who Detach r t = (r ≡ Done) × (who < COLLECTOR) × (s.attached who ≡ true) × Turns s who false t
Steps s who Begin r t = (r ≡ Done) × (who ≡ COLLECTOR) × (s.running ≡ false) × (t ≡ record s { running = true })
Steps s who Finish r t = (r ≡ Done) × (who ≡ COLLECTOR) × (s.running ≡ true) × (t ≡ record s { running = false })
Steps s who Collect r t = (r ≡ Done) × (who ≡ COLLECTOR) × (t ≡ record s { running = false })

-- when a call may be made
abbrev pub Can : Register → ℕ → Call → Type 0
Can register who Attach = (who < COLLECTOR) × (slice_index_or register.attached who false ≡ false)
Can register who (Set n) = (who < COLLECTOR) × (slice_index_or register.attached who false ≡ true)
Can register who (Add n) = (who < COLLECTOR) × (slice_index_or register.attached who false ≡ true)
Can register who Get = (who < COLLECTOR) × (slice_index_or register.attached who false ≡ true)
Can register who Detach = (who < COLLECTOR) × (slice_index_or register.attached who false ≡ true)
Can register who Begin = (who ≡ COLLECTOR) × (register.running ≡ false)
Can register who Finish = (who ≡ COLLECTOR) × (register.running ≡ true)
Can register who Collect = who ≡ COLLECTOR
