-- A call that makes many requests one after the other.
use Rattle.std.specs.Prelude.{ℕ, List, Result, ⊤}
use Rattle.words.specs.declared.class.Kind.{Kind}
use Rattle.words.specs.declared.refusal.Refusal.{Refusal}
use Rattle.heap_core.specs.CoreContents.{CoreContents}
use Rattle.heap_core.specs.Many.{AreWritten}
use Rattle.mpheap_c.specs.Crossing.{TellsDone}

-- a call that asks for as many objects as there is room for bases, and answers a status and how many came
abbrev pub IsManyCall : ℕ → ℕ → ℕ → Kind → ℕ → List ℕ → List ℕ → ℕ → CoreContents → CoreContents → Type 0
IsManyCall slot into words kind status before after count old new = (answer : Result ⊤ Refusal) × TellsDone status answer × AreWritten slot into words kind old before after count answer new
