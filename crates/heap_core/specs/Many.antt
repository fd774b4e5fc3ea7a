-- Requests that one call makes one after the other.
use Rattle.std.specs.Prelude.{◌≡◌, ℕ, ◌<◌, ◌≤◌, List, [], ◌∷◌, ◌++◌, Result, Ok, Err, ⊤, length, slice_index_or, take}
use Rattle.words.specs.declared.class.Kind.{Kind}
use Rattle.words.specs.declared.refusal.Refusal.{Refusal}
use Rattle.heap_spec.specs.declared.call.Call.TheVariants.{Alloc}
use Rattle.heap_spec.specs.declared.event.Event.TheVariants.{Mutator}
use Rattle.heap_spec.specs.declared.reply.Reply.TheVariants.{Done, Refused}
use Rattle.heap_core.specs.CoreContents.{CoreContents}
use Rattle.heap_core.specs.MutatorCalls.{IsCall}
use Rattle.heap_core.specs.Granted.{HoldsWord}

-- Requests of one size were granted one after the other, and these are the bases: what the register held behind each.
pub data Grants (slot into words : ℕ) (kind : Kind) (old : CoreContents) : List ℕ → CoreContents → Type 0 where
  begun : Grants slot into words kind old [] old
  granted : {bases : List ℕ} {base : ℕ} {mid new : CoreContents} → Grants slot into words kind old bases mid
      → IsCall mid (Mutator slot (Alloc into words kind)) Done new → HoldsWord new.roots slot into base → Grants slot into words kind old (bases ++ base ∷ []) new

-- All requests were granted, or one was refused, which was the last.
pub data Requests (slot into words : ℕ) (kind : Kind) (old : CoreContents) (bases : List ℕ) (most : ℕ) : Result ⊤ Refusal → CoreContents → Type 0 where
  all : {new : CoreContents} {done : ⊤} → length bases ≡ most → Grants slot into words kind old bases new → Requests slot into words kind old bases most (Ok done) new
  refused : {mid new : CoreContents} {why : Refusal} → length bases < most → Grants slot into words kind old bases mid → IsCall mid (Mutator slot (Alloc into words kind)) (Refused why) new
      → Requests slot into words kind old bases most (Err why) new

-- What was made of a row of bases: so many of them were written, from the first on, and the others are as they were.
pub record AreWritten (slot into words : ℕ) (kind : Kind) (old : CoreContents) (before after : List ℕ) (count : ℕ) (answer : Result ⊤ Refusal) (new : CoreContents) : Type 0 where
  pub size : length after ≡ length before
  pub few : count ≤ length after
  pub rest : (k : ℕ) → count ≤ k → slice_index_or after k 0 ≡ slice_index_or before k 0
  pub made : Requests slot into words kind old (take count after) (length after) answer new
