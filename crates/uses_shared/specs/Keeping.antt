-- What the mutators of the example do.
use Rattle.std.specs.Prelude.{◌≡◌, ℕ, ◌<◌, List}
use Rattle.words.specs.declared.limits.TheConstants.{SLOTS}
use Rattle.words.specs.declared.class.Kind.TheVariants.{Normal}
use Rattle.heap_spec.specs.declared.call.Call.TheVariants.{Set, Load, Store, Alloc}
use Rattle.heap_spec.specs.declared.reply.Reply.TheVariants.{Done, Word}
use Rattle.heap_history.specs.Passes.{MadeEvent, HeapPass, IsLegalPass}
use Rattle.heap_history.specs.Headline.{Begun, Makes}

-- An object of two words came into register 1, and the word into register 2 and into the object.
pub record Puts (pages word : ℕ) (old new : HeapPass) : Type 0 where
  pub made : HeapPass
  pub set : HeapPass
  pub allocates : Makes pages old (Alloc 1 2 Normal) Done made
  pub sets : Makes pages made (Set 2 word) Done set
  pub stores : Makes pages set (Store 1 0 2) Done new

-- And it was loaded from there.
pub record PutsAndLoads (pages word loaded : ℕ) (old new : HeapPass) : Type 0 where
  pub put : HeapPass
  pub puts : Puts pages word old put
  pub loads : Makes pages put (Load 2 1 0) (Word loaded) new

-- The mutator did this and nothing else since it came.
pub record HasKept (pages word loaded : ℕ) (pass : HeapPass) : Type 0 where
  pub start : HeapPass
  pub begun : Begun pages start
  pub does : PutsAndLoads pages word loaded start pass

-- The mutator has then seen this whole history, and did nothing meanwhile.
pub record IsSettled (pages : ℕ) (old : HeapPass) (history : List MadeEvent) (new : HeapPass) : Type 0 where
  pub slot : new.slot ≡ old.slot
  pub mine : new.mine ≡ old.mine
  pub seen : new.seen ≡ history
  pub range : new.slot < SLOTS
  pub fine : IsLegalPass pages new
