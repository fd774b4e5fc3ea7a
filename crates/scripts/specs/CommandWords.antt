-- The words of a call, and of a command.
use Rattle.std.specs.Prelude.{◌≡◌, ℕ, Option, List, MatchOption}
use Rattle.heap_spec.specs.declared.call.Call.{Call}
use Rattle.heap_spec.specs.declared.event.Event.{Event}
use Rattle.heap_spec.specs.Ranges.{CallInRange, InRange}
use Rattle.scripts.specs.Grammar.{call_words, command_words}

-- the words are those of a call, with its numbers in range
pub record AreCallWords (words : List (List ℕ)) (call : Call) : Type 0 where
  pub are : words ≡ call_words call
  pub in_range : CallInRange call

-- the call whose words these are, and none exactly if they are no call's
abbrev pub ReadsCall : List (List ℕ) → Option Call → Type 0
ReadsCall words result = MatchOption result ((call : Call) → AreCallWords words call → ⊥) (λ call. AreCallWords words call)

-- the words are those of a command, with its numbers in range
pub record AreCommandWords (words : List (List ℕ)) (command : Event) : Type 0 where
  pub are : words ≡ command_words command
  pub in_range : InRange command

-- the command whose words these are, and none exactly if they are no command's
abbrev pub ReadsCommand : List (List ℕ) → Option Event → Type 0
ReadsCommand words result = MatchOption result ((command : Event) → AreCommandWords words command → ⊥) (λ command. AreCommandWords words command)
