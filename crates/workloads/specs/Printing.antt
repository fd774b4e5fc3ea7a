-- How the replies of a workload are printed.
use Rattle.std.specs.Prelude.{ℕ, List, [], ◌∷◌, ◌++◌, ◌+◌, codes, decimal, flat_map}
use Rattle.heap_spec.specs.declared.reply.Reply.{Reply}
use Rattle.scripts.specs.Lines.{newline}
use Rattle.scripts.specs.Printing.{reply_line}

-- what each actor of a workload was answered, in the order of its lines
pub record ActorReplies : Type 0 where
  pub mutators : List (List Reply)
  pub collector : List Reply

-- reply lines, one after another
abbrev pub replies_text : ℕ → List Reply → List ℕ
replies_text pages replies = flat_map (reply_line pages) replies

-- the line before a mutator's replies
abbrev pub mutator_line : ℕ → List ℕ
mutator_line slot = codes "mutator " ++ decimal slot ++ newline ∷ []

-- the replies of the mutators from this slot on, each mutator's below its line
abbrev pub mutators_text : ℕ → ℕ → List (List Reply) → List ℕ
mutators_text pages slot [] = []
mutators_text pages slot (replies ∷ rest) = mutator_line slot ++ replies_text pages replies ++ mutators_text pages (slot + 1) rest

-- the line before the collector's replies
abbrev pub collector_line : List ℕ
collector_line = codes "collector" ++ newline ∷ []

-- all replies: each mutator's, from slot 0 on, and then the collector's
abbrev pub all_text : ℕ → ActorReplies → List ℕ
all_text pages replies = mutators_text pages 0 replies.mutators ++ collector_line ++ replies_text pages replies.collector
