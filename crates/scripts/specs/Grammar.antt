-- The grammar of a script's lines.
use Rattle.std.specs.Prelude.{◌≡◌, ℕ, ◌≤◌, ◌==◌, List, [], ◌∷◌, length, codes, decimal}
use Rattle.std.specs.List.{slice_split}
use Rattle.words.specs.declared.class.Kind.{Kind}
use Rattle.words.specs.declared.class.Kind.TheVariants.{Normal, PointerFree}
use Rattle.heap_spec.specs.declared.call.Call.{Call}
use Rattle.heap_spec.specs.declared.call.Call.TheVariants.{Detach, Set, Copy, Add, Sub, Get, Push, Pop, Load, Store, Alloc, Free, Base, Size, GlobalGet, GlobalPut, Link, Unlink}
use Rattle.heap_spec.specs.declared.event.Event.{Event}
use Rattle.heap_spec.specs.declared.event.Event.TheVariants.{Attach, Mutator, Begin, BeginPartial, Roots, Mark, Retrace, Finish, Sweep, Collect, Number}
use Rattle.scripts.specs.declared.limits.TheConstants.{LINE_BYTES}
use Rattle.heap_spec.specs.Ranges.{InRange}

-- the word of a kind
abbrev pub kind_word : Kind → List ℕ
kind_word Normal = codes "normal"
kind_word PointerFree = codes "atomic"

-- The words of a call. Numbers are written as they print: no sign, and no zero before another digit.
abbrev pub call_words : Call → List (List ℕ)
call_words Detach = codes "detach" ∷ []
call_words (Set r w) = codes "set" ∷ decimal r ∷ decimal w ∷ []
call_words (Copy d a) = codes "copy" ∷ decimal d ∷ decimal a ∷ []
call_words (Add d a n) = codes "add" ∷ decimal d ∷ decimal a ∷ decimal n ∷ []
call_words (Sub d a b) = codes "sub" ∷ decimal d ∷ decimal a ∷ decimal b ∷ []
call_words (Get r) = codes "get" ∷ decimal r ∷ []
call_words (Push r) = codes "push" ∷ decimal r ∷ []
call_words (Pop d) = codes "pop" ∷ decimal d ∷ []
call_words (Load d a n) = codes "load" ∷ decimal d ∷ decimal a ∷ decimal n ∷ []
call_words (Store a n s) = codes "store" ∷ decimal a ∷ decimal n ∷ decimal s ∷ []
call_words (Alloc d n kind) = codes "alloc" ∷ decimal d ∷ decimal n ∷ kind_word kind ∷ []
call_words (Free a) = codes "free" ∷ decimal a ∷ []
call_words (Base d a) = codes "base" ∷ decimal d ∷ decimal a ∷ []
call_words (Size a) = codes "size" ∷ decimal a ∷ []
call_words (GlobalGet d g) = codes "gget" ∷ decimal d ∷ decimal g ∷ []
call_words (GlobalPut g s) = codes "gput" ∷ decimal g ∷ decimal s ∷ []
call_words (Link a n s) = codes "link" ∷ decimal a ∷ decimal n ∷ decimal s ∷ []
call_words (Unlink a n) = codes "unlink" ∷ decimal a ∷ decimal n ∷ []

-- the words of a command: a call's line begins with its slot, a collector's with gc
abbrev pub command_words : Event → List (List ℕ)
command_words Attach = codes "attach" ∷ []
command_words (Mutator slot call) = decimal slot ∷ call_words call
command_words Begin = codes "gc" ∷ codes "begin" ∷ []
command_words BeginPartial = codes "gc" ∷ codes "partial" ∷ []
command_words Roots = codes "gc" ∷ codes "roots" ∷ []
command_words (Mark n) = codes "gc" ∷ codes "mark" ∷ decimal n ∷ []
command_words Retrace = codes "gc" ∷ codes "retrace" ∷ []
command_words Finish = codes "gc" ∷ codes "finish" ∷ []
command_words Sweep = codes "gc" ∷ codes "sweep" ∷ []
command_words Collect = codes "gc" ∷ codes "collect" ∷ []
command_words Number = codes "gc" ∷ codes "no" ∷ []

-- The words of a line: what its spaces part. Two spaces in a row part an empty word, which is no command's.
abbrev pub line_words : List ℕ → List (List ℕ)
line_words line = slice_split (λ b. b == 32) line

-- A line is a command's if it is short enough, its words are the command's, and their numbers are in range.
pub record IsLineOf (line : List ℕ) (command : Event) : Type 0 where
  pub short : length line ≤ LINE_BYTES
  pub words : line_words line ≡ command_words command
  pub in_range : InRange command

-- a bad line is no command's
abbrev pub IsBad : List ℕ → Type 0
IsBad line = (command : Event) → IsLineOf line command → ⊥
