-- Which register and which global a call writes, and which register's word it passes on.
use Rattle.std.specs.Prelude.{◌≢◌, ℕ, Option, Some, None}
use Rattle.heap_spec.specs.declared.call.Call.{Call}
use Rattle.heap_spec.specs.declared.call.Call.TheVariants.{Detach, Set, Copy, Add, Sub, Get, Push, Pop, Load, Store, Alloc, Free, Base, Size, GlobalGet, GlobalPut, Link, Unlink}

-- the register that a call puts a word into, unless it is refused
abbrev pub written_register : Call → Option ℕ
written_register Detach = None
written_register (Set d w) = Some d
written_register (Copy d a) = Some d
written_register (Add d a n) = Some d
written_register (Sub d a b) = Some d
written_register (Get r) = None
written_register (Push r) = None
written_register (Pop d) = Some d
written_register (Load d a n) = Some d
written_register (Store a n r) = None
written_register (Alloc d n kind) = Some d
written_register (Free r) = None
written_register (Base d a) = Some d
written_register (Size r) = None
written_register (GlobalGet d g) = Some d
written_register (GlobalPut g r) = None
written_register (Link a n r) = None
written_register (Unlink a n) = None

-- the global that a call puts a word into
abbrev pub written_global : Call → Option ℕ
written_global (GlobalPut g r) = Some g
written_global _ = None

-- the register whose word a call puts on the stack, into an object or into a global, unless it is refused
abbrev pub passed_register : Call → Option ℕ
passed_register (Push r) = Some r
passed_register (Store a n r) = Some r
passed_register (GlobalPut g r) = Some r
passed_register _ = None

-- the first of two, if there is one, and else the second
abbrev pub first_of : Option ℕ → Option ℕ → Option ℕ
first_of None r = r
first_of (Some d) r = Some d

-- the register whose word a call brings to where the collector reads it: the one that it writes, or else passes on
abbrev pub brought_register : Call → Option ℕ
brought_register call = first_of (written_register call) (passed_register call)

-- the number is another than this one, if there is one
abbrev pub IsOther : ℕ → Option ℕ → Type 0
IsOther d None = Unit {0}
IsOther d (Some r) = d ≢ r
