-- The ranges of the numbers that an event carries.
use Rattle.std.specs.Prelude.{ℕ, ◌<◌}
use Rattle.words.specs.declared.limits.TheConstants.{SLOTS, REGISTERS, GLOBALS}
use Rattle.heap_spec.specs.declared.call.Call.{Call}
use Rattle.heap_spec.specs.declared.call.Call.TheVariants.{Detach, Set, Copy, Add, Sub, Get, Push, Pop, Load, Store, Alloc, Free, Base, Size, GlobalGet, GlobalPut, Link, Unlink}
use Rattle.heap_spec.specs.declared.event.Event.{Event}
use Rattle.heap_spec.specs.declared.event.Event.TheVariants.{Attach, Mutator, Begin, BeginPartial, Roots, Mark, Retrace, Finish, Sweep, Collect, Number}
use Rattle.heap_spec.specs.Layout.{word_end}

-- the number of a register
abbrev pub IsRegister : ℕ → Type 0
IsRegister r = r < REGISTERS

-- the number of a global
abbrev pub IsGlobal : ℕ → Type 0
IsGlobal g = g < GLOBALS

-- a number that a word can hold
abbrev pub IsWord : ℕ → Type 0
IsWord w = w < word_end

-- A call names registers and globals that there are, and its other numbers are words.
abbrev pub CallInRange : Call → Type 0
CallInRange Detach = Unit {0}
CallInRange (Set r w) = IsRegister r × IsWord w
CallInRange (Copy d a) = IsRegister d × IsRegister a
CallInRange (Add d a n) = IsRegister d × IsRegister a × IsWord n
CallInRange (Sub d a b) = IsRegister d × IsRegister a × IsRegister b
CallInRange (Get r) = IsRegister r
CallInRange (Push r) = IsRegister r
CallInRange (Pop d) = IsRegister d
CallInRange (Load d a n) = IsRegister d × IsRegister a × IsWord n
CallInRange (Store a n r) = IsRegister a × IsWord n × IsRegister r
CallInRange (Alloc d n kind) = IsRegister d × IsWord n
CallInRange (Free a) = IsRegister a
CallInRange (Base d a) = IsRegister d × IsRegister a
CallInRange (Size a) = IsRegister a
CallInRange (GlobalGet d g) = IsRegister d × IsGlobal g
CallInRange (GlobalPut g r) = IsGlobal g × IsRegister r
CallInRange (Link a n r) = IsRegister a × IsWord n × IsRegister r
CallInRange (Unlink a n) = IsRegister a × IsWord n

-- An event names a slot that there is, and its call is in range.
abbrev pub InRange : Event → Type 0
InRange (Mutator slot call) = (slot < SLOTS) × CallInRange call
InRange (Mark n) = IsWord n
InRange Attach = Unit {0}
InRange Begin = Unit {0}
InRange BeginPartial = Unit {0}
InRange Roots = Unit {0}
InRange Retrace = Unit {0}
InRange Finish = Unit {0}
InRange Sweep = Unit {0}
InRange Collect = Unit {0}
InRange Number = Unit {0}
