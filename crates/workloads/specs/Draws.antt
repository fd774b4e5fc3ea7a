-- The command that four words of a generator draw.
use Rattle.std.specs.Prelude.{ℕ, ◌+◌, ◌/◌, ◌%◌, nat_lt, if◌then◌else◌, List, [], ◌∷◌, slice_index_or}
use Rattle.words.specs.declared.class.Kind.TheVariants.{Normal, PointerFree}
use Rattle.heap_spec.specs.declared.call.Call.{Call}
use Rattle.heap_spec.specs.declared.call.Call.TheVariants.{Detach, Set, Copy, Push, Pop, Load, Store, Alloc, Free, GlobalPut}
use Rattle.heap_spec.specs.declared.event.Event.{Event}
use Rattle.heap_spec.specs.declared.event.Event.TheVariants.{Attach, Mutator, Begin, Roots, Mark, Retrace, Finish, Sweep, Collect}

-- the calls that are drawn, by registers p and q and a further word
abbrev pub drawn_calls : ℕ → ℕ → ℕ → List Call
drawn_calls p q x =
    Alloc p (1 + x % 40) Normal
    ∷ Alloc p (1 + x % 40) Normal
    ∷ Alloc p (1 + x % 40) PointerFree
    ∷ Alloc p (200 + x % 400) Normal
    ∷ Load p q (x % 4)
    ∷ Load p q (x % 4)
    ∷ Load p q (x % 4)
    ∷ Store p (x % 4) q
    ∷ Store p (x % 4) q
    ∷ Store p (x % 4) q
    ∷ Copy p q
    ∷ Set p 0
    ∷ Push p
    ∷ Pop p
    ∷ Free p
    ∷ GlobalPut (x % 64) p
    ∷ []

-- the collector's commands that are drawn, by a further word
abbrev pub drawn_collections : ℕ → List Event
drawn_collections x = Begin ∷ Roots ∷ Mark (1 + x % 64) ∷ Mark (1 + x % 64) ∷ Retrace ∷ Finish ∷ Sweep ∷ Collect ∷ []

-- The command that four words draw: a call of one of the mutators, or a command of the collector. The lists have 16 and 8
-- entries, so the last argument of `slice_index_or` is never taken.
abbrev pub drawn : ℕ → ℕ → ℕ → ℕ → ℕ → Event
drawn mutators x0 x1 x2 x3 =
    if nat_lt (x0 % (mutators + 1)) mutators
    then Mutator (x0 % (mutators + 1)) (slice_index_or (drawn_calls (x2 % 16) (x2 / 16 % 16) x3) (x1 % 16) Detach)
    else slice_index_or (drawn_collections x3) (x1 % 8) Attach
