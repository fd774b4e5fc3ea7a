-- Random scripts.
use Rattle.std.specs.Prelude.{ℕ, ◌*◌, List, [], ◌∷◌, ◌++◌, replicate, map}
use Rattle.std.specs.List.{join_with_byte}
use Rattle.rand_core.specs.Steps.{first_words}
use Rattle.rand_core.specs.Pcg32Seed.{pcg32_seed}
use Rattle.rand_pcg.specs.Lcg.{Lcg}
use Rattle.rand_pcg.specs.Pcg.{pcg32, pcg32_of_seed}
use Rattle.heap_spec.specs.declared.event.Event.{Event}
use Rattle.heap_spec.specs.declared.event.Event.TheVariants.{Attach}
use Rattle.scripts.specs.Grammar.{command_words}
use Rattle.scripts.specs.Turns.{text_of}
use Rattle.workloads.specs.Draws.{drawn}

-- a command as a line, without its newline: its words with a space between two
abbrev pub line_of_command : Event → List ℕ
line_of_command command = join_with_byte 32 (command_words command)

-- the generator that a seed makes
abbrev pub seeded : ℕ → Lcg
seeded seed = pcg32_of_seed (pcg32_seed 16 seed)

-- the commands that words draw, four words each
abbrev pub commands_of : ℕ → List ℕ → List Event
commands_of mutators (x0 ∷ x1 ∷ x2 ∷ x3 ∷ words) = drawn mutators x0 x1 x2 x3 ∷ commands_of mutators words
commands_of mutators _ = []

-- the commands that so many steps draw, from the words of a generator
abbrev pub drawn_commands : ℕ → ℕ → Lcg → List Event
drawn_commands mutators steps generator = commands_of mutators (first_words pcg32 (4 * steps) generator)

-- the commands of a random script: an attach for each mutator, and then what the seed's generator draws
abbrev pub stress : ℕ → ℕ → ℕ → List Event
stress seed mutators steps = replicate mutators Attach ++ drawn_commands mutators steps (seeded seed)

-- a random script
abbrev pub stress_text : ℕ → ℕ → ℕ → List ℕ
stress_text seed mutators steps = text_of (map line_of_command (stress seed mutators steps))

-- the part of a random script that is drawn
abbrev pub drawn_text : ℕ → ℕ → Lcg → List ℕ
drawn_text mutators steps generator = text_of (map line_of_command (drawn_commands mutators steps generator))
