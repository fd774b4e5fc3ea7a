use Rattle.heap_core.proofs.FreedWords.{freed_keep_cores, freed_keep_heaps, freed_keep_runs}
use Rattle.heap_core.proofs.laws.freed_words_may_change.Goals as goal

pub returns : goal.returns
returns c = record { cores = freed_keep_cores; heaps = freed_keep_heaps; runs = freed_keep_runs }
