use Rattle.std.proofs.Common.{◌≡◌, take}
use Rattle.tracing.specs.HeapWords.{words_told}
use Rattle.tracing.proofs.heap_words.wrote.Given as goal

-- of the addresses so far the words are told
abbrev pub invariant-loop-address : goal.invariant-loop-address
invariant-loop-address l = l.words.items ≡ words_told l.heap (take l.address-index l.address-items)
