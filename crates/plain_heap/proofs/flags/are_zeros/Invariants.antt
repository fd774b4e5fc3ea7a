use Rattle.std.proofs.Common.{◌≡◌}
use Rattle.std.specs.List.{AllWithin}
use Rattle.plain_heap.proofs.flags.are_zeros.Given as goal

-- so far
abbrev pub invariant-loop-word : goal.invariant-loop-word
invariant-loop-word l = AllWithin (λ w. w ≡ 0) l.words 0 l.word-index
