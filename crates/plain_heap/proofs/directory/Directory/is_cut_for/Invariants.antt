use Rattle.std.proofs.Common.{◌-◌}
use Rattle.words.specs.declared.limits.TheConstants.{PAGE_WORDS}
use Rattle.plain_heap.proofs.PageWords.{AreCutWords}
use Rattle.plain_heap.proofs.directory.Directory.is_cut_for.Given as goal

-- so far
abbrev pub invariant-loop-word : goal.invariant-loop-word
invariant-loop-word l = AreCutWords l.self.objects.items l.page l.length l.kind 0 l.word

abbrev pub decreases-loop-word : goal.decreases-loop-word
decreases-loop-word l = PAGE_WORDS - l.word
