use Rattle.std.proofs.Common.{◌≡◌, ℕ, ◌≤◌, length, map, take, slice_index_or}
use Rattle.object_space.specs.Many.{ZeroesEach, base_of}
use Rattle.object_space.proofs.space.allocate_many.write_bases.Given as goal

-- so far
abbrev pub invariant-loop-i : goal.invariant-loop-i
invariant-loop-i l = record {
  zeroes : ZeroesEach l.fn.class l.fn.memory (map (base_of l.page l.fn.class) (take l.i l.cells)) l.memory;
  long : length l.memory ≡ length l.fn.memory;
  bases : take l.i l.bases ≡ map (base_of l.page l.fn.class) (take l.i l.cells);
  rest : (k : ℕ) → l.i ≤ k → slice_index_or l.bases k 0 ≡ slice_index_or l.fn.bases k 0;
}
