use Rattle.std.proofs.Common.{◌≡◌, ℕ, ◌+◌, ◌<◌, length}
use Rattle.std.specs.Prelude.{slice_index_or}
use Rattle.marker.specs.Begun.{IsSeen, none_begun}
use Rattle.marker.proofs.together.read_firsts.Given as goal

abbrev pub invariant-loop-k : goal.invariant-loop-k
invariant-loop-k l = record {
  count : length l.firsts.items ≡ l.k;
  each : (k : ℕ) → k < l.k → IsSeen l.initial.reader.moments (slice_index_or l.begun.items k none_begun).base (slice_index_or l.firsts.items k 0);
  words : l.reader.words ≡ l.initial.reader.words;
  moments : l.reader.moments ≡ l.initial.reader.moments;
  reads : l.reader.reads ≡ l.initial.reader.reads + l.k;
}
