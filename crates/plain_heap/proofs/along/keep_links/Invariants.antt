use Rattle.std.proofs.Common.{◌≡◌, ◌≤◌, length, take}
use Rattle.std.specs.Prelude.{filter}
use Rattle.links.specs.Leaving.{ClearsWords, stays_with}
use Rattle.plain_heap.specs.Along.{holds_word, has_base}
use Rattle.plain_heap.proofs.along.keep_links.Given as goal

-- so far
abbrev pub invariant-loop-link : goal.invariant-loop-link
invariant-loop-link l = record {
  items : l.into.items ≡ filter (stays_with (holds_word l.directory.objects.items) (has_base l.directory.objects.items)) (take l.link-index l.row);
  few : length l.into.items ≤ l.link-index;
  along : ClearsWords l.directory.origin (holds_word l.directory.objects.items) (has_base l.directory.objects.items) (take l.link-index l.row) l.fn.words l.words;
}
