use Rattle.std.proofs.Common.{sym}
use Rattle.object_space.proofs.Kept.{kept_map}
use Rattle.heap_view.proofs.Shows.{is_word}
use Rattle.object_space.proofs.space.ObjectSpace.keep_link.Goals as goal

pub write-requires-clause-address : goal.write-requires-clause-address
write-requires-clause-address c = is_word _ _ (kept_map _ _ _ c.in-Some.ensures.lawful.map) _ c.in-Some.ensures.long _ c.in-Some.field-0 (sym c.in-Some.ensures.found) c.requires.aligned
