use Rattle.std.proofs.lemmas.Option.{slice_get-get_or}
use Rattle.plain_heap.proofs.InDirectory.{one_of}
use Rattle.plain_heap.proofs.Lowest.{named_right}
use Rattle.plain_heap.proofs.directory.Directory.named_at.Goals as goal

pub returns : goal.returns
returns c =
    let here = c.in-Some.ensures.some in
    named_right c.args.self.now.objects.items c.args.marks.now c.args.bases.now c.args.index _ (slice_get-get_or c.args.bases.now c.args.index _ c.requires.within) c.in-Some.position here.0 here.1 here.2 (one_of c.args.self.now) c.args.stays.now c.requires.flags c.if-not-stays-position.false c.if-marks-position.false
