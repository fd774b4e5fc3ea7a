use Rattle.std.proofs.Common.{refl}
use Rattle.marker.proofs.marker.Marker.mark_inside.Goals as goal

pub returns-then-not-is_marked : goal.returns-then-not-is_marked
returns-then-not-is_marked c objects word is = c.mark_base.ensures objects word c.args.found is refl refl refl
