use Rattle.std.proofs.Common.{refl}
use Rattle.mpheap_c.specs.Sharing.IsHelped.{helped}
use Rattle.mpheap_c.proofs.Places.{stands}
use Rattle.mpheap_c.proofs.shares.mpheap_help.Goals as goal

pub returns-in-Some : goal.returns-in-Some
returns-in-Some c = helped c.in-Some.shares c.help.new.self (stands _ c.place.result.now _ c.place.ensures.value c.in-Some.is) refl c.help.ensures.done c.help.ensures.few c.help.ensures.again
