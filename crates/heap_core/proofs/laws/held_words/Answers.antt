use Rattle.heap_core.proofs.Held.{few_refused, granted_held, holders_set, holders_store, stored_held, held_stays, held_loaded}
use Rattle.heap_core.proofs.laws.held_words.Goals as goal

pub returns : goal.returns
returns c = record { few_refused = few_refused; granted = granted_held; sets = holders_set; stores = holders_store; stored = stored_held; stays = held_stays; loaded = held_loaded }
