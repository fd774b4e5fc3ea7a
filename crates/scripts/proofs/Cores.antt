-- A new core, and one call more of it.
use Rattle.std.proofs.Common.{ℕ, List, [], ◌∷◌, ◌++◌}
use Rattle.heap_spec.specs.Runs.{Told}
use Rattle.heap_core.specs.Acts.{IsAct, none, more}
use Rattle.heap_core.specs.CoreContents.{CoreContents, IsCore}
use Rattle.heap_core.specs.Opening.{IsNew}
use Rattle.scripts.specs.Cores.{AreCallsOfNew}

-- no call
pub no_calls : (pages : ℕ) (core : CoreContents) → IsNew pages core → AreCallsOfNew pages [] core
no_calls pages core new = record { opened = core; is_new = new; acts = none }

-- one call more
pub call_on : (pages : ℕ) (old new : CoreContents) (told : List Told) (next : Told) → AreCallsOfNew pages told old → IsAct old next.event next.reply new → IsCore new → AreCallsOfNew pages (told ++ next ∷ []) new
call_on pages old new told next calls act core = record { opened = calls.opened; is_new = calls.is_new; acts = more next calls.acts act core }
