-- A new core and the run without events.
use Rattle.std.proofs.Common.{ℕ, [], sym, ◌∙◌, true≢false, arith}
use Rattle.std.proofs.lemmas.Option.{none-some}
use Rattle.heap_spec.specs.Runs.{opening_start}
use Rattle.heap_core.specs.CoreContents.{CoreContents}
use Rattle.heap_core.specs.Following.{Follows}
use Rattle.heap_core.specs.Opening.{IsNew}

pub new_follows : (pages : ℕ) (c : CoreContents) → IsNew pages c → Follows c (opening_start pages) []
new_follows pages c new = record {
  stands = new.stands;
  phase = new.phase;
  count = new.count;
  small = let none = new.count in omega arith;
  needs = new.needs_full;
  past = omega arith;
  aged = λ idle base o has marked. absurd (none-some o has);
  kept = λ idle base o has old. absurd (none-some o has);
  touched = λ on base o has marked. absurd (true≢false (sym on ∙ new.phase));
}
