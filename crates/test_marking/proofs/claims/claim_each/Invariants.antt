use Rattle.std.proofs.Common.{◌≡◌, ℕ, ◌<◌, true}
use Rattle.mark_bits.specs.Claims.{knows, LearnsMore}
use Rattle.mark_bits.specs.Tables.{view, IsOf}
use Rattle.test_marking.proofs.claims.claim_each.Given as goal

abbrev pub invariant-loop-bit : goal.invariant-loop-bit
invariant-loop-bit l = record {
  of : IsOf l.table l.helper.claimer;
  learns : LearnsMore (view l.fn.helper.claimer) (view l.helper.claimer);
  all : (k : ℕ) → k < l.bit → knows (view l.helper.claimer) k ≡ true;
}
