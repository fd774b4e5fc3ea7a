use Rattle.std.proofs.Common.{◌≡◌, ℕ, ◌<◌, true, vec_len}
use Rattle.mark_bits.specs.Claims.{knows, HasPart}
use Rattle.mark_bits.specs.Tables.{view, granules_of, IsOf}
use Rattle.test_marking.specs.declared.claims.Helper.{Helper}
use Rattle.test_marking.specs.Crew.{Each, IsDoneClaiming}
use Rattle.test_marking.proofs.claims.gather.Given as goal

abbrev pub invariant-loop-helper : goal.invariant-loop-helper
invariant-loop-helper l = record {
  of : IsOf l.table l.first;
  done : Each (λ place (h : Helper). IsDoneClaiming l.table (granules_of l.table) place h.claimer) l.crew.items;
  part : HasPart (view l.first) (vec_len l.crew);
  known : vec_len l.crew < vec_len l.initial.crew → (k : ℕ) → k < granules_of l.table → knows (view l.first) k ≡ true;
}

abbrev pub decreases-loop-helper : goal.decreases-loop-helper
decreases-loop-helper l = vec_len l.crew
