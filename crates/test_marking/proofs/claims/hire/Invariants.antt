use Rattle.std.proofs.Common.{◌≡◌, vec_len}
use Rattle.mark_bits.specs.Claims.{HasPart}
use Rattle.mark_bits.specs.Tables.{view, IsOf}
use Rattle.test_marking.specs.declared.claims.Helper.{Helper}
use Rattle.test_marking.specs.Crew.{Each, IsReady}
use Rattle.test_marking.proofs.claims.hire.Given as goal

abbrev pub invariant-loop : goal.invariant-loop
invariant-loop l = record {
  of : IsOf l.table l.first;
  ready : Each (λ place (h : Helper). IsReady l.table place h.claimer) l.crew.items;
  part : HasPart (view l.first) (vec_len l.crew);
  size : vec_len l.crew ≡ l.counter;
}
