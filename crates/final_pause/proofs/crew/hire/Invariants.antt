use Rattle.std.proofs.Common.{◌≡◌, All, vec_len}
use Rattle.mark_bits.specs.Claims.{HasPart}
use Rattle.mark_bits.specs.Tables.{view, IsOf}
use Rattle.final_pause.specs.Serving.{IsHired}
use Rattle.final_pause.specs.Gathering.{AreNumbered}
use Rattle.final_pause.proofs.crew.hire.Given as goal

abbrev pub invariant-loop-place : goal.invariant-loop-place
invariant-loop-place l = record {
  of : IsOf l.table l.first;
  won : (view l.first).won ≡ (view l.initial.first).won;
  size : vec_len l.crew ≡ l.place;
  part : HasPart (view l.first) l.place;
  hired : All (λ h. IsHired l.table l.pages h) l.crew.items;
  numbered : AreNumbered l.crew.items;
}
