use Rattle.std.proofs.Common.{◌≡◌, ℕ, ◌+◌, ◌*◌, ◌/◌, ◌%◌, ◌<◌}
use Rattle.std.specs.Prelude.{◌↔◌}
use Rattle.std.specs.Int.{bit_at}
use Rattle.final_pause.proofs.turns.bits_if_shared.Given as goal

abbrev pub invariant-loop-i : goal.invariant-loop-i
invariant-loop-i l = record {
  turn : l.turn ≡ (l.number + 4 * l.j + l.i) % l.helpers;
  bits : (k : ℕ) → k < 64 → (bit_at l.bits k ≡ 1) ↔ ((k / 16 < l.i) × ((l.number + (64 * l.j + k) / 16) % l.helpers ≡ l.place));
}
