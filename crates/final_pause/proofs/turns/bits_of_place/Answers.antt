use Rattle.std.proofs.Common.{◌≡◌, ℕ, ◌+◌, ◌*◌, ◌%◌, false, sym, ap, ◌∙◌}
use Rattle.std.specs.Prelude.{nat_lt}
use Rattle.final_pause.proofs.OwnMarks.{bit_of_all, turn_whole}
use Rattle.final_pause.proofs.turns.bits_of_place.Goals as goal

pub returns-then-number-helpers : goal.returns-then-number-helpers
returns-then-number-helpers c = λ k lt.
    let whole : nat_lt c.args.number 256 ≡ false = sym c.is_shared.ensures ∙ c.if-is_shared.false in
    let is = turn_whole c.args.number (64 * c.args.j + k) whole in (
      (λ e. ap (λ (n : ℕ). n % c.args.helpers) is ∙ c.if-number-helpers.true),
      (λ h. bit_of_all k lt),
    )
