use Rattle.std.proofs.Common.{◌≡◌, ℕ, ◌+◌, ◌*◌, ◌%◌, ◌<◌, ap, ◌∙◌, mod-lt, arith}
use Rattle.std.proofs.lemmas.Nat.Bits.{bit_at-zero}
use Rattle.final_pause.proofs.OwnMarks.{turn_next, bits_next}
use Rattle.final_pause.proofs.turns.bits_if_shared.Goals as goal

pub loop-i-init : goal.loop-i-init
loop-i-init c = record {
  turn = ap (λ (n : ℕ). n % c.args.helpers) (let e : c.args.number + 4 * c.args.j ≡ c.args.number + 4 * c.args.j + 0 = omega arith in e);
  bits = λ k lt. ((λ e. absurd (let z = bit_at-zero k in omega (arith, e, z))), (λ h. absurd (let z = h.0 in omega (arith, z))));
}

pub turn_after-turn-requires : goal.turn_after-turn-requires
turn_after-turn-requires c =
    let is = c.loop-i.invariant.turn in let some = c.requires.some in
    let low : (c.args.number + 4 * c.args.j + c.loop-i.i) % c.args.helpers < c.args.helpers = mod-lt (c.args.number + 4 * c.args.j + c.loop-i.i) some in
    omega (arith, is, low)

pub loop-i-preserved : goal.loop-i-preserved
loop-i-preserved c = record {
  turn = c.turn_after-turn.ensures ∙ turn_next (c.args.number + 4 * c.args.j + c.loop-i.i) c.args.helpers c.loop-i.turn c.loop-i.invariant.turn
      ∙ ap (λ (n : ℕ). n % c.args.helpers) (let e : c.args.number + 4 * c.args.j + c.loop-i.i + 1 ≡ c.args.number + 4 * c.args.j + (c.loop-i.i + 1) = omega arith in e);
  bits = bits_next c.args.helpers c.args.place c.args.number c.args.j c.loop-i.i c.loop-i.turn c.loop-i.bits c.bits_of_turn-bits.result c.loop-i.invariant.turn c.loop-i.invariant.bits c.bits_of_turn-bits.ensures;
}

pub returns : goal.returns
returns c = λ k lt.
    let b = c.loop-i.invariant.bits k lt in let t = c.loop-i-test.false in (
      (λ e. (b.0 e).1),
      (λ h. b.1 (omega (arith, t, lt), h)),
    )
