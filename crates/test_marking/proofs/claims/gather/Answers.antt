use Rattle.std.proofs.Common.{◌≡◌, ℕ, ◌+◌, length, vec_len, sym, subst, rules}
use Rattle.mark_bits.specs.declared.claimer_view.ClaimerView.{ClaimerView}
use Rattle.mark_bits.specs.Claims.{HasPart}
use Rattle.mark_bits.specs.Tables.{view, granules_of}
use Rattle.mark_bits.proofs.Halves.{part_joined}
use Rattle.test_marking.specs.declared.claims.Helper.{Helper}
use Rattle.test_marking.specs.Crew.{IsDoneClaiming}
use Rattle.test_marking.proofs.Crew.{each_rest, each_last}
use Rattle.test_marking.proofs.claims.gather.Goals as goal

pub loop-helper-preserved : goal.loop-helper-preserved
loop-helper-preserved c =
    let done : ℕ → Helper → Type 0 = λ place h. IsDoneClaiming c.args.table.now (granules_of c.args.table.now) place h.claimer in
    let rest = c.pop.new.self.items in let h = c.in-Some.helper in let i = c.loop-helper.invariant in let low : ℕ = vec_len c.pop.new.self in
    let len : low ≡ length rest = c.pop.new.self.ok.0 in
    let is : vec_len c.loop-helper.crew ≡ low + 1 = search rules in
    let last = each_last done rest h c.loop-helper.crew.items c.in-Some.ensures.items i.done in
    record {
      of = c.take_in.ensures.of;
      done = each_rest done rest h c.loop-helper.crew.items c.in-Some.ensures.items i.done;
      part = subst (λ (v : ClaimerView). HasPart v low) (sym c.take_in.ensures.joined)
          (part_joined (view c.loop-helper.first) (view h.claimer) low (subst (HasPart (view c.loop-helper.first)) is i.part) (subst (λ (n : ℕ). HasPart (view h.claimer) (n + 1)) (sym len) last.part));
      known = λ lt k l. c.take_in.ensures.known k l;
    }
