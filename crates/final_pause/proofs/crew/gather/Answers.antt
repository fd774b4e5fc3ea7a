use Rattle.std.proofs.Common.{rules, ◌≡◌, ℕ, ◌+◌, List, [], ◌∷◌, ◌++◌, length, vec_len, get_or, ap, ◌∙◌, subst, arith}
use Rattle.std.proofs.Math.Seq.{get_or-append_seam}
use Rattle.std.proofs.Math.ListN.{get_or-append}
use Rattle.final_pause.specs.Pauses.{pause_view}
use Rattle.final_pause.specs.declared.helper.Helper.{Helper}
use Rattle.final_pause.specs.Serving.{HasServed}
use Rattle.final_pause.specs.Gathering.{HasGathered}
use Rattle.final_pause.proofs.Gathering.{gathers_next}
use Rattle.final_pause.proofs.crew.gather.Goals as goal

pub loop-helper-preserved : goal.loop-helper-preserved
loop-helper-preserved c =
    let p = pause_view c.args.pause.now in
    let inv = c.loop-helper.invariant in let low : ℕ = vec_len c.pop.new.self in let h = c.in-Some.helper in
    let pop = c.in-Some.ensures in let k = c.take_in.ensures in
    let is : vec_len c.loop-helper.crew ≡ low + 1 = search rules in
    let rest : List Helper = c.pop.new.self.items in
    let len : low ≡ length rest = c.pop.new.self.ok.0 in
    let last : get_or c.loop-helper.crew.items low h ≡ h = ap (λ (l : List Helper). get_or l low h) pop.items ∙ (ap (λ (m : ℕ). get_or (rest ++ h ∷ []) m h) len ∙ get_or-append_seam rest h [] h) in
    let done : HasServed p low h = subst (HasServed p low) last (inv.done low h (omega (arith, is))) in
    record {
      gathered = gathers_next p low c.loop-helper.first c.take_in.new.first c.loop-helper.dirty c.take_in.new.dirty c.loop-helper.carried c.take_in.new.carried h
          (subst (λ (m : ℕ). HasGathered p m c.loop-helper.first c.loop-helper.dirty c.loop-helper.carried) is inv.gathered) done k.of k.joined k.size k.each k.old k.more k.carried_size k.each_carried k.old_carried k.more_carried;
      done = λ i d lt.
          let same : get_or c.loop-helper.crew.items i d ≡ get_or rest i d = ap (λ (l : List Helper). get_or l i d) pop.items ∙ get_or-append rest (h ∷ []) d i (omega (arith, lt, len)) in
          subst (HasServed p i) same (inv.done i d (omega (arith, is, lt)));
    }
