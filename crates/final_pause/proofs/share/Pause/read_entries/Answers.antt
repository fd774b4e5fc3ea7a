use Rattle.std.proofs.Common.{ℕ, get_or, sym, subst, below_more}
use Rattle.mark_bits.specs.Tables.{view}
use Rattle.marker.specs.Marking.{entries}
use Rattle.final_pause.specs.Pauses.{pause_view}
use Rattle.final_pause.specs.Serving.{IsEntryRead}
use Rattle.final_pause.proofs.Serving.{serves_trans, entry_more}
use Rattle.final_pause.proofs.share.Pause.read_entries.Goals as goal

pub loop-entry-preserved : goal.loop-entry-preserved
loop-entry-preserved g c =
    let p = pause_view c.args.self.now in let old = c.args.helper.now in let h = c.loop-entry.helper in let number = c.loop-entry.number in
    let inv = c.loop-entry.invariant in let h' = c.read_entry.new.helper in let s = c.read_entry.ensures.serves in let place = old.place in
    let all = entries p.marker in (
      serves_trans p old h h' inv.0 s,
      (λ k d lt. below_more (λ j. IsEntryRead p (view h'.claimer) h'.carried place j (get_or all j d)) number
          (λ j low. entry_more p (view h.claimer) (view h'.claimer) h.carried h'.carried s.learns.known s.carried place j (get_or all j d) (inv.1 j d low))
          (subst (IsEntryRead p (view h'.claimer) h'.carried place number) (sym (c.in-Some.ensures.value d))
          (subst (λ (n : ℕ). IsEntryRead p (view h'.claimer) h'.carried n number c.in-Some.entry) inv.0.place c.read_entry.ensures.read))
          k lt),
    )
