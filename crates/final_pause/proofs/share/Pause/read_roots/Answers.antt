use Rattle.std.proofs.Common.{◌≡◌, ◌+◌, ◌%◌, get_or, sym, ◌∙◌, subst, arith, below_more}
use Rattle.std.proofs.lemmas.List.Elements.{Contains-get_or}
use Rattle.mark_bits.specs.Tables.{view}
use Rattle.marker.specs.Closure.{root}
use Rattle.final_pause.specs.Pauses.{pause_view}
use Rattle.final_pause.specs.declared.helper.Helper.{Helper}
use Rattle.final_pause.specs.Helping.{IsTargetKnown}
use Rattle.final_pause.specs.Serving.{GoesOnServing, AreRootsRead}
use Rattle.final_pause.proofs.Growing.{target_more}
use Rattle.final_pause.proofs.Serving.{serves_visit, serves_trans}
use Rattle.final_pause.proofs.share.Pause.read_roots.Goals as goal
use Rattle.final_pause.proofs.share.Pause.read_roots.Goals.{then-i-self, else-i-self}

pub loop-i-preserved : goal.loop-i-preserved
loop-i-preserved g c =
    let p = pause_view c.args.self.now in let old = c.args.helper.now in let h = c.loop-i.helper in let i = c.loop-i.i in
    let inv = c.loop-i.invariant in
    elim c.if-i-self.branch [
      | then-i-self w ↦
          let v = w.visit.ensures.visits in
          let h' = w.visit.new.helper in
          subst (λ (b : Helper). GoesOnServing p old b × AreRootsRead p (view b.claimer) old.place (i + 1)) (sym w.helper-is) (
            serves_trans p old h h' inv.0 (serves_visit p c.requires.fits.ready.map (get_or p.roots i 0) h h'
                (λ f e. root (Contains-get_or p.roots i 0 (let lt = c.loop-i-test.true in omega (arith, lt))) e) v inv.0.serving),
            below_more (λ j. j % p.helpers ≡ old.place → IsTargetKnown p (view h'.claimer) (get_or p.roots j 0)) i
                (λ j low m. target_more p (view h.claimer) (view h'.claimer) v.extends.learns.known _ (inv.1 j low m)) (λ m. v.target),
          )
      | else-i-self w ↦
          subst (λ (b : Helper). GoesOnServing p old b × AreRootsRead p (view b.claimer) old.place (i + 1)) (sym w.helper-is) (
            inv.0,
            below_more (λ j. j % p.helpers ≡ old.place → IsTargetKnown p (view h.claimer) (get_or p.roots j 0)) i
                (λ j low m. inv.1 j low m) (λ m. absurd (w.if-i-self.false (m ∙ sym inv.0.place))),
          )
    ]
