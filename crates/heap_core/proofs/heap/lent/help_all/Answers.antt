use Rattle.std.proofs.Common.{◌≡◌, ◌∙◌, ℕ, get_or, set, sym, ap, subst, arith, ⊎_elim}
use Rattle.std.proofs.lemmas.Bool.{cases_eq}
use Rattle.std.proofs.lemmas.List.{get_or_default, get_or-set_same, get_or-set_other, length-set}
use Rattle.final_pause.specs.declared.helper.Helper.{Helper}
use Rattle.final_pause.specs.Helping.{place_of}
use Rattle.final_pause.specs.Serving.{IsServing, HasServed}
use Rattle.heap_core.specs.CoreContents.{CoreContents}
use Rattle.heap_core.specs.Sharing.{core_view}
use Rattle.heap_core.proofs.Sharing.{few_more}
use Rattle.heap_core.proofs.heap.lent.help_all.Goals as goal

pub help-requires : goal.help-requires
help-requires c =
    let at : ℕ = c.loop-helper.helper-index in let h = c.helper-item.result in
    subst (λ (core : CoreContents). IsServing (core_view core c.args.lent.now.round) (get_or c.loop-helper.helper-items at h)) (sym c.deref.ensures)
    (subst (IsServing (core_view c.args.lent.now.core.value c.args.lent.now.round)) (sym (c.loop-helper.invariant.rest at h (omega arith))) (c.requires at h c.loop-helper-test.true))

pub loop-helper-preserved : goal.loop-helper-preserved
loop-helper-preserved c =
    let p = core_view c.args.lent.now.core.value c.args.lent.now.round in
    let items = c.loop-helper.helper-items in let at : ℕ = c.loop-helper.helper-index in let new = c.help.new.helper in
    let inv = c.loop-helper.invariant in let test = c.loop-helper-test.true in
    let size = inv.size in
    record {
      size = length-set items at new ∙ inv.size;
      few = few_more c.args.most at c.loop-helper.read c.help.result _ (let sum = c.saturating_add-read.ensures in omega (arith, sum)) inv.few c.help.ensures.few;
      done = λ i d lt. ⊎_elim
          (λ (e : i ≡ at).
          let h = c.helper-item.result in
          let was : get_or items at h ≡ get_or c.args.crew.now i d = inv.rest at h (omega arith) ∙ (get_or_default c.args.crew.now at h d test ∙ ap (λ (n : ℕ). get_or c.args.crew.now n d) (sym e)) in
          let is : new ≡ get_or (set items at new) i d = sym (ap (λ (n : ℕ). get_or (set items at new) n d) e ∙ get_or-set_same items at new d (omega (arith, test, size))) in
          let served : HasServed p (place_of (get_or items at h)) new = subst (λ (core : CoreContents). HasServed (core_view core c.args.lent.now.round) (place_of (get_or items at h)) new) c.deref.ensures c.help.ensures.served in
          subst (λ (k : Helper). HasServed p (place_of k) (get_or (set items at new) i d)) was (subst (HasServed p (place_of (get_or items at h))) is served))
          (λ ne. subst (HasServed p (place_of (get_or c.args.crew.now i d))) (sym (get_or-set_other items at i new d ne)) (inv.done i d (omega (arith, lt, ne))))
          (cases_eq i at);
      rest = λ i d le. get_or-set_other items at i new d (λ e. absurd (omega (arith, le, e))) ∙ inv.rest i d (omega (arith, le));
    }
