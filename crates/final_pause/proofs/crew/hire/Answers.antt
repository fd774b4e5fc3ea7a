use Rattle.std.proofs.Common.{◌∙◌, All, sym, subst, rules, arith}
use Rattle.std.proofs.lemmas.List.Elements.{All-push}
use Rattle.final_pause.specs.declared.helper.Helper.{Helper}
use Rattle.final_pause.proofs.Numbering.{numbered_push}
use Rattle.final_pause.specs.Serving.{IsHired}
use Rattle.final_pause.proofs.crew.hire.Goals as goal

pub loop-place-preserved : goal.loop-place-preserved
loop-place-preserved c =
    let hired = λ (h : Helper). IsHired c.args.table.now c.args.pages h in
    record {
      of = search rules;
      won = search rules;
      size = search rules;
      part = c.in_ok-new_helper.ensures.part;
      hired = subst (All hired) (sym c.in_ok-push.ensures.items) (All-push hired c.loop-place.crew.items c.in_ok-new_helper.field-0 c.loop-place.invariant.hired c.in_ok-new_helper.ensures.hired);
      numbered = numbered_push c.loop-place.crew.items _ c.in_ok-new_helper.field-0 c.in_ok-push.ensures.items c.loop-place.invariant.numbered
          (c.in_ok-new_helper.ensures.place ∙ sym (let ok = c.loop-place.crew.ok.0 in let is = c.loop-place.invariant.size in omega arith));
    }
