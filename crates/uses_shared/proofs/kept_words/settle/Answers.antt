use Rattle.std.proofs.Common.{◌≡◌, ◌∙◌, List, sym, ap, subst, arith}
use mathlib.Core.List.{IsPrefix}
use Rattle.history.specs.Histories.{counted_up}
use Rattle.history.proofs.Fronts.{prefix_trans}
use Rattle.history.proofs.Growing.{prefix_of}
use Rattle.heap_history.specs.Passes.{MadeEvent, HeapPass}
use Rattle.heap_history.specs.Alone.{attaches}
use Rattle.uses_shared.proofs.kept_words.settle.Goals as goal

pub returns : goal.returns
returns g c =
    let first : HeapPass = c.tell.new.collector in
    let second : HeapPass = c.tell-2.new.collector in
    let third : HeapPass = c.attaches_of-came.new.collector in
    let fourth : HeapPass = c.tell-3.new.collector in
    let last : HeapPass = c.tell-4.new.collector in
    let more = prefix_of second.slot second.seen third.seen c.attaches_of-came.ensures.looks.seen in
    let still : fourth.seen ≡ third.seen = c.tell-3.ensures.stays (subst (λ (l : List MadeEvent). IsPrefix l third.seen) (sym c.tell.ensures.both) (prefix_trans first.seen second.seen third.seen c.tell-2.ensures.grows more)) in
    let same : last.seen ≡ fourth.seen = c.tell-4.ensures.stays (subst (λ (l : List MadeEvent). IsPrefix l fourth.seen) (sym c.tell-2.ensures.both) (subst (λ (l : List MadeEvent). IsPrefix second.seen l) (sym still) more)) in
    let one_slot = c.tell-3.ensures.keeps.0 ∙ (c.tell.ensures.keeps.0 ∙ c.apart.ensures.me.0) in
    let other_slot = c.tell-4.ensures.keeps.0 ∙ (c.tell-2.ensures.keeps.0 ∙ c.apart.ensures.other.0) in
    record {
      apart = λ e. c.apart.ensures.apart (sym one_slot ∙ (e ∙ other_slot));
      one = record {
        slot = one_slot;
        mine = c.tell-3.ensures.keeps.1 ∙ (c.tell.ensures.keeps.1 ∙ c.apart.ensures.me.1);
        seen = c.tell-3.ensures.both ∙ sym same;
        range = (let is = c.slot-one.ensures.slot in let range = c.slot-one.ensures.range in omega (arith, is, range));
        fine = c.tell-3.ensures.fine;
      };
      other = record {
        slot = other_slot;
        mine = c.tell-4.ensures.keeps.1 ∙ (c.tell-2.ensures.keeps.1 ∙ c.apart.ensures.other.1);
        seen = c.tell-4.ensures.both;
        range = (let is = c.slot-other.ensures.slot in let range = c.slot-other.ensures.range in omega (arith, is, range));
        fine = c.tell-4.ensures.fine;
      };
      fine = c.tell-4.ensures.collector_fine;
      came = c.attaches_of-came.ensures.count ∙ ap (λ (l : List MadeEvent). counted_up (attaches l)) (sym (same ∙ still));
    }
