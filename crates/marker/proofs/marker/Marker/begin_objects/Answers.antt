use Rattle.std.proofs.Common.{◌≡◌, ◌+◌, ◌∙◌, ◌++◌, ◌∷◌, [], length, get_or, sym, ap, subst, ⊎_elim, append_assoc, arith}
use Rattle.std.specs.Prelude.{Contains}
use Rattle.std.proofs.lemmas.List.{length_push}
use Rattle.std.proofs.lemmas.List.Elements.{Contains-append_cases}
use Rattle.words.specs.Bits.{Has}
use Rattle.words.specs.Layout.{granule}
use Rattle.block_map.specs.FoundIn.{found_in}
use Rattle.marker.specs.declared.together.Begun.{Begun}
use Rattle.marker.specs.Marking.{Marking, with_stack}
use Rattle.marker.specs.Entries.{AreUnreadFrom}
use Rattle.marker.specs.Begun.{IsBegun, entry_begun, entries_begun, words_begun}
use Rattle.marker.proofs.Beginning.{entries_push, words_push}
use Rattle.marker.proofs.Finishing.{begun_more}
use Rattle.marker.proofs.Known.{from_first, from_more}
use Rattle.marker.proofs.marker.Marker.begin_objects.Goals as goal

pub loop-preserved : goal.loop-preserved
loop-preserved c =
    let i = c.loop.invariant in
    let e = c.begin_top.ensures in
    let new : Marking = c.begin_top.new.self in
    let items = c.loop.begun.items in
    let one : Begun = c.begin_top.result in
    let marks : c.loop.self.marks ≡ new.marks = ap (λ (m : Marking). m.marks) e.taken in
    let put = c.push.ensures.items in
    record {
      count = ap length put ∙ length_push items one ∙ ap (λ n. n + 1) i.count;
      begun = λ b h. ⊎_elim
          (λ o. begun_more (length c.args.map.now) (found_in c.args.map.now) c.loop.self new (λ k has. subst (λ r. Has r (granule k)) marks has) items i.begun b o)
          (λ (n : Contains (one ∷ []) b).
          let l = n.1 in let z : n.0 ≡ 0 = omega arith in
          subst (IsBegun (length c.args.map.now) (found_in c.args.map.now) new) (sym (ap (λ j. get_or (one ∷ []) j b) z) ∙ n.2) e.begun)
          (Contains-append_cases items (one ∷ []) b (subst (λ l. Contains l b) put h));
      taken = i.taken ∙ ap (λ (m : Marking). with_stack m (m.stack ++ entries_begun items)) e.taken
          ∙ ap (λ l. with_stack new l) (append_assoc new.stack (entry_begun one ∷ []) (entries_begun items) ∙ ap (λ l. new.stack ++ l) (sym (entries_push items one) ∙ ap entries_begun (sym put)));
      known = from_more (found_in c.args.map.now) c.loop.self new c.args.known new.stack (λ k has. subst (λ r. Has r (granule k)) marks has)
          (from_first (found_in c.args.map.now) c.loop.self c.args.known new.stack (entry_begun one ∷ []) (subst (AreUnreadFrom (found_in c.args.map.now) c.loop.self c.args.known) (ap (λ (m : Marking). m.stack) e.taken) i.known));
      left = (let w = ap words_begun put ∙ words_push items one in let l = e.len in let f = c.from-left.ensures in let k = i.left in omega arith);
    }
