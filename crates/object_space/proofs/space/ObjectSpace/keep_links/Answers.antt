use Rattle.std.proofs.Common.{length, ◌≡◌, true, false, get_or, ap, sym, ◌∙◌, arith, refl}
use Rattle.std.proofs.lemmas.List.{append-nil}
use Rattle.links.specs.declared.row.Link.{Link}
use Rattle.object_space.specs.Kept.{kept_in}
use Rattle.object_space.specs.Along.{stays}
use Rattle.object_space.proofs.Along.{kept_beside, kept_more, along_more}
use Rattle.object_space.proofs.space.ObjectSpace.keep_links.Goals as goal
use Rattle.object_space.proofs.space.ObjectSpace.keep_links.Goals.{then-keep_link, else-keep_link}

pub loop-link-preserved : goal.loop-link-preserved
loop-link-preserved c =
    let beside = c.loop-link.invariant.along.beside in
    let d : Link = record { address = 0; base = 0 } in
    let test : stays (kept_in c.args.self.now.states c.args.self.now.pending c.args.marker.now.marks) (get_or c.args.row.now c.loop-link.link-index d) ≡ c.keep_link.result
    = ap (λ kept. stays kept (get_or c.args.row.now c.loop-link.link-index d)) (sym (kept_beside c.args.self.now c.loop-link.self c.args.marker.now.marks beside)) ∙ sym c.keep_link.ensures.stays in
    let along = along_more c.args.marker.now.marks c.args.row.now c.loop-link.link-index _ d c.args.self.now c.loop-link.self c.keep_link.new.self c.loop-link-test.true refl c.loop-link.invariant.along c.keep_link.ensures.words in
    elim c.if-keep_link.branch [
      | then-keep_link w ↦ record {
        items = kept_more _ c.args.row.now c.loop-link.link-index d true _ _ c.loop-link-test.true (test ∙ w.if-keep_link.true) c.loop-link.invariant.items (ap (λ x. x.items) w.into-is ∙ w.push.ensures.items);
        few = let e = ap (λ x. x.items) w.into-is in let n = w.push.ensures.len in let few = c.loop-link.invariant.few in let l = ap (λ x. length x.items) w.into-is in omega arith;
        along = along;
      }
      | else-keep_link w ↦ record {
        items = kept_more _ c.args.row.now c.loop-link.link-index d false _ _ c.loop-link-test.true (test ∙ w.if-keep_link.false) c.loop-link.invariant.items (ap (λ x. x.items) w.into-is ∙ sym (append-nil _));
        few = let few = c.loop-link.invariant.few in let l = ap (λ x. length x.items) w.into-is in omega arith;
        along = along;
      }
    ]
