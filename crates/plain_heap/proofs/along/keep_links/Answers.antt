use Rattle.std.proofs.Common.{length, ◌≡◌, true, false, get_or, refl, ap, sym, ◌∙◌, arith}
use Rattle.std.proofs.lemmas.List.{append-nil}
use Rattle.links.specs.declared.row.Link.{Link}
use Rattle.links.specs.Leaving.{stays_with}
use Rattle.plain_heap.specs.Along.{holds_word, has_base}
use Rattle.plain_heap.proofs.Leaving.{along_more, kept_more}
use Rattle.plain_heap.proofs.along.keep_links.Goals as goal
use Rattle.plain_heap.proofs.along.keep_links.Goals.{then-keep_link, else-keep_link}

pub loop-link-preserved : goal.loop-link-preserved
loop-link-preserved c =
    let d : Link = record { address = 0; base = 0 } in
    let test : stays_with (holds_word c.args.directory.now.objects.items) (has_base c.args.directory.now.objects.items) (get_or c.args.row.now c.loop-link.link-index d) ≡ c.keep_link.result = sym c.keep_link.ensures.stays in
    let along = along_more _ c.args.directory.now.objects.items c.args.row.now c.loop-link.link-index _ d c.args.words.now c.loop-link.words c.keep_link.new.words c.loop-link-test.true refl c.loop-link.invariant.along c.keep_link.ensures.words in
    elim c.if-keep_link.branch [
      | then-keep_link w ↦ record {
        items = kept_more _ c.args.row.now c.loop-link.link-index d true _ _ c.loop-link-test.true (test ∙ w.if-keep_link.true) c.loop-link.invariant.items (ap (λ x. x.items) w.into-is ∙ w.push.ensures.items);
        few = let e = ap (λ x. x.items) w.into-is in let n = w.push.ensures.len in let few = c.loop-link.invariant.few in let l = ap (λ x. length x.items) w.into-is in omega arith;
        along = along;
      }
      | else-keep_link w ↦ record {
        items = kept_more _ c.args.row.now c.loop-link.link-index d false _ _ c.loop-link-test.true (test ∙ w.if-keep_link.false) c.loop-link.invariant.items (ap (λ x. x.items) w.into-is ∙ sym (append-nil _));
        few = let few = c.loop-link.invariant.few in let l = ap (λ x. length x.items) w.into-is in omega arith;
        along = along;
      }
    ]
