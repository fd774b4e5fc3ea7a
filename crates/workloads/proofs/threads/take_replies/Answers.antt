use Rattle.std.specs.Prelude.{◌≡◌, ◌+◌, [], get_or, vec_items, vec_len}
use Rattle.std.proofs.Common.{rules, arith, below_more, sym, ap, ◌∙◌}
use Rattle.std.specs.Vec.Iter.{into_iter_items}
use Rattle.workloads.proofs.threads.take_replies.Goals as goal

pub loop-job-preserved : goal.loop-job-preserved
loop-job-preserved g c =
    let was = c.loop-job.invariant in let step = c.in-Some.ensures.steps in let done = vec_len c.loop-job.replies in
    let places = c.push.ensures.by_index in let job = c.in-Some.job in
    let first = into_iter_items c.into_iter-job-iterator.result in
    let after = vec_items c.push.new.self in
    let grown : vec_len c.push.new.self ≡ done + 1 = search rules in (
      search rules,
      (λ k d below. let h = was.1 (k + 1) d in grind rules),
      (λ k d below. below_more (λ i. get_or after i [] ≡ (get_or first i d).replies.items) done
          (λ i low. places.0 i [] low ∙ was.2 i d low)
          (let next : get_or first done d ≡ job = let h = was.1 0 d in grind rules in
          places.1 [] (search rules) ∙ (c.of.ensures ∙ (ap (λ v. v.items) c.into_replies.ensures ∙ ap (λ j. j.replies.items) (sym next))))
          k (omega arith)),
      search rules,
    )
