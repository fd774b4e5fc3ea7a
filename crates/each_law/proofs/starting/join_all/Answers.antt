use Rattle.std.specs.Prelude.{◌≡◌, ◌+◌, get_or, vec_items, vec_len}
use Rattle.std.proofs.Common.{rules, arith, below_more, sym, subst}
use Rattle.std.specs.Vec.Iter.{into_iter_items}
use Rattle.each_law.proofs.starting.join_all.Goals as goal

-- The thread that is joined stood first among the rest, so it is the one at the next place.
pub loop-one-preserved : goal.loop-one-preserved
loop-one-preserved g c =
    let was = c.loop-one.invariant in let step = c.in-Some.ensures.steps in let done = vec_len c.loop-one.done in
    let places = c.push.ensures.by_index in let one = c.in-Some.one in
    let first = into_iter_items c.into_iter-one-iterator.result in
    let after = vec_items c.push.new.self in
    let does = g.L.Law.does in
    let grown : vec_len c.push.new.self ≡ done + 1 = search rules in (
      search rules,
      (λ k d below. let h = was.1 (k + 1) d in grind rules),
      (λ k d e below. below_more (λ i. does (get_or first i d).promise.law.value (get_or first i d).promise.job.value (get_or after i e)) done
          (λ i low. subst (does (get_or first i d).promise.law.value (get_or first i d).promise.job.value) (sym (places.0 i e low)) (was.2 i d e low))
          (let next : get_or first done d ≡ one = let h = was.1 0 d in grind rules in
          subst (does (get_or first done d).promise.law.value (get_or first done d).promise.job.value) (sym (places.1 e (search rules)))
          (subst (λ h. does h.promise.law.value h.promise.job.value c.join-job.result) (sym next) c.join-job.ensures))
          k (omega arith)),
      search rules,
    )

pub returns : goal.returns
returns g c =
    let was = c.loop-one.invariant in let began = c.into_iter-one-iterator.ensures.into_iter_gives in
    let does = g.L.Law.does in
    let whole : vec_len c.loop-one.done ≡ vec_len c.args.running = omega (arith, was.0, c.in-None.ensures.steps.0, began.1) in
    record { size = search rules; each = λ i d e below. subst (λ hs. does (get_or hs i d).promise.law.value (get_or hs i d).promise.job.value (get_or (vec_items c.loop-one.done) i e)) began.0 (was.2 i d e (search rules)) }
