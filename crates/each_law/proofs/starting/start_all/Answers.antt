use Rattle.std.specs.Prelude.{◌≡◌, ◌+◌, get_or, vec_items, vec_len}
use Rattle.std.proofs.Common.{rules, arith, below_more, sym, ap, subst, ◌∙◌}
use Rattle.std.proofs.lemmas.List.Elements.{All-rest}
use Rattle.std.specs.Vec.Iter.{into_iter_items}
use Rattle.each_law.proofs.starting.start_all.Goals as goal

-- The job that is started stood first among the rest, so it is the one at the next place.
pub loop-job-preserved : goal.loop-job-preserved
loop-job-preserved g c =
    let was = c.loop-job.invariant in let step = c.in-Some.ensures.steps in let started = vec_len c.loop-job.running in
    let places = c.push.ensures.by_index in let job = c.in-Some.job in
    let first = into_iter_items c.into_iter-job-iterator.result in
    let after = vec_items c.push.new.self in
    let law = c.args.law.now in
    let grown : vec_len c.push.new.self ≡ started + 1 = search rules in (
      search rules,
      (λ k e below. let h = was.1 (k + 1) e in grind rules),
      (λ k d e below. below_more (λ i. ((get_or after i d).promise.job.value ≡ get_or first i e) × ((get_or after i d).promise.law.value ≡ law)) started
          (λ i low. (ap (λ h. h.promise.job.value) (places.0 i d low) ∙ (was.2 i d e low).0, ap (λ h. h.promise.law.value) (places.0 i d low) ∙ (was.2 i d e low).1))
          (let next : get_or first started e ≡ job = let h = was.1 0 e in grind rules in
          (ap (λ h. h.promise.job.value) (places.1 d (search rules)) ∙ (c.in-Some-start.ensures.0 ∙ sym next), ap (λ h. h.promise.law.value) (places.1 d (search rules)) ∙ c.in-Some-start.ensures.1))
          k (omega arith)),
      search rules,
      All-rest (λ j. g.F.Fn.pre c.args.work.now (j, tt)) job (into_iter_items c.next.new.self) (into_iter_items c.loop-job.job-iterator) step.0 was.4,
    )

pub returns-clause-started : goal.returns-clause-started
returns-clause-started g c = λ _.
    let was = c.loop-job.invariant in let began = c.into_iter-job-iterator.ensures.into_iter_gives in
    let law = c.args.law.now in
    let whole : vec_len c.loop-job.running ≡ vec_len c.args.jobs = omega (arith, was.0, c.in-None.ensures.steps.0, began.1) in
    record {
      size = search rules;
      each = λ i d e below. (
        subst (λ js. (get_or (vec_items c.loop-job.running) i d).promise.job.value ≡ get_or js i e) began.0 (was.2 i d e (search rules)).0,
        (was.2 i d e (search rules)).1,
      );
    }
