use Rattle.std.specs.Prelude.{◌≡◌, ◌+◌, All, get_or, vec_items, vec_len, ◌++◌, ◌∷◌, []}
use Rattle.std.proofs.Common.{rules, arith, below_more, sym, subst}
use Rattle.std.proofs.lemmas.List.Elements.{All-push}
use Rattle.workloads.specs.Actors.{CanCall, IsAttachedJob}
use Rattle.workloads.proofs.threads.attach_all.Goals as goal

pub loop-slot-preserved : goal.loop-slot-preserved
loop-slot-preserved g c =
    let was = c.loop-slot.invariant in let places = c.push.ensures.by_index in let job = c.in-Some.job in
    let lists = c.args.workload.now.mutators in let slot = c.loop-slot.slot in let pages = g.J.Naming.origin in
    let after = vec_items c.push.new.self in
    let grown : vec_len c.push.new.self ≡ slot + 1 = search rules in
    let size = was.size in record {
      size = grown;
      each = λ k d below. below_more (λ i. IsAttachedJob pages (get_or lists i []) i (get_or after i d)) slot
          (λ i low. subst (IsAttachedJob pages (get_or lists i []) i) (sym (places.0 i d (omega (arith, low, size)))) (was.each i d low))
          (let here : get_or after slot d ≡ job = subst (λ n. get_or after n d ≡ job) size (places.1 d (search rules)) in
          subst (IsAttachedJob pages (get_or lists slot []) slot) (sym here) (subst (λ calls. IsAttachedJob pages calls slot job) c.calls-calls.ensures.value c.in-Some.ensures))
          k (omega arith);
      can = (let made : vec_items c.push.new.self ≡ vec_items c.loop-slot.jobs ++ job ∷ [] = search rules in
          subst (λ l. All (λ j. CanCall j) l) (sym made) (All-push (λ j. CanCall j) (vec_items c.loop-slot.jobs) job was.can c.in-Some.ensures.can));
    }
