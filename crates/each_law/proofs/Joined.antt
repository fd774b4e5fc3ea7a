-- Jobs that were started and joined were run.
use Rattle.std.proofs.Common.{ℕ, ◌<◌, ◌+◌, ◌++◌, List, [], ◌∷◌, length, get_or, arith, below_more, refl, sym, ap, subst, ◌∙◌}
use Rattle.std.proofs.lemmas.List.{get_or_append_left, get_or_push, length-append}
use Rattle.std.specs.declared.thread.PromisedHandle.{PromisedHandle}
use Rattle.each_law.specs.declared.law.Done.{Done}
use Rattle.each_law.specs.Jobs.{AreStarted, AreJoined, HaveRun}

any_of : {A : Type 0} (l : List A) (i : ℕ) → i < length l → A
any_of [] i lt = absurd (omega arith)
any_of (x ∷ xs) i lt = x

pub have_run : {T L : Type 0} (does : L → T → T → Type 0) (law : L) (jobs : List T) (running : List (PromisedHandle T (Done T L))) (done : List T)
    → AreStarted law jobs running → AreJoined does running done → HaveRun (does law) jobs done
have_run does law jobs running done started joined = record {
  size = joined.size ∙ started.size;
  each = λ i d e below.
      let s = started.size in
      let below' : i < length running = omega (arith, below, s) in
      let one = any_of running i below' in
      let same = started.each i one d below in
      subst (λ j. does law j (get_or done i e)) same.0 (subst (λ l. does l (get_or running i one).promise.job.value (get_or done i e)) same.1 (joined.each i one e below'));
}

-- The last job, which the calling thread did, stands behind those that threads did.
pub have_run_too : {T : Type 0} (does : T → T → Type 0) (old new : List T) (job result : T)
    → HaveRun does old new → does job result → HaveRun does (old ++ job ∷ []) (new ++ result ∷ [])
have_run_too does old new job result run did = record {
  size = length-append new (result ∷ []) ∙ (ap (λ n. n + 1) run.size ∙ sym (length-append old (job ∷ [])));
  each = λ i d e below. below_more (λ k. does (get_or (old ++ job ∷ []) k d) (get_or (new ++ result ∷ []) k e)) (length old)
      (λ k low. let low' : k < length new = subst (λ n. k < n) (sym run.size) low in
      subst (λ j. does j (get_or (new ++ result ∷ []) k e)) (sym (get_or_append_left old (job ∷ []) d k low))
      (subst (λ r. does (get_or old k d) r) (sym (get_or_append_left new (result ∷ []) e k low')) (run.each k d e low)))
      (subst (λ j. does j (get_or (new ++ result ∷ []) (length old) e)) (sym (get_or_push old job d (length old) refl))
      (subst (λ r. does job r) (sym (get_or_push new result e (length old) run.size)) did))
      i (let whole = length-append old (job ∷ []) in omega (arith, below, whole));
}
