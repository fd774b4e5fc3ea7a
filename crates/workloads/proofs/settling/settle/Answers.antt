use Rattle.std.proofs.Common.{◌≡◌, ◌≢◌, ◌∙◌, ℕ, zero, suc, ◌<◌, sym, ap, subst, refl, arith, List, [], ◌∷◌, length, set, get_or, get_or-set_same, get_or-set_other}
use Rattle.std.proofs.Math.ListN.{length-set}
use native.Mathlib.Decide.{ℕ_discrete}
use mathlib.Core.List.{IsPrefix}
use Rattle.history.proofs.Fronts.{prefix_self, prefix_trans}
use Rattle.history.proofs.Growing.{prefix_of}
use Rattle.workloads.specs.declared.mutator_job.MutatorJob.{MutatorJob}
use Rattle.history.specs.Histories.{counted_up}
use Rattle.heap_history.specs.Alone.{attaches}
use Rattle.heap_history.specs.Passes.{MadeEvent, IsLegalPass}
use Rattle.shared.specs.Journals.{IsOf}
use Rattle.workloads.specs.Actors.{Keeps}
use Rattle.workloads.proofs.settling.settle.Goals as goal

at_default : {A : Type 0} (l : List A) (i : ℕ) (a b : A) → i < length l → get_or l i a ≡ get_or l i b
at_default [] i a b lt = absurd (omega arith)
at_default (x ∷ xs) zero a b lt = refl
at_default (x ∷ xs) (suc i) a b lt = at_default xs i a b (omega arith)

set_each : {A : Type 0} (P : A → Type 0) (l : List A) (i : ℕ) (x : A) → i < length l → (n : ℕ) (d : A) → (n ≡ i → P x) → (n ≢ i → P (get_or l n d)) → Dec (n ≡ i) → P (get_or (set l i x) n d)
set_each P l i x lt n d here else (yes y) = subst P (sym (ap (λ (j : ℕ). get_or (set l i x) j d) y ∙ get_or-set_same l i x d lt)) (here y)
set_each P l i x lt n d here else (no m) = subst P (sym (get_or-set_other l i n x d m)) (else m)

module _ {J R : Type 0} where
  abbrev Same : MutatorJob J R → MutatorJob J R → Type 0
  Same a b = Keeps a.attached b.attached × (b.calls ≡ a.calls) × (b.replies ≡ a.replies)

  same_then : (a b c : MutatorJob J R) → Same a b → Same b c → Same a c
  same_then a b c p q = (record { slot = q.0.slot ∙ p.0.slot; mine = q.0.mine ∙ p.0.mine }, q.1 ∙ p.1, q.2 ∙ p.2)

  same_set : (fn l : List (MutatorJob J R)) (i : ℕ) (y x : MutatorJob J R) → i < length l → Same (get_or l i y) x → (n : ℕ) (d : MutatorJob J R) → Same (get_or fn n d) (get_or l n d) → Same (get_or fn n d) (get_or (set l i x) n d)
  same_set fn l i y x lt s n d was = set_each (λ (j : MutatorJob J R). Same (get_or fn n d) j) l i x lt n d
      (λ e. same_then (get_or fn n d) (get_or l i y) x (subst (λ (j : MutatorJob J R). Same (get_or fn n d) j) (ap (λ (k : ℕ). get_or l k d) e ∙ at_default l i d y lt) was) s)
      (λ _. was)
      (ℕ_discrete n i)

pub loop-i-preserved : goal.loop-i-preserved
loop-i-preserved g c =
    let v = c.loop-i.invariant in
    let h = c.meet_one.ensures in
    let l = c.loop-i.jobs in
    let i = c.loop-i.i in
    let x = c.meet_one.new.job in
    let all = c.meet_one.new.collector.seen in
    let lt : i < length l = omega (arith, v.len) in
    let y = c.index-jobs-i.result in record {
      keeps = record { slot = h.collector.slot ∙ v.keeps.slot; mine = h.collector.mine ∙ v.keeps.mine };
      grows = prefix_trans c.args.collector.now.seen c.loop-i.collector.seen all v.grows h.grows;
      fine = h.collector_fine;
      len = length-set l i x ∙ v.len;
      same = λ n d k. same_set c.args.jobs.now l i y x lt h.keeps n d (v.same n d k);
      seen = λ n d k. set_each (λ (j : MutatorJob g.row.J.Denot g.row.R.Denot). IsPrefix j.attached.seen all) l i x lt n d
          (λ _. subst (λ (s : List MadeEvent). IsPrefix s all) (sym h.both) (prefix_self all))
          (λ ne. prefix_trans (get_or l n d).attached.seen c.loop-i.collector.seen all (v.seen n d (omega arith)) h.grows)
          (ℕ_discrete n i);
    }

pub loop-k-preserved : goal.loop-k-preserved
loop-k-preserved g c =
    let v = c.loop-k.invariant in
    let h = c.meet_one-in-loop-k.ensures in
    let l = c.loop-k.jobs in
    let i = c.loop-k.k in
    let x = c.meet_one-in-loop-k.new.job in
    let all = c.meet_one-in-loop-k.new.collector.seen in
    let lt : i < length l = omega (arith, v.len) in
    let y = c.index-jobs-k.result in
    let stays : all ≡ c.loop-k.collector.seen = h.stays (v.begins i y (omega (arith, v.len))) in record {
      keeps = record { slot = h.collector.slot ∙ v.keeps.slot; mine = h.collector.mine ∙ v.keeps.mine };
      grows = prefix_trans c.args.collector.now.seen c.loop-k.collector.seen all v.grows h.grows;
      fine = h.collector_fine;
      len = length-set l i x ∙ v.len;
      same = λ n d k. same_set c.args.jobs.now l i y x lt h.keeps n d (v.same n d k);
      begins = λ n d k. set_each (λ (j : MutatorJob g.row.J.Denot g.row.R.Denot). IsPrefix j.attached.seen all) l i x lt n d
          (λ _. subst (λ (s : List MadeEvent). IsPrefix s all) (sym h.both) (prefix_self all))
          (λ ne. subst (λ (s : List MadeEvent). IsPrefix (get_or l n d).attached.seen s) (sym stays) (v.begins n d k))
          (ℕ_discrete n i);
      count = v.count ∙ ap (λ (s : List MadeEvent). counted_up (attaches s)) (sym stays);
      kept = subst (λ (s : List MadeEvent). IsOf c.take_journal-came.result.1 s) (sym stays) v.kept;
      met = λ n d k. set_each (λ (j : MutatorJob g.row.J.Denot g.row.R.Denot). (j.attached.seen ≡ all) × IsLegalPass g.J.Naming.origin j.attached) l i x lt n d
          (λ _. (h.both, h.fine))
          (λ ne. let m = v.met n d (omega arith) in (m.0 ∙ sym stays, m.1))
          (ℕ_discrete n i);
    }

-- the look that tells the number shows the collector more, perhaps
pub loop-k-init : goal.loop-k-init
loop-k-init g c =
    let v = c.loop-i.invariant in
    let looks = c.take_journal-came.ensures.looks in
    let more = prefix_of c.loop-i.collector.slot c.loop-i.collector.seen c.take_journal-came.new.collector.seen looks.seen in record {
      keeps = record { slot = looks.slot ∙ v.keeps.slot; mine = looks.mine ∙ v.keeps.mine };
      grows = prefix_trans c.args.collector.now.seen c.loop-i.collector.seen c.take_journal-came.new.collector.seen v.grows more;
      fine = looks.fine;
      len = v.len;
      same = v.same;
      begins = λ n d k. prefix_trans (get_or c.loop-i.jobs n d).attached.seen c.loop-i.collector.seen c.take_journal-came.new.collector.seen (v.seen n d (omega (arith, k, v.len))) more;
      count = c.take_journal-came.ensures.count;
      kept = c.take_journal-came.ensures.journal;
      met = λ n d k. absurd (omega (arith, k));
    }
