use Rattle.std.proofs.Common.{◌≡◌, ◌≢◌, ◌∙◌, ℕ, zero, suc, ◌<◌, sym, ap, subst, refl, arith, List, [], ◌∷◌, length, set, get_or, get_or-set_same, get_or-set_other}
use Rattle.std.proofs.Math.ListN.{length-set}
use native.Mathlib.Decide.{ℕ_discrete}
use mathlib.Core.List.{IsPrefix}
use Rattle.history.specs.declared.made.Made.{Made}
use Rattle.history.proofs.Fronts.{prefix_self, prefix_trans}
use Rattle.shared_register.specs.declared.register.Call.{Call}
use Rattle.shared_register.specs.declared.register.Reply.{Reply}
use Rattle.shared_register.specs.declared.jobs.Job.{Job}
use Rattle.shared_register.specs.LockedCalls.{Keeps, IsLegalPass}
use Rattle.shared_register.proofs.jobs.settle.Goals as goal

at_default : {A : Type 0} (l : List A) (i : ℕ) (a b : A) → i < length l → get_or l i a ≡ get_or l i b
at_default [] i a b lt = absurd (omega arith)
at_default (x ∷ xs) zero a b lt = refl
at_default (x ∷ xs) (suc i) a b lt = at_default xs i a b (omega arith)

set_each : {A : Type 0} (P : A → Type 0) (l : List A) (i : ℕ) (x : A) → i < length l → (n : ℕ) (d : A) → (n ≡ i → P x) → (n ≢ i → P (get_or l n d)) → Dec (n ≡ i) → P (get_or (set l i x) n d)
set_each P l i x lt n d here else (yes y) = subst P (sym (ap (λ (j : ℕ). get_or (set l i x) j d) y ∙ get_or-set_same l i x d lt)) (here y)
set_each P l i x lt n d here else (no m) = subst P (sym (get_or-set_other l i n x d m)) (else m)

module _ {J : Type 0} where
  abbrev Same : Job J → Job J → Type 0
  Same a b = Keeps a.me b.me × (b.calls ≡ a.calls) × (b.replies ≡ a.replies)

  same_then : (a b c : Job J) → Same a b → Same b c → Same a c
  same_then a b c p q = (record { slot = q.0.slot ∙ p.0.slot; mine = q.0.mine ∙ p.0.mine }, q.1 ∙ p.1, q.2 ∙ p.2)

  same_set : (fn l : List (Job J)) (i : ℕ) (y x : Job J) → i < length l → Same (get_or l i y) x → (n : ℕ) (d : Job J) → Same (get_or fn n d) (get_or l n d) → Same (get_or fn n d) (get_or (set l i x) n d)
  same_set fn l i y x lt s n d was = set_each (λ (j : Job J). Same (get_or fn n d) j) l i x lt n d
      (λ e. same_then (get_or fn n d) (get_or l i y) x (subst (λ (j : Job J). Same (get_or fn n d) j) (ap (λ (k : ℕ). get_or l k d) e ∙ at_default l i d y lt) was) s)
      (λ _. was)
      (ℕ_discrete n i)

pub loop-i-preserved : goal.loop-i-preserved
loop-i-preserved g c =
    let v = c.loop-i.invariant in
    let h = c.meet_one.ensures in
    let l = c.loop-i.jobs in
    let i = c.loop-i.i in
    let x = c.meet_one.new.job in
    let all = c.meet_one.new.collector.seen in
    let lt : i < length l = omega (arith, v.len) in
    let y = c.index-jobs-i.result in record {
      len = length-set l i x ∙ v.len;
      same = λ n d k. same_set c.args.jobs.now l i y x lt h.same n d (v.same n d k);
      seen = λ n d k. set_each (λ (j : Job g.row.J.Denot). IsPrefix j.me.seen all) l i x lt n d
          (λ _. subst (λ (s : List (Made Call Reply)). IsPrefix s all) (sym h.both) (prefix_self all))
          (λ ne. prefix_trans (get_or l n d).me.seen c.loop-i.collector.seen all (v.seen n d (omega arith)) h.grows)
          (ℕ_discrete n i);
    }

pub loop-k-preserved : goal.loop-k-preserved
loop-k-preserved g c =
    let v = c.loop-k.invariant in
    let h = c.meet_one-in-loop-k.ensures in
    let l = c.loop-k.jobs in
    let i = c.loop-k.k in
    let x = c.meet_one-in-loop-k.new.job in
    let all = c.meet_one-in-loop-k.new.collector.seen in
    let lt : i < length l = omega (arith, v.len) in
    let y = c.index-jobs-k.result in
    let stays : all ≡ c.loop-k.collector.seen = h.stays (v.begins i y (omega (arith, v.len))) in record {
      len = length-set l i x ∙ v.len;
      same = λ n d k. same_set c.args.jobs.now l i y x lt h.same n d (v.same n d k);
      begins = λ n d k. set_each (λ (j : Job g.row.J.Denot). IsPrefix j.me.seen all) l i x lt n d
          (λ _. subst (λ (s : List (Made Call Reply)). IsPrefix s all) (sym h.both) (prefix_self all))
          (λ ne. subst (λ (s : List (Made Call Reply)). IsPrefix (get_or l n d).me.seen s) (sym stays) (v.begins n d k))
          (ℕ_discrete n i);
      met = λ n d k. set_each (λ (j : Job g.row.J.Denot). (j.me.seen ≡ all) × IsLegalPass g.J.Naming.origin j.me) l i x lt n d
          (λ _. (h.both, h.fine))
          (λ ne. let m = v.met n d (omega arith) in (m.0 ∙ sym stays, m.1))
          (ℕ_discrete n i);
    }
