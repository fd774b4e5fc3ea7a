use Rattle.std.proofs.Common.{◌≡◌, ◌+◌, take, ◌++◌, refl, sym, ap, ◌∙◌, subst, arith, length}
use Rattle.std.proofs.lemmas.List.{append-nil, length-take-le}
use Rattle.roots.proofs.Refusals.{handed_on}
use Rattle.heap_core.specs.Many.{Grants, begun, all, refused}
use Rattle.heap_core.proofs.Many.{grants_more, joined_rest, joined_size, joined_take}
use Rattle.heap_core.proofs.heap.Core.alloc_many.Goals as goal

pub loop-done-init : goal.loop-done-init
loop-done-init c = record { size = refl; few = omega arith; count = refl; rest = λ k _. refl; granted = begun }

pub loop-done-preserved : goal.loop-done-preserved
loop-done-preserved c =
    let i = c.loop-done.invariant in let s = c.split_at_mut-rest.ensures in let a = c.in_ok-done.ensures in
    let size = joined_size c.loop-done.bases c.split_at_mut-rest.result.0.now c.split_at_mut-rest.result.1.now c.alloc_some.new.bases c.loop-done.done s.front s.front_len s.back a.size in
    let long = s.front_len in let left = s.back_len in let was = i.size in let few = a.few in let same = a.size in
    record {
      size = omega arith;
      few = omega arith;
      count = refl;
      rest = λ k past. joined_rest c.loop-done.bases c.split_at_mut-rest.result.0.now c.split_at_mut-rest.result.1.now c.alloc_some.new.bases c.loop-done.done s.front s.front_len s.back a.size c.in_ok-done.field-0 a.rest k past
          ∙ i.rest k (omega arith);
      granted = subst (λ bases. Grants c.args.slot c.args.request.now.into c.args.request.now.words c.args.request.now.kind c.args.self.now bases c.alloc_some.new.self)
          (sym (joined_take c.loop-done.bases c.split_at_mut-rest.result.0.now c.split_at_mut-rest.result.1.now c.alloc_some.new.bases c.loop-done.done s.front s.front_len s.back a.size c.in_ok-done.field-0))
          (grants_more i.granted a.grants);
    }

pub returns-in_err-done : goal.returns-in_err-done
returns-in_err-done c =
    let i = c.loop-done.invariant in let s = c.split_at_mut-rest.ensures in let a = c.in_err-done.ensures in
    let size = joined_size c.loop-done.bases c.split_at_mut-rest.result.0.now c.split_at_mut-rest.result.1.now c.alloc_some.new.bases c.loop-done.done s.front s.front_len s.back a.size in
    let long = s.front_len in let left = s.back_len in let was = i.size in let same = a.size in let few = i.few in let count = i.count in
    let kept : take c.loop-done.done (c.split_at_mut-rest.result.0.now ++ c.alloc_some.new.bases) ≡ take c.loop-done.done c.loop-done.bases =
    ap (λ n. take n (c.split_at_mut-rest.result.0.now ++ c.alloc_some.new.bases)) (let e : c.loop-done.done ≡ c.loop-done.done + 0 = omega arith in e)
    ∙ joined_take c.loop-done.bases c.split_at_mut-rest.result.0.now c.split_at_mut-rest.result.1.now c.alloc_some.new.bases c.loop-done.done s.front s.front_len s.back a.size 0 ∙ append-nil (take c.loop-done.done c.loop-done.bases) in
    let lt = c.loop-done-test.true in let cut = ap length kept in let whole = length-take-le c.loop-done.done c.loop-done.bases i.few in
    rw (handed_on _ _ _ c.from_residual.ensures.1 refl, count) (record {
      size = omega arith;
      few = omega arith;
      rest = λ k past. joined_rest c.loop-done.bases c.split_at_mut-rest.result.0.now c.split_at_mut-rest.result.1.now c.alloc_some.new.bases c.loop-done.done s.front s.front_len s.back a.size 0 (λ j _. a.same j) k (omega arith)
          ∙ i.rest k past;
      made = refused (omega (arith, lt, cut, whole)) (subst (λ bases. Grants c.args.slot c.args.request.now.into c.args.request.now.words c.args.request.now.kind c.args.self.now bases c.loop-done.self) (sym kept) i.granted) a.refused;
    })

pub returns : goal.returns
returns c =
    let i = c.loop-done.invariant in
    let past = c.loop-done-test.false in let few = i.few in let size = i.size in
    let whole = length-take-le c.loop-done.done c.loop-done.bases i.few in
    rw i.count (record { size = i.size; few = i.few; rest = i.rest; made = all (omega (arith, whole)) i.granted })
