-- The count of collections, from the events of a history.
use Rattle.std.proofs.Common.{◌≡◌, ℕ, ◌+◌, ◌%◌, ◌^◌, List, [], ◌∷◌, refl, sym, ap, ◌∙◌, arith}
use Rattle.history.specs.Histories.{weight, count, own, Walks, Reaches}
use Rattle.heap_spec.specs.declared.call.Call.{Call}
use Rattle.heap_spec.specs.declared.call.Call.TheVariants.{Detach}
use Rattle.heap_spec.specs.declared.event.Event.{Event}
use Rattle.heap_spec.specs.declared.event.Event.TheVariants.{Attach, Mutator, Begin, BeginPartial, Roots, Mark, Retrace, Finish, Sweep, Collect, Number}
use Rattle.heap_spec.specs.Runs.{opening_start, counted, count as collections}
use Rattle.heap_spec.specs.SequentialObject.{HeapState, Opens, StateStep}
use Rattle.heap_history.specs.Ranks.{rank_of, rank_of_call}
use Rattle.heap_history.specs.Passes.{MadeEvent}
use Rattle.heap_history.proofs.Chains.{count_own}

counted_call : (call : Call) → weight (rank_of_call call) ≡ 0
counted_call Detach = refl
counted_call _ = refl

-- what is counted weighs in a history
counted_is : (event : Event) → counted event ≡ weight (rank_of event)
counted_is Attach = refl
counted_is (Mutator slot call) = sym (counted_call call)
counted_is Begin = refl
counted_is BeginPartial = refl
counted_is Roots = refl
counted_is (Mark n) = refl
counted_is Retrace = refl
counted_is Finish = refl
counted_is Sweep = refl
counted_is Collect = refl
counted_is Number = refl

step_count : (s u : HeapState) (e : MadeEvent) (n : ℕ) → StateStep s e.who e.call e.reply u → collections (opening_start s.pages) s.run ≡ n % 2 ^ 64 → collections (opening_start u.pages) u.run ≡ (n + weight (rank_of e.call)) % 2 ^ 64
step_count s u e n h is =
    let one = counted_is e.call in
    ap (λ (x : HeapState). collections (opening_start x.pages) x.run) h.goes ∙ omega (arith, is, one)

walks_count : (s t : HeapState) (log : List MadeEvent) (n : ℕ) → Walks StateStep s log t → collections (opening_start s.pages) s.run ≡ n % 2 ^ 64 → collections (opening_start t.pages) t.run ≡ (n + count rank_of log) % 2 ^ 64
walks_count s t [] n w is = sym (ap (λ (x : HeapState). collections (opening_start x.pages) x.run) w) ∙ (is ∙ omega arith)
walks_count s t (e ∷ es) n w is = let h = walks_count w.0 t es (n + weight (rank_of e.call)) w.2 (step_count s w.0 e n w.1 is) in h ∙ omega arith

-- the collector's own events are those that count
pub count_is : {pages : ℕ} → (log : List MadeEvent) (t : HeapState) → Reaches (Opens pages) StateStep log t → collections (opening_start t.pages) t.run ≡ count rank_of (own rank_of 16 log) % 2 ^ 64
count_is {pages = pages} log t r =
    let h = walks_count r.0 t log 0 r.2 (ap (collections (opening_start r.0.pages)) r.1.nothing) in
    let own_is = count_own log (t, r) in
    omega (arith, h, own_is)
