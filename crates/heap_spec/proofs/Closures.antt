-- The closure, for sets told by any predicate.
use Rattle.std.proofs.Common.{ℕ, refl, subst}
use Rattle.heap_spec.specs.Heap.{Heap}
use Rattle.heap_spec.specs.Closure.{Closure, given, root, word, Reached, IsInClosure}
use Rattle.heap_spec.specs.Sound.{HaveDistinctBirths}
use Rattle.heap_spec.specs.Laws.{KeepsRules}

-- the closure keeps its rules, and lies in each set that does
pub closure_keeps : (s : Heap) (births : ℕ → Type 0) → KeepsRules s births (Closure s births)
closure_keeps s births = record {
  given = λ base o has m. given has m;
  root = λ w base o r reads. root r reads;
  word = λ from w base p o in_closure has normal r reads. word in_closure has normal r reads;
}

pub closure_least : (s : Heap) (births bases : ℕ → Type 0) → KeepsRules s births bases → {base : ℕ} → Closure s births base → bases base
closure_least s births bases k (given {o = o} has m) = k.given _ o has m
closure_least s births bases k (root {o = o} r reads) = k.root _ _ o r reads
closure_least s births bases k (word {p = p} {o = o} from has normal w reads) = k.word _ _ _ p o (closure_least s births bases k from) has normal w reads

-- a larger set has a larger closure
pub closure_mono : (s : Heap) (births more : ℕ → Type 0) → ((b : ℕ) → births b → more b) → {base : ℕ} → Closure s births base → Closure s more base
closure_mono s births more f (given has m) = given has (f _ m)
closure_mono s births more f (root r reads) = root r reads
closure_mono s births more f (word from has normal w reads) = word (closure_mono s births more f from) has normal w reads

-- what is reached is in every closure
pub reached_in : (s : Heap) (births : ℕ → Type 0) → {base : ℕ} → Reached s base → Closure s births base
reached_in s births r = closure_mono s (λ _. ⊥) births (λ b h. absurd h) r

-- the closure of a closure is that closure
pub closure_idem : (s : Heap) (births : ℕ → Type 0) → HaveDistinctBirths s.objects → {base : ℕ} → Closure s (IsInClosure s births) base → Closure s births base
closure_idem s births d (given {base = b} {o = o} has m) = subst (Closure s births) (d m.0 b m.1 o m.2 has m.3) m.4
closure_idem s births d (root r reads) = root r reads
closure_idem s births d (word from has normal w reads) = word (closure_idem s births d from) has normal w reads

pub in_idem : (s : Heap) (births : ℕ → Type 0) → HaveDistinctBirths s.objects → (birth : ℕ) → IsInClosure s (IsInClosure s births) birth → IsInClosure s births birth
in_idem s births d birth x = (x.0, x.1, x.2, x.3, closure_idem s births d x.4)

pub in_closure : (s : Heap) (births : ℕ → Type 0) (birth : ℕ) → IsInClosure s births birth → IsInClosure s (IsInClosure s births) birth
in_closure s births birth x = (x.0, x.1, x.2, x.3, given x.2 (x.0, x.1, x.2, refl, x.4))
