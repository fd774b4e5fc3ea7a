-- What a collection takes.
use Rattle.std.specs.Prelude.{◌≡◌, ℕ, List, length, Contains, All, nat_eq}
use Rattle.std.specs.List.{IsDistinct}
use Rattle.heap_spec.specs.declared.reply.Reply.{Reply}
use Rattle.heap_spec.specs.declared.reply.Reply.TheVariants.{Done, Count}
use Rattle.heap_spec.specs.Heap.{Heap, Object, HasObject, without}
use Rattle.heap_spec.specs.Closure.{Reached}

-- Takes the objects with these bases out, none of which is reached, and answers how many.
pub record TakesOut (s : Heap) (bases : List ℕ) (reply : Reply) (s' : Heap) : Type 0 where
  pub objects : All (λ b. (o : Object) × HasObject s b o) bases
  pub distinct : IsDistinct nat_eq bases
  pub unreached : All (λ b. Reached s b → ⊥) bases
  pub number : reply ≡ Count (length bases)
  pub after : s' ≡ without s bases

-- A cycle begins: nothing changes.
abbrev pub Begins : Heap → Reply → Heap → Type 0
Begins s reply s' = (reply ≡ Done) × (s' ≡ s)

-- A cycle ends: it forgets unreached objects, among them every one that is not touched.
pub record Forgets (s : Heap) (touched : ℕ → Type 0) (reply : Reply) (s' : Heap) : Type 0 where
  pub bases : List ℕ
  pub takes : TakesOut s bases reply s'
  pub untouched : (base : ℕ) (o : Object) → HasObject s base o → (touched o.birth → ⊥) → Contains bases base

-- A full collection: exactly the unreached objects go.
pub record CollectsFully (s : Heap) (reply : Reply) (s' : Heap) : Type 0 where
  pub bases : List ℕ
  pub takes : TakesOut s bases reply s'
  pub all : (base : ℕ) (o : Object) → HasObject s base o → (Reached s base → ⊥) → Contains bases base
