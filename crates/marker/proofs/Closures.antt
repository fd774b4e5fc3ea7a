-- Laws of the closure.
use Rattle.std.proofs.Common.{◌≡◌, ℕ, ◌*◌, List, length, Contains, Option, Some, sym, ap, ◌∙◌, arith}
use Rattle.std.proofs.lemmas.Option.{same_Some}
use Rattle.words.specs.declared.limits.TheConstants.{PAGE_GRANULES}
use Rattle.words.specs.Layout.{granule}
use Rattle.block_map.specs.declared.found.Found.{Found}
use Rattle.block_map.specs.Objects.{IsMap}
use Rattle.marker.specs.Marking.{Marking, IsConsistent, IsMarked}
use Rattle.marker.specs.Closure.{Closure, held, root, word}
use Rattle.marker.specs.Growth.{Traces}

-- what is found by a word is found by its base
pub at_base : (pages : ℕ) (found : ℕ → Option Found) → IsMap pages found → (w : ℕ) (f : Found) → found w ≡ Some f → found f.base ≡ Some f
at_base pages found map w f e = let p = (map.placed w f e).some in map.whole w f.base f e (record { from = omega arith; below = omega arith })

-- two objects with one granule are one
pub same_object : (pages : ℕ) (found : ℕ → Option Found) → IsMap pages found → (f g : Found) → found f.base ≡ Some f → found g.base ≡ Some g → granule f.base ≡ granule g.base → f ≡ g
same_object pages found map f g ef eg e =
    let p = map.placed _ f ef in let q = map.placed _ g eg in
    let a = p.aligned in let b = q.aligned in let c = p.above in let d = q.above in
    let s : f.base ≡ g.base = omega arith in
    same_Some f g (sym ef ∙ ap found s ∙ eg)

-- a member of a closure is an object
pub is_object : (pages : ℕ) (found : ℕ → Option Found) (words roots : List ℕ) (given : ℕ → Type 0) → IsMap pages found → {f : Found} → Closure found words roots given f → found f.base ≡ Some f
is_object pages found words roots given map (held e k) = e
is_object pages found words roots given map (root {w = w} {f = f} c e) = at_base pages found map w f e
is_object pages found words roots given map (word {f = f} i c n lt e) = at_base pages found map _ f e

-- a larger set has a larger closure, and so have more roots
pub closure_more : (found : ℕ → Option Found) (words roots more : List ℕ) (given larger : ℕ → Type 0) → ((w : ℕ) → Contains roots w → Contains more w)
    → ((f : Found) → found f.base ≡ Some f → given f.base → Closure found words more larger f)
    → {f : Found} → Closure found words roots given f → Closure found words more larger f
closure_more found words roots more given larger r g (held {f = f} e k) = g f e k
closure_more found words roots more given larger r g (root c e) = root (r _ c) e
closure_more found words roots more given larger r g (word i c n lt e) = word i (closure_more found words roots more given larger r g c) n lt e

-- where a part of the marking was done before, as by several threads, the closure is that of the marks at the start
pub closure_same : (found : ℕ → Option Found) (words roots : List ℕ) (old mid : Marking) → Traces found words roots old mid
    → (f : Found) → (Closure found words roots (IsMarked mid) f → Closure found words roots (IsMarked old) f) × (Closure found words roots (IsMarked old) f → Closure found words roots (IsMarked mid) f)
closure_same found words roots old mid t f = (
  (λ c. closure_more found words roots roots (IsMarked mid) (IsMarked old) (λ w h. h) t.within c),
  (λ c. closure_more found words roots roots (IsMarked old) (IsMarked mid) (λ w h. h) (λ g e k. held e (t.marks g.base k)) c),
)

-- how many marks a heap of so many pages has
pub marks_of : (pages : ℕ) (m : Marking) → IsConsistent m → length m.dirty ≡ pages → length m.marks ≡ PAGE_GRANULES * pages
marks_of pages m c e = c.marks ∙ ap (λ n. PAGE_GRANULES * n) e
