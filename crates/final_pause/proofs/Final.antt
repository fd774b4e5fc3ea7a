-- Where the invariant holds and nothing is left to read, the marks are the closure.
use Rattle.std.proofs.Common.{◌≡◌, ℕ, ◌<◌, List, [], Contains, Option, Some, None, sym, ◌∙◌, subst, ⊎_elim, arith}
use Rattle.words.specs.declared.class.Kind.TheVariants.{Normal}
use Rattle.block_map.specs.declared.found.Found.{Found}
use Rattle.block_map.specs.Objects.{IsMap}
use Rattle.pages.specs.Memory.{word_at}
use Rattle.marker.specs.declared.entry.Entry.{Entry}
use Rattle.marker.specs.Marking.{Marking, IsMarked, IsEntry, IsLeftToEntry, word_address, IsDone}
use Rattle.marker.specs.Closure.{Closure, held, root, word}
use Rattle.marker.proofs.Closures.{is_object}
use Rattle.marker.specs.Invariant.{DirtyPageInvariant, IsTargetMarked, IsAwaited, AreRootsMarked}

none_in : (e : Entry) → Contains [] e → ⊥
none_in e h = let l = h.1 in omega arith

not_entry : (m : Marking) → IsDone m → (e : Entry) → IsEntry m e → ⊥
not_entry m d e one =
    ⊎_elim (λ (h : m.current ≡ Some e). let n : None ≡ Some e = sym d.empty.current ∙ h in absurd (cc n))
    (λ h. none_in e (subst (λ s. Contains s e) d.empty.stack h)) one

not_awaited : (m : Marking) → IsDone m → (f : Found) (i : ℕ) → IsAwaited m f i → ⊥
not_awaited m d f i a = ⊎_elim (λ h. d.clean _ h) (λ (p : IsLeftToEntry m f.base i). not_entry m d p.entry p.one) a

-- the words of a marked Normal object read marked objects
pub all_read : (found : ℕ → Option Found) (words : List ℕ) (m : Marking) → DirtyPageInvariant found words m → IsDone m
    → (f : Found) → found f.base ≡ Some f → f.kind ≡ Normal → IsMarked m f.base → (i : ℕ) → i < f.len → IsTargetMarked found m (word_at words (word_address f i))
all_read found words m t d f e n k i lt =
    ⊎_elim (λ h. h) (λ a. absurd (not_awaited m d f i a)) (t f e n k i lt)

-- the closure is marked
pub closure_marked : (pages : ℕ) (found : ℕ → Option Found) (words roots : List ℕ) (given : ℕ → Type 0) (m : Marking) → IsMap pages found
    → DirtyPageInvariant found words m → IsDone m → AreRootsMarked found roots m → ((b : ℕ) → given b → IsMarked m b)
    → {f : Found} → Closure found words roots given f → IsMarked m f.base
closure_marked pages found words roots given m map t d r g (held e k) = g _ k
closure_marked pages found words roots given m map t d r g (root {w = w} {f = f} c e) = r w c f e
closure_marked pages found words roots given m map t d r g (word {p = p} {f = f} i c n lt e) =
    all_read found words m t d p (is_object pages found words roots given map c) n (closure_marked pages found words roots given m map t d r g c) i lt f e
