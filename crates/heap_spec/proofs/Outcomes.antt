-- What a call answers, and what it leaves.
use Rattle.std.proofs.Common.{◌≤◌, false, inl, inr, ◌≡◌, ℕ, ◌+◌, ◌-◌, ◌/◌, List, [], ◌∷◌, ◌++◌, length, refl, sym, ap, ◌∙◌, subst, arith}
use Rattle.std.specs.Prelude.{Some, None, slice_index, slice_set}
use Rattle.std.proofs.lemmas.Option.{same_Some, none-some}
use Rattle.std.proofs.lemmas.List.{same_from_push, length_push}
use Rattle.words.specs.declared.refusal.Refusal.{Refusal}
use Rattle.heap_spec.specs.declared.call.Call.{Call}
use Rattle.heap_spec.specs.declared.reply.Reply.{Reply}
use Rattle.heap_spec.specs.declared.reply.Reply.TheVariants.{Word, Count, Refused}
use Rattle.heap_spec.specs.Heap.{Heap, Object, Mutator, HasObject, PointsIntoObject}
use Rattle.heap_spec.specs.Room.{HasRoom}
use Rattle.heap_spec.specs.Steps.{Acts, Calls, acts, vacant, with_register, with_object, register, address, with_link, has_link, HasLinkRoom}
use Rattle.std.proofs.lemmas.Bool.{true≢false}
use Rattle.words.specs.declared.limits.TheConstants.{MAX_LINKS}
use Rattle.words.specs.declared.class.Kind.TheVariants.{Normal, PointerFree}
use Rattle.heap_spec.specs.Laws.{IsLegible, IsNoAlloc}
use Rattle.heap_spec.proofs.Loads.{same_mutator}

-- a refused call of a mutator leaves the heap
acts_refused : (s : Heap) (slot : ℕ) (m : Mutator) {call : Call} {why : Refusal} {s' : Heap} → Acts s slot m call (Refused why) s' → s' ≡ s
acts_refused s slot m (Acts.push_full e) = refl
acts_refused s slot m _ = refl

pub calls_refused : (s : Heap) (slot : ℕ) (call : Call) {why : Refusal} {s' : Heap} → Calls s slot call (Refused why) s' → s' ≡ s
calls_refused s slot call (acts {m = m} at act) = acts_refused s slot m act
calls_refused s slot call (vacant none) = refl

-- an address reads one object, and one that has it as its base reads itself
same_read : (s : Heap) → IsLegible s → (w a b : ℕ) (o p : Object) → PointsIntoObject s w a o → PointsIntoObject s w b p → (a ≡ b) × (o ≡ p)
same_read s h w a b o p r q = let e = h.one w a b o p r q in (e, same_Some o p (sym r.0 ∙ ap s.objects e ∙ q.0))

reads_itself : (s : Heap) → IsLegible s → (base : ℕ) (o : Object) → HasObject s base o → PointsIntoObject s base base o
reads_itself s h base o has = let some = h.some base o has in (has, (omega arith, omega arith))

-- a stack that is pushed is not empty, and says what was pushed
not_empty : (stack rest : List ℕ) (w : ℕ) → stack ≡ rest ++ w ∷ [] → stack ≡ [] → ⊥
not_empty stack rest w e none = let l : length (rest ++ w ∷ []) ≡ length rest + 1 = length_push rest w in let z : length (rest ++ w ∷ []) ≡ 0 = ap length (sym e ∙ none) in omega arith

normal_or_free : Normal ≡ PointerFree → ⊥
normal_or_free e = cc

-- where there is no room for a link, none is made
no_room : (s : Heap) (a : ℕ) → MAX_LINKS ≤ length s.links → has_link s a ≡ false → HasLinkRoom s a → ⊥
no_room s a few free (inl room) = omega arith
no_room s a few free (inr stands) = true≢false (sym stands ∙ free)

-- the same reply, and the same heap unless the call allocates
abbrev Same : Call → Reply → Reply → Heap → Heap → Type 0
Same call reply reply' t t' = (reply ≡ reply') × (IsNoAlloc call → t ≡ t')

acts_same : (s : Heap) → IsLegible s → (slot : ℕ) (m : Mutator) {call : Call} {reply : Reply} {t : Heap} → Acts s slot m call reply t
    → {reply' : Reply} {t' : Heap} → Acts s slot m call reply' t' → Same call reply reply' t t'
acts_same s h slot m Acts.detached Acts.detached = (refl, λ no. refl)
acts_same s h slot m Acts.set Acts.set = (refl, λ no. refl)
acts_same s h slot m Acts.copied Acts.copied = (refl, λ no. refl)
acts_same s h slot m Acts.added Acts.added = (refl, λ no. refl)
acts_same s h slot m Acts.subtracted Acts.subtracted = (refl, λ no. refl)
acts_same s h slot m Acts.got Acts.got = (refl, λ no. refl)
acts_same s h slot m (Acts.pushed few) (Acts.pushed few') = (refl, λ no. refl)
acts_same s h slot m (Acts.pushed few) (Acts.push_full e) = absurd (omega arith)
acts_same s h slot m (Acts.push_full e) (Acts.pushed few) = absurd (omega arith)
acts_same s h slot m (Acts.push_full e) (Acts.push_full e') = (refl, λ no. refl)
acts_same s h slot m (Acts.popped {r = r} {w = w} rest e) (Acts.popped {w = x} rest' e') =
    let both = same_from_push rest rest' w x (sym e ∙ e') in
    (ap Word both.1, λ no. ap (λ ws. with_register s slot (record m { stack = ws }) r w) both.0 ∙ ap (λ v. with_register s slot (record m { stack = rest' }) r v) both.1)
acts_same s h slot m (Acts.popped {w = w} rest e) (Acts.pop_empty none) = absurd (not_empty m.stack rest w e none)
acts_same s h slot m (Acts.pop_empty none) (Acts.popped {w = w} rest e) = absurd (not_empty m.stack rest w e none)
acts_same s h slot m (Acts.pop_empty e) (Acts.pop_empty e') = (refl, λ no. refl)
acts_same s h slot m (Acts.loaded {d = d} {a = a} {n = n} {base = b} {o = o} al reads) (Acts.loaded {base = c} {o = p} al' reads') =
    let e = same_read s h (address m a n) b c o p reads reads' in
    let word = ap (λ (x : Object). slice_index x.words ((address m a n - b) / 8)) e.1 ∙ ap (λ x. slice_index p.words ((address m a n - x) / 8)) e.0 in
    (ap Word word, λ no. ap (λ v. with_register s slot m d v) word)
acts_same s h slot m (Acts.loaded al reads) (Acts.load_misaligned ne) = absurd (ne al)
acts_same s h slot m (Acts.loaded {base = b} {o = o} al reads) (Acts.load_nothing al' none) = absurd (none b o reads)
acts_same s h slot m (Acts.load_misaligned ne) (Acts.loaded al reads) = absurd (ne al)
acts_same s h slot m (Acts.load_misaligned ne) (Acts.load_misaligned ne') = (refl, λ no. refl)
acts_same s h slot m (Acts.load_misaligned ne) (Acts.load_nothing al none) = absurd (ne al)
acts_same s h slot m (Acts.load_nothing al none) (Acts.loaded {base = b} {o = o} al' reads) = absurd (none b o reads)
acts_same s h slot m (Acts.load_nothing al none) (Acts.load_misaligned ne) = absurd (ne al)
acts_same s h slot m (Acts.load_nothing al none) (Acts.load_nothing al' none') = (refl, λ no. refl)
acts_same s h slot m (Acts.stored {a = a} {n = n} {r = r} {base = b} {o = o} al reads) (Acts.stored {base = c} {o = p} al' reads') =
    let e = same_read s h (address m a n) b c o p reads reads' in (
      refl,
      λ no. ap (λ (x : Object). with_object s b (Some (record x { words = slice_set x.words ((address m a n - b) / 8) (register m r) }))) e.1
          ∙ ap (λ x. with_object s x (Some (record p { words = slice_set p.words ((address m a n - x) / 8) (register m r) }))) e.0,
    )
acts_same s h slot m (Acts.stored al reads) (Acts.store_misaligned ne) = absurd (ne al)
acts_same s h slot m (Acts.stored {base = b} {o = o} al reads) (Acts.store_nothing al' none) = absurd (none b o reads)
acts_same s h slot m (Acts.store_misaligned ne) (Acts.stored al reads) = absurd (ne al)
acts_same s h slot m (Acts.store_misaligned ne) (Acts.store_misaligned ne') = (refl, λ no. refl)
acts_same s h slot m (Acts.store_misaligned ne) (Acts.store_nothing al none) = absurd (ne al)
acts_same s h slot m (Acts.store_nothing al none) (Acts.stored {base = b} {o = o} al' reads) = absurd (none b o reads)
acts_same s h slot m (Acts.store_nothing al none) (Acts.store_misaligned ne) = absurd (ne al)
acts_same s h slot m (Acts.store_nothing al none) (Acts.store_nothing al' none') = (refl, λ no. refl)
acts_same s h slot m (Acts.allocated a e room) (Acts.allocated a' e' room') = (refl, λ no. absurd no)
acts_same s h slot m (Acts.allocated {placement = p} a e room) (Acts.bad_size e') = absurd (none-some p (sym e' ∙ e))
acts_same s h slot m (Acts.allocated {kind = kind} {placement = p} a e room) (Acts.full {placement = q} e' none) =
    absurd (none a (subst (λ x. HasRoom s x kind a) (same_Some p q (sym e ∙ e')) room))
acts_same s h slot m (Acts.bad_size e) (Acts.allocated {placement = p} a e' room) = absurd (none-some p (sym e ∙ e'))
acts_same s h slot m (Acts.bad_size e) (Acts.bad_size e') = (refl, λ no. refl)
acts_same s h slot m (Acts.bad_size e) (Acts.full {placement = p} e' none) = absurd (none-some p (sym e ∙ e'))
acts_same s h slot m (Acts.full {placement = q} e none) (Acts.allocated {kind = kind} {placement = p} a e' room) =
    absurd (none a (subst (λ x. HasRoom s x kind a) (same_Some p q (sym e' ∙ e)) room))
acts_same s h slot m (Acts.full {placement = p} e none) (Acts.bad_size e') = absurd (none-some p (sym e' ∙ e))
acts_same s h slot m (Acts.full e none) (Acts.full e' none') = (refl, λ no. refl)
acts_same s h slot m (Acts.freed has) (Acts.freed has') = (refl, λ no. refl)
acts_same s h slot m (Acts.freed {r = r} {o = o} has) (Acts.free_inside {base = b} {o = p} reads ne) =
    absurd (ne (h.one (register m r) b (register m r) p o reads (reads_itself s h (register m r) o has)))
acts_same s h slot m (Acts.freed {r = r} {o = o} has) (Acts.free_nothing none) = absurd (none (register m r) o (reads_itself s h (register m r) o has))
acts_same s h slot m (Acts.free_inside {base = b} {o = p} reads ne) (Acts.freed {r = r} {o = o} has) =
    absurd (ne (h.one (register m r) b (register m r) p o reads (reads_itself s h (register m r) o has)))
acts_same s h slot m (Acts.free_inside reads ne) (Acts.free_inside reads' ne') = (refl, λ no. refl)
acts_same s h slot m (Acts.free_inside {base = b} {o = o} reads ne) (Acts.free_nothing none) = absurd (none b o reads)
acts_same s h slot m (Acts.free_nothing none) (Acts.freed {r = r} {o = o} has) = absurd (none (register m r) o (reads_itself s h (register m r) o has))
acts_same s h slot m (Acts.free_nothing none) (Acts.free_inside {base = b} {o = o} reads ne) = absurd (none b o reads)
acts_same s h slot m (Acts.free_nothing none) (Acts.free_nothing none') = (refl, λ no. refl)
acts_same s h slot m (Acts.based {d = d} {a = a} {base = b} {o = o} reads) (Acts.based {base = c} {o = p} reads') =
    let e = h.one (register m a) b c o p reads reads' in (ap Word e, λ no. ap (λ x. with_register s slot m d x) e)
acts_same s h slot m (Acts.based {base = b} {o = o} reads) (Acts.base_nothing none) = absurd (none b o reads)
acts_same s h slot m (Acts.base_nothing none) (Acts.based {base = b} {o = o} reads) = absurd (none b o reads)
acts_same s h slot m (Acts.base_nothing none) (Acts.base_nothing none') = (refl, λ no. refl)
acts_same s h slot m (Acts.sized {r = r} {base = b} {o = o} reads) (Acts.sized {base = c} {o = p} reads') =
    (ap (λ (x : Object). Count (length x.words)) (same_read s h (register m r) b c o p reads reads').1, λ no. refl)
acts_same s h slot m (Acts.sized {base = b} {o = o} reads) (Acts.size_nothing none) = absurd (none b o reads)
acts_same s h slot m (Acts.size_nothing none) (Acts.sized {base = b} {o = o} reads) = absurd (none b o reads)
acts_same s h slot m (Acts.size_nothing none) (Acts.size_nothing none') = (refl, λ no. refl)
acts_same s h slot m Acts.global_got Acts.global_got = (refl, λ no. refl)
acts_same s h slot m Acts.global_put Acts.global_put = (refl, λ no. refl)
acts_same s h slot m (Acts.link_misaligned ne) (Acts.link_misaligned ne') = (refl, λ no. refl)
acts_same s h slot m (Acts.link_misaligned ne) (Acts.link_nowhere al' none') = absurd (ne al')
acts_same s h slot m (Acts.link_misaligned ne) (Acts.link_in_normal {a = a'} {n = n'} {r = r'} {base = b'} {o = o'} al' reads' kind') = absurd (ne al')
acts_same s h slot m (Acts.link_misaligned ne) (Acts.link_to_nothing {a = a'} {n = n'} {r = r'} {base = b'} {o = o'} al' reads' kind' missing') = absurd (ne al')
acts_same s h slot m (Acts.link_misaligned ne) (Acts.links_full {a = a'} {n = n'} {r = r'} {base = b'} {named = k'} {o = o'} {p = p'} al' reads' kind' names' few' free') = absurd (ne al')
acts_same s h slot m (Acts.link_misaligned ne) (Acts.linked {a = a'} {n = n'} {r = r'} {base = b'} {named = k'} {o = o'} {p = p'} al' reads' kind' names' room') = absurd (ne al')
acts_same s h slot m (Acts.link_nowhere al none) (Acts.link_misaligned ne') = absurd (ne' al)
acts_same s h slot m (Acts.link_nowhere al none) (Acts.link_nowhere al' none') = (refl, λ no. refl)
acts_same s h slot m (Acts.link_nowhere al none) (Acts.link_in_normal {a = a'} {n = n'} {r = r'} {base = b'} {o = o'} al' reads' kind') = absurd (none b' o' reads')
acts_same s h slot m (Acts.link_nowhere al none) (Acts.link_to_nothing {a = a'} {n = n'} {r = r'} {base = b'} {o = o'} al' reads' kind' missing') = absurd (none b' o' reads')
acts_same s h slot m (Acts.link_nowhere al none) (Acts.links_full {a = a'} {n = n'} {r = r'} {base = b'} {named = k'} {o = o'} {p = p'} al' reads' kind' names' few' free') = absurd (none b' o' reads')
acts_same s h slot m (Acts.link_nowhere al none) (Acts.linked {a = a'} {n = n'} {r = r'} {base = b'} {named = k'} {o = o'} {p = p'} al' reads' kind' names' room') = absurd (none b' o' reads')
acts_same s h slot m (Acts.link_in_normal {a = a} {n = n} {r = r} {base = b} {o = o} al reads kind) (Acts.link_misaligned ne') = absurd (ne' al)
acts_same s h slot m (Acts.link_in_normal {a = a} {n = n} {r = r} {base = b} {o = o} al reads kind) (Acts.link_nowhere al' none') = absurd (none' b o reads)
acts_same s h slot m (Acts.link_in_normal {a = a} {n = n} {r = r} {base = b} {o = o} al reads kind) (Acts.link_in_normal {a = a'} {n = n'} {r = r'} {base = b'} {o = o'} al' reads' kind') = (refl, λ no. refl)
acts_same s h slot m (Acts.link_in_normal {a = a} {n = n} {r = r} {base = b} {o = o} al reads kind) (Acts.link_to_nothing {a = a'} {n = n'} {r = r'} {base = b'} {o = o'} al' reads' kind' missing') = absurd (normal_or_free (sym kind ∙ ap (λ (x : Object). x.kind) (same_read s h _ b b' o o' reads reads').1 ∙ kind'))
acts_same s h slot m (Acts.link_in_normal {a = a} {n = n} {r = r} {base = b} {o = o} al reads kind) (Acts.links_full {a = a'} {n = n'} {r = r'} {base = b'} {named = k'} {o = o'} {p = p'} al' reads' kind' names' few' free') = absurd (normal_or_free (sym kind ∙ ap (λ (x : Object). x.kind) (same_read s h _ b b' o o' reads reads').1 ∙ kind'))
acts_same s h slot m (Acts.link_in_normal {a = a} {n = n} {r = r} {base = b} {o = o} al reads kind) (Acts.linked {a = a'} {n = n'} {r = r'} {base = b'} {named = k'} {o = o'} {p = p'} al' reads' kind' names' room') = absurd (normal_or_free (sym kind ∙ ap (λ (x : Object). x.kind) (same_read s h _ b b' o o' reads reads').1 ∙ kind'))
acts_same s h slot m (Acts.link_to_nothing {a = a} {n = n} {r = r} {base = b} {o = o} al reads kind missing) (Acts.link_misaligned ne') = absurd (ne' al)
acts_same s h slot m (Acts.link_to_nothing {a = a} {n = n} {r = r} {base = b} {o = o} al reads kind missing) (Acts.link_nowhere al' none') = absurd (none' b o reads)
acts_same s h slot m (Acts.link_to_nothing {a = a} {n = n} {r = r} {base = b} {o = o} al reads kind missing) (Acts.link_in_normal {a = a'} {n = n'} {r = r'} {base = b'} {o = o'} al' reads' kind') = absurd (normal_or_free (sym kind' ∙ ap (λ (x : Object). x.kind) (same_read s h _ b' b o' o reads' reads).1 ∙ kind))
acts_same s h slot m (Acts.link_to_nothing {a = a} {n = n} {r = r} {base = b} {o = o} al reads kind missing) (Acts.link_to_nothing {a = a'} {n = n'} {r = r'} {base = b'} {o = o'} al' reads' kind' missing') = (refl, λ no. refl)
acts_same s h slot m (Acts.link_to_nothing {a = a} {n = n} {r = r} {base = b} {o = o} al reads kind missing) (Acts.links_full {a = a'} {n = n'} {r = r'} {base = b'} {named = k'} {o = o'} {p = p'} al' reads' kind' names' few' free') = absurd (missing k' p' names')
acts_same s h slot m (Acts.link_to_nothing {a = a} {n = n} {r = r} {base = b} {o = o} al reads kind missing) (Acts.linked {a = a'} {n = n'} {r = r'} {base = b'} {named = k'} {o = o'} {p = p'} al' reads' kind' names' room') = absurd (missing k' p' names')
acts_same s h slot m (Acts.links_full {a = a} {n = n} {r = r} {base = b} {named = k} {o = o} {p = p} al reads kind names few free) (Acts.link_misaligned ne') = absurd (ne' al)
acts_same s h slot m (Acts.links_full {a = a} {n = n} {r = r} {base = b} {named = k} {o = o} {p = p} al reads kind names few free) (Acts.link_nowhere al' none') = absurd (none' b o reads)
acts_same s h slot m (Acts.links_full {a = a} {n = n} {r = r} {base = b} {named = k} {o = o} {p = p} al reads kind names few free) (Acts.link_in_normal {a = a'} {n = n'} {r = r'} {base = b'} {o = o'} al' reads' kind') = absurd (normal_or_free (sym kind' ∙ ap (λ (x : Object). x.kind) (same_read s h _ b' b o' o reads' reads).1 ∙ kind))
acts_same s h slot m (Acts.links_full {a = a} {n = n} {r = r} {base = b} {named = k} {o = o} {p = p} al reads kind names few free) (Acts.link_to_nothing {a = a'} {n = n'} {r = r'} {base = b'} {o = o'} al' reads' kind' missing') = absurd (missing' k p names)
acts_same s h slot m (Acts.links_full {a = a} {n = n} {r = r} {base = b} {named = k} {o = o} {p = p} al reads kind names few free) (Acts.links_full {a = a'} {n = n'} {r = r'} {base = b'} {named = k'} {o = o'} {p = p'} al' reads' kind' names' few' free') = (refl, λ no. refl)
acts_same s h slot m (Acts.links_full {a = a} {n = n} {r = r} {base = b} {named = k} {o = o} {p = p} al reads kind names few free) (Acts.linked {a = a'} {n = n'} {r = r'} {base = b'} {named = k'} {o = o'} {p = p'} al' reads' kind' names' room') = absurd (no_room s _ few free room')
acts_same s h slot m (Acts.linked {a = a} {n = n} {r = r} {base = b} {named = k} {o = o} {p = p} al reads kind names room) (Acts.link_misaligned ne') = absurd (ne' al)
acts_same s h slot m (Acts.linked {a = a} {n = n} {r = r} {base = b} {named = k} {o = o} {p = p} al reads kind names room) (Acts.link_nowhere al' none') = absurd (none' b o reads)
acts_same s h slot m (Acts.linked {a = a} {n = n} {r = r} {base = b} {named = k} {o = o} {p = p} al reads kind names room) (Acts.link_in_normal {a = a'} {n = n'} {r = r'} {base = b'} {o = o'} al' reads' kind') = absurd (normal_or_free (sym kind' ∙ ap (λ (x : Object). x.kind) (same_read s h _ b' b o' o reads' reads).1 ∙ kind))
acts_same s h slot m (Acts.linked {a = a} {n = n} {r = r} {base = b} {named = k} {o = o} {p = p} al reads kind names room) (Acts.link_to_nothing {a = a'} {n = n'} {r = r'} {base = b'} {o = o'} al' reads' kind' missing') = absurd (missing' k p names)
acts_same s h slot m (Acts.linked {a = a} {n = n} {r = r} {base = b} {named = k} {o = o} {p = p} al reads kind names room) (Acts.links_full {a = a'} {n = n'} {r = r'} {base = b'} {named = k'} {o = o'} {p = p'} al' reads' kind' names' few' free') = absurd (no_room s _ few' free' room)
acts_same s h slot m (Acts.linked {a = a} {n = n} {r = r} {base = b} {named = k} {o = o} {p = p} al reads kind names room) (Acts.linked {a = a'} {n = n'} {r = r'} {base = b'} {named = k'} {o = o'} {p = p'} al' reads' kind' names' room') = (refl, λ no. ap (λ (x : Object). with_link s (address m a n) x.birth) (same_read s h (register m r) k k' p p' names names').1)
acts_same s h slot m Acts.unlinked Acts.unlinked = (refl, λ no. refl)

pub calls_same : (s : Heap) → IsLegible s → (slot : ℕ) (call : Call) (reply reply' : Reply) (t t' : Heap) → Calls s slot call reply t → Calls s slot call reply' t' → Same call reply reply' t t'
calls_same s h slot call reply reply' t t' (acts {m = m} at act) (acts {m = k} at' act') =
    acts_same s h slot m act (subst (λ x. Acts s slot x call reply' t') (sym (same_mutator s slot m k at at')) act')
calls_same s h slot call reply reply' t t' (acts {m = m} at act) (vacant none) = absurd (none-some m (same_Some None (Some m) (sym none ∙ at)))
calls_same s h slot call reply reply' t t' (vacant none) (acts {m = m} at act) = absurd (none-some m (same_Some None (Some m) (sym none ∙ at)))
calls_same s h slot call reply reply' t t' (vacant none) (vacant none') = (refl, λ no. refl)
