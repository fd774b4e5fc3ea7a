-- Each call keeps a heap sound.
use Rattle.std.proofs.Common.{◌≡◌, ℕ, ◌+◌, ◌<◌, ◌≤◌, ◌⊎◌, List, [], ◌∷◌, ◌++◌, length, refl, sym, ap, ◌∙◌, subst, arith, ⊎_elim}
use Rattle.std.specs.Prelude.{Option, Some, None, All, replicate, slice_index, slice_set}
use Rattle.std.proofs.lemmas.Bool.{cases_lt}
use Rattle.std.proofs.lemmas.Option.{get_or_from_slice_get, slice_get_within, none-some}
use Rattle.std.proofs.lemmas.List.{length-set, length-replicate, length_push, get_or_past}
use Rattle.std.proofs.lemmas.List.Elements.{All-set, All-replicate, All-push, All-pop, All-get_or, All-nil}
use Rattle.words.specs.declared.limits.TheConstants.{GLOBALS, MAX_PAGES, MAX_REQUEST_WORDS, MOST_PAGES, MOST_REQUEST_WORDS, REGISTERS, SLOTS, STACK_WORDS}
use Rattle.words.specs.declared.class.Kind.{Kind}
use Rattle.words.specs.declared.class.Placement.{Placement}
use Rattle.words.specs.Placing.{placement_of}
use Rattle.heap_spec.specs.declared.call.Call.{Call}
use Rattle.heap_spec.specs.declared.call.Call.TheVariants.{Set}
use Rattle.heap_spec.specs.declared.reply.Reply.{Reply}
use Rattle.heap_spec.specs.Heap.{Heap, Object, Link, Mutator, IsAttached, IsSameObject, HasObject, opening, opening_with, with_at, without, loses_word}
use Rattle.heap_spec.specs.Layout.{index_in}
use Rattle.heap_spec.proofs.Links.{links_kept, links_left, links_linked, links_unlinked, left_by, same_left, cleared_words}
use Rattle.heap_spec.specs.Room.{HasRoom, length_of}
use Rattle.heap_spec.specs.Steps.{newcomer, with_mutator, with_register, with_new, with_object, register, address, Attaches, attached, no_slot, Acts, Calls, acts, vacant}
use Rattle.heap_spec.specs.Cycles.{TakesOut}
use Rattle.heap_spec.specs.Ranges.{IsWord, CallInRange}
use Rattle.heap_spec.specs.Sound.{IsSound, IsRow, IsMutator, IsSlot, AreObjects, IsCell, ArePages, LieInHeap, AreLinks, IsLink}
use Rattle.heap_spec.proofs.Layouts.{AreApart, placed, cell_lies, pages_lie}
use Rattle.heap_spec.proofs.Objects.{Was, with_at-same, with_at-other, same_object, objects_kept, objects_stored, objects_more, object_lies, room_laid, room_apart, no_object_at}
use Rattle.std.specs.Prelude.{◌≢◌}
use Rattle.std.proofs.lemmas.Bool.{cases_eq}
use Rattle.std.proofs.lemmas.Option.{same_Some}

-- a word of a list of words
word_at : (words : List ℕ) (i : ℕ) → All IsWord words → IsWord (slice_index words i)
word_at words i all = ⊎_elim (λ lt. All-get_or IsWord words i 0 lt all) (λ past. rw (get_or_past words i 0 past) (omega arith)) (cases_lt i (length words))

row_set : (n : ℕ) (row : List ℕ) (i w : ℕ) → IsRow n row → IsWord w → IsRow n (slice_set row i w)
row_set n row i w h fits = record { size = length-set row i w ∙ h.size; words = All-set IsWord row i w fits h.words }

row_of_zeros : (n : ℕ) → IsRow n (replicate n 0)
row_of_zeros n = record { size = length-replicate n 0; words = All-replicate IsWord n 0 (omega arith) }

-- an attached mutator of a sound heap
pub attached_is : (s : Heap) (slot : ℕ) (m : Mutator) → IsSound s → IsAttached s slot m → IsMutator m
attached_is s slot m h at =
    subst IsSlot (get_or_from_slice_get s.mutators slot (Some m) (Some m) at) (h.mutators slot (Some m) (slice_get_within s.mutators slot (Some m) at))

register_is : (m : Mutator) (r : ℕ) → IsMutator m → IsWord (register m r)
register_is m r h = word_at m.registers r h.registers.words

newcomer_is : IsMutator newcomer
newcomer_is = record { registers = row_of_zeros REGISTERS; room = omega arith; stack = All-nil IsWord }

-- a sound heap with another mutator at a slot, or none
slot_kept : (s : Heap) (slot : ℕ) (m : Option Mutator) → IsSound s → IsSlot m → IsSound (with_mutator s slot m)
slot_kept s slot m h is = record {
  some_page = h.some_page;
  few_pages = h.few_pages;
  few_words = h.few_words;
  objects = h.objects;
  slots = length-set s.mutators slot m ∙ h.slots;
  mutators = All-set IsSlot s.mutators slot m is h.mutators;
  globals = h.globals;
  links = links_kept s (with_mutator s slot m) refl (λ base o has. (o, has, same_object o)) h.links;
}

register_kept : (s : Heap) (slot : ℕ) (m : Mutator) (r w : ℕ) → IsSound s → IsMutator m → IsWord w → IsSound (with_register s slot m r w)
register_kept s slot m r w h is fits = slot_kept s slot _ h (record { registers = row_set _ m.registers r w is.registers fits; room = is.room; stack = is.stack })

pushed_is : (m : Mutator) (w : ℕ) → IsMutator m → length m.stack < STACK_WORDS → IsWord w → IsMutator (record m { stack = m.stack ++ w ∷ [] })
pushed_is m w h few fits = record { registers = h.registers; room = (let l : length (m.stack ++ w ∷ []) ≡ length m.stack + 1 = length_push m.stack w in omega arith); stack = All-push IsWord m.stack w h.stack fits }

popped_is : (m : Mutator) (rest : List ℕ) (w : ℕ) → IsMutator m → m.stack ≡ rest ++ w ∷ [] → IsMutator (record m { stack = rest }) × IsWord w
popped_is m rest w h e =
    let both = All-pop IsWord m.stack rest (Some w) e h.stack in
    let l : length m.stack ≡ length rest + 1 = ap length e ∙ length_push rest w in
    let room = h.room in
    (record { registers = h.registers; room = omega arith; stack = both.0 }, both.1)

-- a sound heap with other objects and links
objects_in : (s : Heap) (objects : ℕ → Option Object) (links : List Link) → IsSound s → AreObjects s.pages s.births objects → AreLinks (record s { objects = objects; links = links }) → IsSound (record s { objects = objects; links = links })
objects_in s objects links h is are = record { some_page = h.some_page; few_pages = h.few_pages; few_words = h.few_words; objects = is; slots = h.slots; mutators = h.mutators; globals = h.globals; links = are }

-- a sound heap from which objects have gone
pub without_kept : (s : Heap) (bases : List ℕ) → IsSound s → IsSound (without s bases)
without_kept s bases h = objects_in s _ _ h (objects_kept s.pages s.births s.objects _ h.objects was) (links_left s bases h.links)
  where
    was : (base : ℕ) (p : Object) → HasObject (without s bases) base p → Was s.objects base p
    was base p has =
        let left = left_by s bases base p has in let same = same_left s bases base p left in
        (left.object, left.has, sym same.size, sym same.birth, subst (λ (x : Object). All IsWord x.words) left.is (cleared_words (loses_word s bases) base left.object.words (h.objects.words base left.object left.has)))

alloc_kept : (s : Heap) (slot : ℕ) (m : Mutator) (d n : ℕ) (kind : Kind) (placement : Placement) (a : ℕ) → IsSound s → IsMutator m → placement_of s.request_words n ≡ Some placement → HasRoom s placement kind a
    → IsSound (with_register (with_new s a kind placement) slot m d a)
alloc_kept s slot m d n kind placement a h is e room = record {
  some_page = h.some_page;
  few_pages = h.few_pages;
  few_words = h.few_words;
  objects = objects;
  slots = length-set s.mutators slot _ ∙ h.slots;
  mutators = All-set IsSlot s.mutators slot _ (record { registers = row_set _ m.registers d a is.registers fits; room = is.room; stack = is.stack }) h.mutators;
  globals = h.globals;
  links = links_kept s _ refl (λ base o has. (o, with_at-other s.objects a (Some new) base (ne base o has) ∙ has, same_object o)) h.links;
}
  where
    new : Object
    new = record { birth = s.births + 1; kind = kind; words = replicate (length_of placement) 0 }

    size : length new.words ≡ length_of placement
    size = length-replicate (length_of placement) 0

    ne : (base : ℕ) (o : Object) → HasObject s base o → base ≢ a
    ne base o has same = no_object_at s h placement kind a (placed s.request_words n placement e) room o (subst (λ x. HasObject s x o) same has)

    laid : IsCell s.pages a (length_of placement) ⊎ ArePages s.pages a (length_of placement)
    laid = room_laid s placement kind a (placed s.request_words n placement e) room

    objects : AreObjects s.pages (s.births + 1) (with_at s.objects a (Some new))
    objects = objects_more s.pages s.births s.objects a new h.objects refl
        (subst (λ k. IsCell s.pages a k ⊎ ArePages s.pages a k) (sym size) laid)
        (All-replicate IsWord (length_of placement) 0 (omega arith))
        (λ b p has ne. subst (λ k. AreApart a k b (length p.words)) (sym size) (room_apart s h placement kind a (placed s.request_words n placement e) room b p has ne))

    lies : LieInHeap s.pages a (length_of placement)
    lies = ⊎_elim (cell_lies _ _ _) (pages_lie _ _ _) laid

    fits : IsWord a
    fits = let to = lies.to in let few = h.few_pages in omega arith

-- after a store each object is there still
pub stored_same : (s : Heap) (base b : ℕ) (o p : Object) (i w : ℕ) → HasObject s base o → HasObject s b p
    → (q : Object) × HasObject (with_object s base (Some (record o { words = slice_set o.words i w }))) b q × IsSameObject p q
stored_same s base b o p i w has hasb = ⊎_elim
    (λ same. let e : p ≡ o = same_Some p o (sym hasb ∙ ap s.objects same ∙ has) in (
      record o { words = slice_set o.words i w },
      with_at-same s.objects base _ b same,
      subst (λ (x : Object). IsSameObject x (record o { words = slice_set o.words i w })) (sym e) (record { birth = refl; kind = refl; size = length-set o.words i w }),
    ))
    (λ ne. (p, with_at-other s.objects base _ b ne ∙ hasb, same_object p))
    (cases_eq b base)

-- the word that a call brings, if it brings one, is a word
abbrev pub BringsWord : Call → Type 0
BringsWord (Set r w) = IsWord w
BringsWord _ = Unit {0}

brings_word : (call : Call) → CallInRange call → BringsWord call
brings_word (Set r w) range = range.1
brings_word _ range = tt

-- A call of an attached mutator keeps a sound heap sound, whatever registers and globals it names.
pub acts_kept : (s : Heap) (slot : ℕ) (m : Mutator) → IsSound s → IsMutator m → {call : Call} {reply : Reply} {s' : Heap} → Acts s slot m call reply s' → BringsWord call → IsSound s'
acts_kept s slot m h is Acts.detached word = slot_kept s slot None h tt
acts_kept s slot m h is (Acts.set {r = r} {w = w}) word = register_kept s slot m r w h is word
acts_kept s slot m h is (Acts.copied {d = d} {a = a}) word = register_kept s slot m d _ h is (register_is m a is)
acts_kept s slot m h is (Acts.added {d = d}) word = register_kept s slot m d _ h is (omega arith)
acts_kept s slot m h is (Acts.subtracted {d = d}) word = register_kept s slot m d _ h is (omega arith)
acts_kept s slot m h is (Acts.pushed {r = r} few) word = slot_kept s slot _ h (pushed_is m (register m r) is few (register_is m r is))
acts_kept s slot m h is (Acts.popped {r = r} {w = w} rest e) word = let p = popped_is m rest w is e in register_kept s slot (record m { stack = rest }) r w h p.0 p.1
acts_kept s slot m h is (Acts.loaded {d = d} {base = base} {o = o} al reads) word = register_kept s slot m d _ h is (word_at o.words _ (h.objects.words base o reads.0))
acts_kept s slot m h is (Acts.stored {a = a} {n = n} {r = r} {base = base} {o = o} al reads) word = objects_in s _ s.links h (objects_stored s.pages s.births s.objects base _ _ o h.objects reads.0 (register_is m r is))
    (links_kept s (with_object s base (Some (record o { words = slice_set o.words (index_in base (address m a n)) (register m r) }))) refl (λ b p has. stored_same s base b o p _ _ reads.0 has) h.links)
acts_kept s slot m h is (Acts.allocated {d = d} {n = n} {kind = kind} {placement = placement} a e room) word = alloc_kept s slot m d n kind placement a h is e room
acts_kept s slot m h is (Acts.freed {r = r} has) word = without_kept s (register m r ∷ []) h
acts_kept s slot m h is (Acts.based {d = d} {base = base} {o = o} reads) word =
    register_kept s slot m d base h is (let lies = object_lies s h base o reads.0 in let to = lies.to in let few = h.few_pages in omega arith)
acts_kept s slot m h is (Acts.global_got {d = d} {g = g}) word = register_kept s slot m d _ h is (word_at s.globals g h.globals.words)
acts_kept s slot m h is (Acts.global_put {g = g} {r = r}) word = record {
  some_page = h.some_page;
  few_pages = h.few_pages;
  few_words = h.few_words;
  objects = h.objects;
  slots = h.slots;
  mutators = h.mutators;
  globals = row_set _ s.globals g _ h.globals (register_is m r is);
  links = links_kept s _ refl (λ base o has. (o, has, same_object o)) h.links;
}
acts_kept s slot m h is (Acts.linked {a = a} {n = n} {base = base} {named = named} {o = o} {p = p} al reads kind names room) word =
    objects_in s s.objects _ h h.objects (links_linked s (address m a n) base named o p h.links al reads kind names.0 room)
acts_kept s slot m h is (Acts.unlinked {a = a} {n = n}) word = objects_in s s.objects _ h h.objects (links_unlinked s (address m a n) h.links)
acts_kept s slot m h is _ word = h

pub calls_sound : (s : Heap) (slot : ℕ) (call : Call) → IsSound s → BringsWord call → {reply : Reply} {s' : Heap} → Calls s slot call reply s' → IsSound s'
calls_sound s slot call h word (acts {m = m} at act) = acts_kept s slot m h (attached_is s slot m h at) act word
calls_sound s slot call h word (vacant none) = h

pub calls_kept : (s : Heap) (slot : ℕ) (call : Call) → IsSound s → CallInRange call → {reply : Reply} {s' : Heap} → Calls s slot call reply s' → IsSound s'
calls_kept s slot call h range calls = calls_sound s slot call h (brings_word call range) calls

pub attaches_kept : (s : Heap) → IsSound s → {reply : Reply} {s' : Heap} → Attaches s reply s' → IsSound s'
attaches_kept s h (attached {slot = slot} lowest) = slot_kept s slot (Some newcomer) h newcomer_is
attaches_kept s h (no_slot none) = h

-- What a collection takes out leaves a sound heap sound.
pub takes_out_kept : (s : Heap) (bases : List ℕ) (reply : Reply) (s' : Heap) → IsSound s → TakesOut s bases reply s' → IsSound s'
takes_out_kept s bases reply s' h takes = subst IsSound (sym takes.after) (without_kept s bases h)

-- a new heap is sound
pub opening_with_is : (pages request_words : ℕ) → 1 ≤ pages → pages ≤ MOST_PAGES → request_words ≤ MOST_REQUEST_WORDS → IsSound (opening_with pages request_words)
opening_with_is pages request_words some few words = record {
  some_page = some;
  few_pages = few;
  few_words = words;
  objects = record {
    laid = λ base o is. absurd (none-some o is);
    words = λ base o is. absurd (none-some o is);
    born = λ base o is. absurd (none-some o is);
    distinct = λ a b o p io ip e. absurd (none-some o io);
    apart = λ a b o p io ip lt. absurd (none-some o io);
  };
  slots = length-replicate {A = Option Mutator} SLOTS None;
  mutators = All-replicate IsSlot SLOTS None tt;
  globals = row_of_zeros GLOBALS;
  links = record { each = All-nil (IsLink (opening_with pages request_words)); distinct = λ i j d lt within. absurd (omega arith); few = omega arith };
}

pub opening_is : (pages : ℕ) → 1 ≤ pages → pages ≤ MAX_PAGES → IsSound (opening pages)
opening_is pages some few = opening_with_is pages MAX_REQUEST_WORDS some (omega (arith, few)) (omega arith)
