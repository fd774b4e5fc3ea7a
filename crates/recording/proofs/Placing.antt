-- Where the object of a granted request was born.
use Rattle.std.proofs.Common.{◌≡◌, ℕ, ◌<◌, ◌++◌, ◌∷◌, [], List, length, refl, sym, ap, ◌∙◌, arith, length-set, get_or-set_same}
use Rattle.std.specs.Prelude.{Some, Result, Ok, Err, slice_get, slice_set}
use Rattle.std.proofs.lemmas.Option.{slice_get_within, slice_get-get_or, same_Some, none-some}
use Rattle.words.specs.declared.class.Kind.{Kind}
use Rattle.words.specs.declared.refusal.Refusal.{Refusal}
use Rattle.heap_spec.specs.declared.call.Call.TheVariants.{Alloc, Get}
use Rattle.heap_spec.specs.declared.reply.Reply.{Reply}
use Rattle.heap_spec.specs.declared.reply.Reply.TheVariants.{Done, Word, Refused}
use Rattle.heap_spec.specs.Heap.{Heap, Object, Mutator as HeapMutator, HasObject, IsAttached, with_at}
use Rattle.heap_spec.specs.Replies.{word_reply}
use Rattle.heap_spec.specs.Sound.{IsSound}
use Rattle.heap_spec.specs.Steps.{Acts, Calls, acts, vacant, register}
use Rattle.heap_spec.proofs.Calls.{attached_is, acts_kept}
use Rattle.heap_spec.proofs.Layouts.{placed}
use Rattle.heap_spec.proofs.Objects.{with_at-same, one_read}
use Rattle.heap_history.proofs.Held.{room_none}
use Rattle.heap_core.specs.CoreContents.{CoreContents}
use Rattle.heap_core.specs.Standing.{StandsFor}
use Rattle.plain_heap.specs.Answering.{IsBornAt}
use Rattle.recording.specs.RecorderContents.{RecorderContents, names_place}
use Rattle.recording.specs.Noting.{NotesWord}

slice_get-set_same : {A : Type 0} (l : List A) (i : ℕ) (x : A) → i < length l → slice_get (slice_set l i x) i ≡ Some x
slice_get-set_same l i x lt = slice_get-get_or (slice_set l i x) i x (rw (length-set l i x) lt) ∙ ap Some (get_or-set_same l i x x lt)

-- a register is answered by its word
got_word : (s : Heap) (slot r : ℕ) (m n : HeapMutator) {reply : Reply} {s' : Heap} → n ≡ m → Acts s slot n (Get r) reply s' → reply ≡ Word (register m r)
got_word s slot r m n same Acts.got = ap (λ (x : HeapMutator). Word (register x r)) same

get_answers : (s : Heap) (slot r : ℕ) (m : HeapMutator) (reply : Reply) (s' : Heap) → Calls s slot (Get r) reply s' → IsAttached s slot m → reply ≡ Word (register m r)
get_answers s slot r m reply s' (acts {m = n} at act) here = got_word s slot r m n (same_Some _ _ (same_Some _ _ (sym at ∙ here))) act
get_answers s slot r m reply s' (vacant none) here = absurd (none-some m (same_Some _ _ (sym none ∙ here)))

-- an answer that is a word
word_of : (answer : Result ℕ Refusal) (w : ℕ) → word_reply answer ≡ Word w → answer ≡ Ok w
word_of (Ok x) w is = ap Ok (same x w is)
  where
    same : (a b : ℕ) → Word a ≡ Word b → a ≡ b
    same a b e = cc
word_of (Err why) w is = absurd (other why w is)
  where
    other : (r : Refusal) (b : ℕ) → Refused r ≡ Word b → ⊥
    other r b e = cc

-- an object came at a base that none had, and it is noted
pub record IsPlaced (s s' : Heap) (old new : RecorderContents) : Type 0 where
  pub base : ℕ
  pub note : new.note ≡ names_place base
  pub bases : new.bases ≡ old.bases ++ base ∷ []
  pub born : IsBornAt s base s'
  pub free : (o : Object) → HasObject s base o → ⊥
  pub object : Object
  pub after : s'.objects ≡ with_at s.objects base (Some object)

module _ (c : CoreContents) (slot into words : ℕ) (kind : Kind) (old new : RecorderContents) (is : NotesWord c slot into old new) where
  -- the register has the base of the new object, and a `get` of it was answered
  act_places : (s : Heap) (m : HeapMutator) {s' : Heap} → IsSound s → IsAttached s slot m → Acts s slot m (Alloc into words kind) Done s' → StandsFor c s' → IsPlaced s s' old new
  act_places s m sound at (Acts.allocated {placement = p} a e room) stands =
      let changed : HeapMutator = record m { registers = slice_set m.registers into a } in
      let there : into < length m.registers = (let size = (attached_is s slot m sound at).registers.size in let range = is.range in omega arith) in
      let now = slice_get-set_same s.mutators slot (Some changed) (slice_get_within s.mutators slot (Some m) at) in
      let step = is.reads.steps _ stands in
      let answered = get_answers _ slot into changed (word_reply is.answer) step.0 step.1 now ∙ ap Word (get_or-set_same m.registers into a 0 there) in
      let word = word_of is.answer a answered in
      record {
        base = a;
        note = is.place a word;
        bases = is.bases a word;
        born = record {
          object = _;
          there = with_at-same s.objects a _ a refl;
          newest = omega arith;
          alone = λ other w o has reads others.
              one_read _ (acts_kept s slot m sound (attached_is s slot m sound at) (Acts.allocated {d = into} {n = words} {kind = kind} {placement = p} a e room) tt) w other a o _ (has, others) (with_at-same s.objects a _ a refl, reads);
        };
        free = room_none s sound p kind a (placed _ words p e) room;
        object = _;
        after = refl;
      }

  pub call_places : (s s' : Heap) → IsSound s → Calls s slot (Alloc into words kind) Done s' → StandsFor c s' → IsPlaced s s' old new
  call_places s s' sound (acts {m = m} at act) stands = act_places s m sound at act stands
