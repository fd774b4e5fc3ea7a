-- A mutator's own object, and what a store in one leaves of it and of others.
use Rattle.std.proofs.Common.{◌≡◌, ◌≢◌, ℕ, ◌+◌, ◌*◌, ◌<◌, ◌≤◌, ◌==◌, Bool, cond, length, refl, sym, ap, ◌∙◌, subst, arith, ne_eqb, eq-eqb, ⊎_elim, get_or-set_same}
use Rattle.std.specs.Prelude.{Option, Some, None, IfSome, slice_index, slice_set}
use Rattle.std.proofs.lemmas.Bool.{cases_eq}
use Rattle.std.proofs.lemmas.Option.{same_Some, none-some}
use Rattle.std.proofs.lemmas.List.{length-set, get_or-set_other}
use Rattle.words.specs.declared.class.Kind.TheVariants.{Normal}
use Rattle.heap_spec.specs.declared.call.Call.{Call}
use Rattle.heap_spec.specs.declared.call.Call.TheVariants.{Get, Load, Store}
use Rattle.heap_spec.specs.declared.reply.Reply.{Reply}
use Rattle.heap_spec.specs.declared.reply.Reply.TheVariants.{Done, Word}
use Rattle.heap_spec.specs.Layout.{index_in}
use Rattle.heap_spec.specs.Heap.{Heap, Object, Mutator as HeapMutator, HasObject, PointsIntoObject, IsAttached}
use Rattle.heap_spec.specs.Steps.{Acts, Calls, acts, vacant, register, address}
use Rattle.heap_spec.specs.Sound.{IsSound}
use Rattle.heap_spec.proofs.Loads.{same_mutator}
use Rattle.heap_spec.proofs.Objects.{with_at-same, with_at-other, object_lies, one_read}
use Rattle.heap_history.specs.OwnObjects.{Content, unknown, a_word, own_object, known_word, own_words, known_at, IsAsKnownCall}
use Rattle.heap_history.proofs.Slots.{not_both}
use Rattle.heap_history.proofs.Loaded.{load_is}
use Rattle.heap_history.proofs.OwnWords.{address_of}

-- A register has the base of a Normal object of at least so many words, of which those that are known are these.
pub record HasOwn (s : Heap) (m : HeapMutator) (d n : ℕ) (words : ℕ → Option ℕ) : Type 0 where
  pub object : Object
  pub there : d < length m.registers
  pub has : HasObject s (register m d) object
  pub kind : object.kind ≡ Normal
  pub size : n ≤ length object.words
  pub known : (k w : ℕ) → words k ≡ Some w → k < n → slice_index object.words k ≡ w

-- the register is as it is known
abbrev pub IsAs : Heap → HeapMutator → ℕ → Content → Type 0
IsAs s m d unknown = Unit {0}
IsAs s m d (a_word w) = register m d ≡ w
IsAs s m d (own_object n words) = HasOwn s m d n words

abbrev pub IsOwn : Content → Type 0
IsOwn unknown = ⊥
IsOwn (a_word w) = ⊥
IsOwn (own_object n words) = Unit {0}

-- A Normal object that a register is known to have.
pub record IsThere (s : Heap) (m : HeapMutator) (d : ℕ) : Type 0 where
  pub object : Object
  pub there : d < length m.registers
  pub has : HasObject s (register m d) object
  pub kind : object.kind ≡ Normal

pub own_is : (s : Heap) (m : HeapMutator) (d : ℕ) (c : Content) → IsOwn c → IsAs s m d c → IsThere s m d
own_is s m d unknown own fact = absurd own
own_is s m d (a_word w) own fact = absurd own
own_is s m d (own_object n words) own fact = record { object = fact.object; there = fact.there; has = fact.has; kind = fact.kind }

-- Where register and object stay, what is known of them does.
pub moved : (s s' : Heap) (m m' : HeapMutator) (d : ℕ) (c : Content) → register m' d ≡ register m d → length m'.registers ≡ length m.registers
    → (IsOwn c → (o : Object) → HasObject s (register m d) o → HasObject s' (register m d) o) → IsAs s m d c → IsAs s' m' d c
moved s s' m m' d unknown word size stays fact = tt
moved s s' m m' d (a_word w) word size stays fact = word ∙ fact
moved s s' m m' d (own_object n words) word size stays fact = record {
  object = fact.object;
  there = subst (λ i. d < i) (sym size) fact.there;
  has = ap s'.objects word ∙ stays tt fact.object fact.has;
  kind = fact.kind;
  size = fact.size;
  known = fact.known;
}

-- What an object gives that has a word at this place.
pub record Given (s : Heap) (m : HeapMutator) (d k : ℕ) (c : Content) : Type 0 where
  pub n : ℕ
  pub words : ℕ → Option ℕ
  pub own : HasOwn s m d n words
  pub within : k < n
  pub content : c ≡ own_object n words
  pub is_own : IsOwn c

pub given : (s : Heap) (m : HeapMutator) (d k : ℕ) (c : Content) → k < own_words c → IsAs s m d c → Given s m d k c
given s m d k unknown lt fact = absurd (omega (arith, lt))
given s m d k (a_word w) lt fact = absurd (omega (arith, lt))
given s m d k (own_object n words) lt fact = record { n = n; words = words; own = fact; within = lt; content = refl; is_own = tt }

-- a call of an attached mutator is its own
pub calls_acts : (s : Heap) (slot : ℕ) (m : HeapMutator) {call : Call} {reply : Reply} {s' : Heap} → IsAttached s slot m → Calls s slot call reply s' → Acts s slot m call reply s'
calls_acts s slot m {call = call} {reply = reply} {s' = s'} at (acts {m = k} at' act) = subst (λ (x : HeapMutator). Acts s slot x call reply s') (same_mutator s slot k m at' at) act
calls_acts s slot m at (vacant none) = absurd (not_both s slot m at none)

-- where a word of an own object lies
pub record Place (s : Heap) (m : HeapMutator) (d k : ℕ) (o : Object) : Type 0 where
  pub address_is : address m d k ≡ register m d + 8 * k
  pub reads : PointsIntoObject s (address m d k) (register m d) o

pub place_is : (s : Heap) → IsSound s → (m : HeapMutator) (d k n : ℕ) (words : ℕ → Option ℕ) → (own : HasOwn s m d n words) → k < n → Place s m d k own.object
place_is s h m d k n words own lt =
    let long = own.size in
    let is : address m d k ≡ register m d + 8 * k = address_of s h m d k (register m d) own.object refl own.has (omega (arith, lt, long)) in
    record { address_is = is; reads = (own.has, (omega (arith, is), omega (arith, is, lt, long))) }

-- A store in it changes one of its words.
pub store_own : (s : Heap) → IsSound s → (slot a k r : ℕ) (m : HeapMutator) (n : ℕ) (words : ℕ → Option ℕ) → (own : HasOwn s m a n words) → k < n → {s' : Heap} → Acts s slot m (Store a k r) Done s'
    → (s'.mutators ≡ s.mutators) × HasObject s' (register m a) (record own.object { words = slice_set own.object.words k (register m r) })
store_own s h slot a k r m n words own lt (Acts.stored {base = base} {o = o} al reads) =
    let place = place_is s h m a k n words own lt in
    let at = place.address_is in
    let same : base ≡ register m a = one_read s h (address m a k) base (register m a) o own.object reads place.reads in
    let object : o ≡ own.object = same_Some o own.object (sym reads.0 ∙ (ap s.objects same ∙ own.has)) in
    let index : index_in base (address m a k) ≡ k = omega (arith, same, at) in
    (refl, with_at-same s.objects base _ (register m a) (sym same) ∙ (λ i. Some (record (object i) { words = slice_set (object i).words (index i) (register m r) })))

-- and no other object
pub store_else : (s : Heap) → IsSound s → (slot a k r : ℕ) (m : HeapMutator) (n : ℕ) (words : ℕ → Option ℕ) → (own : HasOwn s m a n words) → k < n → {reply : Reply} {s' : Heap} → Acts s slot m (Store a k r) reply s'
    → (base : ℕ) (o : Object) → base ≢ register m a → HasObject s base o → HasObject s' base o
store_else s h slot a k r m n words own lt (Acts.stored {base = b} {o = p} al reads) base o ne has =
    let place = place_is s h m a k n words own lt in
    let same : b ≡ register m a = one_read s h (address m a k) b (register m a) p own.object reads place.reads in
    with_at-other s.objects b _ base (λ e. ne (e ∙ same)) ∙ has
store_else s h slot a k r m n words own lt (Acts.store_misaligned al) base o ne has = has
store_else s h slot a k r m n words own lt (Acts.store_nothing al none) base o ne has = has

-- the own object after such a store
pub stored_own : (s s' : Heap) (m : HeapMutator) (d k w n : ℕ) (words : ℕ → Option ℕ) (stored : Option ℕ) → ((v : ℕ) → stored ≡ Some v → w ≡ v) → (own : HasOwn s m d n words) → k < n
    → HasObject s' (register m d) (record own.object { words = slice_set own.object.words k w }) → HasOwn s' m d n (λ i. cond (i == k) stored (words i))
stored_own s s' m d k w n words stored is own lt has = record {
  object = record own.object { words = slice_set own.object.words k w };
  there = own.there;
  has = has;
  kind = own.kind;
  size = (let long = own.size in let same = length-set own.object.words k w in omega (arith, long, same));
  known = λ i v e below. ⊎_elim
      (λ (same : i ≡ k).
      let said : stored ≡ Some v = sym (ap (λ (b : Bool). cond b stored (words i)) (eq-eqb i k same)) ∙ e in
      let long = own.size in
      ap (λ j. slice_index (slice_set own.object.words k w) j) same ∙ (get_or-set_same own.object.words k w 0 (omega (arith, lt, long)) ∙ is v said))
      (λ (other : i ≢ k).
      let said : words i ≡ Some v = sym (ap (λ (b : Bool). cond b stored (words i)) (ne_eqb i k other)) ∙ e in
      get_or-set_other own.object.words k i w 0 other ∙ own.known i v said below)
      (cases_eq i k);
}

-- what is known of a register is its word
pub word_is : (s : Heap) (m : HeapMutator) (r : ℕ) (c : Content) → IsAs s m r c → (v : ℕ) → known_word c ≡ Some v → register m r ≡ v
word_is s m r unknown fact v e = absurd (none-some v e)
word_is s m r (a_word w) fact v e = fact ∙ same_Some w v e
word_is s m r (own_object n words) fact v e = absurd (none-some v e)

-- A look at a register, and a load from an own object, answer what is known.
get_as_known : (s : Heap) (slot : ℕ) (m : HeapMutator) (r : ℕ) (c : Content) → IsAs s m r c → {reply : Reply} {s' : Heap} → Acts s slot m (Get r) reply s' → IfSome (known_word c) (λ w. reply ≡ Word w)
get_as_known s slot m r unknown fact Acts.got = tt
get_as_known s slot m r (a_word w) fact Acts.got = ap Word fact
get_as_known s slot m r (own_object n words) fact Acts.got = tt

load_as_known : (s : Heap) → IsSound s → (slot : ℕ) (m : HeapMutator) (a k : ℕ) → IsAttached s slot m → (c : Content) → IsAs s m a c → k < own_words c
    → {d : ℕ} {reply : Reply} {s' : Heap} → Calls s slot (Load d a k) reply s' → IfSome (known_at c k) (λ w. reply ≡ Word w)
load_as_known s h slot m a k at unknown fact lt calls = tt
load_as_known s h slot m a k at (a_word w) fact lt calls = tt
load_as_known s h slot m a k at (own_object n words) fact lt {reply = reply} calls = by (words k) refl
  where
    by : (o : Option ℕ) → words k ≡ o → IfSome o (λ w. reply ≡ Word w)
    by None e = tt
    by (Some w) e =
        let place = place_is s h m a k n words fact lt in
        let is = place.address_is in
        let even = (object_lies s h (register m a) fact.object fact.has).aligned in
        let index : index_in (register m a) (address m a k) ≡ k = omega (arith, is) in
        load_is s h slot m a k w (record {
          at = at;
          aligned = omega (arith, is, even);
          base = register m a;
          object = fact.object;
          reads = place.reads;
          word = ap (λ i. slice_index fact.object.words i) index ∙ fact.known k w e lt;
        }) calls

pub call_as_known : (s : Heap) → IsSound s → (slot : ℕ) (m : HeapMutator) (known : ℕ → Content) → IsAttached s slot m → ((d : ℕ) → IsAs s m d (known d)) → (call : Call) {reply : Reply} {s' : Heap}
    → Calls s slot call reply s' → IsAsKnownCall known call reply
call_as_known s h slot m known at fact (Get r) calls = get_as_known s slot m r (known r) (fact r) (calls_acts s slot m at calls)
call_as_known s h slot m known at fact (Load d a k) calls = λ lt. load_as_known s h slot m a k at (known a) (fact a) lt calls
call_as_known s h slot m known at fact _ calls = tt
