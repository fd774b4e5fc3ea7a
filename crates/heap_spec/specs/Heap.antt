-- The sequential heap as its users see it: no mark, no dirty page, no block and no free list.
use Rattle.std.specs.Prelude.{◌≡◌, ℕ, ◌+◌, ◌*◌, ◌==◌, nat_le, nat_lt, ◌&&◌, ◌||◌, not, Bool, false, Option, Some, None, option_map, List, [], ◌∷◌, length, replicate, if◌then◌else◌, slice_get, ◌++◌, flat_map, filter}
use Rattle.std.specs.List.{list_any}
use Rattle.words.specs.declared.class.Kind.{Kind}
use Rattle.words.specs.declared.limits.TheConstants.{SLOTS, GLOBALS, WORD_BYTES, MAX_REQUEST_WORDS}
use Rattle.heap_spec.specs.Layout.{PointsInto}

-- An object: which allocation made it, whether the collector reads its words, and its words.
pub record Object : Type 0 where
  pub birth : ℕ
  pub kind : Kind
  pub words : List ℕ

-- An attached mutator: the words of its registers, and its stack from the bottom.
pub record Mutator : Type 0 where
  pub registers : List ℕ
  pub stack : List ℕ

-- A link: the address of its word, and the birth of the object that it names.
pub record Link : Type 0 where
  pub address : ℕ
  pub birth : ℕ

-- The heap: how many pages it has, the most words of a request, the object at each base, the mutator at each slot, the words of the globals, how many
-- allocations were granted, and the links, no two at one address, in the order in which they were made.
pub record Heap : Type 0 where
  pub pages : ℕ
  pub request_words : ℕ
  pub objects : ℕ → Option Object
  pub mutators : List (Option Mutator)
  pub globals : List ℕ
  pub births : ℕ
  pub links : List Link

-- A heap that opens with these limits: no object, no mutator, globals of 0, and no birth.
abbrev pub opening_with : ℕ → ℕ → Heap
opening_with pages request_words = record { pages = pages; request_words = request_words; objects = λ _. None; mutators = replicate SLOTS None; globals = replicate GLOBALS 0; births = 0; links = [] }

-- The heap that opens where no limit is given.
abbrev pub opening : ℕ → Heap
opening pages = opening_with pages MAX_REQUEST_WORDS

-- an object has this base
abbrev pub HasObject : Heap → ℕ → Object → Type 0
HasObject s base o = s.objects base ≡ Some o

-- It is the same object, whose words may be others: its birth, its kind and its length are what they were.
pub record IsSameObject (old new : Object) : Type 0 where
  pub birth : new.birth ≡ old.birth
  pub kind : new.kind ≡ old.kind
  pub size : length new.words ≡ length old.words

-- a mutator is attached at the slot
abbrev pub IsAttached : Heap → ℕ → Mutator → Type 0
IsAttached s slot m = slice_get s.mutators slot ≡ Some (Some m)

-- no mutator is attached at the slot
abbrev pub IsVacant : Heap → ℕ → Type 0
IsVacant s slot = slice_get s.mutators slot ≡ Some None

-- a word points into the object with this base
abbrev pub PointsIntoObject : Heap → ℕ → ℕ → Object → Type 0
PointsIntoObject s w base o = HasObject s base o × PointsInto w base (length o.words)

-- a word points into no object
abbrev pub PointsIntoNothing : Heap → ℕ → Type 0
PointsIntoNothing s w = (base : ℕ) (o : Object) → PointsIntoObject s w base o → ⊥

-- the words of a slot: the registers, and then the stack from the bottom
abbrev pub words_of_slot : Option Mutator → List ℕ
words_of_slot None = []
words_of_slot (Some m) = m.registers ++ m.stack

-- The root words in their order: those of the attached slots, ascending, and then the globals.
abbrev pub root_words : Heap → List ℕ
root_words s = flat_map words_of_slot s.mutators ++ s.globals

-- the objects with this at the base, and as before at any other
abbrev pub with_at : {A : Type 0} → (ℕ → Option A) → ℕ → Option A → ℕ → Option A
with_at m k v q = if q == k then v else m q

-- the objects but for those at these bases
abbrev pub without_at : {A : Type 0} → (ℕ → Option A) → List ℕ → ℕ → Option A
without_at m bases q = if list_any (λ b. b == q) bases then None else m q

-- whether the object, if there is one, has the birth
abbrev pub is_born : Option Object → ℕ → Bool
is_born None birth = false
is_born (Some o) birth = o.birth == birth

-- whether a word points into the object at the base, if there is one
abbrev pub covers : ℕ → Option Object → ℕ → Bool
covers base None w = false
covers base (Some o) w = nat_le base w && nat_lt w (base + WORD_BYTES * length o.words)

-- whether a link names one of the objects with these bases
abbrev pub names : Heap → List ℕ → Link → Bool
names s bases l = list_any (λ b. is_born (s.objects b) l.birth) bases

-- whether a link's word lies in one of them
abbrev pub lies_in : Heap → List ℕ → Link → Bool
lies_in s bases l = list_any (λ b. covers b (s.objects b) l.address) bases

-- whether the word at the address is that of a link that names one of them
abbrev pub loses_word : Heap → List ℕ → ℕ → Bool
loses_word s bases a = list_any (λ l. (l.address == a) && names s bases l) s.links

-- The words from an address on, with 0 for each whose address is one of these.
abbrev pub cleared : (ℕ → Bool) → ℕ → List ℕ → List ℕ
cleared gone a [] = []
cleared gone a (w ∷ ws) = (if gone a then 0 else w) ∷ cleared gone (a + WORD_BYTES) ws

-- the object at a base with 0 for these of its words
abbrev pub with_cleared : (ℕ → Bool) → ℕ → Object → Object
with_cleared gone base o = record o { words = cleared gone base o.words }

-- The heap without the objects with these bases. Each object that leaves a heap leaves it so, and takes its links along: the
-- links that name it are gone, and their words are 0 where their holder stays; and the links whose words lie in it are gone.
abbrev pub without : Heap → List ℕ → Heap
without s bases = record s {
  objects = λ q. option_map (with_cleared (loses_word s bases) q) (without_at s.objects bases q);
  links = filter (λ l. not (names s bases l || lies_in s bases l)) s.links;
}
