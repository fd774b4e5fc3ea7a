-- Each word of a command is a short one of letters, or a number as it prints.
use Rattle.std.proofs.Common.{◌≡◌, ℕ, ◌<◌, ◌≤◌, ◌^◌, Bool, true, false, leb, List, [], ◌∷◌, length, refl, arith, lit≤}
use Rattle.std.specs.Prelude.{All, codes, decimal, ◌&&◌}
use Rattle.std.specs.List.{AllByRecursion}
use Rattle.std.proofs.lemmas.Bool.{leb-true}
use Rattle.std.proofs.lemmas.List.Elements.{All-nil, All-cons}
use Rattle.words.specs.declared.class.Kind.{Kind}
use Rattle.words.specs.declared.class.Kind.TheVariants.{Normal, PointerFree}
use Rattle.heap_spec.specs.declared.call.Call.{Call}
use Rattle.heap_spec.specs.declared.call.Call.TheVariants.{Detach, Set, Copy, Add, Sub, Get, Push, Pop, Load, Store, Alloc, Free, Base, Size, GlobalGet, GlobalPut, Link, Unlink}
use Rattle.heap_spec.specs.declared.event.Event.{Event}
use Rattle.heap_spec.specs.declared.event.Event.TheVariants.{Attach, Mutator, Mark}
use Rattle.heap_spec.specs.Ranges.{CallInRange, InRange}
use Rattle.scripts.specs.Grammar.{kind_word, call_words, command_words}

abbrev pub are_letters : List ℕ → Bool
are_letters [] = true
are_letters (b ∷ word) = leb 97 b && are_letters word

pub data IsCommandWord : List ℕ → Type 0 where
  letters : {word : List ℕ} → are_letters word ≡ true → length word ≤ 8 → IsCommandWord word
  number : (n : ℕ) → n < 2 ^ 64 → IsCommandWord (decimal n)

abbrev pub AreCommandWords : List (List ℕ) → Type 0
AreCommandWords words = AllByRecursion IsCommandWord words

both : (a b : Bool) → a && b ≡ true → (a ≡ true) × (b ≡ true)
both true b e = (refl, e)
both false b e = let h : ⊥ = cc in absurd h

-- letters come behind digits and all signs
pub letters_from : (word : List ℕ) → are_letters word ≡ true → All (λ b. 97 ≤ b) word
letters_from [] e = All-nil (λ b. 97 ≤ b)
letters_from (b ∷ word) e = let h = both (leb 97 b) (are_letters word) e in All-cons (λ b. 97 ≤ b) b word (leb-true 97 b h.0) (letters_from word h.1)

kind_word_is : (kind : Kind) → IsCommandWord (kind_word kind)
kind_word_is Normal = IsCommandWord.letters refl (lit≤ tt)
kind_word_is PointerFree = IsCommandWord.letters refl (lit≤ tt)

-- a verb, and numbers behind it
one : (verb : List ℕ) → IsCommandWord verb → (a : ℕ) → a < 2 ^ 64 → AreCommandWords (verb ∷ decimal a ∷ [])
one verb v a p = (v, (IsCommandWord.number a p, tt))

two : (verb : List ℕ) → IsCommandWord verb → (a b : ℕ) → a < 2 ^ 64 → b < 2 ^ 64 → AreCommandWords (verb ∷ decimal a ∷ decimal b ∷ [])
two verb v a b p q = (v, (IsCommandWord.number a p, (IsCommandWord.number b q, tt)))

three : (verb : List ℕ) → IsCommandWord verb → (a b c : ℕ) → a < 2 ^ 64 → b < 2 ^ 64 → c < 2 ^ 64 → AreCommandWords (verb ∷ decimal a ∷ decimal b ∷ decimal c ∷ [])
three verb v a b c p q r = (v, (IsCommandWord.number a p, (IsCommandWord.number b q, (IsCommandWord.number c r, tt))))

call_words_are : (call : Call) → CallInRange call → AreCommandWords (call_words call)
call_words_are Detach i = (IsCommandWord.letters refl (lit≤ tt), tt)
call_words_are (Set r w) i = two (codes "set") (IsCommandWord.letters refl (lit≤ tt)) r w (omega arith) (omega arith)
call_words_are (Copy d a) i = two (codes "copy") (IsCommandWord.letters refl (lit≤ tt)) d a (omega arith) (omega arith)
call_words_are (Add d a n) i = three (codes "add") (IsCommandWord.letters refl (lit≤ tt)) d a n (omega arith) (omega arith) (omega arith)
call_words_are (Sub d a b) i = three (codes "sub") (IsCommandWord.letters refl (lit≤ tt)) d a b (omega arith) (omega arith) (omega arith)
call_words_are (Get r) i = one (codes "get") (IsCommandWord.letters refl (lit≤ tt)) r (omega arith)
call_words_are (Push r) i = one (codes "push") (IsCommandWord.letters refl (lit≤ tt)) r (omega arith)
call_words_are (Pop d) i = one (codes "pop") (IsCommandWord.letters refl (lit≤ tt)) d (omega arith)
call_words_are (Load d a n) i = three (codes "load") (IsCommandWord.letters refl (lit≤ tt)) d a n (omega arith) (omega arith) (omega arith)
call_words_are (Store a n s) i = three (codes "store") (IsCommandWord.letters refl (lit≤ tt)) a n s (omega arith) (omega arith) (omega arith)
call_words_are (Alloc d n kind) i = (IsCommandWord.letters refl (lit≤ tt), (IsCommandWord.number d (omega arith), (IsCommandWord.number n (omega arith), (kind_word_is kind, tt))))
call_words_are (Free a) i = one (codes "free") (IsCommandWord.letters refl (lit≤ tt)) a (omega arith)
call_words_are (Base d a) i = two (codes "base") (IsCommandWord.letters refl (lit≤ tt)) d a (omega arith) (omega arith)
call_words_are (Size a) i = one (codes "size") (IsCommandWord.letters refl (lit≤ tt)) a (omega arith)
call_words_are (GlobalGet d g) i = two (codes "gget") (IsCommandWord.letters refl (lit≤ tt)) d g (omega arith) (omega arith)
call_words_are (GlobalPut g s) i = two (codes "gput") (IsCommandWord.letters refl (lit≤ tt)) g s (omega arith) (omega arith)
call_words_are (Link a n s) i = three (codes "link") (IsCommandWord.letters refl (lit≤ tt)) a n s (omega arith) (omega arith) (omega arith)
call_words_are (Unlink a n) i = two (codes "unlink") (IsCommandWord.letters refl (lit≤ tt)) a n (omega arith) (omega arith)

pub command_words_are : (event : Event) → InRange event → AreCommandWords (command_words event)
command_words_are (Mutator slot call) i = (IsCommandWord.number slot (omega arith), call_words_are call i.1)
command_words_are (Mark n) i = (IsCommandWord.letters refl (lit≤ tt), (IsCommandWord.letters refl (lit≤ tt), (IsCommandWord.number n (omega arith), tt)))
command_words_are Attach i = (IsCommandWord.letters refl (lit≤ tt), tt)
command_words_are _ i = (IsCommandWord.letters refl (lit≤ tt), (IsCommandWord.letters refl (lit≤ tt), tt))

-- a command has at least one word, and at most five
few_of_call : (call : Call) → length (call_words call) ≤ 4
few_of_call Detach = lit≤ tt
few_of_call _ = lit≤ tt

pub few_words : (event : Event) → (0 < length (command_words event)) × (length (command_words event) ≤ 5)
few_words (Mutator slot call) = let few = few_of_call call in (omega arith, omega arith)
few_words _ = (lit≤ tt, lit≤ tt)
