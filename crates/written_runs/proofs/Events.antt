-- A command's words are those of one event: they are read back.
use Rattle.std.proofs.Common.{◌≡◌, ℕ, ◌<◌, ◌^◌, Bool, true, false, List, [], ◌∷◌, get_or, cond, eqb, ◌&&◌, refl, sym, ap, ◌∙◌, arith}
use Rattle.std.specs.Prelude.{codes, decimal}
use Rattle.std.specs.Str.Parse.{digits_value}
use Rattle.std.proofs.lemmas.Bool.{eqb-true}
use Rattle.std.proofs.lemmas.Fmt.{decimal_is_IsNumeral}
use Rattle.words.specs.declared.class.Kind.{Kind}
use Rattle.words.specs.declared.class.Kind.TheVariants.{Normal, PointerFree}
use Rattle.heap_spec.specs.declared.call.Call.{Call}
use Rattle.heap_spec.specs.declared.call.Call.TheVariants.{Detach, Set, Copy, Add, Sub, Get, Push, Pop, Load, Store, Alloc, Free, Base, Size, GlobalGet, GlobalPut, Link, Unlink}
use Rattle.heap_spec.specs.declared.event.Event.{Event}
use Rattle.heap_spec.specs.declared.event.Event.TheVariants.{Attach, Mutator, Begin, BeginPartial, Roots, Mark, Retrace, Finish, Sweep, Collect, Number}
use Rattle.heap_spec.specs.Ranges.{InRange, CallInRange}
use Rattle.scripts.specs.Grammar.{kind_word, call_words, command_words, IsLineOf}
use Rattle.written_runs.proofs.Digits.{not_decimal}

-- whether two texts are the same, as a test that computes on literals
abbrev pub same_text : List ℕ → List ℕ → Bool
same_text [] [] = true
same_text [] (b ∷ text) = false
same_text (b ∷ text) [] = false
same_text (b ∷ text) (c ∷ other) = eqb b c && same_text text other

same_more : (b c : ℕ) (text other : List ℕ) → (same_text text other ≡ true → text ≡ other) → (v : Bool) → eqb b c ≡ v → v && same_text text other ≡ true → b ∷ text ≡ c ∷ other
same_more b c text other same true first more = ap (λ x. x ∷ text) (eqb-true b c first) ∙ ap (λ t. c ∷ t) (same more)
same_more b c text other same false first more = let f : ⊥ = cc in absurd f

pub same_text-true : (text other : List ℕ) → same_text text other ≡ true → text ≡ other
same_text-true [] [] e = refl
same_text-true [] (c ∷ other) e = let f : ⊥ = cc in absurd f
same_text-true (b ∷ text) [] e = let f : ⊥ = cc in absurd f
same_text-true (b ∷ text) (c ∷ other) e = same_more b c text other (same_text-true text other) (eqb b c) refl e

pub apart : (text other : List ℕ) → (text ≡ other → ⊥) → same_text text other ≡ false
apart text other differ = by_test (same_text text other) refl
  where
    by_test : (v : Bool) → same_text text other ≡ v → v ≡ false
    by_test true e = absurd (differ (same_text-true text other e))
    by_test false e = refl

-- a number is read back from its text
abbrev read : List ℕ → ℕ
read text = digits_value 10 text

back : (n : ℕ) → n < 2 ^ 64 → read (decimal n) ≡ n
back n small = (decimal_is_IsNumeral n small).1

abbrev word_at : ℕ → List (List ℕ) → ℕ
word_at i words = read (get_or words i [])

abbrev kind_at : List ℕ → Kind
kind_at word = cond (same_text word (codes "atomic")) PointerFree Normal

kind_back : (kind : Kind) → kind_at (kind_word kind) ≡ kind
kind_back Normal = refl
kind_back PointerFree = refl

-- the call whose words these are
abbrev call_by : List ℕ → List (List ℕ) → Call
call_by verb words =
    cond (same_text verb (codes "set")) (Set (word_at 0 words) (word_at 1 words))
    (cond (same_text verb (codes "copy")) (Copy (word_at 0 words) (word_at 1 words))
    (cond (same_text verb (codes "add")) (Add (word_at 0 words) (word_at 1 words) (word_at 2 words))
    (cond (same_text verb (codes "sub")) (Sub (word_at 0 words) (word_at 1 words) (word_at 2 words))
    (cond (same_text verb (codes "get")) (Get (word_at 0 words))
    (cond (same_text verb (codes "push")) (Push (word_at 0 words))
    (cond (same_text verb (codes "pop")) (Pop (word_at 0 words))
    (cond (same_text verb (codes "load")) (Load (word_at 0 words) (word_at 1 words) (word_at 2 words))
    (cond (same_text verb (codes "store")) (Store (word_at 0 words) (word_at 1 words) (word_at 2 words))
    (cond (same_text verb (codes "alloc")) (Alloc (word_at 0 words) (word_at 1 words) (kind_at (get_or words 2 [])))
    (cond (same_text verb (codes "free")) (Free (word_at 0 words))
    (cond (same_text verb (codes "base")) (Base (word_at 0 words) (word_at 1 words))
    (cond (same_text verb (codes "size")) (Size (word_at 0 words))
    (cond (same_text verb (codes "gget")) (GlobalGet (word_at 0 words) (word_at 1 words))
    (cond (same_text verb (codes "gput")) (GlobalPut (word_at 0 words) (word_at 1 words))
    (cond (same_text verb (codes "link")) (Link (word_at 0 words) (word_at 1 words) (word_at 2 words))
    (cond (same_text verb (codes "unlink")) (Unlink (word_at 0 words) (word_at 1 words)) Detach))))))))))))))))

abbrev call_of : List (List ℕ) → Call
call_of [] = Detach
call_of (verb ∷ words) = call_by verb words

three : (f : ℕ → ℕ → ℕ → Call) (a b c : ℕ) → a < 2 ^ 64 → b < 2 ^ 64 → c < 2 ^ 64 → f (read (decimal a)) (read (decimal b)) (read (decimal c)) ≡ f a b c
three f a b c p q r = ap (λ x. f x (read (decimal b)) (read (decimal c))) (back a p) ∙ ap (λ x. f a x (read (decimal c))) (back b q) ∙ ap (λ x. f a b x) (back c r)

two : (f : ℕ → ℕ → Call) (a b : ℕ) → a < 2 ^ 64 → b < 2 ^ 64 → f (read (decimal a)) (read (decimal b)) ≡ f a b
two f a b p q = ap (λ x. f x (read (decimal b))) (back a p) ∙ ap (λ x. f a x) (back b q)

call_back : (call : Call) → CallInRange call → call_of (call_words call) ≡ call
call_back Detach i = refl
call_back (Set r w) i = two (λ x y. Set x y) r w (omega arith) (omega arith)
call_back (Copy d a) i = two (λ x y. Copy x y) d a (omega arith) (omega arith)
call_back (Add d a n) i = three (λ x y z. Add x y z) d a n (omega arith) (omega arith) (omega arith)
call_back (Sub d a b) i = three (λ x y z. Sub x y z) d a b (omega arith) (omega arith) (omega arith)
call_back (Get r) i = ap (λ x. Get x) (back r (omega arith))
call_back (Push r) i = ap (λ x. Push x) (back r (omega arith))
call_back (Pop d) i = ap (λ x. Pop x) (back d (omega arith))
call_back (Load d a n) i = three (λ x y z. Load x y z) d a n (omega arith) (omega arith) (omega arith)
call_back (Store a n s) i = three (λ x y z. Store x y z) a n s (omega arith) (omega arith) (omega arith)
call_back (Alloc d n kind) i = two (λ x y. Alloc x y (kind_at (kind_word kind))) d n (omega arith) (omega arith) ∙ ap (λ k. Alloc d n k) (kind_back kind)
call_back (Free a) i = ap (λ x. Free x) (back a (omega arith))
call_back (Base d a) i = two (λ x y. Base x y) d a (omega arith) (omega arith)
call_back (Size a) i = ap (λ x. Size x) (back a (omega arith))
call_back (GlobalGet d g) i = two (λ x y. GlobalGet x y) d g (omega arith) (omega arith)
call_back (GlobalPut g s) i = two (λ x y. GlobalPut x y) g s (omega arith) (omega arith)
call_back (Link a n s) i = three (λ x y z. Link x y z) a n s (omega arith) (omega arith) (omega arith)
call_back (Unlink a n) i = two (λ x y. Unlink x y) a n (omega arith) (omega arith)

-- the event whose words these are
abbrev collector_by : List ℕ → List (List ℕ) → Event
collector_by verb words =
    cond (same_text verb (codes "begin")) Begin
    (cond (same_text verb (codes "partial")) BeginPartial
    (cond (same_text verb (codes "roots")) Roots
    (cond (same_text verb (codes "mark")) (Mark (word_at 0 words))
    (cond (same_text verb (codes "retrace")) Retrace
    (cond (same_text verb (codes "finish")) Finish
    (cond (same_text verb (codes "sweep")) Sweep
    (cond (same_text verb (codes "collect")) Collect Number)))))))

abbrev collector_of : List (List ℕ) → Event
collector_of [] = Number
collector_of (verb ∷ words) = collector_by verb words

abbrev event_by : Bool → Bool → List ℕ → List (List ℕ) → Event
event_by attach gc first words = cond attach Attach (cond gc (collector_of words) (Mutator (read first) (call_of words)))

abbrev event_of : List (List ℕ) → Event
event_of [] = Attach
event_of (first ∷ words) = event_by (same_text first (codes "attach")) (same_text first (codes "gc")) first words

mutator_back : (slot : ℕ) (call : Call) → slot < 2 ^ 64 → CallInRange call → event_of (decimal slot ∷ call_words call) ≡ Mutator slot call
mutator_back slot call small i =
    ap (λ b. event_by b (same_text (decimal slot) (codes "gc")) (decimal slot) (call_words call)) (apart (decimal slot) (codes "attach") (not_decimal 97 slot (codes "ttach") (omega arith) small))
    ∙ ap (λ b. event_by false b (decimal slot) (call_words call)) (apart (decimal slot) (codes "gc") (not_decimal 103 slot (codes "c") (omega arith) small))
    ∙ ap (λ n. Mutator n (call_of (call_words call))) (back slot small) ∙ ap (Mutator slot) (call_back call i)

event_back : (event : Event) → InRange event → event_of (command_words event) ≡ event
event_back Attach i = refl
event_back (Mutator slot call) i = mutator_back slot call (omega arith) i.1
event_back Begin i = refl
event_back BeginPartial i = refl
event_back Roots i = refl
event_back (Mark n) i = ap (λ x. Mark x) (back n (omega arith))
event_back Retrace i = refl
event_back Finish i = refl
event_back Sweep i = refl
event_back Collect i = refl
event_back Number i = refl

-- a line is one command's
pub one_event : (line : List ℕ) (event event' : Event) → IsLineOf line event → IsLineOf line event' → event ≡ event'
one_event line event event' is is' = sym (event_back event is.in_range) ∙ ap event_of (sym is.words ∙ is'.words) ∙ event_back event' is'.in_range
