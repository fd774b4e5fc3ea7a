-- Fronts of what is to be written.
use Rattle.std.proofs.Common.{◌≡◌, ℕ, ◌+◌, ◌<◌, List, [], ◌∷◌, ◌++◌, length, take, drop, get_or, zero, suc, refl, sym, ap, ◌∙◌, subst, arith, append_assoc}
use Rattle.std.specs.Prelude.{Option, Result, Ok, Err, OnErr}
use Rattle.std.specs.Io.KnownBytes.{Appends}
use Rattle.std.proofs.lemmas.List.{append-nil, take-append-drop, drop_more, take_more, length-take}
use Rattle.std.proofs.lemmas.Grind.{flat_map-append}
use Rattle.heap_spec.specs.declared.reply.Reply.{Reply}
use Rattle.scripts.specs.Printing.{reply_line}
use Rattle.scripts.proofs.Bytes.{Appends-more}
use Rattle.scripts.proofs.Texts.{take-front}
use Rattle.workloads.specs.Printing.{mutator_line, replies_text, mutators_text}

-- a front of a text was written
abbrev pub AppendsFront : Option (List ℕ) → Option (List ℕ) → List ℕ → Type 0
AppendsFront old new text = (n : ℕ) × Appends old new (take n text)

-- a front of a front
pub front_before : (old new : Option (List ℕ)) (front rest whole : List ℕ) → whole ≡ front ++ rest → AppendsFront old new front → AppendsFront old new whole
front_before old new front rest whole is f =
    let part = take f.0 front in
    let same : take (length part) whole ≡ part =
    ap (take (length part)) (is ∙ ap (λ t. t ++ rest) (sym (take-append-drop f.0 front)) ∙ append_assoc part (drop f.0 front) rest) ∙ take-front part (drop f.0 front ++ rest) in
    (length part, subst (λ t. Appends old new t) (sym same) f.1)

-- a front of what follows
pub front_after : (old mid new : Option (List ℕ)) (done front rest whole : List ℕ) → whole ≡ (done ++ front) ++ rest → Appends old mid done → AppendsFront mid new front → AppendsFront old new whole
front_after old mid new done front rest whole is h f =
    let part = take f.0 front in
    let split : whole ≡ (done ++ part) ++ (drop f.0 front ++ rest) =
    is ∙ ap (λ t. (done ++ t) ++ rest) (sym (take-append-drop f.0 front)) ∙ ap (λ t. t ++ rest) (sym (append_assoc done part (drop f.0 front))) ∙ append_assoc (done ++ part) (drop f.0 front) rest in
    let same : take (length (done ++ part)) whole ≡ done ++ part = ap (take (length (done ++ part))) split ∙ take-front (done ++ part) (drop f.0 front ++ rest) in
    (length (done ++ part), subst (λ t. Appends old new t) (sym same) (Appends-more old mid new done part h f.1))

-- the element at a place, between those before it and those behind
pub split_at : {A : Type 0} (xs : List A) (i : ℕ) (x : A) → i < length xs → x ≡ get_or xs i x → xs ≡ take i xs ++ x ∷ drop (i + 1) xs
split_at xs i x lt is = sym (take-append-drop i xs) ∙ ap (λ t. take i xs ++ t) (drop_more xs i x lt ∙ ap (λ y. y ∷ drop (i + 1) xs) (sym is))

-- the replies before a place, the one there, and those behind
pub replies_split : (pages : ℕ) (xs : List Reply) (i : ℕ) (x : Reply) → i < length xs → x ≡ get_or xs i x
    → replies_text pages xs ≡ (replies_text pages (take i xs) ++ reply_line pages x) ++ replies_text pages (drop (i + 1) xs)
replies_split pages xs i x lt is = ap (replies_text pages) (split_at xs i x lt is) ∙ flat_map-append (reply_line pages) (take i xs) (x ∷ drop (i + 1) xs)
    ∙ sym (append_assoc (replies_text pages (take i xs)) (reply_line pages x) (replies_text pages (drop (i + 1) xs)))

-- the mutators of two lists
pub mutators_append : (pages slot : ℕ) (xs ys : List (List Reply)) → mutators_text pages slot (xs ++ ys) ≡ mutators_text pages slot xs ++ mutators_text pages (slot + length xs) ys
mutators_append pages slot [] ys = ap (λ s. mutators_text pages s ys) (plus_none slot)
  where
    plus_none : (n : ℕ) → n ≡ n + 0
    plus_none n = omega arith
mutators_append pages slot (x ∷ xs) ys =
    ap (λ t. (mutator_line slot ++ replies_text pages x) ++ t) (mutators_append pages (slot + 1) xs ys ∙ ap (λ s. mutators_text pages (slot + 1) xs ++ mutators_text pages s ys) (moved slot (length xs)))
    ∙ sym (append_assoc (mutator_line slot ++ replies_text pages x) (mutators_text pages (slot + 1) xs) rest)
  where
    rest : List ℕ
    rest = mutators_text pages (slot + length (x ∷ xs)) ys

    moved : (a n : ℕ) → a + 1 + n ≡ a + suc n
    moved a n = omega arith

-- the mutators before a place, the one there, and those behind
pub mutators_split : (pages : ℕ) (xs : List (List Reply)) (i : ℕ) (x : List Reply) → i < length xs → x ≡ get_or xs i x
    → mutators_text pages 0 xs ≡ ((mutators_text pages 0 (take i xs) ++ mutator_line i) ++ replies_text pages x) ++ mutators_text pages (i + 1) (drop (i + 1) xs)
mutators_split pages xs i x lt is =
    ap (mutators_text pages 0) (split_at xs i x lt is) ∙ mutators_append pages 0 (take i xs) (x ∷ drop (i + 1) xs)
    ∙ ap (λ s. mutators_text pages 0 (take i xs) ++ mutators_text pages s (x ∷ drop (i + 1) xs)) (long xs i lt)
    ∙ sym (append_assoc (mutators_text pages 0 (take i xs)) (mutator_line i ++ replies_text pages x) (mutators_text pages (i + 1) (drop (i + 1) xs)))
    ∙ ap (λ t. t ++ mutators_text pages (i + 1) (drop (i + 1) xs)) (sym (append_assoc (mutators_text pages 0 (take i xs)) (mutator_line i) (replies_text pages x)))
  where
    long : {A : Type 0} (ys : List A) (n : ℕ) → n < length ys → 0 + length (take n ys) ≡ n
    long ys n l = omega (arith, length-take n ys)

-- one mutator more
pub mutators_more : (pages : ℕ) (xs : List (List Reply)) (i : ℕ) (x : List Reply) → i < length xs → x ≡ get_or xs i x
    → mutators_text pages 0 (take (i + 1) xs) ≡ (mutators_text pages 0 (take i xs) ++ mutator_line i) ++ replies_text pages x
mutators_more pages xs i x lt is =
    ap (mutators_text pages 0) (take_more xs i x lt ∙ ap (λ y. take i xs ++ y ∷ []) (sym is)) ∙ mutators_append pages 0 (take i xs) (x ∷ [])
    ∙ ap (λ s. mutators_text pages 0 (take i xs) ++ mutators_text pages s (x ∷ [])) (long xs i lt)
    ∙ ap (λ t. mutators_text pages 0 (take i xs) ++ t) (append-nil (mutator_line i ++ replies_text pages x))
    ∙ sym (append_assoc (mutators_text pages 0 (take i xs)) (mutator_line i) (replies_text pages x))
  where
    long : {A : Type 0} (ys : List A) (n : ℕ) → n < length ys → 0 + length (take n ys) ≡ n
    long ys n l = omega (arith, length-take n ys)

-- the same of a slice of the replies
pub reply_front : (pages : ℕ) (xs ys : List Reply) (i : ℕ) (x : Reply) (old mid new : Option (List ℕ)) → ys ≡ xs → i < length ys → x ≡ get_or ys i x
    → Appends old mid (replies_text pages (take i xs)) → AppendsFront mid new (reply_line pages x) → AppendsFront old new (replies_text pages xs)
reply_front pages xs ys i x old mid new same lt is h f =
    front_after old mid new (replies_text pages (take i xs)) (reply_line pages x) (replies_text pages (drop (i + 1) xs)) (replies_text pages xs)
    (replies_split pages xs i x (subst (λ zs. i < length zs) same lt) (subst (λ zs. x ≡ get_or zs i x) same is)) h f

-- an error with what it says
pub on_err : {A E : Type 0} {P : Type 0} (r : Result A E) → P → OnErr r P
on_err (Ok a) p = tt
on_err (Err e) p = p

-- the default of a read inside doesn't matter
default_free : {A : Type 0} (xs : List A) (i : ℕ) (d e : A) → i < length xs → get_or xs i d ≡ get_or xs i e
default_free [] i d e lt = absurd (omega arith)
default_free (x ∷ xs) zero d e lt = refl
default_free (x ∷ xs) (suc i) d e lt = default_free xs i d e (omega arith)

-- the line of a mutator fails
pub line_front : (pages : ℕ) (xs : List (List Reply)) (i slot : ℕ) (old mid new : Option (List ℕ)) → i < length xs → slot ≡ i
    → Appends old mid (mutators_text pages 0 (take i xs)) → AppendsFront mid new (mutator_line slot) → AppendsFront old new (mutators_text pages 0 xs)
line_front pages xs i slot old mid new lt same h f =
    let x = get_or xs i [] in
    front_after old mid new (mutators_text pages 0 (take i xs)) (mutator_line i) (replies_text pages x ++ mutators_text pages (i + 1) (drop (i + 1) xs)) (mutators_text pages 0 xs)
    (mutators_split pages xs i x lt (default_free xs i [] x lt) ∙ append_assoc (mutators_text pages 0 (take i xs) ++ mutator_line i) (replies_text pages x) (mutators_text pages (i + 1) (drop (i + 1) xs))) h (subst (λ s. AppendsFront mid new (mutator_line s)) same f)

-- its replies fail
pub lines_front : (pages : ℕ) (xs : List (List Reply)) (i slot : ℕ) (x : List Reply) (old mid line new : Option (List ℕ)) → i < length xs → slot ≡ i → x ≡ get_or xs i x
    → Appends old mid (mutators_text pages 0 (take i xs)) → Appends mid line (mutator_line slot) → AppendsFront line new (replies_text pages x) → AppendsFront old new (mutators_text pages 0 xs)
lines_front pages xs i slot x old mid line new lt same is h k f =
    front_after old line new (mutators_text pages 0 (take i xs) ++ mutator_line i) (replies_text pages x) (mutators_text pages (i + 1) (drop (i + 1) xs)) (mutators_text pages 0 xs)
    (mutators_split pages xs i x lt is) (Appends-more old mid line (mutators_text pages 0 (take i xs)) (mutator_line i) h (subst (λ s. Appends mid line (mutator_line s)) same k)) f

-- both are written
pub mutator_on : (pages : ℕ) (xs : List (List Reply)) (i slot : ℕ) (x : List Reply) (old mid line new : Option (List ℕ)) → i < length xs → slot ≡ i → x ≡ get_or xs i x
    → Appends old mid (mutators_text pages 0 (take i xs)) → Appends mid line (mutator_line slot) → Appends line new (replies_text pages x) → Appends old new (mutators_text pages 0 (take (i + 1) xs))
mutator_on pages xs i slot x old mid line new lt same is h k f =
    subst (λ t. Appends old new t) (sym (mutators_more pages xs i x lt is))
    (Appends-more old line new (mutators_text pages 0 (take i xs) ++ mutator_line i) (replies_text pages x)
    (Appends-more old mid line (mutators_text pages 0 (take i xs)) (mutator_line i) h (subst (λ s. Appends mid line (mutator_line s)) same k)) f)
