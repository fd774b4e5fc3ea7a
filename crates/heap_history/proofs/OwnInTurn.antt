-- Where all that had a part in turn are known and keep to their own objects, each is answered as it is known.
use Rattle.std.proofs.Common.{◌≡◌, ℕ, ◌==◌, Bool, true, false, cond, List, [], ◌∷◌, ◌++◌, refl, sym, ap, ◌∙◌, subst, true≢false, eq-eqb, ne_eqb, ⊎_elim}
use Rattle.std.specs.Prelude.{All, slice_index_or}
use Rattle.std.proofs.lemmas.Bool.{cases_eq}
use Rattle.std.proofs.lemmas.List.Elements.{All-nil, All-cons, All-head, All-tail, All-weaker}
use Rattle.history.specs.Histories.{is_first, Legal}
use Rattle.heap_spec.specs.declared.call.Call.{Call}
use Rattle.heap_spec.specs.declared.call.Call.TheVariants.{Detach}
use Rattle.heap_spec.specs.declared.event.Event.{Event}
use Rattle.heap_spec.specs.declared.event.Event.TheVariants.{Attach, Mutator, Begin, BeginPartial, Roots, Mark, Retrace, Finish, Sweep, Collect, Number}
use Rattle.heap_spec.specs.SequentialObject.{Opens, StateStep}
use Rattle.heap_history.specs.Ranks.{rank_of, rank_of_call}
use Rattle.heap_history.specs.Passes.{MadeEvent, HeapPass, begins_with_attach}
use Rattle.heap_history.specs.Laws.{KeptToOwn}
use Rattle.heap_history.specs.InTurn.{did_in, AreAloneInTurn}
use Rattle.heap_history.specs.OwnObjects.{Content, nothing_known, known_after, KeepsToOwn, AllKeepToOwn, IsAsKnown, AreAsKnown}
use Rattle.heap_history.proofs.InTurn.{whole_begun}
use Rattle.heap_history.proofs.OwnAlone.{slots_as_known}

-- the only event with which a slot begins
call_first : (call : Call) → is_first (rank_of_call call) ≡ true → ⊥
call_first Detach first = true≢false (sym first)
call_first _ first = true≢false (sym first)

first_is : (asked : Event) → is_first (rank_of asked) ≡ true → asked ≡ Attach
first_is Attach first = refl
first_is (Mutator slot call) first = absurd (call_first call first)
first_is Begin first = absurd (true≢false (sym first))
first_is BeginPartial first = absurd (true≢false (sym first))
first_is Roots first = absurd (true≢false (sym first))
first_is (Mark n) first = absurd (true≢false (sym first))
first_is Retrace first = absurd (true≢false (sym first))
first_is Finish first = absurd (true≢false (sym first))
first_is Sweep first = absurd (true≢false (sym first))
first_is Collect first = absurd (true≢false (sym first))
first_is Number first = absurd (true≢false (sym first))

-- After an attach nothing is known, whatever was known before it.
anew : (known : ℕ → Content) (e : MadeEvent) → is_first (rank_of e.call) ≡ true → known_after known e.call e.reply ≡ nothing_known
anew known e first = ap (λ (asked : Event). known_after known asked e.reply) (first_is e.call first)

keeps_anew : (known : ℕ → Content) (es : List MadeEvent) → begins_with_attach es ≡ true → AllKeepToOwn nothing_known es → AllKeepToOwn known es
keeps_anew known [] begins keeps = tt
keeps_anew known (e ∷ es) begins keeps =
    (subst (λ (asked : Event). KeepsToOwn known asked) (sym (first_is e.call begins)) tt, subst (λ (k : ℕ → Content). AllKeepToOwn k es) (anew nothing_known e begins ∙ sym (anew known e begins)) keeps.1)

as_known_anew : (known : ℕ → Content) (es : List MadeEvent) → begins_with_attach es ≡ true → AreAsKnown known es → AreAsKnown nothing_known es
as_known_anew known [] begins are = tt
as_known_anew known (e ∷ es) begins are =
    (subst (λ (asked : Event). IsAsKnown nothing_known asked e.reply) (sym (first_is e.call begins)) tt, subst (λ (k : ℕ → Content). AreAsKnown k es) (anew known e begins ∙ sym (anew nothing_known e begins)) are.1)

keeps_both : (known : ℕ → Content) (xs ys : List MadeEvent) → AllKeepToOwn known xs → ((k : ℕ → Content) → AllKeepToOwn k ys) → AllKeepToOwn known (xs ++ ys)
keeps_both known [] ys first rest = rest known
keeps_both known (x ∷ xs) ys first rest = (first.0, keeps_both (known_after known x.call x.reply) xs ys first.1 rest)

as_known_parts : (known : ℕ → Content) (xs ys : List MadeEvent) → AreAsKnown known (xs ++ ys) → AreAsKnown known xs × ((k : ℕ → Content) × AreAsKnown k ys)
as_known_parts known [] ys are = (tt, (known, are))
as_known_parts known (x ∷ xs) ys are = let rest = as_known_parts (known_after known x.call x.reply) xs ys are.1 in ((are.0, rest.0), rest.1)

-- a mutator's own events begin with its attach, and keep to own objects
abbrev Keeps : HeapPass → Type 0
Keeps p = (begins_with_attach p.mine ≡ true) × AllKeepToOwn nothing_known p.mine

slot_keeps : (x : ℕ) (known : ℕ → Content) (ps : List HeapPass) → All Keeps ps → AllKeepToOwn known (did_in x ps)
slot_keeps x known [] keeps = tt
slot_keeps x known (p ∷ ps) keeps =
    let mine = All-head Keeps p ps keeps in
    let rest = All-tail Keeps p ps keeps in
    by (p.slot == x) (keeps_both known p.mine (did_in x ps) (keeps_anew known p.mine mine.0 mine.1) (λ k. slot_keeps x k ps rest)) (slot_keeps x known ps rest)
  where
    by : (b : Bool) → AllKeepToOwn known (p.mine ++ did_in x ps) → AllKeepToOwn known (did_in x ps) → AllKeepToOwn known (cond b (p.mine ++ did_in x ps) (did_in x ps))
    by true both rest = both
    by false both rest = rest

-- what is answered to a slot is answered to each that had it
each_as_known : (x : ℕ) (known : ℕ → Content) (ps : List HeapPass) → All Keeps ps → AreAsKnown known (did_in x ps) → All (λ (p : HeapPass). p.slot ≡ x → AreAsKnown nothing_known p.mine) ps
each_as_known x known [] keeps are = All-nil (λ (p : HeapPass). p.slot ≡ x → AreAsKnown nothing_known p.mine)
each_as_known x known (p ∷ ps) keeps are = ⊎_elim
    (λ (same : p.slot ≡ x).
    let parts = as_known_parts known p.mine (did_in x ps) (subst (λ (b : Bool). AreAsKnown known (cond b (p.mine ++ did_in x ps) (did_in x ps))) (eq-eqb p.slot x same) are) in
    let first = as_known_anew known p.mine (All-head Keeps p ps keeps).0 parts.0 in
    All-cons (λ (p : HeapPass). p.slot ≡ x → AreAsKnown nothing_known p.mine) p ps (λ is. first) (each_as_known x parts.1.0 ps (All-tail Keeps p ps keeps) parts.1.1))
    (λ other. All-cons (λ (p : HeapPass). p.slot ≡ x → AreAsKnown nothing_known p.mine) p ps (λ is. absurd (other is))
    (each_as_known x known ps (All-tail Keeps p ps keeps) (subst (λ (b : Bool). AreAsKnown known (cond b (p.mine ++ did_in x ps) (did_in x ps))) (ne_eqb p.slot x other) are)))
    (cases_eq p.slot x)

pub own_as_known : (pages : ℕ) (history : List MadeEvent) (passes : List HeapPass) → Legal (Opens pages) StateStep history → AreAloneInTurn passes history → All (KeptToOwn pages history) passes → All (λ (p : HeapPass). AreAsKnown nothing_known p.mine) passes
own_as_known pages history passes legal alone kept =
    let keeps = All-weaker (KeptToOwn pages history) Keeps (λ p k. (whole_begun pages history p (record { mutator = k.mutator; known = k.known }), k.kept)) passes kept in
    let are = slots_as_known pages history legal (λ x lt. subst (λ (es : List MadeEvent). AllKeepToOwn nothing_known es) (sym (alone.slots x lt)) (slot_keeps x nothing_known passes keeps)) in
    λ k d below.
    let p : HeapPass = slice_index_or passes k d in
    let lt = (kept k d below).mutator in
    each_as_known p.slot nothing_known passes keeps (subst (λ (es : List MadeEvent). AreAsKnown nothing_known es) (alone.slots p.slot lt) (are p.slot lt)) k d below refl
