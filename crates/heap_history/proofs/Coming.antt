-- How often a slot's mutator came in a history, and what its own events are then.
use Rattle.std.proofs.Common.{◌≡◌, ◌≢◌, ℕ, ◌+◌, ◌<◌, ◌≤◌, ◌==◌, ◌⊎◌, Bool, true, false, cond, List, [], ◌∷◌, ◌++◌, zero, suc, refl, sym, ap, ◌∙◌, subst, arith, eq-eqb, ne_eqb, true≢false, append_assoc, inl, inr, ⊎_elim}
use Rattle.std.specs.Prelude.{All}
use Rattle.std.specs.List.{AllByRecursion}
use Rattle.std.proofs.lemmas.Bool.{cases_eq, cases_Bool}
use Rattle.std.proofs.lemmas.List.{append-nil}
use Rattle.std.proofs.lemmas.List.Elements.{All-nil, All-cons}
use Rattle.history.specs.Histories.{begins, is_first, own_with, own_from, own, Walks}
use Rattle.heap_spec.specs.declared.event.Event.{Event}
use Rattle.heap_spec.specs.declared.event.Event.TheVariants.{Attach, Mutator, Begin, BeginPartial, Roots, Mark, Retrace, Finish, Sweep, Collect, Number}
use Rattle.heap_spec.specs.declared.reply.Reply.{Reply}
use Rattle.heap_spec.specs.SequentialObject.{HeapState, heap_of, StateStep}
use Rattle.heap_history.specs.Ranks.{rank_of}
use Rattle.heap_history.specs.Passes.{MadeEvent, begins_with_attach}
use Rattle.heap_history.specs.Alone.{all_of}
use Rattle.heap_history.proofs.Slots.{is_there, is_attached, step_other}
use Rattle.heap_history.proofs.Chains.{step_collector}

-- 1 for an attach
abbrev pub came : MadeEvent → ℕ
came e = begins (rank_of e.call)

-- how often a mutator came to the slot
abbrev pub firsts_of : ℕ → List MadeEvent → ℕ
firsts_of slot [] = 0
firsts_of slot (e ∷ es) = cond (e.who == slot) (came e) 0 + firsts_of slot es

-- one came to each of these slots
abbrev pub AllCame : List ℕ → List MadeEvent → Type 0
AllCame slots es = AllByRecursion (λ s. 1 ≤ firsts_of s es) slots

-- more may have come later
pub firsts_more : (slot : ℕ) (es more : List MadeEvent) → firsts_of slot es ≤ firsts_of slot (es ++ more)
firsts_more slot [] more = omega arith
firsts_more slot (e ∷ es) more = let h = firsts_more slot es more in omega (arith, h)

-- What a slot's own events become, where no mutator comes to it.
pub own_after : (x : ℕ) (mine es : List MadeEvent) → firsts_of x es ≡ 0 → own_from rank_of x mine es ≡ mine ++ all_of x es
own_after x mine [] none = sym (append-nil mine)
own_after x mine (e ∷ es) none = ⊎_elim
    (λ (same : e.who ≡ x).
    let at = eq-eqb e.who x same in
    let count : came e + firsts_of x es ≡ 0 = sym (ap (λ (b : Bool). cond b (came e) 0 + firsts_of x es) at) ∙ none in
    ⊎_elim
    (λ (first : is_first (rank_of e.call) ≡ true).
    let one : came e ≡ 1 = ap (λ (b : Bool). cond b 1 0) first in absurd (omega (arith, one, count)))
    (λ (later : is_first (rank_of e.call) ≡ false).
    let with : own_with rank_of x mine e ≡ mine ++ e ∷ [] =
    ap (λ (b : Bool). cond b (cond (is_first (rank_of e.call)) (e ∷ []) (mine ++ e ∷ [])) mine) at ∙ ap (λ (b : Bool). cond b (e ∷ []) (mine ++ e ∷ [])) later in
    let kept : all_of x (e ∷ es) ≡ e ∷ all_of x es = ap (λ (b : Bool). cond b (e ∷ all_of x es) (all_of x es)) at in
    ap (λ l. own_from rank_of x l es) with ∙ (own_after x (mine ++ e ∷ []) es (omega (arith, count)) ∙ (append_assoc mine (e ∷ []) (all_of x es) ∙ ap (λ l. mine ++ l) (sym kept))))
    (cases_Bool (is_first (rank_of e.call))))
    (λ other.
    let at = ne_eqb e.who x other in
    let count : 0 + firsts_of x es ≡ 0 = sym (ap (λ (b : Bool). cond b (came e) 0 + firsts_of x es) at) ∙ none in
    let with : own_with rank_of x mine e ≡ mine = ap (λ (b : Bool). cond b (cond (is_first (rank_of e.call)) (e ∷ []) (mine ++ e ∷ [])) mine) at in
    let kept : all_of x (e ∷ es) ≡ all_of x es = ap (λ (b : Bool). cond b (e ∷ all_of x es) (all_of x es)) at in
    ap (λ l. own_from rank_of x l es) with ∙ (own_after x mine es (omega (arith, count)) ∙ ap (λ l. mine ++ l) (sym kept)))
    (cases_eq e.who x)

-- A slot's events that begin with an attach have one.
begins_came : (x : ℕ) (es : List MadeEvent) → begins_with_attach (all_of x es) ≡ true → 1 ≤ firsts_of x es
begins_came x [] b = absurd (true≢false (sym b))
begins_came x (e ∷ es) b = ⊎_elim
    (λ (same : e.who ≡ x).
    let at = eq-eqb e.who x same in
    let kept : all_of x (e ∷ es) ≡ e ∷ all_of x es = ap (λ (c : Bool). cond c (e ∷ all_of x es) (all_of x es)) at in
    let first : is_first (rank_of e.call) ≡ true = sym (ap begins_with_attach kept) ∙ b in
    let one : came e ≡ 1 = ap (λ (c : Bool). cond c 1 0) first in
    let count : firsts_of x (e ∷ es) ≡ came e + firsts_of x es = ap (λ (c : Bool). cond c (came e) 0 + firsts_of x es) at in
    omega (arith, one, count))
    (λ other.
    let at = ne_eqb e.who x other in
    let kept : all_of x (e ∷ es) ≡ all_of x es = ap (λ (c : Bool). cond c (e ∷ all_of x es) (all_of x es)) at in
    let rest = begins_came x es (sym (ap begins_with_attach kept) ∙ b) in
    omega (arith, rest))
    (cases_eq e.who x)

pub own_came : (x : ℕ) (es : List MadeEvent) → begins_with_attach (own rank_of x es) ≡ true → 1 ≤ firsts_of x es
own_came x es b = ⊎_elim
    (λ (none : firsts_of x es ≡ 0). begins_came x es (sym (ap begins_with_attach (own_after x [] es none)) ∙ b))
    (λ (some : firsts_of x es ≡ 0 → ⊥). ⊎_elim (λ (none : firsts_of x es ≡ 0). absurd (some none)) (λ (ok : 1 ≤ firsts_of x es). ok) (zero_or (firsts_of x es)))
    (cases_eq (firsts_of x es) 0)
  where
    zero_or : (n : ℕ) → (n ≡ 0) ⊎ (1 ≤ n)
    zero_or zero = inl refl
    zero_or (suc n) = inr (omega arith)

-- A slot with no mutator makes no event but an attach.
vacant_first : (s u : HeapState) (who : ℕ) (asked : Event) (reply : Reply) → who < 16 → StateStep s who asked reply u → is_attached (heap_of s) who ≡ false → is_first (rank_of asked) ≡ true
vacant_first s u who Attach reply lt h none = refl
vacant_first s u who (Mutator slot call) reply lt h none = absurd (true≢false (sym (ap is_there h.fits.attached) ∙ none))
vacant_first s u who Begin reply lt h none = absurd (omega (arith, h.fits, lt))
vacant_first s u who BeginPartial reply lt h none = absurd (omega (arith, h.fits, lt))
vacant_first s u who Finish reply lt h none = absurd (omega (arith, h.fits, lt))
vacant_first s u who Collect reply lt h none = absurd (omega (arith, h.fits, lt))
vacant_first s u who Roots reply lt h none = absurd h.fits
vacant_first s u who (Mark n) reply lt h none = absurd h.fits
vacant_first s u who Retrace reply lt h none = absurd h.fits
vacant_first s u who Sweep reply lt h none = absurd h.fits
vacant_first s u who Number reply lt h none = absurd h.fits

-- the event that a vacant slot makes
vacant_came : (s u : HeapState) (e : MadeEvent) (x : ℕ) → x < 16 → StateStep s e.who e.call e.reply u → is_attached (heap_of s) x ≡ false → e.who ≡ x → is_first (rank_of e.call) ≡ true
vacant_came s u e x lt h none same = vacant_first s u x e.call e.reply lt (subst (λ (n : ℕ). StateStep s n e.call e.reply u) same h) none

-- so a slot to which none comes makes none at all
pub walks_nothing : (s t : HeapState) (es : List MadeEvent) (x : ℕ) → x < 16 → Walks StateStep s es t → is_attached (heap_of s) x ≡ false → firsts_of x es ≡ 0 → All (λ (e : MadeEvent). e.who ≢ x) es
walks_nothing s t [] x lt w vacant none = All-nil (λ (e : MadeEvent). e.who ≢ x)
walks_nothing s t (e ∷ es) x lt w vacant none = ⊎_elim
    (λ (same : e.who ≡ x).
    let one : came e ≡ 1 = ap (λ (b : Bool). cond b 1 0) (vacant_came s w.0 e x lt w.1 vacant same) in
    let count : came e + firsts_of x es ≡ 0 = sym (ap (λ (b : Bool). cond b (came e) 0 + firsts_of x es) (eq-eqb e.who x same)) ∙ none in
    absurd (omega (arith, one, count)))
    (λ other.
    let count : 0 + firsts_of x es ≡ 0 = sym (ap (λ (b : Bool). cond b (came e) 0 + firsts_of x es) (ne_eqb e.who x other)) ∙ none in
    All-cons (λ (y : MadeEvent). y.who ≢ x) e es other (walks_nothing w.0 t es x lt w.2 (step_other s w.0 e.who x e.call e.reply other w.1 ∙ vacant) (omega (arith, count))))
    (cases_eq e.who x)

-- and where one came to it, its own events are all that it made
pub walks_once : (s t : HeapState) (es : List MadeEvent) (x : ℕ) → x < 16 → Walks StateStep s es t → is_attached (heap_of s) x ≡ false → firsts_of x es ≡ 1 → own_from rank_of x [] es ≡ all_of x es
walks_once s t [] x lt w vacant one = absurd (omega (arith, one))
walks_once s t (e ∷ es) x lt w vacant one = ⊎_elim
    (λ (same : e.who ≡ x).
    let at = eq-eqb e.who x same in
    let first = vacant_came s w.0 e x lt w.1 vacant same in
    let is : came e ≡ 1 = ap (λ (b : Bool). cond b 1 0) first in
    let count : came e + firsts_of x es ≡ 1 = sym (ap (λ (b : Bool). cond b (came e) 0 + firsts_of x es) at) ∙ one in
    let with : own_with rank_of x [] e ≡ e ∷ [] = ap (λ (b : Bool). cond b (cond (is_first (rank_of e.call)) (e ∷ []) (e ∷ [])) []) at ∙ ap (λ (b : Bool). cond b (e ∷ []) (e ∷ [])) first in
    let kept : all_of x (e ∷ es) ≡ e ∷ all_of x es = ap (λ (b : Bool). cond b (e ∷ all_of x es) (all_of x es)) at in
    ap (λ l. own_from rank_of x l es) with ∙ (own_after x (e ∷ []) es (omega (arith, is, count)) ∙ sym kept))
    (λ other.
    let at = ne_eqb e.who x other in
    let count : 0 + firsts_of x es ≡ 1 = sym (ap (λ (b : Bool). cond b (came e) 0 + firsts_of x es) at) ∙ one in
    let with : own_with rank_of x [] e ≡ [] = ap (λ (b : Bool). cond b (cond (is_first (rank_of e.call)) (e ∷ []) (e ∷ [])) []) at in
    let kept : all_of x (e ∷ es) ≡ all_of x es = ap (λ (b : Bool). cond b (e ∷ all_of x es) (all_of x es)) at in
    ap (λ l. own_from rank_of x l es) with ∙ (walks_once w.0 t es x lt w.2 (step_other s w.0 e.who x e.call e.reply other w.1 ∙ vacant) (omega (arith, count)) ∙ sym kept))
    (cases_eq e.who x)

-- the collector never comes
pub walks_collector : (s t : HeapState) (es : List MadeEvent) → Walks StateStep s es t → firsts_of 16 es ≡ 0
walks_collector s t [] w = refl
walks_collector s t (e ∷ es) w = ⊎_elim
    (λ (same : e.who ≡ 16).
    let none : came e ≡ 0 = ap (λ (b : Bool). cond b 1 0) (step_collector s w.0 e.who e.call e.reply same w.1) in
    let at = ap (λ (b : Bool). cond b (came e) 0 + firsts_of 16 es) (eq-eqb e.who 16 same) in
    let rest = walks_collector w.0 t es w.2 in
    omega (arith, none, at, rest))
    (λ other.
    let at = ap (λ (b : Bool). cond b (came e) 0 + firsts_of 16 es) (ne_eqb e.who 16 other) in
    let rest = walks_collector w.0 t es w.2 in
    omega (arith, at, rest))
    (cases_eq e.who 16)

-- an event is a slot's or the collector's
pub step_who : (s u : HeapState) (who : ℕ) (asked : Event) (reply : Reply) → StateStep s who asked reply u → (who < 16) ⊎ (who ≡ 16)
step_who s u who Attach reply h = inl h.fits.0
step_who s u who (Mutator slot call) reply h = inl h.fits.range
step_who s u who Begin reply h = inr h.fits
step_who s u who BeginPartial reply h = inr h.fits
step_who s u who Finish reply h = inr h.fits
step_who s u who Collect reply h = inr h.fits
step_who s u who Roots reply h = absurd h.fits
step_who s u who (Mark n) reply h = absurd h.fits
step_who s u who Retrace reply h = absurd h.fits
step_who s u who Sweep reply h = absurd h.fits
step_who s u who Number reply h = absurd h.fits

pub walks_who : (s t : HeapState) (es : List MadeEvent) → Walks StateStep s es t → All (λ (e : MadeEvent). (e.who < 16) ⊎ (e.who ≡ 16)) es
walks_who s t [] w = All-nil (λ (e : MadeEvent). (e.who < 16) ⊎ (e.who ≡ 16))
walks_who s t (e ∷ es) w = All-cons (λ (x : MadeEvent). (x.who < 16) ⊎ (x.who ≡ 16)) e es (step_who s w.0 e.who e.call e.reply w.1) (walks_who w.0 t es w.2)
