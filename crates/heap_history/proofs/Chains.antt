-- What a legal history tells of the state that it leads to.
use Rattle.std.proofs.Common.{◌≡◌, ◌≢◌, ℕ, ◌+◌, ◌<◌, ◌==◌, Bool, true, false, cond, not, List, [], ◌∷◌, ◌++◌, refl, sym, ap, ◌∙◌, subst, arith, eq-eqb, ne_eqb, true≢false, zero, suc}
use Rattle.std.specs.Prelude.{None, slice_get, replicate}
use native.Mathlib.Decide.{ℕ_discrete}
use Rattle.history.specs.Histories.{event, weight, count, is_first, is_last, own_with, own_from, own, live_from, is_live, Walks, Reaches, Legal}
use Rattle.history.proofs.Snocs.{count_snoc}
use Rattle.heap_spec.specs.declared.call.Call.{Call}
use Rattle.heap_spec.specs.declared.call.Call.TheVariants.{Detach}
use Rattle.heap_spec.specs.declared.event.Event.{Event}
use Rattle.heap_spec.specs.declared.event.Event.TheVariants.{Attach, Mutator, Begin, BeginPartial, Roots, Mark, Retrace, Finish, Sweep, Collect, Number}
use Rattle.heap_spec.specs.declared.reply.Reply.{Reply}
use Rattle.heap_spec.specs.Runs.{opening_start, heap_after, marking_after, is_marking, needs_full_after, needs_full}
use Rattle.heap_history.specs.Ranks.{rank_of, rank_of_call}
use Rattle.heap_spec.specs.SequentialObject.{HeapState, heap_of, Opens, StateStep}
use Rattle.heap_history.specs.Passes.{MadeEvent, HeapPass, IsLegalPass, begins_with_attach, marking_from, is_marking as marks, needs_full_from, needs_full as needs}
use Rattle.heap_history.proofs.Slots.{is_attached, is_there, step_other, step_here}

step_live : (s u : HeapState) (e : MadeEvent) (who : ℕ) (b : Bool) → who < 16 → StateStep s e.who e.call e.reply u → is_attached (heap_of s) who ≡ b → Dec (e.who ≡ who) → is_attached (heap_of u) who ≡ cond (e.who == who) (not (is_last (rank_of e.call))) b
step_live s u e who b lt h is (yes y) = step_here s u who e.call e.reply lt (subst (λ (n : ℕ). StateStep s n e.call e.reply u) y h) ∙ sym (ap (λ (x : Bool). cond x (not (is_last (rank_of e.call))) b) (eq-eqb e.who who y))
step_live s u e who b lt h is (no n) = step_other s u e.who who e.call e.reply n h ∙ (is ∙ sym (ap (λ (x : Bool). cond x (not (is_last (rank_of e.call))) b) (ne_eqb e.who who n)))

walks_live : (s t : HeapState) (log : List MadeEvent) (who : ℕ) (b : Bool) → who < 16 → Walks StateStep s log t → is_attached (heap_of s) who ≡ b → is_attached (heap_of t) who ≡ live_from rank_of who b log
walks_live s t [] who b lt w is = ap (λ (x : HeapState). is_attached (heap_of x) who) (sym w) ∙ is
walks_live s t (e ∷ es) who b lt w is = walks_live w.0 t es who (cond (e.who == who) (not (is_last (rank_of e.call))) b) lt w.2 (step_live s w.0 e who b lt w.1 is (ℕ_discrete e.who who))

vacant_at : (n who : ℕ) → is_there (slice_get (replicate n None) who) ≡ false
vacant_at zero who = refl
vacant_at (suc n) zero = refl
vacant_at (suc n) (suc who) = vacant_at n who

-- no slot has a mutator when a heap opens
pub none_at_first : (s : HeapState) (who : ℕ) → s.run ≡ [] → is_attached (heap_of s) who ≡ false
none_at_first s who e = ap (λ r. is_attached (heap_after (opening_start s.pages) r) who) e ∙ vacant_at 16 who

-- a slot has a mutator exactly where it may have a pass
pub attached_live : {pages : ℕ} → (log : List MadeEvent) (t : HeapState) (who : ℕ) → who < 16 → Reaches (Opens pages) StateStep log t → is_attached (heap_of t) who ≡ is_live rank_of who log
attached_live {pages = pages} log t who lt r = walks_live r.0 t log who (who == 16) lt r.2 (none_at_first r.0 who r.1.nothing ∙ sym (ne_eqb who 16 (λ e. omega arith)))

-- the phase goes by the collector's own events
step_phase : (s u : HeapState) (by : ℕ) (event : Event) (reply : Reply) → StateStep s by event reply u → is_marking (opening_start u.pages) u.run ≡ marking_after event (is_marking (opening_start s.pages) s.run)
step_phase s u by event reply h = ap (λ (x : HeapState). is_marking (opening_start x.pages) x.run) h.goes

-- a step by a mutator leaves the phase
step_mutator : (s u : HeapState) (by : ℕ) (event : Event) (reply : Reply) (b : Bool) → by ≢ 16 → StateStep s by event reply u → marking_after event b ≡ b
step_mutator s u by Attach reply b ne h = refl
step_mutator s u by (Mutator slot call) reply b ne h = refl
step_mutator s u by Begin reply b ne h = absurd (ne h.fits)
step_mutator s u by BeginPartial reply b ne h = absurd (ne h.fits)
step_mutator s u by Finish reply b ne h = absurd (ne h.fits)
step_mutator s u by Collect reply b ne h = absurd (ne h.fits)
step_mutator s u by Roots reply b ne h = absurd h.fits
step_mutator s u by (Mark n) reply b ne h = absurd h.fits
step_mutator s u by Retrace reply b ne h = absurd h.fits
step_mutator s u by Sweep reply b ne h = absurd h.fits
step_mutator s u by Number reply b ne h = absurd h.fits

-- the collector makes no first call
pub step_collector : (s u : HeapState) (by : ℕ) (event : Event) (reply : Reply) → by ≡ 16 → StateStep s by event reply u → is_first (rank_of event) ≡ false
step_collector s u by Attach reply e h = let lt = h.fits.0 in absurd (omega arith)
step_collector s u by (Mutator slot call) reply e h = let lt = h.fits.range in absurd (omega arith)
step_collector s u by Begin reply e h = refl
step_collector s u by BeginPartial reply e h = refl
step_collector s u by Finish reply e h = refl
step_collector s u by Collect reply e h = refl
step_collector s u by Roots reply e h = absurd h.fits
step_collector s u by (Mark n) reply e h = absurd h.fits
step_collector s u by Retrace reply e h = absurd h.fits
step_collector s u by Sweep reply e h = absurd h.fits
step_collector s u by Number reply e h = absurd h.fits

pub marking_snoc : (b : Bool) (es : List MadeEvent) (e : MadeEvent) → marking_from b (es ++ e ∷ []) ≡ marking_after e.call (marking_from b es)
marking_snoc b [] e = refl
marking_snoc b (x ∷ xs) e = marking_snoc (marking_after x.call b) xs e

phase_of : (s u : HeapState) (e : MadeEvent) (mine : List MadeEvent) → StateStep s e.who e.call e.reply u → is_marking (opening_start s.pages) s.run ≡ marks mine → Dec (e.who ≡ 16) → is_marking (opening_start u.pages) u.run ≡ marks (own_with rank_of 16 mine e)
phase_of s u e mine h is (yes y) =
    step_phase s u e.who e.call e.reply h ∙ (ap (marking_after e.call) is ∙ (sym (marking_snoc false mine e)
    ∙ sym (ap marks (ap (λ (b : Bool). cond b (cond (is_first (rank_of e.call)) (e ∷ []) (mine ++ e ∷ [])) mine) (eq-eqb e.who 16 y) ∙ ap (λ (b : Bool). cond b (e ∷ []) (mine ++ e ∷ [])) (step_collector s u e.who e.call e.reply y h)))))
phase_of s u e mine h is (no n) =
    step_phase s u e.who e.call e.reply h ∙ (step_mutator s u e.who e.call e.reply (is_marking (opening_start s.pages) s.run) n h ∙ (is
    ∙ sym (ap marks (ap (λ (b : Bool). cond b (cond (is_first (rank_of e.call)) (e ∷ []) (mine ++ e ∷ [])) mine) (ne_eqb e.who 16 n)))))

walks_phase : (s t : HeapState) (log mine : List MadeEvent) → Walks StateStep s log t → is_marking (opening_start s.pages) s.run ≡ marks mine → is_marking (opening_start t.pages) t.run ≡ marks (own_from rank_of 16 mine log)
walks_phase s t [] mine w is = ap (λ (x : HeapState). is_marking (opening_start x.pages) x.run) (sym w) ∙ is
walks_phase s t (e ∷ es) mine w is = walks_phase w.0 t es (own_with rank_of 16 mine e) w.2 (phase_of s w.0 e mine w.1 is (ℕ_discrete e.who 16))

-- a cycle is marking exactly where the collector's own events say so
pub marking_own : {pages : ℕ} → (log : List MadeEvent) (t : HeapState) → Reaches (Opens pages) StateStep log t → is_marking (opening_start t.pages) t.run ≡ marks (own rank_of 16 log)
marking_own {pages = pages} log t r = walks_phase r.0 t log [] r.2 (ap (is_marking (opening_start r.0.pages)) r.1.nothing)

call_weight : (call : Call) → weight (rank_of_call call) ≡ 0
call_weight Detach = refl
call_weight _ = refl

-- only the collector's events count
step_weight : (s u : HeapState) (by : ℕ) (event : Event) (reply : Reply) → by ≢ 16 → StateStep s by event reply u → weight (rank_of event) ≡ 0
step_weight s u by Attach reply ne h = refl
step_weight s u by (Mutator slot call) reply ne h = call_weight call
step_weight s u by Begin reply ne h = refl
step_weight s u by BeginPartial reply ne h = refl
step_weight s u by Finish reply ne h = absurd (ne h.fits)
step_weight s u by Collect reply ne h = absurd (ne h.fits)
step_weight s u by Roots reply ne h = refl
step_weight s u by (Mark n) reply ne h = refl
step_weight s u by Retrace reply ne h = refl
step_weight s u by Sweep reply ne h = refl
step_weight s u by Number reply ne h = refl

own_weight : (s u : HeapState) (e : MadeEvent) (mine : List MadeEvent) → StateStep s e.who e.call e.reply u → Dec (e.who ≡ 16) → count rank_of (own_with rank_of 16 mine e) ≡ count rank_of mine + weight (rank_of e.call)
own_weight s u e mine h (yes y) =
    ap (count rank_of) (ap (λ (b : Bool). cond b (cond (is_first (rank_of e.call)) (e ∷ []) (mine ++ e ∷ [])) mine) (eq-eqb e.who 16 y) ∙ ap (λ (b : Bool). cond b (e ∷ []) (mine ++ e ∷ [])) (step_collector s u e.who e.call e.reply y h)) ∙ count_snoc rank_of mine e
own_weight s u e mine h (no n) =
    let z = step_weight s u e.who e.call e.reply n h in
    let same : own_with rank_of 16 mine e ≡ mine = ap (λ (b : Bool). cond b (cond (is_first (rank_of e.call)) (e ∷ []) (mine ++ e ∷ [])) mine) (ne_eqb e.who 16 n) in
    ap (count rank_of) same ∙ omega (arith, z)

walks_count : (s t : HeapState) (log mine : List MadeEvent) → Walks StateStep s log t → count rank_of (own_from rank_of 16 mine log) ≡ count rank_of mine + count rank_of log
walks_count s t [] mine w = omega arith
walks_count s t (e ∷ es) mine w =
    let a = walks_count w.0 t es (own_with rank_of 16 mine e) w.2 in
    let b = own_weight s w.0 e mine w.1 (ℕ_discrete e.who 16) in
    omega arith

-- the word counts the collector's own events
pub count_own : {pages : ℕ} → (log : List MadeEvent) → Legal (Opens pages) StateStep log → count rank_of (own rank_of 16 log) ≡ count rank_of log
count_own {pages = pages} log l = let h = walks_count l.1.0 l.0 log [] l.1.2 in omega arith

-- a first call among others is none
call_between : (call : Call) → is_first (rank_of_call call) ≡ false
call_between Detach = refl
call_between _ = refl

begins_more : (mine : List MadeEvent) (e : MadeEvent) → begins_with_attach mine ≡ true → begins_with_attach (mine ++ e ∷ []) ≡ true
begins_more [] e h = absurd (true≢false (sym h))
begins_more (x ∷ xs) e h = h

-- the own events of an attached slot begin with an attach
own_begins : (s u : HeapState) (who : ℕ) (asked : Event) (reply : Reply) (mine : List MadeEvent) → who < 16 → StateStep s who asked reply u → (is_attached (heap_of s) who ≡ true → begins_with_attach mine ≡ true)
    → begins_with_attach (cond (is_first (rank_of asked)) (event who asked reply ∷ []) (mine ++ event who asked reply ∷ [])) ≡ true
own_begins s u who Attach reply mine lt h before = refl
own_begins s u who (Mutator slot call) reply mine lt h before =
    let more = begins_more mine (event who (Mutator slot call) reply) (before (ap is_there h.fits.attached)) in
    ap (λ (b : Bool). begins_with_attach (cond b (event who (Mutator slot call) reply ∷ []) (mine ++ event who (Mutator slot call) reply ∷ []))) (call_between call) ∙ more
own_begins s u who Begin reply mine lt h before = absurd (omega (arith, h.fits))
own_begins s u who BeginPartial reply mine lt h before = absurd (omega (arith, h.fits))
own_begins s u who Finish reply mine lt h before = absurd (omega (arith, h.fits))
own_begins s u who Collect reply mine lt h before = absurd (omega (arith, h.fits))
own_begins s u who Roots reply mine lt h before = absurd h.fits
own_begins s u who (Mark n) reply mine lt h before = absurd h.fits
own_begins s u who Retrace reply mine lt h before = absurd h.fits
own_begins s u who Sweep reply mine lt h before = absurd h.fits
own_begins s u who Number reply mine lt h before = absurd h.fits

step_begins : (s u : HeapState) (e : MadeEvent) (who : ℕ) (mine : List MadeEvent) → who < 16 → StateStep s e.who e.call e.reply u → (is_attached (heap_of s) who ≡ true → begins_with_attach mine ≡ true) → Dec (e.who ≡ who)
    → is_attached (heap_of u) who ≡ true → begins_with_attach (own_with rank_of who mine e) ≡ true
step_begins s u e who mine lt h before (yes y) on =
    ap (λ (b : Bool). begins_with_attach (cond b (cond (is_first (rank_of e.call)) (e ∷ []) (mine ++ e ∷ [])) mine)) (eq-eqb e.who who y)
    ∙ own_begins s u e.who e.call e.reply mine (subst (λ (n : ℕ). n < 16) (sym y) lt) h (λ is. before (subst (λ (n : ℕ). is_attached (heap_of s) n ≡ true) y is))
step_begins s u e who mine lt h before (no n) on =
    ap (λ (b : Bool). begins_with_attach (cond b (cond (is_first (rank_of e.call)) (e ∷ []) (mine ++ e ∷ [])) mine)) (ne_eqb e.who who n)
    ∙ before (sym (step_other s u e.who who e.call e.reply n h) ∙ on)

walks_begins : (s t : HeapState) (log mine : List MadeEvent) (who : ℕ) → who < 16 → Walks StateStep s log t → (is_attached (heap_of s) who ≡ true → begins_with_attach mine ≡ true)
    → is_attached (heap_of t) who ≡ true → begins_with_attach (own_from rank_of who mine log) ≡ true
walks_begins s t [] mine who lt w before on = before (ap (λ (x : HeapState). is_attached (heap_of x) who) w ∙ on)
walks_begins s t (e ∷ es) mine who lt w before on = walks_begins w.0 t es (own_with rank_of who mine e) who lt w.2 (step_begins s w.0 e who mine lt w.1 before (ℕ_discrete e.who who)) on

-- a mutator's own events begin with its attach
pub mine_begins : (pages : ℕ) (pass : HeapPass) → IsLegalPass pages pass → pass.slot < 16 → begins_with_attach pass.mine ≡ true
mine_begins pages pass fine lt =
    let r = fine.legal.1 in
    ap begins_with_attach fine.owned.own_is
    ∙ walks_begins r.0 fine.legal.0 pass.seen [] pass.slot lt r.2 (λ is. absurd (true≢false (sym is ∙ none_at_first r.0 pass.slot r.1.nothing)))
    (attached_live pass.seen fine.legal.0 pass.slot lt r ∙ fine.owned.live)

-- the need of a full cycle goes by all events
walks_need : (s t : HeapState) (log : List MadeEvent) (b : Bool) → Walks StateStep s log t → needs_full (opening_start s.pages) s.run ≡ b → needs_full (opening_start t.pages) t.run ≡ needs_full_from b log
walks_need s t [] b w is = ap (λ (x : HeapState). needs_full (opening_start x.pages) x.run) (sym w) ∙ is
walks_need s t (e ∷ es) b w is =
    walks_need w.0 t es (needs_full_after e.call e.reply b) w.2
    (ap (λ (x : HeapState). needs_full (opening_start x.pages) x.run) w.1.goes ∙ ap (needs_full_after e.call e.reply) is)

pub need_is : {pages : ℕ} → (log : List MadeEvent) (t : HeapState) → Reaches (Opens pages) StateStep log t → needs_full (opening_start t.pages) t.run ≡ needs log
need_is {pages = pages} log t r = walks_need r.0 t log true r.2 (ap (needs_full (opening_start r.0.pages)) r.1.nothing)
