-- What a chain of steps tells of the state that it leads to.
use Rattle.std.proofs.Common.{◌≡◌, ℕ, ◌+◌, ◌<◌, ◌≢◌, ◌==◌, Bool, true, false, cond, not, List, [], ◌∷◌, ◌++◌, refl, sym, ap, ◌∙◌, subst, arith, eq-eqb, ne_eqb, zero, suc, length, take, set, get_or, add-one}
use native.Mathlib.Decide.{ℕ_discrete}
use Rattle.history.specs.declared.made.Made.{Made}
use Rattle.history.proofs.Snocs.{count_snoc}
use Rattle.history.specs.Histories.{event, weight, count, is_first, is_last, own_with, own_from, own, live_from, is_live, Walks, Reaches, Legal}
use Rattle.shared_register.specs.declared.register.Register.{Register}
use Rattle.shared_register.specs.declared.register.Call.{Call}
use Rattle.shared_register.specs.declared.register.Call.TheVariants.{Attach, Set, Add, Get, Begin, Finish, Collect, Detach}
use Rattle.shared_register.specs.declared.register.Reply.{Reply}
use Rattle.shared_register.specs.Steps.{State, IsOpening, Stands, Steps, Can, rank_of}
use Rattle.std.specs.Prelude.{slice_index_or}
use Rattle.shared_register.specs.LockedCalls.{events, IsPlainCall, marked, running_from, is_running}

-- a step by another slot leaves the slot's attachment
step_other : (s u : State) (by who : ℕ) (call : Call) (r : Reply) → by ≢ who → Steps s by call r u → u.attached who ≡ s.attached who
step_other s u by who Attach r ne h = sym (h.3.else who (λ e. ne (sym e)))
step_other s u by who (Set n) r ne h = ap (λ (x : State). x.attached who) h.3
step_other s u by who (Add n) r ne h = ap (λ (x : State). x.attached who) h.3
step_other s u by who Get r ne h = ap (λ (x : State). x.attached who) h.3
step_other s u by who Begin r ne h = ap (λ (x : State). x.attached who) h.3
step_other s u by who Finish r ne h = ap (λ (x : State). x.attached who) h.3
step_other s u by who Collect r ne h = ap (λ (x : State). x.attached who) h.2
step_other s u by who Detach r ne h = sym (h.3.else who (λ e. ne (sym e)))

-- a step of the slot leaves it attached where it is no Last
step_here : (s u : State) (who : ℕ) (call : Call) (r : Reply) → who < 16 → Steps s who call r u → u.attached who ≡ not (is_last (rank_of call))
step_here s u who Attach r lt h = h.3.here
step_here s u who (Set n) r lt h = ap (λ (x : State). x.attached who) h.3 ∙ h.2
step_here s u who (Add n) r lt h = ap (λ (x : State). x.attached who) h.3 ∙ h.2
step_here s u who Get r lt h = ap (λ (x : State). x.attached who) h.3 ∙ h.2
step_here s u who Begin r lt h = absurd (omega (arith, h.1))
step_here s u who Finish r lt h = absurd (omega (arith, h.1))
step_here s u who Collect r lt h = absurd (omega (arith, h.1))
step_here s u who Detach r lt h = h.3.here

step_live : (s u : State) (e : Made Call Reply) (who : ℕ) (b : Bool) → who < 16 → Steps s e.who e.call e.reply u → s.attached who ≡ b → Dec (e.who ≡ who) → u.attached who ≡ cond (e.who == who) (not (is_last (rank_of e.call))) b
step_live s u e who b lt h is (yes y) = step_here s u who e.call e.reply lt (subst (λ (n : ℕ). Steps s n e.call e.reply u) y h) ∙ sym (ap (λ (x : Bool). cond x (not (is_last (rank_of e.call))) b) (eq-eqb e.who who y))
step_live s u e who b lt h is (no n) = step_other s u e.who who e.call e.reply n h ∙ (is ∙ sym (ap (λ (x : Bool). cond x (not (is_last (rank_of e.call))) b) (ne_eqb e.who who n)))

walks_live : (s t : State) (log : List (Made Call Reply)) (who : ℕ) (b : Bool) → who < 16 → Walks Steps s log t → s.attached who ≡ b → t.attached who ≡ live_from rank_of who b log
walks_live s t [] who b lt w is = ap (λ (x : State). x.attached who) (sym w) ∙ is
walks_live s t (e ∷ es) who b lt w is = walks_live w.0 t es who (cond (e.who == who) (not (is_last (rank_of e.call))) b) lt w.2 (step_live s w.0 e who b lt w.1 is (ℕ_discrete e.who who))

-- a slot is attached exactly where it may have a pass
pub attached_live : {start : ℕ} → (log : List (Made Call Reply)) (t : State) (who : ℕ) → who < 16 → Reaches (IsOpening start) Steps log t → t.attached who ≡ is_live rank_of who log
attached_live log t who lt r = walks_live r.0 t log who (who == 16) lt r.2 (r.1.none who ∙ sym (ne_eqb who 16 (λ e. omega arith)))

step_running : (s u : State) (by : ℕ) (call : Call) (r : Reply) → Steps s by call r u → u.running ≡ marked s.running call
step_running s u by Attach r h = sym h.3.running
step_running s u by (Set n) r h = ap (λ (x : State). x.running) h.3
step_running s u by (Add n) r h = ap (λ (x : State). x.running) h.3
step_running s u by Get r h = ap (λ (x : State). x.running) h.3
step_running s u by Begin r h = ap (λ (x : State). x.running) h.3
step_running s u by Finish r h = ap (λ (x : State). x.running) h.3
step_running s u by Collect r h = ap (λ (x : State). x.running) h.2
step_running s u by Detach r h = sym h.3.running

-- a step by a mutator leaves the phase
step_mutator : (s u : State) (by : ℕ) (call : Call) (r : Reply) (b : Bool) → by ≢ 16 → Steps s by call r u → marked b call ≡ b
step_mutator s u by Attach r b ne h = refl
step_mutator s u by (Set n) r b ne h = refl
step_mutator s u by (Add n) r b ne h = refl
step_mutator s u by Get r b ne h = refl
step_mutator s u by Begin r b ne h = absurd (ne h.1)
step_mutator s u by Finish r b ne h = absurd (ne h.1)
step_mutator s u by Collect r b ne h = absurd (ne h.1)
step_mutator s u by Detach r b ne h = refl

-- the collector makes no first call
step_collector : (s u : State) (by : ℕ) (call : Call) (r : Reply) → by ≡ 16 → Steps s by call r u → is_first (rank_of call) ≡ false
step_collector s u by Attach r e h = absurd (omega (arith, h.1))
step_collector s u by (Set n) r e h = refl
step_collector s u by (Add n) r e h = refl
step_collector s u by Get r e h = refl
step_collector s u by Begin r e h = refl
step_collector s u by Finish r e h = refl
step_collector s u by Collect r e h = refl
step_collector s u by Detach r e h = refl

running_snoc : (b : Bool) (log : List (Made Call Reply)) (e : Made Call Reply) → running_from b (log ++ e ∷ []) ≡ marked (running_from b log) e.call
running_snoc b [] e = refl
running_snoc b (x ∷ xs) e = running_snoc (marked b x.call) xs e

-- the phase by the collector's events so far
phase_of : (s u : State) (e : Made Call Reply) (mine : List (Made Call Reply)) → Steps s e.who e.call e.reply u → s.running ≡ is_running mine → Dec (e.who ≡ 16) → u.running ≡ is_running (own_with rank_of 16 mine e)
phase_of s u e mine h is (yes y) =
    step_running s u e.who e.call e.reply h ∙ (ap (λ (b : Bool). marked b e.call) is ∙ (sym (running_snoc false mine e)
    ∙ sym (ap is_running (ap (λ (b : Bool). cond b (cond (is_first (rank_of e.call)) (e ∷ []) (mine ++ e ∷ [])) mine) (eq-eqb e.who 16 y) ∙ ap (λ (b : Bool). cond b (e ∷ []) (mine ++ e ∷ [])) (step_collector s u e.who e.call e.reply y h)))))
phase_of s u e mine h is (no n) =
    step_running s u e.who e.call e.reply h ∙ (step_mutator s u e.who e.call e.reply s.running n h ∙ (is
    ∙ sym (ap is_running (ap (λ (b : Bool). cond b (cond (is_first (rank_of e.call)) (e ∷ []) (mine ++ e ∷ [])) mine) (ne_eqb e.who 16 n)))))

walks_phase : (s t : State) (log mine : List (Made Call Reply)) → Walks Steps s log t → s.running ≡ is_running mine → t.running ≡ is_running (own_from rank_of 16 mine log)
walks_phase s t [] mine w is = ap (λ (x : State). x.running) (sym w) ∙ is
walks_phase s t (e ∷ es) mine w is = walks_phase w.0 t es (own_with rank_of 16 mine e) w.2 (phase_of s w.0 e mine w.1 is (ℕ_discrete e.who 16))

-- a cycle runs exactly where the collector's own events say so
pub running_own : {start : ℕ} → (log : List (Made Call Reply)) (t : State) → Reaches (IsOpening start) Steps log t → t.running ≡ is_running (own rank_of 16 log)
running_own log t r = walks_phase r.0 t log [] r.2 r.1.idle

-- a plain call may be made of an attached slot
pub plain_can : {start : ℕ} → (register : Register) (t : State) (log : List (Made Call Reply)) (who : ℕ) (call : Call) → who < 16 → is_live rank_of who log ≡ true → Reaches (IsOpening start) Steps log t → Stands register t → IsPlainCall call → Can register who call
plain_can register t log who Attach lt o r st p = absurd p
plain_can register t log who (Set n) lt o r st p = (lt, st.attached who lt ∙ (attached_live log t who lt r ∙ o))
plain_can register t log who (Add n) lt o r st p = (lt, st.attached who lt ∙ (attached_live log t who lt r ∙ o))
plain_can register t log who Get lt o r st p = (lt, st.attached who lt ∙ (attached_live log t who lt r ∙ o))
plain_can register t log who Begin lt o r st p = absurd p
plain_can register t log who Finish lt o r st p = absurd p
plain_can register t log who Collect lt o r st p = absurd p
plain_can register t log who Detach lt o r st p = absurd p

pub detach_can : {start : ℕ} → (register : Register) (t : State) (log : List (Made Call Reply)) (who : ℕ) → who < 16 → is_live rank_of who log ≡ true → Reaches (IsOpening start) Steps log t → Stands register t → Can register who Detach
detach_can register t log who lt o r st = (lt, st.attached who lt ∙ (attached_live log t who lt r ∙ o))

-- a slot that was found not attached may have a first call
pub free_slot_dead : {start : ℕ} → (register found : Register) (t : State) (log : List (Made Call Reply)) (who : ℕ) → found ≡ register → (who < 16) × (slice_index_or found.attached who false ≡ false) → Reaches (IsOpening start) Steps log t → Stands register t → is_live rank_of who log ≡ false
free_slot_dead register found t log who same free r st = sym (attached_live log t who free.0 r) ∙ (sym (st.attached who free.0) ∙ (ap (λ (x : Register). slice_index_or x.attached who false) (sym same) ∙ free.1))

-- the register's phase is that of the collector's events
pub phase : {start : ℕ} → (register : Register) (t : State) (log mine : List (Made Call Reply)) → mine ≡ own rank_of 16 log → Reaches (IsOpening start) Steps log t → Stands register t → register.running ≡ is_running mine
phase register t log mine e r st = st.running ∙ (running_own log t r ∙ ap is_running (sym e))

-- only the collector's calls count
step_weight : (s u : State) (by : ℕ) (call : Call) (r : Reply) → by ≢ 16 → Steps s by call r u → weight (rank_of call) ≡ 0
step_weight s u by Attach r ne h = refl
step_weight s u by (Set n) r ne h = refl
step_weight s u by (Add n) r ne h = refl
step_weight s u by Get r ne h = refl
step_weight s u by Begin r ne h = refl
step_weight s u by Finish r ne h = absurd (ne h.1)
step_weight s u by Collect r ne h = absurd (ne h.1)
step_weight s u by Detach r ne h = refl

own_weight : (s u : State) (e : Made Call Reply) (mine : List (Made Call Reply)) → Steps s e.who e.call e.reply u → Dec (e.who ≡ 16) → count rank_of (own_with rank_of 16 mine e) ≡ count rank_of mine + weight (rank_of e.call)
own_weight s u e mine h (yes y) =
    ap (count rank_of) (ap (λ (b : Bool). cond b (cond (is_first (rank_of e.call)) (e ∷ []) (mine ++ e ∷ [])) mine) (eq-eqb e.who 16 y) ∙ ap (λ (b : Bool). cond b (e ∷ []) (mine ++ e ∷ [])) (step_collector s u e.who e.call e.reply y h)) ∙ count_snoc rank_of mine e
own_weight s u e mine h (no n) =
    let z = step_weight s u e.who e.call e.reply n h in
    let same : own_with rank_of 16 mine e ≡ mine = ap (λ (b : Bool). cond b (cond (is_first (rank_of e.call)) (e ∷ []) (mine ++ e ∷ [])) mine) (ne_eqb e.who 16 n) in
    ap (count rank_of) same ∙ omega (arith, z)

walks_count : (s t : State) (log mine : List (Made Call Reply)) → Walks Steps s log t → count rank_of (own_from rank_of 16 mine log) ≡ count rank_of mine + count rank_of log
walks_count s t [] mine w = omega arith
walks_count s t (e ∷ es) mine w =
    let a = walks_count w.0 t es (own_with rank_of 16 mine e) w.2 in
    let b = own_weight s w.0 e mine w.1 (ℕ_discrete e.who 16) in
    omega arith

-- the word counts the collector's own events
pub count_own : {start : ℕ} → (log : List (Made Call Reply)) → Legal (IsOpening start) Steps log → count rank_of (own rank_of 16 log) ≡ count rank_of log
count_own log l = let h = walks_count l.1.0 l.0 log [] l.1.2 in omega arith

-- one call more, with its reply
pub events_more : (who : ℕ) (cs : List Call) (rs : List Reply) (i : ℕ) (d : Call) (r : Reply) → i < length cs → length rs ≡ length cs → events who (take (i + 1) cs) (take (i + 1) (set rs i r)) ≡ events who (take i cs) (take i rs) ++ event who (get_or cs i d) r ∷ []
events_more who [] rs i d r lt e = absurd (omega arith)
events_more who (x ∷ xs) [] i d r lt e = absurd (omega arith)
events_more who (x ∷ xs) (y ∷ ys) zero d r lt e = refl
events_more who (x ∷ xs) (y ∷ ys) (suc i) d r lt e = rw add-one (ap (λ (l : List (Made Call Reply)). event who x y ∷ l) (rw add-one at (events_more who xs ys i d r (omega arith) (omega arith))))
