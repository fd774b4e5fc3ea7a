-- What a pass that has learnt the history knows of the core under the lock.
use Rattle.std.proofs.Common.{◌≡◌, ℕ, ◌<◌, false, List, [], refl, sym, ap, ◌∙◌, subst, arith}
use Rattle.std.specs.Prelude.{slice_get}
use Rattle.history.specs.Histories.{is_live, Reaches}
use Rattle.history.specs.Passes.{Owned}
use Rattle.heap_spec.specs.SequentialObject.{HeapState, Opens, StateStep}
use Rattle.pages.specs.Opening.{IsPageCount}
use Rattle.roots.specs.Roots.{IsNextSlot}
use Rattle.heap_history.specs.Ranks.{rank_of}
use Rattle.heap_history.specs.Passes.{MadeEvent, HeapPass, IsMutatorPass, is_marking as marks, needs_full as needs}
use Rattle.heap_history.proofs.Passing as pass
use Rattle.heap_history.proofs.Chains.{need_is}
use Rattle.heap_core.specs.CoreContents.{CoreContents}
use Rattle.heap_core.specs.Opening.{IsNew}
use Rattle.heap_core.specs.AsObject.{Stands, HasCaller}
use Rattle.heap_core.proofs.Opening.{new_follows}

-- the core of a new heap stands for a state that opens one of so many pages
pub opening_stands : (c : CoreContents) (origin pages : ℕ) → origin ≡ pages → IsPageCount pages → IsNew pages c → (s : HeapState) × Opens origin s × Stands c s
opening_stands c origin pages is range new = (
  record { pages = pages; run = [] },
  record { pages_are = sym is; some_page = omega (arith, range.0); few_pages = range.1; nothing = refl },
  new_follows pages c new,
)

-- a pass that has learnt the history `log`, and what it was before
abbrev pub Learns : HeapPass → HeapPass → List MadeEvent → Type 0
Learns old new log = new ≡ record { slot = old.slot; seen = log; mine = old.mine }

-- a slot with a pass has its mutator in the core
pub caller_can : {pages : ℕ} → (c : CoreContents) (t : HeapState) (old new : HeapPass) (log log1 : List MadeEvent) (slot : ℕ) → Learns old new log → log1 ≡ log → IsMutatorPass slot old
    → Owned rank_of new.slot new.seen new.mine → Reaches (Opens pages) StateStep log1 t → Stands c t → HasCaller c new.slot slot
caller_can c t old new log log1 slot learns same own o r st =
    let is = ap (λ (p : HeapPass). p.slot) learns ∙ own.slot_is in
    let few : new.slot < 16 = subst (λ (n : ℕ). n < 16) (sym is) own.range in
    let seen : new.seen ≡ log1 = ap (λ (p : HeapPass). p.seen) learns ∙ sym same in
    let at = pass.live_attached t log1 new.slot few (ap (is_live rank_of new.slot) (sym seen) ∙ o.live) r in
    record { range = few; own = is; mutator = at.0; attached = ap (λ l. slice_get l new.slot) (sym st.stands.mutators) ∙ at.1 }

-- a slot that was found with no mutator has no pass
pub vacant_dead : {pages : ℕ} → (c found : CoreContents) (t : HeapState) (log : List MadeEvent) (who slot : ℕ) → who < 16 → who ≡ slot → found ≡ c → IsNextSlot found.roots slot → Reaches (Opens pages) StateStep log t → Stands c t → is_live rank_of who log ≡ false
vacant_dead c found t log who slot lt is same low r st =
    let here : IsNextSlot c.roots who = subst (λ (x : CoreContents). IsNextSlot x.roots who) same (subst (λ (n : ℕ). IsNextSlot found.roots n) (sym is) low) in
    pass.vacant_dead t log who lt (ap (λ l. slice_get l who) st.stands.mutators ∙ here.is_vacant) r

-- the core's phase is that of the collector's own events
pub phase_is : {pages : ℕ} → (c : CoreContents) (t : HeapState) (old new : HeapPass) (log log1 : List MadeEvent) → Learns old new log → log1 ≡ log → old.slot ≡ 16
    → Owned rank_of new.slot new.seen new.mine → Reaches (Opens pages) StateStep log1 t → Stands c t → c.cycle.is_marking ≡ marks old.mine
phase_is c t old new log log1 learns same is o r st =
    let seen : new.seen ≡ log1 = ap (λ (p : HeapPass). p.seen) learns ∙ sym same in
    st.phase
    ∙ pass.phase_is t log1 new.mine new.slot (ap (λ (p : HeapPass). p.slot) learns ∙ is) (subst (λ l. Owned rank_of new.slot l new.mine) seen o) r
    ∙ ap (λ (p : HeapPass). marks p.mine) learns

-- and it needs a full cycle where the events tell that were seen
pub needs_is : {pages : ℕ} → (c : CoreContents) (t : HeapState) (old new : HeapPass) (log log1 : List MadeEvent) → Learns old new log → log1 ≡ log → Reaches (Opens pages) StateStep log1 t → Stands c t → c.cycle.needs_full ≡ needs new.seen
needs_is c t old new log log1 learns same r st =
    let seen : new.seen ≡ log1 = ap (λ (p : HeapPass). p.seen) learns ∙ sym same in
    st.needs ∙ need_is log1 t r ∙ ap needs (sym seen)
