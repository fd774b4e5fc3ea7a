-- What is known of the others where all that had a part in a history are known.
use Rattle.std.proofs.Common.{◌≡◌, ◌≢◌, ℕ, ◌<◌, ◌==◌, Bool, true, false, cond, List, [], ◌∷◌, ◌++◌, length, refl, sym, ap, ◌∙◌, subst, eq-eqb, ne_eqb, true≢false, append_assoc, ⊎_elim}
use Rattle.std.specs.Prelude.{All, Contains, filter, slice_index_or}
use Rattle.std.proofs.lemmas.Bool.{cases_Bool, cases_eq}
use Rattle.std.proofs.lemmas.List.Elements.{All-nil, All-cons, All-head, All-tail, All-map, All-weaker, All-append, All-contains}
use mathlib.Core.List.{IsPrefix}
use Rattle.history.specs.Histories.{event, own, AreOfOthers, Walks, Legal}
use Rattle.heap_spec.specs.declared.call.Call.{Call}
use Rattle.heap_spec.specs.declared.call.Call.TheVariants.{Free}
use Rattle.heap_spec.specs.declared.event.Event.TheVariants.{Mutator}
use Rattle.heap_spec.specs.declared.reply.Reply.{Reply}
use Rattle.heap_spec.specs.SequentialObject.{HeapState, Opens, StateStep}
use Rattle.heap_history.specs.Ranks.{rank_of}
use Rattle.heap_history.specs.Passes.{MadeEvent, HeapPass}
use Rattle.heap_history.specs.Headline.{Looks, Makes}
use Rattle.heap_history.specs.Alone.{all_of, slots_of, AreAlone}
use Rattle.heap_history.specs.InTurn.{did_in, AreAloneInTurn}
use Rattle.heap_history.proofs.Coming.{walks_who}
use Rattle.heap_history.proofs.OfCalls.{if_weaker, if_collector}
use Rattle.heap_history.proofs.Gone.{known_mine}
use Rattle.heap_history.specs.Laws.{IsNoFreeCall, LeavesWordsCall, LeavesWords, LeftWords, MakesAfterNoWrite, MakesAfterNoFree}

-- what holds of all that a test keeps holds where it is passed
unfilter : (P : MadeEvent → Type 0) (p : MadeEvent → Bool) (es : List MadeEvent) → All P (filter p es) → All (λ e. p e ≡ true → P e) es
unfilter P p [] all = All-nil (λ e. p e ≡ true → P e)
unfilter P p (e ∷ es) all = ⊎_elim
    (λ (kept : p e ≡ true).
    let both : All P (e ∷ filter p es) = subst (λ (b : Bool). All P (cond b (e ∷ filter p es) (filter p es))) kept all in
    All-cons (λ x. p x ≡ true → P x) e es (λ is. All-head P e (filter p es) both) (unfilter P p es (All-tail P e (filter p es) both)))
    (λ (left : p e ≡ false).
    let rest : All P (filter p es) = subst (λ (b : Bool). All P (cond b (e ∷ filter p es) (filter p es))) left all in
    All-cons (λ x. p x ≡ true → P x) e es (λ is. absurd (true≢false (sym is ∙ left))) (unfilter P p es rest))
    (cases_Bool (p e))

all_first : (P : MadeEvent → Type 0) (xs ys : List MadeEvent) → All P (xs ++ ys) → All P xs
all_first P [] ys all = All-nil P
all_first P (x ∷ xs) ys all = All-cons P x xs (All-head P x (xs ++ ys) all) (all_first P xs ys (All-tail P x (xs ++ ys) all))

all_rest : (P : MadeEvent → Type 0) (xs ys : List MadeEvent) → All P (xs ++ ys) → All P ys
all_rest P [] ys all = all
all_rest P (x ∷ xs) ys all = all_rest P xs ys (All-tail P x (xs ++ ys) all)

-- the collector stores and frees nothing
walks_leaves : (s t : HeapState) (es : List MadeEvent) → Walks StateStep s es t → All (λ (e : MadeEvent). e.who ≡ 16 → LeavesWords e.call) es
walks_leaves s t [] w = All-nil (λ (e : MadeEvent). e.who ≡ 16 → LeavesWords e.call)
walks_leaves s t (e ∷ es) w = All-cons (λ (x : MadeEvent). x.who ≡ 16 → LeavesWords x.call) e es (if_collector LeavesWordsCall s w.0 e.who e.call e.reply w.1) (walks_leaves w.0 t es w.2)

call_frees : (call : Call) → LeavesWordsCall call → IsNoFreeCall call
call_frees (Free r) l = l
call_frees _ l = tt

-- Where others store and free nothing, a call is made undisturbed.
undisturbed_by : (pages : ℕ) (history : List MadeEvent) (me : ℕ) → All (λ (e : MadeEvent). e.who ≢ me → LeavesWords e.call) history
    → (old new : HeapPass) (call : Call) (reply : Reply) → old.slot ≡ me → IsPrefix new.seen history → Makes pages old call reply new → MakesAfterNoWrite pages old call reply new × MakesAfterNoFree pages old call reply new
undisturbed_by pages history me left old new call reply is within makes =
    let ext = makes.extends in
    let e = event old.slot (Mutator old.slot call) reply in
    let parts : history ≡ old.seen ++ (ext.between ++ (e ∷ within.0)) = sym within.1 ∙ (ap (λ l. l ++ within.0) ext.seen ∙ (append_assoc (old.seen ++ ext.between) (e ∷ []) within.0 ∙ append_assoc old.seen ext.between (e ∷ within.0))) in
    let part : All (λ (x : MadeEvent). x.who ≢ me → LeavesWords x.call) ext.between =
    all_first (λ (x : MadeEvent). x.who ≢ me → LeavesWords x.call) ext.between (e ∷ within.0) (all_rest (λ (x : MadeEvent). x.who ≢ me → LeavesWords x.call) old.seen (ext.between ++ (e ∷ within.0)) (subst (λ (l : List MadeEvent). All (λ (x : MadeEvent). x.who ≢ me → LeavesWords x.call) l) parts left)) in
    let words : All (λ (x : MadeEvent). LeavesWords x.call) ext.between = λ k d lt. part k d lt (subst (λ (n : ℕ). (slice_index_or ext.between k d).who ≢ n) is (ext.others k d lt)) in
    (record { makes = makes; left = words }, record { makes = makes; kept = λ k d lt. if_weaker LeavesWordsCall IsNoFreeCall call_frees (slice_index_or ext.between k d).call (words k d lt) })

module _ (pages : ℕ) (history : List MadeEvent) (legal : Legal (Opens pages) StateStep history) (me : ℕ) (others : List HeapPass) (alone : AreAlone (me ∷ slots_of others) history)
    (left : All (LeftWords pages history) others) where
  -- one of the others, at this slot
  abbrev Other : ℕ → Type 0
  Other slot = slot ≢ me → (p : HeapPass) × LeftWords pages history p × (p.slot ≡ slot)

  each_other : All Other (me ∷ slots_of others)
  each_other = All-cons Other me (slots_of others) (λ ne. absurd (ne refl))
      (All-map Other (λ (p : HeapPass). p.slot) others (All-weaker (LeftWords pages history) (λ (p : HeapPass). Other p.slot) (λ p l ne. (p, l, refl)) others left))

  -- what they did, at one place of the history
  left_at : (k : ℕ) (d : MadeEvent) (slot : ℕ) → k < length history → Contains (me ∷ slots_of others) slot → slot ≢ me → (slice_index_or history k d).who ≡ slot → LeavesWords (slice_index_or history k d).call
  left_at k d slot lt among ne is =
      let by = All-contains Other (me ∷ slots_of others) slot each_other among ne in
      let p = by.0 in
      let all : own rank_of slot history ≡ all_of slot history = All-contains (λ s. own rank_of s history ≡ all_of s history) (me ∷ slots_of others) slot alone.lives among in
      let mine = known_mine pages history legal p slot by.2 all by.1.known in
      unfilter (λ (e : MadeEvent). LeavesWords e.call) (λ (e : MadeEvent). e.who == slot) history (subst (λ (l : List MadeEvent). All (λ (e : MadeEvent). LeavesWords e.call) l) mine by.1.left) k d lt (eq-eqb _ slot is)

  pub others_left : All (λ (e : MadeEvent). e.who ≢ me → LeavesWords e.call) history
  others_left = λ k d lt ne. ⊎_elim
      (λ among. left_at k d (slice_index_or history k d).who lt among ne refl)
      (λ collector. walks_leaves legal.1.0 legal.0 history legal.1.2 k d lt collector)
      (alone.members k d lt)

  -- so a call of the one is made undisturbed
  pub undisturbed : (old new : HeapPass) (call : Call) (reply : Reply) → old.slot ≡ me → IsPrefix new.seen history → Makes pages old call reply new → MakesAfterNoWrite pages old call reply new × MakesAfterNoFree pages old call reply new
  undisturbed = undisturbed_by pages history me others_left

-- what those that had another slot did in turn
left_in : (me x : ℕ) → x ≢ me → (passes : List HeapPass) → All (λ (p : HeapPass). p.slot ≢ me → All (λ (e : MadeEvent). LeavesWords e.call) p.mine) passes → All (λ (e : MadeEvent). LeavesWords e.call) (did_in x passes)
left_in me x ne [] left = All-nil (λ (e : MadeEvent). LeavesWords e.call)
left_in me x ne (p ∷ ps) left =
    let rest = left_in me x ne ps (All-tail (λ (p : HeapPass). p.slot ≢ me → All (λ (e : MadeEvent). LeavesWords e.call) p.mine) p ps left) in
    ⊎_elim
    (λ (same : p.slot ≡ x).
    let mine = All-head (λ (p : HeapPass). p.slot ≢ me → All (λ (e : MadeEvent). LeavesWords e.call) p.mine) p ps left (λ is. ne (sym same ∙ is)) in
    subst (λ (b : Bool). All (λ (e : MadeEvent). LeavesWords e.call) (cond b (p.mine ++ did_in x ps) (did_in x ps))) (sym (eq-eqb p.slot x same)) (All-append (λ (e : MadeEvent). LeavesWords e.call) p.mine (did_in x ps) mine rest))
    (λ other. subst (λ (b : Bool). All (λ (e : MadeEvent). LeavesWords e.call) (cond b (p.mine ++ did_in x ps) (did_in x ps))) (sym (ne_eqb p.slot x other)) rest)
    (cases_eq p.slot x)

pub undisturbed_in_turn : (pages : ℕ) (history : List MadeEvent) (passes : List HeapPass) → Legal (Opens pages) StateStep history → AreAloneInTurn passes history → (me : ℕ)
    → All (λ (p : HeapPass). p.slot ≢ me → All (λ (e : MadeEvent). LeavesWords e.call) p.mine) passes → (old new : HeapPass) (call : Call) (reply : Reply) → old.slot ≡ me → IsPrefix new.seen history → Makes pages old call reply new
    → MakesAfterNoWrite pages old call reply new × MakesAfterNoFree pages old call reply new
undisturbed_in_turn pages history passes legal alone me left = undisturbed_by pages history me (λ k d lt ne. ⊎_elim
    (λ (slot : (slice_index_or history k d).who < 16).
    let who = (slice_index_or history k d).who in
    unfilter (λ (e : MadeEvent). LeavesWords e.call) (λ (e : MadeEvent). e.who == who) history (subst (λ (l : List MadeEvent). All (λ (e : MadeEvent). LeavesWords e.call) l) (sym (alone.slots who slot)) (left_in me who ne passes left)) k d lt (eq-eqb who who refl))
    (λ collector. walks_leaves legal.1.0 legal.0 history legal.1.2 k d lt collector)
    (walks_who legal.1.0 legal.0 history legal.1.2 k d lt))

-- a call after a look is a call
pub looks_makes : (pages : ℕ) (old mid new : HeapPass) (call : Call) (reply : Reply) → Looks pages old mid → Makes pages mid call reply new → Makes pages old call reply new
looks_makes pages old mid new call reply looks makes =
    let ext = makes.extends in
    let g = looks.seen in
    let slot = looks.slot in
    subst (λ (n : ℕ). Makes pages (record { slot = n; seen = old.seen; mine = old.mine }) call reply new) refl (record {
      extends = record {
        slot = ext.slot ∙ slot;
        between = g.between ++ ext.between;
        others = all_both (λ (x : MadeEvent). x.who ≢ old.slot) g.between ext.between g.others (subst (λ (n : ℕ). AreOfOthers n ext.between) slot ext.others);
        seen = ext.seen ∙ ((λ j. ((sym g.whole j) ++ ext.between) ++ event (slot j) (Mutator (slot j) call) reply ∷ []) ∙ ap (λ l. l ++ event old.slot (Mutator old.slot call) reply ∷ []) (append_assoc old.seen g.between ext.between));
        mine = ext.mine ∙ (λ j. looks.mine j ++ event (slot j) (Mutator (slot j) call) reply ∷ []);
        fine = ext.fine;
      };
      has_slot = makes.has_slot;
    })
  where
    all_both : (P : MadeEvent → Type 0) (xs ys : List MadeEvent) → All P xs → All P ys → All P (xs ++ ys)
    all_both P [] ys a b = b
    all_both P (x ∷ xs) ys a b = All-cons P x (xs ++ ys) (All-head P x xs a) (all_both P xs ys (All-tail P x xs a) b)
