-- Through a history whose mutators keep to their own objects, what is known of each mutator's registers stays true.
use Rattle.std.proofs.Common.{◌≡◌, ◌≢◌, ℕ, ◌<◌, ◌==◌, ◌⊎◌, Bool, true, false, cond, List, [], ◌∷◌, length, refl, sym, ap, ◌∙◌, subst, arith, eq-eqb, ne_eqb, inl, inr, ⊎_elim}
use Rattle.std.specs.Prelude.{Option, Some, None, slice_get}
use Rattle.std.proofs.lemmas.Bool.{cases_eq, eqb-true}
use Rattle.std.proofs.lemmas.Option.{same_Some}
use Rattle.words.specs.declared.class.Kind.TheVariants.{Normal}
use Rattle.history.specs.Histories.{Walks}
use Rattle.heap_spec.specs.declared.call.Call.{Call}
use Rattle.heap_spec.specs.declared.call.Call.TheVariants.{Set, Store, Alloc}
use Rattle.heap_spec.specs.declared.event.Event.{Event}
use Rattle.heap_spec.specs.declared.event.Event.TheVariants.{Attach, Mutator, Begin, BeginPartial, Roots, Mark, Retrace, Finish, Sweep, Collect, Number}
use Rattle.heap_spec.specs.declared.reply.Reply.{Reply}
use Rattle.heap_spec.specs.declared.reply.Reply.TheVariants.{Done}
use Rattle.heap_spec.specs.Heap.{Heap, Object, Mutator as HeapMutator, HasObject, IsAttached}
use Rattle.heap_spec.specs.Steps.{Acts, register}
use Rattle.heap_spec.specs.Sound.{IsSound}
use Rattle.heap_spec.specs.Laws.{IsRunFromOpening}
use Rattle.heap_spec.specs.SequentialObject.{HeapState, heap_of, StateStep}
use Rattle.heap_spec.proofs.Loads.{same_mutator}
use Rattle.heap_spec.proofs.Runs.{fresh_sound}
use Rattle.heap_history.specs.Passes.{MadeEvent}
use Rattle.heap_history.specs.Alone.{all_of}
use Rattle.heap_history.specs.OwnObjects.{Content, unknown, own_object, known_word, own_words, known_after, KeepsToOwnCall, KeepsToOwn, AllKeepToOwn, IsAsKnown, AreAsKnown}
use Rattle.heap_history.proofs.OfCalls.{if_collector}
use Rattle.heap_history.proofs.Slots.{step_mutators}
use Rattle.heap_history.proofs.Coming.{step_who}
use Rattle.heap_history.proofs.Stored.{step_fresh, set_leaves}
use Rattle.heap_history.proofs.Held.{held_reached}
use Rattle.heap_history.proofs.Keeping.{calls_keep}
use Rattle.heap_history.proofs.Loaded.{step_leaves}
use Rattle.heap_history.proofs.Owning.{alloc_is}
use Rattle.heap_history.proofs.KnownRegisters.{stores_at, Told, told, IsStore, sorted}
use Rattle.heap_history.proofs.OwnObjects.{HasOwn, IsAs, IsOwn, own_is, moved, given, calls_acts, store_own, store_else, stored_own, word_is, call_as_known}

-- What is known of each slot's registers is true, and no two registers have one own object.
pub record Private (s : Heap) (known : ℕ → ℕ → Content) : Type 0 where
  pub as_known : (x d : ℕ) (m : HeapMutator) → x < 16 → IsAttached s x m → IsAs s m d (known x d)
  pub apart : (x y d e : ℕ) (m k : HeapMutator) → x < 16 → y < 16 → IsAttached s x m → IsAttached s y k → IsOwn (known x d) → IsOwn (known y e) → register m d ≡ register k e → (x ≡ y) × (d ≡ e)

-- The register had an own object before,
record Old (s : Heap) (known : ℕ → ℕ → Content) (x d : ℕ) (m : HeapMutator) : Type 0 where
  was : HeapMutator
  at : IsAttached s x was
  own : IsOwn (known x d)
  word : register m d ≡ register was d

-- or it is the one into which a new one came.
record New (s : Heap) (who into x d : ℕ) (m : HeapMutator) : Type 0 where
  maker : x ≡ who
  place : d ≡ into
  none : (o : Object) → HasObject s (register m d) o → ⊥

-- What a step makes of a register.
record Outcome (s s' : Heap) (known : ℕ → ℕ → Content) (who into x d : ℕ) (m : HeapMutator) (c : Content) : Type 0 where
  fact : IsAs s' m d c
  origin : IsOwn c → Old s known x d m ⊎ New s who into x d m

clash : (s : Heap) (known : ℕ → ℕ → Content) (who into x d y e : ℕ) (m k : HeapMutator) → Private s known → x < 16 → register m d ≡ register k e → Old s known x d m → New s who into y e k → ⊥
clash s known who into x d y e m k p lt same old new =
    let has = own_is s old.was d (known x d) old.own (p.as_known x d old.was lt old.at) in
    new.none has.object (ap s.objects (sym same ∙ old.word) ∙ has.has)

apart_again : (s : Heap) (known : ℕ → ℕ → Content) (who into x d y e : ℕ) (m k : HeapMutator) → Private s known → x < 16 → y < 16 → register m d ≡ register k e → Old s known x d m ⊎ New s who into x d m → Old s known y e k ⊎ New s who into y e k → (x ≡ y) × (d ≡ e)
apart_again s known who into x d y e m k p ltx lty same one two = ⊎_elim
    (λ (old : Old s known x d m). ⊎_elim
    (λ (old' : Old s known y e k). p.apart x y d e old.was old'.was ltx lty old.at old'.at old.own old'.own (sym old.word ∙ (same ∙ old'.word)))
    (λ (new' : New s who into y e k). absurd (clash s known who into x d y e m k p ltx same old new'))
    two)
    (λ (new : New s who into x d m). ⊎_elim
    (λ (old' : Old s known y e k). absurd (clash s known who into y e x d k m p lty (sym same) old' new))
    (λ (new' : New s who into y e k). (new.maker ∙ sym new'.maker, new.place ∙ sym new'.place))
    two)
    one

private_after : (s s' : Heap) (known after : ℕ → ℕ → Content) (who into : ℕ) → Private s known → ((x d : ℕ) (m : HeapMutator) → x < 16 → IsAttached s' x m → Outcome s s' known who into x d m (after x d)) → Private s' after
private_after s s' known after who into p out = record {
  as_known = λ x d m lt at. (out x d m lt at).fact;
  apart = λ x y d e m k ltx lty atx aty ownx owny same. apart_again s known who into x d y e m k p ltx lty same ((out x d m ltx atx).origin ownx) ((out y e k lty aty).origin owny);
}

-- a register of which nothing is known
nothing_of : (s s' : Heap) (known : ℕ → ℕ → Content) (who into x d : ℕ) (m : HeapMutator) (c : Content) → c ≡ unknown → Outcome s s' known who into x d m c
nothing_of s s' known who into x d m c e = subst (λ (z : Content). Outcome s s' known who into x d m z) (sym e) (record { fact = tt; origin = λ own. absurd own })

-- a register that is left
left_is : (s s' : Heap) (known : ℕ → ℕ → Content) (who into x d : ℕ) (m m' : HeapMutator) → Private s known → x < 16 → IsAttached s x m → register m' d ≡ register m d → length m'.registers ≡ length m.registers
    → (IsOwn (known x d) → (o : Object) → HasObject s (register m d) o → HasObject s' (register m d) o) → (c : Content) → c ≡ known x d → Outcome s s' known who into x d m' c
left_is s s' known who into x d m m' p lt at word size stays c e = subst (λ (z : Content). Outcome s s' known who into x d m' z) (sym e) (record {
  fact = moved s s' m m' d (known x d) word size stays (p.as_known x d m lt at);
  origin = λ own. inl (record { was = m; at = at; own = own; word = word });
})

-- the register into which an allocation goes
abbrev into_of_call : Call → ℕ
into_of_call (Alloc r n kind) = r
into_of_call _ = 0

abbrev into_of : Event → ℕ
into_of (Mutator slot call) = into_of_call call
into_of _ = 0

-- the registers through which an event stores
abbrev stores_by : Event → Option ℕ
stores_by (Mutator slot call) = stores_at call
stores_by _ = None

-- a register is set in any case
set_done : (s : Heap) (slot r w : ℕ) (m : HeapMutator) {reply : Reply} {s' : Heap} → Acts s slot m (Set r w) reply s' → reply ≡ Done
set_done s slot r w m Acts.set = refl

-- what is known after an event: of who made it something else
abbrev pub known_by : ℕ → Event → Reply → (ℕ → ℕ → Content) → ℕ → ℕ → Content
known_by who asked reply known x = cond (who == x) (known_after (known x) asked reply) (known x)

module _ (s t : HeapState) (who : ℕ) (reply : Reply) (sound : IsSound (heap_of s)) (known : ℕ → ℕ → Content) (p : Private (heap_of s) known) where
  -- A store leaves the objects of all other registers,
  store_stays : (slot a k r : ℕ) → (h : StateStep s who (Mutator slot (Store a k r)) reply t) → k < own_words (known who a) → (x d : ℕ) (m : HeapMutator) → x < 16 → IsAttached (heap_of s) x m → (x ≡ who → d ≢ a) → IsOwn (known x d)
      → (o : Object) → HasObject (heap_of s) (register m d) o → HasObject (heap_of t) (register m d) o
  store_stays slot a k r h keeps x d m lt at misses own o has =
      let q = h.fits.mutator in
      let there : IsAttached (heap_of s) slot q = ap (λ (i : ℕ). slice_get (heap_of s).mutators i) (sym h.fits.own) ∙ h.fits.attached in
      let had = given (heap_of s) q a k (known who a) keeps (p.as_known who a q h.fits.range h.fits.attached) in
      let other : register m d ≢ register q a = λ e. let same = p.apart x who d a m q lt h.fits.range at h.fits.attached own had.is_own e in misses same.0 same.1 in
      ap (λ (z : HeapState). (heap_of z).objects (register m d)) h.goes
      ∙ store_else (heap_of s) sound slot a k r q had.n had.words had.own had.within (calls_acts (heap_of s) slot q there h.happens) (register m d) o other has

  -- and so does every step that keeps to own objects.
  object_stays : (asked : Event) → (h : StateStep s who asked reply t) → KeepsToOwn (known who) asked → (x d : ℕ) (m : HeapMutator) → x < 16 → IsAttached (heap_of s) x m → ((a : ℕ) → stores_by asked ≡ Some a → x ≡ who → d ≢ a) → IsOwn (known x d)
      → (o : Object) → HasObject (heap_of s) (register m d) o → HasObject (heap_of t) (register m d) o
  object_stays asked h keeps x d m lt at misses own o has = ⊎_elim
      (λ leaves.
      let there = own_is (heap_of s) m d (known x d) own (p.as_known x d m lt at) in
      let reached = held_reached (heap_of s) sound x m d (register m d) o at there.there refl has in
      let kind = ap (λ (x : Object). x.kind) (same_Some o there.object (sym has ∙ there.has)) ∙ there.kind in
      ap (λ (z : HeapState). (heap_of z).objects (register m d)) h.goes ∙ step_leaves s t who asked reply h sound leaves (register m d) o (inr (reached, kind)) has)
      (λ (store : IsStore asked).
      let h' = subst (λ (e : Event). StateStep s who e reply t) store.is h in
      let keeps' : KeepsToOwn (known who) (Mutator store.slot (Store store.at store.offset store.from)) = subst (λ (e : Event). KeepsToOwn (known who) e) store.is keeps in
      store_stays store.slot store.at store.offset store.from h' keeps' x d m lt at (λ same. misses store.at (ap stores_by store.is) same) own o has)
      (sorted (known who) asked keeps)

  -- another's register
  other_is : (asked : Event) → (h : StateStep s who asked reply t) → KeepsToOwn (known who) asked → (into x d : ℕ) (m : HeapMutator) → x < 16 → who ≢ x → IsAttached (heap_of t) x m → (c : Content) → c ≡ known x d → Outcome (heap_of s) (heap_of t) known who into x d m c
  other_is asked h keeps into x d m lt ne at c e =
      let was : IsAttached (heap_of s) x m = sym (step_mutators s t who x asked reply ne h) ∙ at in
      left_is (heap_of s) (heap_of t) known who into x d m m p lt was refl refl (object_stays asked h keeps x d m lt was (λ a f same. absurd (ne (sym same)))) c e

  -- the caller's own
  call_is : (slot : ℕ) (call : Call) → (h : StateStep s who (Mutator slot call) reply t) → KeepsToOwnCall (known who) call → (d : ℕ) (m : HeapMutator) → IsAttached (heap_of t) who m
      → {c : Content} → Told (known who) call reply d c → Outcome (heap_of s) (heap_of t) known who (into_of_call call) who d m c
  call_is slot call h keeps d m at (Told.gone e) = nothing_of (heap_of s) (heap_of t) known who (into_of_call call) who d m _ e
  call_is slot call h keeps d m at (Told.left leaves misses e) =
      let q = h.fits.mutator in
      let own = h.fits.own in
      let there : IsAttached (heap_of s) slot q = ap (λ (i : ℕ). slice_get (heap_of s).mutators i) (sym own) ∙ h.fits.attached in
      let kept = calls_keep (heap_of s) slot q d there h.happens leaves in
      let now : IsAttached (heap_of t) who kept.mutator = ap (λ (z : HeapState). slice_get (heap_of z).mutators who) h.goes ∙ (ap (λ (i : ℕ). slice_get h.heap.mutators i) own ∙ kept.at) in
      let same : m ≡ kept.mutator = same_mutator (heap_of t) who m kept.mutator at now in
      left_is (heap_of s) (heap_of t) known who (into_of_call call) who d q m p h.fits.range h.fits.attached
      (ap (λ (z : HeapMutator). register z d) same ∙ kept.word) (ap (λ (z : HeapMutator). length z.registers) same ∙ kept.size)
      (object_stays (Mutator slot call) h keeps who d q h.fits.range h.fits.attached (λ a f one. misses a f)) _ e
  call_is slot call h keeps d m at (Told.was_set w is e) =
      subst (λ (z : Content). Outcome (heap_of s) (heap_of t) known who (into_of_call call) who d m z) (sym e) (record { fact = set_word (subst (λ (f : Call). StateStep s who (Mutator slot f) reply t) is h); origin = λ own. absurd own })
    where
      set_word : (h' : StateStep s who (Mutator slot (Set d w)) reply t) → register m d ≡ w
      set_word h' =
          let there : IsAttached (heap_of s) slot h'.fits.mutator = ap (λ (i : ℕ). slice_get (heap_of s).mutators i) (sym h'.fits.own) ∙ h'.fits.attached in
          let done = set_done (heap_of s) slot d w h'.fits.mutator (calls_acts (heap_of s) slot h'.fits.mutator there h'.happens) in
          let new = set_leaves s t who slot d w sound (subst (λ (z : Reply). StateStep s who (Mutator slot (Set d w)) z t) done h') in
          ap (λ (z : HeapMutator). register z d) (same_mutator (heap_of t) slot m new.0 (ap (λ (i : ℕ). slice_get (heap_of t).mutators i) (sym h'.fits.own) ∙ at) new.1) ∙ new.2
  call_is slot call h keeps d m at (Told.was_stored k r n words is done had lt e) =
      let q = h.fits.mutator in
      let own = h.fits.own in
      let there : IsAttached (heap_of s) slot q = ap (λ (i : ℕ). slice_get (heap_of s).mutators i) (sym own) ∙ h.fits.attached in
      let act : Acts (heap_of s) slot q (Store d k r) Done h.heap = subst (λ (z : Reply). Acts (heap_of s) slot q (Store d k r) z h.heap) done (subst (λ (f : Call). Acts (heap_of s) slot q f reply h.heap) is (calls_acts (heap_of s) slot q there h.happens)) in
      let before : HasOwn (heap_of s) q d n words = subst (λ (z : Content). IsAs (heap_of s) q d z) had (p.as_known who d q h.fits.range h.fits.attached) in
      let stored = store_own (heap_of s) sound slot d k r q n words before lt act in
      let now : IsAttached (heap_of t) who q = ap (λ (z : HeapState). slice_get (heap_of z).mutators who) h.goes ∙ (ap (λ l. slice_get l who) stored.0 ∙ h.fits.attached) in
      let same : m ≡ q = same_mutator (heap_of t) who m q at now in
      let has = ap (λ (z : HeapState). (heap_of z).objects (register q d)) h.goes ∙ stored.1 in
      let after = stored_own (heap_of s) (heap_of t) q d k (register q r) n words (known_word (known who r)) (word_is (heap_of s) q r (known who r) (p.as_known who r q h.fits.range h.fits.attached)) before lt has in
      subst (λ (z : Content). Outcome (heap_of s) (heap_of t) known who (into_of_call call) who d m z) (sym e)
      (subst (λ (z : HeapMutator). Outcome (heap_of s) (heap_of t) known who (into_of_call call) who d z (own_object n (λ i. cond (i == k) (known_word (known who r)) (words i)))) (sym same) (record {
        fact = after;
        origin = λ one. inl (record { was = q; at = h.fits.attached; own = subst (λ (z : Content). IsOwn z) (sym had) tt; word = refl });
      }))
  call_is slot call h keeps d m at (Told.was_made n is done e) =
      let h' = subst (λ (z : Reply). StateStep s who (Mutator slot (Alloc d n Normal)) z t) done (subst (λ (f : Call). StateStep s who (Mutator slot f) reply t) is h) in
      let new = alloc_is (heap_of s) slot d n Normal sound h'.in_range.1.0 h'.happens in
      let q = new.owned.mutator in
      let now : IsAttached (heap_of t) who q = ap (λ (z : HeapState). slice_get (heap_of z).mutators who) h'.goes ∙ (ap (λ (i : ℕ). slice_get h'.heap.mutators i) h'.fits.own ∙ new.owned.at) in
      let same : m ≡ q = same_mutator (heap_of t) who m q at now in
      subst (λ (z : Content). Outcome (heap_of s) (heap_of t) known who (into_of_call call) who d m z) (sym e)
      (subst (λ (z : HeapMutator). Outcome (heap_of s) (heap_of t) known who (into_of_call call) who d z (own_object n (λ i. Some 0))) (sym same) (record {
        fact = record {
          object = new.owned.object;
          there = new.owned.there;
          has = ap (heap_of t).objects new.owned.holds ∙ (ap (λ (z : HeapState). (heap_of z).objects new.base) h'.goes ∙ new.owned.has);
          kind = new.kind_is;
          size = new.owned.size;
          known = λ k w f lt. new.zeros k (let long = new.owned.size in omega (arith, lt, long)) ∙ same_Some 0 w f;
        };
        origin = λ one. inr (record { maker = refl; place = sym (ap into_of_call is); none = λ o has. new.new o (ap (heap_of s).objects (sym new.owned.holds) ∙ has) });
      }))

  -- the one that made the event
  own_outcome : (asked : Event) → (h : StateStep s who asked reply t) → KeepsToOwn (known who) asked → who < 16 → (d : ℕ) (m : HeapMutator) → IsAttached (heap_of t) who m
      → Outcome (heap_of s) (heap_of t) known who (into_of asked) who d m (known_after (known who) asked reply d)
  own_outcome Attach h keeps lt d m at = nothing_of (heap_of s) (heap_of t) known who 0 who d m unknown refl
  own_outcome (Mutator slot call) h keeps lt d m at = call_is slot call h keeps d m at (told (known who) call reply d keeps)
  own_outcome Begin h keeps lt d m at = absurd (omega (arith, h.fits, lt))
  own_outcome BeginPartial h keeps lt d m at = absurd (omega (arith, h.fits, lt))
  own_outcome Finish h keeps lt d m at = absurd (omega (arith, h.fits, lt))
  own_outcome Collect h keeps lt d m at = absurd (omega (arith, h.fits, lt))
  own_outcome Roots h keeps lt d m at = absurd h.fits
  own_outcome (Mark n) h keeps lt d m at = absurd h.fits
  own_outcome Retrace h keeps lt d m at = absurd h.fits
  own_outcome Sweep h keeps lt d m at = absurd h.fits
  own_outcome Number h keeps lt d m at = absurd h.fits

  -- So what is known stays true through each step that keeps to own objects,
  step_private : (asked : Event) → StateStep s who asked reply t → KeepsToOwn (known who) asked → Private (heap_of t) (known_by who asked reply known)
  step_private asked h keeps = private_after (heap_of s) (heap_of t) known (known_by who asked reply known) who (into_of asked) p (λ x d m lt at. ⊎_elim
      (λ (same : who ≡ x).
      let out = own_outcome asked h keeps (subst (λ (i : ℕ). i < 16) (sym same) lt) d m (subst (λ (i : ℕ). IsAttached (heap_of t) i m) (sym same) at) in
      let is : known_by who asked reply known x d ≡ known_after (known who) asked reply d =
      ap (λ (b : Bool). cond b (known_after (known x) asked reply) (known x) d) (eq-eqb who x same) ∙ ap (λ (i : ℕ). known_after (known i) asked reply d) (sym same) in
      subst (λ (c : Content). Outcome (heap_of s) (heap_of t) known who (into_of asked) x d m c) (sym is)
      (subst (λ (i : ℕ). Outcome (heap_of s) (heap_of t) known who (into_of asked) i d m (known_after (known who) asked reply d)) same out))
      (λ other. other_is asked h keeps (into_of asked) x d m lt other at (known_by who asked reply known x d) (ap (λ (b : Bool). cond b (known_after (known x) asked reply) (known x) d) (ne_eqb who x other)))
      (cases_eq who x))

  -- and its reply is as it is known.
  step_as_known : (asked : Event) → StateStep s who asked reply t → who < 16 → IsAsKnown (known who) asked reply
  step_as_known (Mutator slot call) h lt =
      let there : IsAttached (heap_of s) slot h.fits.mutator = ap (λ (i : ℕ). slice_get (heap_of s).mutators i) (sym h.fits.own) ∙ h.fits.attached in
      call_as_known (heap_of s) sound slot h.fits.mutator (known who) there (λ d. p.as_known who d h.fits.mutator h.fits.range h.fits.attached) call h.happens
  step_as_known _ h lt = tt

-- what is left of a slot's events after one event of the history
rest_keeps : (b : Bool) (known : ℕ → Content) (e : MadeEvent) (es : List MadeEvent) → AllKeepToOwn known (cond b (e ∷ es) es) → AllKeepToOwn (cond b (known_after known e.call e.reply) known) es
rest_keeps true known e es keeps = keeps.1
rest_keeps false known e es keeps = keeps

whole_as_known : (b : Bool) (known : ℕ → Content) (e : MadeEvent) (es : List MadeEvent) → (b ≡ true → IsAsKnown known e.call e.reply) → AreAsKnown (cond b (known_after known e.call e.reply) known) es → AreAsKnown known (cond b (e ∷ es) es)
whole_as_known true known e es first rest = (first refl, rest)
whole_as_known false known e es first rest = rest

-- Where each slot's events keep to own objects, their replies are as they are known.
pub walks_as_known : (s t : HeapState) (es : List MadeEvent) → Walks StateStep s es t → IsRunFromOpening s.pages s.run → (known : ℕ → ℕ → Content) → Private (heap_of s) known → ((x : ℕ) → x < 16 → AllKeepToOwn (known x) (all_of x es))
    → (x : ℕ) → x < 16 → AreAsKnown (known x) (all_of x es)
walks_as_known s t [] w fresh known p keeps x lt = tt
walks_as_known s t (e ∷ es) w fresh known p keeps x lt =
    let sound = fresh_sound s.pages s.run fresh in
    let here : KeepsToOwn (known e.who) e.call = ⊎_elim
    (λ (slot : e.who < 16). (subst (λ (b : Bool). AllKeepToOwn (known e.who) (cond b (e ∷ all_of e.who es) (all_of e.who es))) (eq-eqb e.who e.who refl) (keeps e.who slot)).0)
    (λ collector. if_collector (KeepsToOwnCall (known e.who)) s w.0 e.who e.call e.reply w.1 collector)
    (step_who s w.0 e.who e.call e.reply w.1) in
    let next = known_by e.who e.call e.reply known in
    let rest = walks_as_known w.0 t es w.2 (step_fresh s w.0 e.who e.call e.reply w.1 fresh) next (step_private s w.0 e.who e.reply sound known p e.call w.1 here)
    (λ y below. rest_keeps (e.who == y) (known y) e (all_of y es) (keeps y below)) x lt in
    whole_as_known (e.who == x) (known x) e (all_of x es)
    (λ same. let is = eqb-true e.who x same in subst (λ (i : ℕ). IsAsKnown (known i) e.call e.reply) is (step_as_known s w.0 e.who e.reply sound known p e.call w.1 (subst (λ (i : ℕ). i < 16) (sym is) lt)))
    rest
