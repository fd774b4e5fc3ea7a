-- What is known of a register after a call, and how it came to be known.
use Rattle.std.proofs.Common.{◌≡◌, ◌≢◌, ℕ, ◌<◌, ◌==◌, ◌⊎◌, Bool, cond, refl, sym, ap, ◌∙◌, subst, eq-eqb, ne_eqb, inl, inr, ⊎_elim}
use Rattle.std.specs.Prelude.{Option, Some, None}
use Rattle.std.proofs.lemmas.Bool.{cases_eq}
use Rattle.std.proofs.lemmas.Option.{same_Some, none-some}
use Rattle.words.specs.declared.class.Kind.{Kind}
use Rattle.words.specs.declared.class.Kind.TheVariants.{Normal, PointerFree}
use Rattle.heap_spec.specs.declared.call.Call.{Call}
use Rattle.heap_spec.specs.declared.call.Call.TheVariants.{Detach, Set, Store, Alloc, Free}
use Rattle.heap_spec.specs.declared.event.Event.{Event}
use Rattle.heap_spec.specs.declared.event.Event.TheVariants.{Mutator}
use Rattle.heap_spec.specs.declared.reply.Reply.{Reply}
use Rattle.heap_spec.specs.declared.reply.Reply.TheVariants.{Slot, Done, Word, Count, Refused}
use Rattle.heap_spec.specs.Shapes.{written_register, IsOther}
use Rattle.heap_history.specs.Laws.{LeavesRegister, LeavesWordsCall, LeavesWords}
use Rattle.heap_history.specs.OwnObjects.{Content, unknown, a_word, own_object, known_word, own_words, with_content, with_unknown, after_alloc, after_store, known_after_call, KeepsToOwnCall, KeepsToOwn}

-- the register through which a call stores
abbrev pub stores_at : Call → Option ℕ
stores_at (Store a k r) = Some a
stores_at _ = None

-- What is known of a register after a call: nothing; what was known, where the call leaves it; the word that it was set to; the own object with
-- the word that was stored; or the new object.
pub data Told (known : ℕ → Content) (call : Call) (reply : Reply) (d : ℕ) (after : Content) : Type 0 where
  gone : after ≡ unknown → Told known call reply d after
  left : LeavesRegister d call → ((a : ℕ) → stores_at call ≡ Some a → d ≢ a) → after ≡ known d → Told known call reply d after
  was_set : (w : ℕ) → call ≡ Set d w → after ≡ a_word w → Told known call reply d after
  was_stored : (k r n : ℕ) (words : ℕ → Option ℕ) → call ≡ Store d k r → reply ≡ Done → known d ≡ own_object n words → k < n
      → after ≡ own_object n (λ i. cond (i == k) (known_word (known r)) (words i)) → Told known call reply d after
  was_made : (n : ℕ) → call ≡ Alloc d n Normal → reply ≡ Done → after ≡ own_object n (λ i. Some 0) → Told known call reply d after

-- the content of the one register that is changed, and of any other
with_same : (known : ℕ → Content) (r d : ℕ) (c : Content) → d ≡ r → with_content known r c d ≡ c
with_same known r d c e = ap (λ (b : Bool). cond b c (known d)) (eq-eqb d r e)

with_other : (known : ℕ → Content) (r d : ℕ) (c : Content) → d ≢ r → with_content known r c d ≡ known d
with_other known r d c ne = ap (λ (b : Bool). cond b c (known d)) (ne_eqb d r ne)

-- a call that stores nowhere
nowhere : (d : ℕ) (a : ℕ) → None ≡ Some a → d ≢ a
nowhere d a e = absurd (none-some a e)

-- a call that puts a word that isn't known into a register, if into any
lost : (known : ℕ → Content) (call : Call) (reply : Reply) (d : ℕ) (r : Option ℕ) → (IsOther d r → LeavesRegister d call) → ((a : ℕ) → stores_at call ≡ Some a → d ≢ a) → Told known call reply d (with_unknown known r d)
lost known call reply d None leaves misses = Told.left (leaves tt) misses refl
lost known call reply d (Some r) leaves misses = ⊎_elim (λ same. Told.gone (with_same known r d unknown same)) (λ other. Told.left (leaves other) misses (with_other known r d unknown other)) (cases_eq d r)

stored_told : (known : ℕ → Content) (reply : Reply) (d a k r : ℕ) → d ≡ a → (c : Content) → known a ≡ c → k < own_words c → Told known (Store a k r) reply d (after_store c k (known_word (known r)) reply)
stored_told known reply d a k r same unknown is lt = Told.gone refl
stored_told known reply d a k r same (a_word w) is lt = Told.gone refl
stored_told known Done d a k r same (own_object n words) is lt = Told.was_stored k r n words (ap (λ x. Store x k r) (sym same)) refl (ap known same ∙ is) lt refl
stored_told known (Slot s) d a k r same (own_object n words) is lt = Told.gone refl
stored_told known (Word w) d a k r same (own_object n words) is lt = Told.gone refl
stored_told known (Count n) d a k r same (own_object m words) is lt = Told.gone refl
stored_told known (Refused why) d a k r same (own_object n words) is lt = Told.gone refl

made_told : (known : ℕ → Content) (reply : Reply) (d r n : ℕ) (kind : Kind) → d ≡ r → Told known (Alloc r n kind) reply d (after_alloc n kind reply)
made_told known Done d r n Normal same = Told.was_made n (ap (λ x. Alloc x n Normal) (sym same)) refl refl
made_told known (Slot s) d r n Normal same = Told.gone refl
made_told known (Word w) d r n Normal same = Told.gone refl
made_told known (Count c) d r n Normal same = Told.gone refl
made_told known (Refused why) d r n Normal same = Told.gone refl
made_told known reply d r n PointerFree same = Told.gone refl

pub told : (known : ℕ → Content) (call : Call) (reply : Reply) (d : ℕ) → KeepsToOwnCall known call → Told known call reply d (known_after_call known call reply d)
told known Detach reply d keeps = Told.gone refl
told known (Set r w) reply d keeps = ⊎_elim
    (λ same. Told.was_set w (ap (λ x. Set x w) (sym same)) (with_same known r d (a_word w) same))
    (λ other. Told.left other (nowhere d) (with_other known r d (a_word w) other))
    (cases_eq d r)
told known (Store a k r) reply d keeps = ⊎_elim
    (λ same. subst (λ (c : Content). Told known (Store a k r) reply d c) (sym (with_same known a d (after_store (known a) k (known_word (known r)) reply) same)) (stored_told known reply d a k r same (known a) refl keeps))
    (λ other. Told.left tt (λ b e. subst (λ x. d ≢ x) (same_Some a b e) other) (with_other known a d (after_store (known a) k (known_word (known r)) reply) other))
    (cases_eq d a)
told known (Alloc r n kind) reply d keeps = ⊎_elim
    (λ same. subst (λ (c : Content). Told known (Alloc r n kind) reply d c) (sym (with_same known r d (after_alloc n kind reply) same)) (made_told known reply d r n kind same))
    (λ other. Told.left other (nowhere d) (with_other known r d (after_alloc n kind reply) other))
    (cases_eq d r)
told known (Free r) reply d keeps = absurd keeps
told known call reply d keeps = lost known call reply d (written_register call) (λ ne. ne) (nowhere d)

-- the event is a store
pub record IsStore (asked : Event) : Type 0 where
  pub slot : ℕ
  pub at : ℕ
  pub offset : ℕ
  pub from : ℕ
  pub is : asked ≡ Mutator slot (Store at offset from)

-- What keeps to own objects is a store, or leaves all words.
call_sorted : (known : ℕ → Content) (slot : ℕ) (call : Call) → KeepsToOwnCall known call → LeavesWordsCall call ⊎ IsStore (Mutator slot call)
call_sorted known slot (Store a k r) keeps = inr (record { slot = slot; at = a; offset = k; from = r; is = refl })
call_sorted known slot (Free r) keeps = absurd keeps
call_sorted known slot _ keeps = inl tt

pub sorted : (known : ℕ → Content) (asked : Event) → KeepsToOwn known asked → LeavesWords asked ⊎ IsStore asked
sorted known (Mutator slot call) keeps = call_sorted known slot call keeps
sorted known _ keeps = inl tt
