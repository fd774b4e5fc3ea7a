-- Where all that had a part in a history are known and keep to their own objects, each is answered as it is known.
use Rattle.std.proofs.Common.{◌≡◌, ◌≢◌, ℕ, ◌<◌, false, List, [], ◌∷◌, refl, sym, ◌∙◌, subst, arith, true≢false, eq-eqb, ⊎_elim}
use Rattle.std.specs.Prelude.{All, Contains, nat_eq, slice_index_or}
use Rattle.std.proofs.lemmas.List.Elements.{All-nil, All-cons, All-head, All-tail, All-map, All-weaker, All-contains, All-contains_itself, All-from_recursion}
use Rattle.history.specs.Histories.{own, Legal}
use Rattle.heap_spec.specs.SequentialObject.{heap_of, Opens, StateStep}
use Rattle.heap_history.specs.Ranks.{rank_of}
use Rattle.heap_history.specs.Passes.{MadeEvent, HeapPass}
use Rattle.heap_history.specs.Alone.{all_of, slots_of, AreAlone}
use Rattle.heap_history.specs.Laws.{KeptToOwn}
use Rattle.heap_history.specs.OwnObjects.{unknown, nothing_known, AllKeepToOwn, AreAsKnown}
use Rattle.heap_history.proofs.Alone.{one_or_none}
use Rattle.heap_history.proofs.Gone.{none_of, known_mine}
use Rattle.heap_history.proofs.Stored.{reached_fresh}
use Rattle.heap_history.proofs.Privacy.{Private, walks_as_known}

-- Where all that each slot did keeps to own objects, it is answered as it is known.
pub slots_as_known : (pages : ℕ) (history : List MadeEvent) → Legal (Opens pages) StateStep history → ((x : ℕ) → x < 16 → AllKeepToOwn nothing_known (all_of x history)) → (x : ℕ) → x < 16 → AreAsKnown nothing_known (all_of x history)
slots_as_known pages history legal keeps = walks_as_known legal.1.0 legal.0 history legal.1.2 (reached_fresh pages [] legal.1.0 (legal.1.0, legal.1.1, refl)) (λ x d. unknown) private keeps
  where
    private : Private (heap_of legal.1.0) (λ x d. unknown)
    private = record { as_known = λ x d m lt at. tt; apart = λ x y d e m k ltx lty atx aty own. absurd own }

-- what holds of each slot holds of each pass's
each_slot : (P : ℕ → Type 0) (passes : List HeapPass) → All P (slots_of passes) → All (λ (p : HeapPass). P p.slot) passes
each_slot P [] all = All-nil (λ (p : HeapPass). P p.slot)
each_slot P (p ∷ ps) all = All-cons (λ (q : HeapPass). P q.slot) p ps (All-head P p.slot (slots_of ps) all) (each_slot P ps (All-tail P p.slot (slots_of ps) all))

module _ (pages : ℕ) (history : List MadeEvent) (passes : List HeapPass) (legal : Legal (Opens pages) StateStep history) (alone : AreAlone (slots_of passes) history) (kept : All (KeptToOwn pages history) passes) where
  -- one of the mutators, at this slot
  abbrev Mine : ℕ → Type 0
  Mine slot = (p : HeapPass) × KeptToOwn pages history p × (p.slot ≡ slot)

  each_mine : All Mine (slots_of passes)
  each_mine = All-map Mine (λ (p : HeapPass). p.slot) passes (All-weaker (KeptToOwn pages history) (λ (p : HeapPass). Mine p.slot) (λ p k. (p, k, refl)) passes kept)

  mine_is : (p : HeapPass) → KeptToOwn pages history p → (slot : ℕ) → p.slot ≡ slot → Contains (slots_of passes) slot → p.mine ≡ all_of slot history
  mine_is p k slot is among =
      known_mine pages history legal p slot is (All-contains (λ s. own rank_of s history ≡ all_of s history) (slots_of passes) slot alone.lives among) k.known

  slot_keeps : (x : ℕ) → x < 16 → AllKeepToOwn nothing_known (all_of x history)
  slot_keeps x lt = ⊎_elim
      (λ among.
      let by = All-contains Mine (slots_of passes) x each_mine among in
      subst (λ (es : List MadeEvent). AllKeepToOwn nothing_known es) (mine_is by.0 by.1 x by.2 among) by.1.kept)
      (λ away.
      let far = All-from_recursion (λ y. nat_eq x y ≡ false) (slots_of passes) away in
      let none : All (λ (e : MadeEvent). e.who ≢ x) history = λ k d below same. ⊎_elim
      (λ among. true≢false (sym (eq-eqb x _ (sym same)) ∙ All-contains (λ y. nat_eq x y ≡ false) (slots_of passes) _ far among))
      (λ collector. absurd (omega (arith, lt, same, collector)))
      (alone.members k d below) in
      subst (λ (es : List MadeEvent). AllKeepToOwn nothing_known es) (sym (none_of x history none)) tt)
      (one_or_none (slots_of passes) x)

  pub own_as_known : All (λ (p : HeapPass). AreAsKnown nothing_known p.mine) passes
  own_as_known = λ k d below.
      let p : HeapPass = slice_index_or passes k d in
      let mine = kept k d below in
      let among = each_slot (Contains (slots_of passes)) passes (All-contains_itself (slots_of passes)) k d below in
      subst (λ (es : List MadeEvent). AreAsKnown nothing_known es) (sym (mine_is p mine p.slot refl among))
      (slots_as_known pages history legal slot_keeps p.slot mine.mutator)
