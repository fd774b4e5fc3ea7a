-- The events of the example's mutators.
use Rattle.std.proofs.Common.{◌≡◌, ℕ, ◌<◌, List, [], ◌∷◌, ◌++◌, sym, ap, ◌∙◌, subst, arith, inl, inr}
use mathlib.Core.List.{IsPrefix}
use Rattle.history.proofs.Fronts.{prefix_self}
use Rattle.words.specs.declared.class.Kind.TheVariants.{Normal}
use Rattle.history.specs.Histories.{event}
use Rattle.heap_spec.specs.declared.call.Call.{Call}
use Rattle.heap_spec.specs.declared.call.Call.TheVariants.{Detach, Set, Load, Store, Alloc}
use Rattle.heap_spec.specs.declared.event.Event.TheVariants.{Attach, Mutator}
use Rattle.heap_spec.specs.declared.reply.Reply.{Reply}
use Rattle.heap_spec.specs.declared.reply.Reply.TheVariants.{Slot, Done, Word}
use Rattle.heap_history.specs.Passes.{MadeEvent, HeapPass}
use Rattle.heap_history.specs.Headline.{Makes, Departs}
use Rattle.heap_history.specs.Alone.{CameIn}
use Rattle.heap_history.specs.Laws.{KeptToOwn}
use Rattle.heap_history.specs.OwnObjects.{nothing_known, AllKeepToOwn, AreAsKnown}
use Rattle.uses_shared.specs.Keeping.{HasKept, IsSettled}

-- with a call more
abbrev with_call : (ℕ → List MadeEvent) → Call → Reply → ℕ → List MadeEvent
with_call events call reply slot = events slot ++ event slot (Mutator slot call) reply ∷ []

-- what a mutator that kept its word did
abbrev came : ℕ → List MadeEvent
came slot = event slot Attach (Slot slot) ∷ []

abbrev kept : ℕ → ℕ → ℕ → List MadeEvent
kept word loaded = with_call (with_call (with_call (with_call came (Alloc 1 2 Normal) Done) (Set 2 word) Done) (Store 1 0 2) Done) (Load 2 1 0) (Word loaded)

mine_after : (pages : ℕ) (old new : HeapPass) (call : Call) (reply : Reply) (events : ℕ → List MadeEvent) → Makes pages old call reply new → old.mine ≡ events old.slot → new.mine ≡ with_call events call reply new.slot
mine_after pages old new call reply events makes is =
    makes.extends.mine ∙ (ap (λ (l : List MadeEvent). l ++ event old.slot (Mutator old.slot call) reply ∷ []) is ∙ ap (with_call events call reply) (sym makes.extends.slot))

kept_is : (pages word loaded : ℕ) (pass : HeapPass) → HasKept pages word loaded pass → pass.mine ≡ kept word loaded pass.slot
kept_is pages word loaded pass has =
    let does = has.does in
    let puts = does.puts in
    let first = mine_after pages has.start puts.made (Alloc 1 2 Normal) Done came puts.allocates has.begun.mine in
    let second = mine_after pages puts.made puts.set (Set 2 word) Done (with_call came (Alloc 1 2 Normal) Done) puts.sets first in
    let third = mine_after pages puts.set does.put (Store 1 0 2) Done (with_call (with_call came (Alloc 1 2 Normal) Done) (Set 2 word) Done) puts.stores second in
    mine_after pages does.put pass (Load 2 1 0) (Word loaded) (with_call (with_call (with_call came (Alloc 1 2 Normal) Done) (Set 2 word) Done) (Store 1 0 2) Done) does.loads third

-- The mutator is one that came in the history,
pub settled_came : (pages : ℕ) (old new : HeapPass) (history : List MadeEvent) → IsSettled pages old history new → CameIn pages history new
settled_came pages old new history settled = record {
  mutator = settled.range;
  fine = inl settled.fine;
  within = subst (λ (l : List MadeEvent). IsPrefix l history) (sym settled.seen) (prefix_self history);
}

-- it stored in its own object alone,
pub settled_kept : (pages word loaded : ℕ) (old new : HeapPass) (history : List MadeEvent) → HasKept pages word loaded old → IsSettled pages old history new → KeptToOwn pages history new
settled_kept pages word loaded old new history has settled =
    let first : 0 < 2 = omega arith in
    let all : AllKeepToOwn nothing_known (kept word loaded old.slot) = (tt, (tt, (tt, (first, (tt, tt))))) in
    record {
      mutator = settled.range;
      known = inl (settled.seen, settled.fine);
      kept = subst (λ (es : List MadeEvent). AllKeepToOwn nothing_known es) (sym (settled.mine ∙ kept_is pages word loaded old has)) all;
    }

-- the word of a reply
abbrev word_of : Reply → ℕ
word_of (Word w) = w
word_of _ = 0

-- and if its replies are as they are known, it loaded its word.
pub settled_loaded : (pages word loaded : ℕ) (old new : HeapPass) (history : List MadeEvent) → HasKept pages word loaded old → IsSettled pages old history new → AreAsKnown nothing_known new.mine → loaded ≡ word
settled_loaded pages word loaded old new history has settled as_known =
    let said = subst (λ (es : List MadeEvent). AreAsKnown nothing_known es) (settled.mine ∙ kept_is pages word loaded old has) as_known in
    let first : 0 < 2 = omega arith in
    let answer : Word loaded ≡ Word word = said.1.1.1.1.0 first in
    ap word_of answer

-- A mutator that had kept its word, and left.
module _ (pages word loaded : ℕ) (old past : HeapPass) (has : HasKept pages word loaded old) (left : Departs pages old past) where
  left_mine : past.mine ≡ with_call (kept word loaded) Detach Done old.slot
  left_mine = left.mine ∙ ap (λ (l : List MadeEvent). l ++ event old.slot (Mutator old.slot Detach) Done ∷ []) (kept_is pages word loaded old has)

  pub left_kept : (history : List MadeEvent) → IsPrefix past.seen history → KeptToOwn pages history past
  left_kept history within =
      let first : 0 < 2 = omega arith in
      let all : AllKeepToOwn nothing_known (with_call (kept word loaded) Detach Done old.slot) = (tt, (tt, (tt, (first, (tt, (tt, tt)))))) in
      record { mutator = left.fine.mutator; known = inr (within, left.fine); kept = subst (λ (es : List MadeEvent). AllKeepToOwn nothing_known es) (sym left_mine) all }

  pub left_loaded : AreAsKnown nothing_known past.mine → loaded ≡ word
  left_loaded as_known =
      let said = subst (λ (es : List MadeEvent). AreAsKnown nothing_known es) left_mine as_known in
      let first : 0 < 2 = omega arith in
      let answer : Word loaded ≡ Word word = said.1.1.1.1.0 first in
      ap word_of answer
