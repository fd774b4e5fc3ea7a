-- A mutator's calls, one after another.
use Rattle.std.proofs.Common.{◌≡◌, ℕ, zero, suc, ◌+◌, ◌<◌, List, [], ◌∷◌, ◌++◌, length, take, set, get_or, refl, sym, ap, ◌∙◌, subst, arith, append_assoc, add-one}
use Rattle.history.specs.Histories.{event}
use Rattle.heap_spec.specs.declared.call.Call.{Call}
use Rattle.heap_spec.specs.declared.event.Event.TheVariants.{Mutator}
use Rattle.heap_spec.specs.declared.reply.Reply.{Reply}
use Rattle.heap_history.specs.Passes.{MadeEvent, HeapPass}
use Rattle.heap_history.specs.Headline.{Makes}
use Rattle.workloads.specs.Actors.{Called}
use Rattle.workloads.specs.OneHistory.{events_of}

-- one call more
pub events_more : (slot : ℕ) (calls : List Call) (replies : List Reply) (i : ℕ) (c : Call) (r : Reply) → i < length calls → length replies ≡ length calls
    → events_of slot (take (i + 1) calls) (take (i + 1) (set replies i r)) ≡ events_of slot (take i calls) (take i replies) ++ event slot (Mutator slot (get_or calls i c)) r ∷ []
events_more slot [] replies i c r lt len = absurd (omega (arith, lt))
events_more slot (x ∷ xs) [] i c r lt len = absurd (omega (arith, len))
events_more slot (x ∷ xs) (y ∷ ys) zero c r lt len = refl
events_more slot (x ∷ xs) (y ∷ ys) (suc i) c r lt len =
    rw add-one (ap (λ (es : List MadeEvent). event slot (Mutator slot x) y ∷ es) (rw add-one at (events_more slot xs ys i c r (omega (arith, lt)) (omega (arith, len)))))

pub called_more : (pages : ℕ) (old mid new : HeapPass) (calls : List Call) (replies : List Reply) (i : ℕ) (x : Call) (r : Reply) → x ≡ get_or calls i x → i < length calls → length replies ≡ length calls
    → Called old (take i calls) (take i replies) mid → Makes pages mid x r new → Called old (take (i + 1) calls) (take (i + 1) (set replies i r)) new
called_more pages old mid new calls replies i x r at lt len all made = let one = subst (λ (e : Call). Makes pages mid e r new) at made in record {
  slot = one.extends.slot ∙ all.slot;
  mine = one.extends.mine ∙ ((λ j. all.mine j ++ event (all.slot j) (Mutator (all.slot j) (get_or calls i x)) r ∷ []) ∙ (append_assoc old.mine (events_of old.slot (take i calls) (take i replies)) (event old.slot (Mutator old.slot (get_or calls i x)) r ∷ [])
      ∙ ap (λ (l : List MadeEvent). old.mine ++ l) (sym (events_more old.slot calls replies i x r lt len))));
}
