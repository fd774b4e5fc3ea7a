-- Where no more mutators came than are known, nobody else had a part in the history.
use Rattle.std.proofs.Common.{◌≡◌, ℕ, ◌<◌, ◌≤◌, ◌⊎◌, true, false, List, [], ◌∷◌, length, refl, sym, ap, ◌∙◌, subst, arith, ne_eqb, inl, inr, ⊎_elim}
use Rattle.std.specs.Prelude.{All, Contains, nat_eq, slice_index_or}
use Rattle.std.specs.List.{AllByRecursion, IsDistinct}
use Rattle.std.proofs.lemmas.Bool.{cases_eq}
use Rattle.std.proofs.lemmas.List.Elements.{All-head, All-tail, All-from_recursion, Contains-append_right, Contains-get_or}
use Rattle.history.specs.Histories.{own, Legal}
use Rattle.heap_spec.specs.SequentialObject.{Opens, StateStep}
use Rattle.heap_history.specs.Ranks.{rank_of}
use Rattle.heap_history.specs.Passes.{MadeEvent, HeapPass, begins_with_attach}
use Rattle.heap_history.specs.Alone.{attaches, all_of, slots_of, AreAlone, CameIn}
use Rattle.heap_history.proofs.Chains.{none_at_first, mine_begins}
use Rattle.heap_history.proofs.Coming.{firsts_of, AllCame, firsts_more, own_after, own_came, walks_nothing, walks_once, walks_collector, walks_who}
use Rattle.heap_history.proofs.Sums.{times, all_counted, times_none, times_few}

-- a number is one of these or differs from each
pub one_or_none : (xs : List ℕ) (x : ℕ) → Contains xs x ⊎ AllByRecursion (λ y. nat_eq x y ≡ false) xs
one_or_none [] x = inr tt
one_or_none (y ∷ ys) x = ⊎_elim
    (λ (same : x ≡ y). inl (subst (λ (n : ℕ). Contains (y ∷ ys) n) (sym same) (Contains-get_or (y ∷ ys) 0 0 (omega arith))))
    (λ other. ⊎_elim (λ c. inl (Contains-append_right (y ∷ []) ys x c)) (λ away. inr (ne_eqb x y other, away)) (one_or_none ys x))
    (cases_eq x y)

-- Where none came to any other slot, each event is one of these slots' or the collector's.
pub members_of : (pages : ℕ) (history : List MadeEvent) (legal : Legal (Opens pages) StateStep history) (slots : List ℕ) → ((x : ℕ) → x < 16 → AllByRecursion (λ y. nat_eq x y ≡ false) slots → firsts_of x history ≡ 0)
    → All (λ (e : MadeEvent). Contains slots e.who ⊎ (e.who ≡ 16)) history
members_of pages history legal slots none = λ k d lt. ⊎_elim
    (λ (slot : (slice_index_or history k d).who < 16). ⊎_elim
    (λ c. inl c)
    (λ away.
    let who = (slice_index_or history k d).who in
    absurd (walks_nothing legal.1.0 legal.0 history who slot legal.1.2 (none_at_first legal.1.0 who legal.1.1.nothing) (none who slot away) k d lt refl))
    (one_or_none slots (slice_index_or history k d).who))
    (λ collector. inr collector)
    (walks_who legal.1.0 legal.0 history legal.1.2 k d lt)

module _ (pages : ℕ) (history : List MadeEvent) (legal : Legal (Opens pages) StateStep history) (slots : List ℕ) (distinct : IsDistinct nat_eq slots)
    (came : AllCame slots history) (few : attaches history ≤ length slots) where
  counts : AllByRecursion (λ s. s < 16) slots → (x : ℕ) → x < 16 → firsts_of x history ≡ times x slots
  counts below = all_counted 16 slots history below (λ x. (times_few x slots history distinct came).1) few

  lives_of : AllByRecursion (λ s. s < 16) slots → (left : List ℕ) → AllCame left history → AllByRecursion (λ s. s < 16) left → AllByRecursion (λ s. own rank_of s history ≡ all_of s history) left
  lives_of all [] some below = tt
  lives_of all (s ∷ left) some below =
      let one = (times_few s slots history distinct came).0 in
      let is = counts all s below.0 in
      (walks_once legal.1.0 legal.0 history s below.0 legal.1.2 (none_at_first legal.1.0 s legal.1.1.nothing) (omega (arith, some.0, one, is)), lives_of all left some.1 below.1)

  -- nobody but these slots and the collector
  pub alone_in : AllByRecursion (λ s. s < 16) slots → AreAlone slots history
  alone_in below = record {
    members = members_of pages history legal slots (λ x lt away. counts below x lt ∙ times_none x slots away);
    lives = All-from_recursion (λ s. own rank_of s history ≡ all_of s history) slots (lives_of below slots came below);
    collector = own_after 16 [] history (walks_collector legal.1.0 legal.0 history legal.1.2);
  }

-- what a mutator that came did is its slot's own events in what it has seen, which begin with its attach
pub own_is : (pages : ℕ) (history : List MadeEvent) (pass : HeapPass) → CameIn pages history pass → pass.mine ≡ own rank_of pass.slot pass.seen
own_is pages history pass c = ⊎_elim (λ here. here.owned.own_is) (λ gone. gone.recalls.own_is) c.fine

pub begun : (pages : ℕ) (history : List MadeEvent) (pass : HeapPass) → CameIn pages history pass → begins_with_attach pass.mine ≡ true
begun pages history pass c = ⊎_elim (λ here. mine_begins pages pass here c.mutator) (λ gone. gone.begins) c.fine

pub came_first : (pages : ℕ) (history : List MadeEvent) (pass : HeapPass) → CameIn pages history pass → 1 ≤ firsts_of pass.slot pass.seen
came_first pages history pass c = own_came pass.slot pass.seen (sym (ap begins_with_attach (own_is pages history pass c)) ∙ begun pages history pass c)

-- the slot of such a pass is one to which a mutator came
came_in : (pages : ℕ) (history : List MadeEvent) (pass : HeapPass) → CameIn pages history pass → 1 ≤ firsts_of pass.slot history
came_in pages history pass c =
    let had = came_first pages history pass c in
    let more = firsts_more pass.slot pass.seen c.within.0 in
    let whole = ap (firsts_of pass.slot) c.within.1 in
    omega (arith, had, more, whole)

all_came : (pages : ℕ) (history : List MadeEvent) (passes : List HeapPass) → All (CameIn pages history) passes → AllCame (slots_of passes) history
all_came pages history [] all = tt
all_came pages history (p ∷ ps) all = (came_in pages history p (All-head (CameIn pages history) p ps all), all_came pages history ps (All-tail (CameIn pages history) p ps all))

pub all_below : (pages : ℕ) (history : List MadeEvent) (passes : List HeapPass) → All (CameIn pages history) passes → AllByRecursion (λ s. s < 16) (slots_of passes)
all_below pages history [] all = tt
all_below pages history (p ∷ ps) all = ((All-head (CameIn pages history) p ps all).mutator, all_below pages history ps (All-tail (CameIn pages history) p ps all))

pub slots_length : (passes : List HeapPass) → length (slots_of passes) ≡ length passes
slots_length [] = refl
slots_length (p ∷ ps) = let h = slots_length ps in omega (arith, h)

pub nobody_else : (pages : ℕ) (history : List MadeEvent) (passes : List HeapPass) → Legal (Opens pages) StateStep history → IsDistinct nat_eq (slots_of passes) → All (CameIn pages history) passes → attaches history ≤ length passes
    → AreAlone (slots_of passes) history
nobody_else pages history passes legal distinct all few =
    alone_in pages history legal (slots_of passes) distinct (all_came pages history passes all) (let n = slots_length passes in omega (arith, few, n)) (all_below pages history passes all)
