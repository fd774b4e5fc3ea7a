-- What a mutator that left did is all that its slot did, where the slot's last life is its only one.
use Rattle.std.proofs.Common.{◌≡◌, ◌≢◌, ℕ, zero, suc, ◌+◌, ◌≤◌, ◌==◌, ◌⊎◌, Bool, true, false, cond, List, [], ◌∷◌, ◌++◌, length, refl, sym, ap, ◌∙◌, subst, arith, true≢false, ne_eqb, inl, inr, ⊎_elim}
use Rattle.std.specs.Prelude.{All}
use Rattle.std.proofs.lemmas.List.{append-nil, length-append}
use Rattle.std.proofs.lemmas.List.Elements.{All-head, All-tail}
use mathlib.Core.List.{IsPrefix}
use Rattle.history.specs.Histories.{is_first, own_with, own_from, own, Legal}
use Rattle.heap_spec.specs.SequentialObject.{heap_of, Opens, StateStep}
use Rattle.heap_history.specs.Ranks.{rank_of}
use Rattle.heap_history.specs.Passes.{MadeEvent, HeapPass, IsLegalPast, begins_with_attach}
use Rattle.heap_history.specs.Alone.{all_of, IsKnownWhole}
use Rattle.heap_history.proofs.Slots.{is_attached}
use Rattle.heap_history.proofs.Chains.{attached_live}
use Rattle.heap_history.proofs.Coming.{firsts_of, own_after, walks_nothing}
use Rattle.heap_history.proofs.Stored.{walks_through}

-- a slot that made no event
pub none_of : (x : ℕ) (es : List MadeEvent) → All (λ (e : MadeEvent). e.who ≢ x) es → all_of x es ≡ []
none_of x [] none = refl
none_of x (e ∷ es) none =
    ap (λ (b : Bool). cond b (e ∷ all_of x es) (all_of x es)) (ne_eqb e.who x (All-head (λ (y : MadeEvent). y.who ≢ x) e es none)) ∙ none_of x es (All-tail (λ (y : MadeEvent). y.who ≢ x) e es none)

-- the events of two parts
pub own_parts : (x : ℕ) (mine es more : List MadeEvent) → own_from rank_of x mine (es ++ more) ≡ own_from rank_of x (own_from rank_of x mine es) more
own_parts x mine [] more = refl
own_parts x mine (e ∷ es) more = own_parts x (own_with rank_of x mine e) es more

one_more : (b : Bool) (e : MadeEvent) (es : List MadeEvent) → length (cond b (e ∷ es) es) ≡ cond b 1 0 + length es
one_more true e es = omega arith
one_more false e es = omega arith

all_parts : (x : ℕ) (es more : List MadeEvent) → length (all_of x (es ++ more)) ≡ length (all_of x es) + length (all_of x more)
all_parts x [] more = omega arith
all_parts x (e ∷ es) more =
    let rest = all_parts x es more in
    let a = one_more (e.who == x) e (all_of x (es ++ more)) in
    let b = one_more (e.who == x) e (all_of x es) in
    omega (arith, rest, a, b)

-- the own events after one event
with_more : (x : ℕ) (mine : List MadeEvent) (e : MadeEvent) → length (own_with rank_of x mine e) ≤ length mine + cond (e.who == x) 1 0
with_more x mine e = by (e.who == x) (is_first (rank_of e.call))
  where
    by : (b f : Bool) → length (cond b (cond f (e ∷ []) (mine ++ e ∷ [])) mine) ≤ length mine + cond b 1 0
    by true true = omega arith
    by true false = let long = length-append mine (e ∷ []) in omega (arith, long)
    by false f = omega arith

-- own events are no more than all
own_short : (x : ℕ) (mine es : List MadeEvent) → length (own_from rank_of x mine es) ≤ length mine + length (all_of x es)
own_short x mine [] = omega arith
own_short x mine (e ∷ es) =
    let rest = own_short x (own_with rank_of x mine e) es in
    let a = with_more x mine e in
    let b = one_more (e.who == x) e (all_of x es) in
    omega (arith, rest, a, b)

-- and where a mutator came among these, they are of these
own_anew : (x : ℕ) (mine es : List MadeEvent) → 1 ≤ firsts_of x es → length (own_from rank_of x mine es) ≤ length (all_of x es)
own_anew x mine [] some = absurd (omega (arith, some))
own_anew x mine (e ∷ es) some =
    let all = one_more (e.who == x) e (all_of x es) in
    ⊎_elim
    (λ (later : 1 ≤ firsts_of x es). let rest = own_anew x (own_with rank_of x mine e) es later in omega (arith, rest, all))
    (λ (now : (e.who == x ≡ true) × (is_first (rank_of e.call) ≡ true)).
    let with : own_with rank_of x mine e ≡ e ∷ [] = ap (λ (b : Bool). cond b (cond (is_first (rank_of e.call)) (e ∷ []) (mine ++ e ∷ [])) mine) now.0 ∙ ap (λ (b : Bool). cond b (e ∷ []) (mine ++ e ∷ [])) now.1 in
    let short = own_short x (e ∷ []) es in
    let same = ap (λ (l : List MadeEvent). length (own_from rank_of x l es)) with in
    let one = ap {B = ℕ} (λ (b : Bool). cond b 1 0) now.0 in
    omega (arith, short, same, all, one))
    (by (e.who == x) (is_first (rank_of e.call)) some)
  where
    by : (b f : Bool) → 1 ≤ cond b (cond f 1 0) 0 + firsts_of x es → (1 ≤ firsts_of x es) ⊎ ((b ≡ true) × (f ≡ true))
    by true true h = inr (refl, refl)
    by true false h = inl (omega (arith, h))
    by false f h = inl (omega (arith, h))

begun_some : (es : List MadeEvent) → begins_with_attach es ≡ true → 1 ≤ length es
begun_some [] b = absurd (true≢false (sym b))
begun_some (e ∷ es) b = omega arith

none_or : (n : ℕ) → (n ≡ 0) ⊎ (1 ≤ n)
none_or zero = inl refl
none_or (suc n) = inr (omega arith)

module _ (pages : ℕ) (history : List MadeEvent) (legal : Legal (Opens pages) StateStep history) where
  -- nothing came after the detach
  gone_mine : (p : HeapPass) → IsPrefix p.seen history → IsLegalPast pages p → own rank_of p.slot history ≡ all_of p.slot history → p.mine ≡ all_of p.slot history
  gone_mine p within past lives =
      let x = p.slot in
      let rest = within.0 in
      let whole : Legal (Opens pages) StateStep (p.seen ++ rest) = subst (λ (l : List MadeEvent). Legal (Opens pages) StateStep l) (sym within.1) legal in
      let mid = walks_through whole.1.0 whole.0 p.seen rest whole.1.2 in
      let vacant : is_attached (heap_of mid.0) x ≡ false = attached_live p.seen mid.0 x past.mutator (whole.1.0, whole.1.1, mid.1) ∙ past.recalls.spent in
      let parts : own rank_of x history ≡ own_from rank_of x (own rank_of x p.seen) rest = ap (own rank_of x) (sym within.1) ∙ own_parts x [] p.seen rest in
      ⊎_elim
      (λ (none : firsts_of x rest ≡ 0).
      let nothing = none_of x rest (walks_nothing mid.0 whole.0 rest x past.mutator mid.2 vacant none) in
      past.recalls.own_is ∙ (sym (append-nil (own rank_of x p.seen)) ∙ (ap (λ (l : List MadeEvent). own rank_of x p.seen ++ l) (sym nothing) ∙ (sym (own_after x (own rank_of x p.seen) rest none) ∙ (sym parts ∙ lives)))))
      (λ (some : 1 ≤ firsts_of x rest).
      let anew = own_anew x (own rank_of x p.seen) rest some in
      let all = all_parts x p.seen rest in
      let same = ap length (sym parts ∙ (lives ∙ ap (all_of x) (sym within.1))) in
      let mine = begun_some p.mine past.begins in
      let is = ap length past.recalls.own_is in
      let short = own_short x [] p.seen in
      absurd (omega (arith, anew, all, same, mine, is, short)))
      (none_or (firsts_of x rest))

  -- what is known of a mutator is all that its slot did
  pub known_mine : (p : HeapPass) (slot : ℕ) → p.slot ≡ slot → own rank_of slot history ≡ all_of slot history → IsKnownWhole pages history p → p.mine ≡ all_of slot history
  known_mine p slot is lives known = ⊎_elim
      (λ here. here.1.owned.own_is ∙ ((λ j. own rank_of (is j) (here.0 j)) ∙ lives))
      (λ gone. gone_mine p gone.0 gone.1 (subst (λ (n : ℕ). own rank_of n history ≡ all_of n history) (sym is) lives) ∙ ap (λ (n : ℕ). all_of n history) is)
      known
