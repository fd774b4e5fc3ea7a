-- Where no more mutators came than are known, each slot's events are what those that had it did, one after another.
use Rattle.std.proofs.Common.{◌≡◌, ◌≢◌, ℕ, zero, suc, ◌+◌, ◌<◌, ◌≤◌, ◌==◌, ◌⊎◌, Bool, true, false, cond, not, List, [], ◌∷◌, ◌++◌, length, refl, sym, ap, ◌∙◌, subst, arith, eq-eqb, ne_eqb, true≢false, append_assoc, inl, inr, ⊎_elim}
use Rattle.std.specs.Prelude.{All}
use Rattle.std.proofs.lemmas.Bool.{cases_eq}
use Rattle.std.proofs.lemmas.List.{append-nil}
use Rattle.std.proofs.lemmas.List.Elements.{All-head, All-tail, All-weaker, filter-append}
use mathlib.Core.List.{IsPrefix}
use Rattle.history.specs.Histories.{is_first, is_last, own_from, own, live_from, is_live, Walks, Legal}
use Rattle.history.proofs.Fronts.{prefix_self, prefix_shorter}
use Rattle.heap_spec.specs.SequentialObject.{heap_of, Opens, StateStep}
use Rattle.heap_history.specs.Ranks.{rank_of}
use Rattle.heap_history.specs.Passes.{MadeEvent, HeapPass, IsLegalPass, IsLegalPast, begins_with_attach}
use Rattle.heap_history.specs.Alone.{attaches, all_of, slots_of, CameIn}
use Rattle.heap_history.specs.InTurn.{came_to, IsBefore, AreInTurn, CameWhole, did_in, AreAloneInTurn}
use Rattle.heap_history.proofs.Slots.{is_attached}
use Rattle.heap_history.proofs.Chains.{attached_live}
use Rattle.heap_history.proofs.Stored.{walks_through}
use Rattle.heap_history.proofs.Coming.{firsts_of, firsts_more, own_after, walks_nothing, walks_once, walks_collector}
use Rattle.heap_history.proofs.Alone.{members_of, own_is, begun, came_first, all_below, slots_length}
use Rattle.heap_history.proofs.Gone.{none_of, own_parts}
use Rattle.heap_history.proofs.Sums.{times, all_counted, times_none, came_is}

pub firsts_parts : (x : ℕ) (es more : List MadeEvent) → firsts_of x (es ++ more) ≡ firsts_of x es + firsts_of x more
firsts_parts x [] more = omega arith
firsts_parts x (e ∷ es) more = let h = firsts_parts x es more in omega (arith, h)

-- own events since an attach among these, whatever was before
own_fresh : (x : ℕ) (mine es : List MadeEvent) → 1 ≤ firsts_of x es → own_from rank_of x mine es ≡ own_from rank_of x [] es
own_fresh x mine [] some = absurd (omega (arith, some))
own_fresh x mine (e ∷ es) some = by (λ l. own_fresh x l es) (e.who == x) (is_first (rank_of e.call)) some
  where
    by : ((l : List MadeEvent) → 1 ≤ firsts_of x es → own_from rank_of x l es ≡ own_from rank_of x [] es) → (b f : Bool) → 1 ≤ cond b (cond f 1 0) 0 + firsts_of x es
        → own_from rank_of x (cond b (cond f (e ∷ []) (mine ++ e ∷ [])) mine) es ≡ own_from rank_of x (cond b (cond f (e ∷ []) (e ∷ [])) []) es
    by rest true true h = refl
    by rest true false h = rest (mine ++ e ∷ []) (omega (arith, h)) ∙ sym (rest (e ∷ []) (omega (arith, h)))
    by rest false f h = rest mine (omega (arith, h))

-- of two beginnings of one history that to which fewer came is the shorter
fewer_first : (x : ℕ) (xs ys zs : List MadeEvent) → IsPrefix xs zs → IsPrefix ys zs → firsts_of x xs < firsts_of x ys → IsPrefix xs ys
fewer_first x xs ys zs p q fewer = ⊎_elim
    (λ (short : length xs ≤ length ys). prefix_shorter xs ys zs p q short)
    (λ (long : length ys ≤ length xs).
    let r = prefix_shorter ys xs zs q p long in
    let whole = ap (firsts_of x) r.1 in
    let parts = firsts_parts x ys r.0 in
    absurd (omega (arith, whole, parts, fewer)))
    (by (length xs) (length ys))
  where
    by : (a b : ℕ) → (a ≤ b) ⊎ (b ≤ a)
    by zero b = inl (omega arith)
    by (suc a) zero = inr (omega arith)
    by (suc a) (suc b) = ⊎_elim (λ h. inl (omega (arith, h))) (λ h. inr (omega (arith, h))) (by a b)

-- they did nothing in a slot that is none of theirs
none_did : (x : ℕ) (passes : List HeapPass) → times x (slots_of passes) ≡ 0 → did_in x passes ≡ []
none_did x [] none = refl
none_did x (p ∷ ps) none = by (none_did x ps) (p.slot == x) none
  where
    by : (times x (slots_of ps) ≡ 0 → did_in x ps ≡ []) → (b : Bool) → cond b 1 0 + times x (slots_of ps) ≡ 0 → cond b (p.mine ++ did_in x ps) (did_in x ps) ≡ []
    by rest true h = absurd (omega (arith, h))
    by rest false h = rest (omega (arith, h))

-- it came, as far as it has seen
came_of : (pages : ℕ) (history : List MadeEvent) (p : HeapPass) → CameWhole pages history p → CameIn pages history p
came_of pages history p came = ⊎_elim
    (λ here. record { mutator = came.mutator; fine = inl here.1; within = subst (λ (l : List MadeEvent). IsPrefix l history) (sym here.0) (prefix_self history) })
    (λ gone. record { mutator = came.mutator; fine = inr gone.1; within = gone.0 })
    came.known

pub whole_begun : (pages : ℕ) (history : List MadeEvent) (p : HeapPass) → CameWhole pages history p → begins_with_attach p.mine ≡ true
whole_begun pages history p came = begun pages history p (came_of pages history p came)

module _ (pages : ℕ) (history : List MadeEvent) (legal : Legal (Opens pages) StateStep history) where
  -- what became of a slot after a beginning of the history at whose end it had no mutator
  pub since : (x : ℕ) → x < 16 → (before more : List MadeEvent) → is_live rank_of x before ≡ false → IsPrefix (before ++ more) history
      → (firsts_of x more ≡ 0 → All (λ (e : MadeEvent). e.who ≢ x) more) × (firsts_of x more ≡ 1 → own rank_of x (before ++ more) ≡ all_of x more)
  since x lt before more spent within =
      let first = walks_through legal.1.0 legal.0 (before ++ more) within.0 (subst (λ (l : List MadeEvent). Walks StateStep legal.1.0 l legal.0) (sym within.1) legal.1.2) in
      let second = walks_through legal.1.0 first.0 before more first.1 in
      let vacant : is_attached (heap_of second.0) x ≡ false = attached_live before second.0 x lt (legal.1.0, legal.1.1, second.1) ∙ spent in (
        walks_nothing second.0 first.0 more x lt second.2 vacant,
        λ one. own_parts x [] before more ∙ (own_fresh x (own rank_of x before) more (omega (arith, one)) ∙ walks_once second.0 first.0 more x lt second.2 vacant one),
      )

  -- those behind one with the slot came later
  next_of : (x : ℕ) (p : HeapPass) (ps : List HeapPass) → p.slot ≡ x → All (IsBefore p) ps → All (λ (q : HeapPass). q.slot ≡ x → firsts_of x p.seen < firsts_of x q.seen) ps
  next_of x p ps same = All-weaker (IsBefore p) (λ (q : HeapPass). q.slot ≡ x → firsts_of x p.seen < firsts_of x q.seen) (λ q before is.
      let fewer = subst (λ (n : ℕ). came_to n p.seen < came_to n q.seen) same (before (same ∙ sym is)) in
      let a = came_is x p.seen in
      let b = came_is x q.seen in
      omega (arith, fewer, a, b)) ps

  -- as many came to a slot as are known
  enough : (x n : ℕ) (ps : List HeapPass) → All (CameWhole pages history) ps → AreInTurn ps → All (λ (q : HeapPass). q.slot ≡ x → n < firsts_of x q.seen) ps → n ≤ firsts_of x history → n + times x (slots_of ps) ≤ firsts_of x history
  enough x n [] all turn later le = omega (arith, le)
  enough x n (p ∷ ps) all turn later le = ⊎_elim
      (λ (same : p.slot ≡ x).
      let m = firsts_of x p.seen in
      let up = All-head (λ (q : HeapPass). q.slot ≡ x → n < firsts_of x q.seen) p ps later same in
      let within = (came_of pages history p (All-head (CameWhole pages history) p ps all)).within in
      let more = firsts_more x p.seen within.0 in
      let whole = ap (firsts_of x) within.1 in
      let next = next_of x p ps same turn.0 in
      let rest = enough x m ps (All-tail (CameWhole pages history) p ps all) turn.1 next (omega (arith, more, whole)) in
      let one = ap {B = ℕ} (λ (b : Bool). cond b 1 0) (eq-eqb p.slot x same) in
      omega (arith, rest, one, up))
      (λ other.
      let rest = enough x n ps (All-tail (CameWhole pages history) p ps all) turn.1 (All-tail (λ (q : HeapPass). q.slot ≡ x → n < firsts_of x q.seen) p ps later) le in
      let none = ap {B = ℕ} (λ (b : Bool). cond b 1 0) (ne_eqb p.slot x other) in
      omega (arith, rest, none))
      (cases_eq p.slot x)

  -- what those that are known did, after a beginning of the history at whose end the slot had no mutator
  turns : (x : ℕ) → x < 16 → (ps : List HeapPass) (before : List MadeEvent) → is_live rank_of x before ≡ false → IsPrefix before history → All (CameWhole pages history) ps → AreInTurn ps
      → All (λ (q : HeapPass). q.slot ≡ x → firsts_of x before < firsts_of x q.seen) ps → firsts_of x history ≡ firsts_of x before + times x (slots_of ps) → all_of x history ≡ all_of x before ++ did_in x ps
  turns x lt [] before spent within all turn later count =
      let parts = firsts_parts x before within.0 in
      let whole = ap (firsts_of x) within.1 in
      let nothing = (since x lt before within.0 spent (subst (λ (l : List MadeEvent). IsPrefix l history) (sym within.1) (prefix_self history))).0 (omega (arith, parts, whole, count)) in
      sym (ap (all_of x) within.1) ∙ (filter-append (λ (e : MadeEvent). e.who == x) before within.0 ∙ ap (λ l. all_of x before ++ l) (none_of x within.0 nothing))
  turns x lt (p ∷ ps) before spent within all turn later count = ⊎_elim
      (λ (same : p.slot ≡ x).
      let here = All-head (CameWhole pages history) p ps all in
      let rest = All-tail (CameWhole pages history) p ps all in
      let seen = (came_of pages history p here).within in
      let up = All-head (λ (q : HeapPass). q.slot ≡ x → firsts_of x before < firsts_of x q.seen) p ps later same in
      let next = next_of x p ps same turn.0 in
      let one = ap {B = ℕ} (λ (b : Bool). cond b 1 0) (eq-eqb p.slot x same) in
      let parts = firsts_parts x p.seen seen.0 in
      let whole = ap (firsts_of x) seen.1 in
      let most = enough x (firsts_of x p.seen) ps rest turn.1 next (omega (arith, parts, whole)) in
      let more = fewer_first x before p.seen history within seen up in
      let grown = firsts_parts x before more.0 in
      let is = ap (firsts_of x) more.1 in
      let mine : p.mine ≡ all_of x more.0 = own_is pages history p (came_of pages history p here) ∙ (ap (λ (n : ℕ). own rank_of n p.seen) same
      ∙ (sym (ap (own rank_of x) more.1) ∙ (since x lt before more.0 spent (subst (λ (l : List MadeEvent). IsPrefix l history) (sym more.1) seen)).1 (omega (arith, one, up, most, grown, is, count)))) in
      let upto : all_of x p.seen ≡ all_of x before ++ p.mine = sym (ap (all_of x) more.1) ∙ (filter-append (λ (e : MadeEvent). e.who == x) before more.0 ∙ ap (λ l. all_of x before ++ l) (sym mine)) in
      let did : did_in x (p ∷ ps) ≡ p.mine ++ did_in x ps = ap (λ (b : Bool). cond b (p.mine ++ did_in x ps) (did_in x ps)) (eq-eqb p.slot x same) in
      let done : all_of x history ≡ all_of x p.seen ++ did_in x ps = ⊎_elim
      (λ live.
      let last = ap (firsts_of x) live.0 in
      sym (ap (all_of x) live.0) ∙ (sym (append-nil (all_of x p.seen)) ∙ ap (λ l. all_of x p.seen ++ l) (sym (none_did x ps (omega (arith, last, one, up, count))))))
      (λ gone. turns x lt ps p.seen (subst (λ (n : ℕ). is_live rank_of n p.seen ≡ false) same gone.1.recalls.spent) seen rest turn.1 next (omega (arith, one, up, most, count)))
      here.known in
      done ∙ (ap (λ l. l ++ did_in x ps) upto ∙ (append_assoc (all_of x before) p.mine (did_in x ps) ∙ ap (λ l. all_of x before ++ l) (sym did))))
      (λ other.
      let none = ap {B = ℕ} (λ (b : Bool). cond b 1 0) (ne_eqb p.slot x other) in
      turns x lt ps before spent within (All-tail (CameWhole pages history) p ps all) turn.1 (All-tail (λ (q : HeapPass). q.slot ≡ x → firsts_of x before < firsts_of x q.seen) p ps later) (omega (arith, none, count))
      ∙ ap (λ l. all_of x before ++ l) (sym (ap (λ (b : Bool). cond b (p.mine ++ did_in x ps) (did_in x ps)) (ne_eqb p.slot x other))))
      (cases_eq p.slot x)

pub nobody_else : (pages : ℕ) (history : List MadeEvent) (passes : List HeapPass) → Legal (Opens pages) StateStep history → AreInTurn passes → All (CameWhole pages history) passes → attaches history ≤ length passes → AreAloneInTurn passes history
nobody_else pages history passes legal turn all few = record {
  members = members_of pages history legal (slots_of passes) (λ x lt away. counts x lt ∙ times_none x (slots_of passes) away);
  slots = λ x lt. turns pages history legal x lt passes [] (ne_eqb x 16 (λ e. omega (arith, e, lt))) (history, refl) all turn (later x) (let h = counts x lt in omega (arith, h));
  collector = own_after 16 [] history (walks_collector legal.1.0 legal.0 history legal.1.2);
}
  where
    later : (x : ℕ) → All (λ (q : HeapPass). q.slot ≡ x → 0 < firsts_of x q.seen) passes
    later x = All-weaker (CameWhole pages history) (λ (q : HeapPass). q.slot ≡ x → 0 < firsts_of x q.seen) (λ q came is. subst (λ (n : ℕ). 1 ≤ firsts_of n q.seen) is (came_first pages history q (came_of pages history q came))) passes all

    counts : (x : ℕ) → x < 16 → firsts_of x history ≡ times x (slots_of passes)
    counts = all_counted 16 (slots_of passes) history (all_below pages history passes (All-weaker (CameWhole pages history) (CameIn pages history) (came_of pages history) passes all)) (λ x. let h = enough pages history legal x 0 passes all turn (later x) (omega arith) in omega (arith, h))
        (let size = slots_length passes in omega (arith, size, few))

-- what others do leaves a slot as it is
still : (x : ℕ) (b : Bool) (before more : List MadeEvent) → All (λ (e : MadeEvent). e.who ≢ x) more → live_from rank_of x b (before ++ more) ≡ live_from rank_of x b before
still x b [] [] others = refl
still x b [] (e ∷ es) others =
    ap (λ (c : Bool). live_from rank_of x (cond c (not (is_last (rank_of e.call))) b) es) (ne_eqb e.who x (All-head (λ (y : MadeEvent). y.who ≢ x) e es others)) ∙ still x b [] es (All-tail (λ (y : MadeEvent). y.who ≢ x) e es others)
still x b (e ∷ es) more others = still x (cond (e.who == x) (not (is_last (rank_of e.call))) b) es more others

-- A mutator that left was there before one that is there and has seen all that it had.
pub left_before : (pages : ℕ) (gone here later : HeapPass) → IsLegalPast pages gone → IsLegalPass pages here → IsPrefix gone.seen here.seen → later.slot ≡ here.slot → IsPrefix here.seen later.seen → IsBefore gone later
left_before pages gone here later past live within slot more same =
    let x = gone.slot in
    let is : here.slot ≡ x = sym (same ∙ slot) in
    let there = since pages here.seen live.legal x past.mutator gone.seen within.0 past.recalls.spent (subst (λ (l : List MadeEvent). IsPrefix l here.seen) (sym within.1) (prefix_self here.seen)) in
    let parts = firsts_parts x gone.seen within.0 in
    let whole = ap (firsts_of x) within.1 in
    let longer = firsts_parts x here.seen more.0 in
    let all = ap (firsts_of x) more.1 in
    let a = came_is x gone.seen in
    let b = came_is x later.seen in
    ⊎_elim
    (λ (none : firsts_of x within.0 ≡ 0). absurd (true≢false (sym (subst (λ (n : ℕ). is_live rank_of n here.seen ≡ true) is live.owned.live) ∙ (ap (is_live rank_of x) (sym within.1) ∙ (still x (x == 16) gone.seen within.0 (there.0 none) ∙ past.recalls.spent)))))
    (λ some. omega (arith, parts, whole, longer, all, a, b, some))
    (cases_eq (firsts_of x within.0) 0)
