-- Pages that change their state together.
use Rattle.std.proofs.Common.{◌≡◌, ◌≢◌, ℕ, ◌-◌, ◌+◌, ◌<◌, ◌≤◌, ◌⊎◌, cond, List, length, set, eq-eqb, ne_eqb, refl, sym, ap, ◌∙◌, arith, inl, inr, ⊎_elim, length-set, get_or-set_same, get_or-set_other}
use Rattle.std.proofs.lemmas.Bool.{cases_lt, cases_eq}
use Rattle.words.specs.declared.class.Kind.{Kind}
use Rattle.block_map.specs.States.{PageState, free, cut, head, body, state_at, LaidAt, IsLaid, IsCut, IsSpanSet, large_states}
use Rattle.block_map.proofs.Seen.{within, laid_at}

-- the page k is none of the n pages from `first` on
abbrev pub Out : ℕ → ℕ → ℕ → Type 0
Out first n k = (k < first) ⊎ (first + n ≤ k)

pub place_of : (first n k : ℕ) → ((first ≤ k) × (k < first + n)) ⊎ Out first n k
place_of first n k = ⊎_elim (λ lt. inr (inl lt)) (λ ge. ⊎_elim (λ lt. inl (ge, lt)) (λ far. inr (inr far)) (cases_lt k (first + n))) (cases_lt k first)

pub not_out : (first n k : ℕ) → first ≤ k → k < first + n → Out first n k → ⊥
not_out first n k a b out = ⊎_elim (λ lt. omega arith) (λ ge. omega arith) out

-- no large object has a page inside the span and one outside
pub record IsClosed (s : List PageState) (first n : ℕ) : Type 0 where
  pub heads : (k q : ℕ) → Out first n k → state_at s k ≡ body q → (m : ℕ) (j : Kind) → state_at s q ≡ head m j → Out first n q
  pub bodies : (k q : ℕ) → Out first n q → state_at s k ≡ body q → Out first n k

-- no large object has the page
pub record IsPlain (st : PageState) : Type 0 where
  pub head : (m : ℕ) (j : Kind) → st ≡ head m j → ⊥
  pub body : (q : ℕ) → st ≡ body q → ⊥

pub free_plain : IsPlain free
free_plain = record { head = λ m j e. cc; body = λ q e. cc }

pub cut_plain : (st : PageState) → IsCut st → IsPlain st
cut_plain free h = absurd h
cut_plain (cut b) h = record { head = λ m j e. cc; body = λ q e. cc }
cut_plain (head n kind) h = absurd h
cut_plain (body first) h = absurd h

pub one_out : (p k : ℕ) → k ≢ p → Out p 1 k
one_out p k ne = ⊎_elim (λ lt. inl lt) (λ ge. inr (omega arith)) (cases_lt k p)

pub out_one : (p k : ℕ) → Out p 1 k → k ≢ p
out_one p k out = ⊎_elim (λ a (h : k ≡ p). omega arith) (λ a (h : k ≡ p). omega arith) out

pub closed_one : (s : List PageState) (p : ℕ) → IsPlain (state_at s p) → IsClosed s p 1
closed_one s p plain = record {
  heads = λ k q out is m j e. one_out p q (λ h. plain.head m j (ap (state_at s) (sym h) ∙ e));
  bodies = λ k q out is. one_out p k (λ h. plain.body q (ap (state_at s) (sym h) ∙ is));
}

pub closed_free : (s : List PageState) (first n : ℕ) → ((k : ℕ) → first ≤ k → k < first + n → state_at s k ≡ free) → IsClosed s first n
closed_free s first n was = record {
  heads = λ k q out is m j e. ⊎_elim (λ (h : (first ≤ q) × (q < first + n)). absurd (let f : free ≡ head m j = sym (was q h.0 h.1) ∙ e in cc)) (λ o. o) (place_of first n q);
  bodies = λ k q out is. ⊎_elim (λ (h : (first ≤ k) × (k < first + n)). absurd (let f : free ≡ body q = sym (was k h.0 h.1) ∙ is in cc)) (λ o. o) (place_of first n k);
}

pub same_pages : (m n : ℕ) (j k : Kind) → head m j ≡ head n k → m ≡ n
same_pages m n j k e = cc

same_first : (p q : ℕ) → body p ≡ body q → p ≡ q
same_first p q e = cc

pub body_within : (s : List PageState) (k q : ℕ) → state_at s k ≡ body q → k < length s
body_within s k q is = within s k (λ e. let f : free ≡ body q = sym e ∙ is in cc)

pub closed_head : (s : List PageState) (first n : ℕ) (kind : Kind) → IsLaid s → first < length s → state_at s first ≡ head n kind → IsClosed s first n
closed_head s first n kind laid lt is =
    let here : LaidAt s first (head n kind) = laid_at s first (head n kind) laid is lt in
    let pos = here.0 in
    record {
      heads = λ k q out st m j e. ⊎_elim
          (λ (h : (first ≤ q) × (q < first + n)). ⊎_elim
          (λ (f : q ≡ first). absurd (
          let there : LaidAt s k (body q) = laid_at s k (body q) laid st (body_within s k q st) in
          let less = there.0 in let far = there.4 in
          let same : there.1 ≡ n = same_pages there.1 n there.2 kind (sym there.3 ∙ (ap (state_at s) f ∙ is)) in
          not_out first n k (omega arith) (omega arith) out))
          (λ ne. absurd (let f : body first ≡ head m j = sym (here.2 q (omega arith) h.1) ∙ e in cc))
          (cases_eq q first))
          (λ o. o)
          (place_of first n q);
      bodies = λ k q out st. ⊎_elim
          (λ (h : (first ≤ k) × (k < first + n)). absurd (⊎_elim
          (λ (f : k ≡ first). let g : head n kind ≡ body q = sym is ∙ (ap (state_at s) (sym f) ∙ st) in cc)
          (λ ne.
          let g : first ≡ q = same_first first q (sym (here.2 k (omega arith) h.1) ∙ st) in
          not_out first n q (omega arith) (omega arith) out)
          (cases_eq k first)))
          (λ o. o)
          (place_of first n k);
    }

-- the pages of a large object
pub large_here : (first n k : ℕ) (kind : Kind) → k ≡ first → large_states first n kind k ≡ head n kind
large_here first n k kind e = ap (λ b. cond b (head n kind) (body first)) (eq-eqb k first e)

pub large_else : (first n k : ℕ) (kind : Kind) → k ≢ first → large_states first n kind k ≡ body first
large_else first n k kind ne = ap (λ b. cond b (head n kind) (body first)) (ne_eqb k first ne)

-- a loop that gives pages their states
pub span_start : (s : List PageState) (first : ℕ) (f : ℕ → PageState) → first ≤ length s → IsSpanSet s s first 0 f
span_start s first f h = record { size = refl; fits = omega arith; inside = λ k a b. absurd (omega arith); others = λ k o. refl }

pub span_more : (old s : List PageState) (first q : ℕ) (st : PageState) (f : ℕ → PageState) → first ≤ q → q < length s → f q ≡ st → IsSpanSet old s first (q - first) f → IsSpanSet old (set s q st) first (q + 1 - first) f
span_more old s first q st f from lt is span =
    let size = span.size in
    record {
      size = length-set s q st ∙ span.size;
      fits = omega arith;
      inside = λ k a b. ⊎_elim
          (λ (e : k ≡ q). ap (state_at (set s q st)) e ∙ get_or-set_same s q st free lt ∙ sym is ∙ ap f (sym e))
          (λ ne. get_or-set_other s q k st free ne ∙ span.inside k a (omega arith))
          (cases_eq k q);
      others = λ k o. get_or-set_other s q k st free (⊎_elim (λ a (h : k ≡ q). omega arith) (λ a (h : k ≡ q). omega arith) o)
          ∙ span.others k (⊎_elim (λ a. inl a) (λ a. inr (omega arith)) o);
    }

-- one page set is a span of one page
pub span_one : (s : List PageState) (p : ℕ) (st : PageState) → p < length s → IsSpanSet s (set s p st) p 1 (λ _. st)
span_one s p st lt = record {
  size = length-set s p st;
  fits = omega arith;
  inside = λ k a b. let e : k ≡ p = omega arith in ap (state_at (set s p st)) e ∙ get_or-set_same s p st free lt;
  others = λ k out. get_or-set_other s p k st free (out_one p k out);
}

-- a loop over the pages of a span
pub ruleset filling = (span_start, span_more, large_here, large_else)
