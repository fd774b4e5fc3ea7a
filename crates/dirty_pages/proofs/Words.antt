-- A row of words and its summary.
use Rattle.std.proofs.Common.{◌≡◌, ◌≢◌, ℕ, ◌<◌, Bool, true, false, List, length, get_or, set, replicate, sym, ap, ◌∙◌, arith, ⊎_elim, get_or-set_same, get_or-set_other, length-set}
use Rattle.std.proofs.lemmas.Bool.{cases_eq, cases_lt, true≢false}
use Rattle.std.proofs.lemmas.List.{get_or_past, get_or-replicate, length-replicate}
use Rattle.words.specs.Bits.{IsClear, IsEmptyFrom, IsFirstFrom}
use Rattle.dirty_pages.specs.Summary.{IsSummary, AreZeros, AreZerosFrom, IsLeastWord}

-- ---- all words
size_of : (n : ℕ) → length (replicate {A = ℕ} n 0) ≡ n
size_of n = length-replicate {A = ℕ} n 0

pub zeros_are : (words : List ℕ) (n : ℕ) → words ≡ replicate n 0 → AreZeros words n
zeros_are words n e = record {
  size = ap length e ∙ size_of n;
  zero = λ j. ap (λ ws. get_or ws j 0) e ∙ ⊎_elim
      (λ lt. get_or-replicate n j 0 0 lt)
      (λ past. get_or_past (replicate n 0) j 0 (omega (arith, size_of n)))
      (cases_lt j n);
}

pub zeros_summary : (words : List ℕ) (n : ℕ) (summary : List Bool) → AreZeros words n → IsClear summary n → IsSummary words summary
zeros_summary words n summary z c = record { size = c.size ∙ sym z.size; zero = λ j e. c.clear j; some = λ j ne. absurd (ne (z.zero j)) }

pub summary_zero : (words : List ℕ) (summary : List Bool) (j word : ℕ) → j < length words → IsSummary words summary → word ≡ 0 → IsSummary (set words j word) (set summary j false)
summary_zero words summary j word lt s e =
    let size = s.size in
    let same : get_or (set words j word) j 0 ≡ word = get_or-set_same words j word 0 lt in
    let told : get_or (set summary j false) j false ≡ false = get_or-set_same summary j false false (omega (arith, size, lt)) in record {
      size = length-set summary j false ∙ s.size ∙ sym (length-set words j word);
      zero = λ k zero. ⊎_elim
          (λ (at : k ≡ j). ap (λ i. get_or (set summary j false) i false) at ∙ told)
          (λ ne. get_or-set_other summary j k false false ne ∙ s.zero k (sym (get_or-set_other words j k word 0 ne) ∙ zero))
          (cases_eq k j);
      some = λ k some. ⊎_elim
          (λ (at : k ≡ j). absurd (some (ap (λ i. get_or (set words j word) i 0) at ∙ same ∙ e)))
          (λ ne. get_or-set_other summary j k false false ne ∙ s.some k (λ zero. some (get_or-set_other words j k word 0 ne ∙ zero)))
          (cases_eq k j);
    }

pub summary_some : (words : List ℕ) (summary : List Bool) (j word : ℕ) → j < length words → IsSummary words summary → word ≢ 0 → IsSummary (set words j word) (set summary j true)
summary_some words summary j word lt s some_word =
    let size = s.size in
    let same : get_or (set words j word) j 0 ≡ word = get_or-set_same words j word 0 lt in
    let told : get_or (set summary j true) j false ≡ true = get_or-set_same summary j true false (omega (arith, size, lt)) in record {
      size = length-set summary j true ∙ s.size ∙ sym (length-set words j word);
      zero = λ k zero. ⊎_elim
          (λ (at : k ≡ j). absurd (some_word (sym same ∙ ap (λ i. get_or (set words j word) i 0) (sym at) ∙ zero)))
          (λ ne. get_or-set_other summary j k true false ne ∙ s.zero k (sym (get_or-set_other words j k word 0 ne) ∙ zero))
          (cases_eq k j);
      some = λ k some. ⊎_elim
          (λ (at : k ≡ j). ap (λ i. get_or (set summary j true) i false) at ∙ told)
          (λ ne. get_or-set_other summary j k true false ne ∙ s.some k (λ zero. some (get_or-set_other words j k word 0 ne ∙ zero)))
          (cases_eq k j);
    }

-- a bit that isn't set is one of a word of 0
is_zero : (words : List ℕ) (summary : List Bool) (j : ℕ) → IsSummary words summary → get_or summary j false ≡ false → get_or words j 0 ≡ 0
is_zero words summary j s not_set = ⊎_elim (λ e. e) (λ ne. absurd (true≢false (sym (s.some j ne) ∙ not_set))) (cases_eq (get_or words j 0) 0)

pub no_word : (words : List ℕ) (summary : List Bool) (from : ℕ) → IsSummary words summary → IsEmptyFrom summary from → AreZerosFrom words from
no_word words summary from s none = record {
  zero = λ j past. ⊎_elim (λ lt. is_zero words summary j s (none j past lt)) (λ far. is_zero words summary j s (get_or_past summary j false far)) (cases_lt j (length summary));
}

pub least_word : (words : List ℕ) (summary : List Bool) (from j : ℕ) → IsSummary words summary → IsFirstFrom summary from j → IsLeastWord words from j
least_word words summary from j s first =
    let inside = first.inside in let size = s.size in record {
      inside = omega (arith, inside, size);
      from = first.from;
      some = λ e. true≢false (sym first.member ∙ s.zero j e);
      least = λ k past below. is_zero words summary k s (first.least k past below);
    }

pub ruleset words = (zeros_are, zeros_summary, summary_zero, summary_some, no_word, least_word)
