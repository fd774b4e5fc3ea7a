-- What stands behind a reply, read base by base.
use Rattle.std.proofs.Common.{◌≡◌, ℕ, ◌<◌, List, [], ◌∷◌, ◌++◌, length, refl, sym, ap, ◌∙◌, arith, append_assoc}
use Rattle.std.specs.Prelude.{All, codes, decimal}
use Rattle.std.proofs.lemmas.List.{append-nil}
use Rattle.std.proofs.lemmas.List.Concat.{flat_map-append}
use Rattle.std.proofs.lemmas.List.Elements.{All-nil, All-head, All-tail, All-push}
use Rattle.heap_spec.specs.Ranges.{IsWord}
use Rattle.written_runs.specs.Written.{bases_text}
use Rattle.written_runs.specs.Reading.{IsNumberAt, IsOnlyNumber, AreBases}
use Rattle.written_runs.proofs.Digits.{bases_from, same_number}

-- Some bases were read of a text, and what the text is besides is what the rest is.
pub record IsReadTo (text bases rest : List ℕ) : Type 0 where
  pub whole : text ≡ bases_text bases ++ rest
  pub words : All IsWord bases
  pub only : (all : List ℕ) → AreBases text all → (more : List ℕ) × AreBases rest more

pub read_none : (text : List ℕ) → IsReadTo text [] text
read_none text = record { whole = refl; words = All-nil IsWord; only = λ all are. (all, are) }

-- a text of bases that isn't empty begins with a number
pub record IsNext (rest : List ℕ) : Type 0 where
  pub base : ℕ
  pub more : List ℕ
  pub here : IsNumberAt rest base (bases_text more)
  pub words : All IsWord more

next_of : (rest bases : List ℕ) → 0 < length rest → AreBases rest bases → IsNext rest
next_of rest [] some are = let h : length rest ≡ 0 = ap length are.whole in absurd (omega (arith, h))
next_of rest (b ∷ bases) some are =
    record { base = b; more = bases; here = record { whole = are.whole; word = All-head IsWord b bases are.words; from = bases_from bases }; words = All-tail IsWord b bases are.words }

pub no_number : (text bases rest : List ℕ) → IsReadTo text bases rest → 0 < length rest → ((n : ℕ) (after : List ℕ) → IsNumberAt rest n after → ⊥) → (all : List ℕ) → AreBases text all → ⊥
no_number text bases rest read some none all are =
    let more = read.only all are in
    let next = next_of rest more.0 some more.1 in
    none next.base (bases_text next.more) next.here

pub read_more : (text bases rest after : List ℕ) (n : ℕ) → IsReadTo text bases rest → 0 < length rest → IsNumberAt rest n after → IsReadTo text (bases ++ n ∷ []) after
read_more text bases rest after n read some at =
    record {
      whole = read.whole ∙ ap (λ r. bases_text bases ++ r) at.whole ∙ sym (append_assoc (bases_text bases) (codes " " ++ decimal n) after)
          ∙ ap (λ t. t ++ after) (ap (λ t. bases_text bases ++ t) (sym (append-nil (codes " " ++ decimal n))) ∙ sym (flat_map-append (λ base. codes " " ++ decimal base) bases (n ∷ [])));
      words = All-push IsWord bases n read.words at.word;
      only = λ all are.
          let more = read.only all are in
          let next = next_of rest more.0 some more.1 in
          (next.more, record { whole = (same_number rest n next.base after (bases_text next.more) at next.here).rest; words = next.words });
    }

pub read_all : (text bases rest : List ℕ) → IsReadTo text bases rest → length rest ≡ 0 → AreBases text bases
read_all text bases [] read none = record { whole = read.whole ∙ append-nil (bases_text bases); words = read.words }
read_all text bases (b ∷ rest) read none = absurd (omega arith)

first_of_two : (text : List ℕ) (base n : ℕ) → AreBases text (base ∷ n ∷ []) → IsNumberAt text base (bases_text (n ∷ []))
first_of_two text base n are = record { whole = are.whole ∙ append_assoc (codes " ") (decimal base) (bases_text (n ∷ [])); word = All-head IsWord base (n ∷ []) are.words; from = refl }

pub no_second : (text rest : List ℕ) (a : ℕ) → IsNumberAt text a rest → ((n : ℕ) → IsOnlyNumber rest n → ⊥) → (base n : ℕ) → AreBases text (base ∷ n ∷ []) → ⊥
no_second text rest a at none base n are =
    let same = (same_number text a base rest (bases_text (n ∷ [])) at (first_of_two text base n are)).rest in
    none n (record { whole = same ∙ append-nil (codes " " ++ decimal n); word = All-head IsWord n [] (All-tail IsWord base (n ∷ []) are.words) })
