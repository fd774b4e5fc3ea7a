-- How lines of entries grow.
use Rattle.std.proofs.Common.{◌≡◌, ℕ, ◌<◌, ◌+◌, List, [], ◌∷◌, ◌++◌, length, take, get_or, sym, ap, ◌∙◌, subst}
use Rattle.std.specs.Prelude.{map}
use Rattle.std.proofs.lemmas.List.{take_more, map-append}
use Rattle.heap_spec.specs.Runs.{Start, Run}
use Rattle.shared.specs.declared.journal.Entry.{Entry}
use Rattle.thread_records.specs.Records.{IsLineOfEntry, AreLines}

-- of no entry there is no line
pub no_lines : {A : Type 0} (f : A → List ℕ) (start : Start) (l : List A) → l ≡ [] → AreLines start [] (map f l) []
no_lines f start l is = subst (λ k. AreLines start [] (map f k) []) (sym is) AreLines.begins

-- one more
pub one_more : {A : Type 0} (f : A → List ℕ) (start : Start) (entries : List Entry) (i : ℕ) (e : Entry) (l l' : List A) (x : A) (run next : Run) → i < length entries → e ≡ get_or entries i e → l' ≡ l ++ x ∷ []
    → AreLines start (take i entries) (map f l) run → IsLineOfEntry start run e (f x) next → AreLines start (take (i + 1) entries) (map f l') next
one_more f start entries i e l l' x run next lt item more so one =
    let taken : take i entries ++ e ∷ [] ≡ take (i + 1) entries = ap (λ (y : Entry). take i entries ++ y ∷ []) item ∙ sym (take_more entries i e lt) in
    let lines : map f l ++ f x ∷ [] ≡ map f l' = sym (map-append f l (x ∷ [])) ∙ ap (map f) (sym more) in
    subst (λ es. AreLines start es (map f l') next) taken (subst (λ ls. AreLines start (take i entries ++ e ∷ []) ls next) lines (AreLines.goes_on (take i entries) (map f l) e (f x) run next so one))
