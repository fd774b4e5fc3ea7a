-- What options say.
use Rattle.std.proofs.Common.{◌≡◌, ℕ, ◌*◌, ◌%◌, ◌≤◌, List, sym, ◌∙◌, arith}
use Rattle.std.specs.Prelude.{decimal}
use Rattle.std.proofs.lemmas.Fmt.{decimal_injective}
use Rattle.words.specs.declared.limits.TheConstants.{PAGE_BYTES, MAX_PAGES}
use Rattle.written_runs.specs.Arguments.{IsByteCountText}

-- a number of bytes that isn't one of whole pages
pub not_whole : (text : List ℕ) (bytes : ℕ) → text ≡ decimal bytes → bytes ≤ PAGE_BYTES * MAX_PAGES → (bytes % PAGE_BYTES ≡ 0 → ⊥) → (pages : ℕ) → IsByteCountText text pages → ⊥
not_whole text bytes is most part pages count =
    let few = count.few in
    let same : bytes ≡ PAGE_BYTES * pages = decimal_injective bytes (PAGE_BYTES * pages) (omega (arith, most)) (omega (arith, few)) (sym is ∙ count.text_is) in
    part (omega (arith, same))
