-- What the opening of a heap answers.
use Rattle.std.specs.Prelude.{◌≡◌, ℕ, ◌<◌, ◌≤◌, ◌⊎◌, Result, Ok, Err}
use Rattle.words.specs.declared.limits.TheConstants.{MAX_PAGES}
use Rattle.words.specs.declared.refusal.OpenError.{OpenError}
use Rattle.words.specs.declared.refusal.OpenError.TheVariants.{BadPages, Memory}

-- a heap may have so many pages where it has at most `most`
abbrev pub IsPageCountWithin : ℕ → ℕ → Type 0
IsPageCountWithin most pages = (0 < pages) × (pages ≤ most)

-- it has none or too many
abbrev pub IsNoPageCountWithin : ℕ → ℕ → Type 0
IsNoPageCountWithin most pages = (pages ≡ 0) ⊎ (most < pages)

-- BadPages exactly out of range, and in range a value of which P holds, or want of memory
abbrev pub IsOpenedWithin : {T : Type 0} → ℕ → ℕ → Result T OpenError → (T → Type 0) → Type 0
IsOpenedWithin most pages (Ok x) P = IsPageCountWithin most pages × P x
IsOpenedWithin most pages (Err BadPages) P = IsNoPageCountWithin most pages
IsOpenedWithin most pages (Err Memory) P = IsPageCountWithin most pages

-- the same of a heap that is opened without limits of its own
abbrev pub IsPageCount : ℕ → Type 0
IsPageCount pages = IsPageCountWithin MAX_PAGES pages

abbrev pub IsNoPageCount : ℕ → Type 0
IsNoPageCount pages = IsNoPageCountWithin MAX_PAGES pages

abbrev pub IsOpened : {T : Type 0} → ℕ → Result T OpenError → (T → Type 0) → Type 0
IsOpened pages result P = IsOpenedWithin MAX_PAGES pages result P
