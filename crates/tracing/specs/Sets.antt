-- Lists of what passes, and how a set becomes another.
use Rattle.std.specs.Prelude.{◌≡◌, ℕ, Bool, not, Option, Some, None, List, [], ◌∷◌, flat_map, map, if◌then◌else◌, nat_eq}
use Rattle.std.specs.Set.{is_member}
use Rattle.plain_heap.specs.declared.extent.Extent.{Extent}
use Rattle.pages.specs.Memory.{word_index}
use Rattle.trace_lines.specs.declared.record.SetChange.{SetChange}
use Rattle.trace_lines.specs.declared.record.SetChange.TheVariants.{Comes, Goes, Differs, Whole}

-- those items that pass, in their order
abbrev pub those_that : {A : Type 0} → (A → Bool) → List A → List A
those_that passes items = flat_map (λ item. if passes item then item ∷ [] else []) items

-- the one item, or none
abbrev pub listed : {A : Type 0} → Option A → List A
listed None = []
listed (Some item) = item ∷ []

-- the places of those objects whose bases pass
abbrev pub places_that : (ℕ → Bool) → List Extent → List ℕ
places_that passes objects = flat_map (λ o. if passes o.base then word_index o.base ∷ [] else []) objects

-- the bases of objects
abbrev pub bases_of : List Extent → List ℕ
bases_of objects = map (λ o. o.base) objects

-- those objects at whose bases none of the others lies
abbrev pub objects_without : List Extent → List Extent → List Extent
objects_without objects others = those_that (λ o. not (is_member nat_eq (bases_of others) o.base)) objects

-- those numbers that are none of the others
abbrev pub without : List ℕ → List ℕ → List ℕ
without numbers others = those_that (λ n. not (is_member nat_eq others n)) numbers

-- what comes into the old set and what goes from it, or the new one whole
abbrev pub SaysSome : List ℕ → List ℕ → SetChange → Type 0
SaysSome old new (Comes came) = (came.items ≡ without new old) × (without old new ≡ [])
SaysSome old new (Goes went) = (went.items ≡ without old new) × (without new old ≡ [])
SaysSome old new (Differs came went) = (came.items ≡ without new old) × (went.items ≡ without old new)
SaysSome old new (Whole now) = now.items ≡ new

-- how the old set becomes the new one: where nothing is said none comes and none goes
abbrev pub SaysChange : List ℕ → List ℕ → Option SetChange → Type 0
SaysChange old new None = (without new old ≡ []) × (without old new ≡ [])
SaysChange old new (Some change) = SaysSome old new change
