-- Helpers together: before they start, and while they are joined.
use Rattle.std.specs.Prelude.{◌≡◌, ℕ, ◌<◌, ◌≤◌, Bool, List, length, Contains, Some, ◌⊎◌, slice_index_or}
use Rattle.words.specs.declared.class.Kind.TheVariants.{Normal}
use Rattle.words.specs.Bits.{Has}
use Rattle.words.specs.Layout.{page_of, granule}
use Rattle.mark_bits.specs.declared.table.Claimer.{Claimer}
use Rattle.mark_bits.specs.Tables.{view, IsOf}
use Rattle.mark_bits.specs.Claims.{HasPart}
use Rattle.block_map.specs.declared.found.Found.{Found}
use Rattle.marker.specs.Marking.{Covers, word_address}
use Rattle.marker.specs.Growth.{IsStrayPage}
use Rattle.final_pause.specs.declared.helper.Helper.{Helper}
use Rattle.final_pause.specs.Pauses.{PauseView}
use Rattle.final_pause.specs.Helping.{IsWordRead, found}
use Rattle.final_pause.specs.Serving.{IsReachedAt, IsShareRead}

-- each helper has its place
abbrev pub AreNumbered : List Helper → Type 0
AreNumbered crew = (i : ℕ) (d : Helper) → i < length crew → (slice_index_or crew i d).place ≡ i

-- The helpers from `low` on are joined: what they know and won is the first claimer's, and their dirty and their carried pages
-- are those of one row each.
pub record HasGathered (p : PauseView) (low : ℕ) (first : Claimer) (dirty carried : List Bool) : Type 0 where
  pub of : IsOf p.table first
  pub part : HasPart (view first) low
  pub size : length dirty ≡ length p.map
  pub carried_size : length carried ≡ length p.map
  pub won : (f : Found) → found p f.base ≡ Some f → f.kind ≡ Normal → Contains (view first).won (granule f.base) → (i : ℕ) → i < f.len
      → IsWordRead p (view first) carried f i ⊎ Has dirty (page_of (word_address f i))
  pub dirtied : (q : ℕ) → Has dirty q → (f : Found) × (found p f.base ≡ Some f) × Contains (view first).won (granule f.base) × Covers f q
  pub strays : (q : ℕ) → Has carried q → IsStrayPage (found p) p.memory p.roots p.marker q
  pub within : (k : ℕ) → Contains (view first).won k → IsReachedAt p k
  pub shares : (s : ℕ) → low ≤ s → s < p.helpers → IsShareRead p (view first) carried s
