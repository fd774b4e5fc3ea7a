-- What options about written runs say.
use Rattle.std.specs.Prelude.{◌≡◌, ℕ, ◌*◌, ◌<◌, ◌≤◌, List, codes, decimal}
use Rattle.words.specs.declared.limits.TheConstants.{MAX_PAGES, PAGE_BYTES}
use Rattle.heap_spec.specs.Layout.{word_end}
use Rattle.written_runs.specs.declared.places.Places.{Places}
use Rattle.written_runs.specs.declared.places.Places.TheVariants.{Classes, Any}

-- A text is a number of pages that a heap may have.
pub record IsPageCountText (text : List ℕ) (pages : ℕ) : Type 0 where
  pub text_is : text ≡ decimal pages
  pub some : 1 ≤ pages
  pub few : pages ≤ MAX_PAGES

-- A text is a number of bytes of so many pages.
pub record IsByteCountText (text : List ℕ) (pages : ℕ) : Type 0 where
  pub text_is : text ≡ decimal (PAGE_BYTES * pages)
  pub some : 1 ≤ pages
  pub few : pages ≤ MAX_PAGES

-- A text is an address.
pub record IsAddressText (text : List ℕ) (address : ℕ) : Type 0 where
  pub text_is : text ≡ decimal address
  pub word : address < word_end

-- a text says where objects may lie, in a heap that begins at an address
abbrev pub IsPlacesText : List ℕ → ℕ → Places → Type 0
IsPlacesText text from Classes = text ≡ codes "classes"
IsPlacesText text from (Any first) = (text ≡ codes "any") × (first ≡ from)
