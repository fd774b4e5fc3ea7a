-- Where the pages and granules of a heap lie.
use Rattle.std.specs.Prelude.{ℕ, ◌+◌, ◌-◌, ◌*◌, ◌/◌, ◌<◌, ◌≤◌, ◌⊎◌}
use Rattle.words.specs.declared.limits.TheConstants.{FIRST_ADDRESS, PAGE_BYTES, GRANULE_BYTES}

-- the address of a page's first byte; of the page after the last one it is the heap's end
abbrev pub page_start : ℕ → ℕ
page_start page = FIRST_ADDRESS + PAGE_BYTES * page

-- the page of an address
abbrev pub page_of : ℕ → ℕ
page_of address = (address - FIRST_ADDRESS) / PAGE_BYTES

-- the granule of an address, counted from the heap's first one
abbrev pub granule : ℕ → ℕ
granule address = (address - FIRST_ADDRESS) / GRANULE_BYTES

-- the word is an address of the page
pub record IsOnPage (page w : ℕ) : Type 0 where
  pub from : page_start page ≤ w
  pub below : w < page_start (page + 1)

-- the word is an address of none of so many pages
abbrev pub IsOutside : ℕ → ℕ → Type 0
IsOutside pages w = (w < FIRST_ADDRESS) ⊎ (page_start pages ≤ w)
