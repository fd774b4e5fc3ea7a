-- Where the heap's bytes lie.
use Rattle.std.specs.Prelude.{ℕ, ◌+◌, ◌-◌, ◌*◌, ◌/◌, ◌<◌, ◌≤◌, ◌^◌}
use Rattle.words.specs.declared.limits.TheConstants.{WORD_BYTES}
use Rattle.words.specs.Layout.{page_start}

-- words count up to here, and then begin again at 0
abbrev pub word_end : ℕ
word_end = 2 ^ 64

-- the address past the last byte of a heap of so many pages
abbrev pub heap_end : ℕ → ℕ
heap_end pages = page_start pages

-- A word points into what lies at a base and is so many words long: it is the address of one of its bytes, aligned or not.
abbrev pub PointsInto : ℕ → ℕ → ℕ → Type 0
PointsInto w base len = (base ≤ w) × (w < base + WORD_BYTES * len)

-- which of the words from a base on an address is that of
abbrev pub index_in : ℕ → ℕ → ℕ
index_in base a = (a - base) / WORD_BYTES

-- one of the bytes at this base lies on the page
abbrev pub LiesOn : ℕ → ℕ → ℕ → Type 0
LiesOn base len page = (base < page_start (page + 1)) × (page_start page < base + WORD_BYTES * len)
