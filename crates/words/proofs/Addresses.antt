-- The page of an address, and where the address lies on it.
use Rattle.std.proofs.Common.{◌≡◌, ℕ, ◌+◌, ◌%◌, ◌<◌, ◌≤◌, arith, inl, inr}
use Rattle.words.specs.declared.limits.TheConstants.{FIRST_ADDRESS, PAGE_BYTES}
use Rattle.words.specs.Layout.{page_start, page_of, IsOnPage, IsOutside}

pub on_its_page : (w : ℕ) → FIRST_ADDRESS ≤ w → IsOnPage (page_of w) w
on_its_page w h = record { from = omega arith; below = omega arith }

pub page_is : (p w : ℕ) → IsOnPage p w → page_of w ≡ p
page_is p w at = let from = at.from in let below = at.below in omega arith

pub below_heap : (pages w : ℕ) → w < FIRST_ADDRESS → IsOutside pages w
below_heap pages w h = inl h

pub past_heap : (pages w : ℕ) → FIRST_ADDRESS ≤ w → pages ≤ page_of w → IsOutside pages w
past_heap pages w from past = inr (omega arith)

-- the byte of its page at which a word points
pub byte_of_page : (p w : ℕ) → IsOnPage p w → w ≡ page_start p + w % PAGE_BYTES
byte_of_page p w at = let from = at.from in let below = at.below in omega arith

pub ruleset addresses = (on_its_page, below_heap, past_heap)
