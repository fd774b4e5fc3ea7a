-- Division by the granules of a class, as a multiplication.
use Rattle.std.specs.Prelude.{◌≡◌, ℕ, ◌*◌, ◌/◌, ◌<◌, ◌≤◌}
use Rattle.words.specs.declared.limits.TheConstants.{GRANULE_WORDS, PAGE_GRANULES}
use Rattle.blocks.specs.declared.reciprocal.TheConstants.{WHOLE}

-- each granule of a page, times r and divided by the whole, is that granule divided by the granules of an object of c words
pub record IsReciprocal (c r : ℕ) : Type 0 where
  pub part : r ≤ WHOLE
  pub exact : (g : ℕ) → g < PAGE_GRANULES → g * r / WHOLE ≡ g / (c / GRANULE_WORDS)
