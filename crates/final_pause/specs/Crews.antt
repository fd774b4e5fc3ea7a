-- The helpers of a pause.
use Rattle.std.specs.Prelude.{ℕ}

-- how many they are, and how many words the pages in use have at least where they start
pub record Crew : Type 0 where
  pub number : ℕ
  pub least_words : ℕ
