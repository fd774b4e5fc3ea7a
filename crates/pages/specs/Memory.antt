-- The words of the heap, by address.
use Rattle.std.specs.Prelude.{◌≡◌, ℕ, ◌+◌, ◌-◌, ◌*◌, ◌/◌, ◌%◌, ◌<◌, ◌≤◌, List, ◌⊎◌, length, slice_index, slice_set}
use Rattle.words.specs.declared.limits.TheConstants.{FIRST_ADDRESS, WORD_BYTES}

-- the address of a word of the heap, which has these words
pub record IsWordAddress (words : List ℕ) (address : ℕ) : Type 0 where
  pub aligned : address % WORD_BYTES ≡ 0
  pub above : FIRST_ADDRESS ≤ address
  pub below : address < FIRST_ADDRESS + WORD_BYTES * length words

-- the index of an address's word among the words
abbrev pub word_index : ℕ → ℕ
word_index address = (address - FIRST_ADDRESS) / WORD_BYTES

-- the word at an address
abbrev pub word_at : List ℕ → ℕ → ℕ
word_at words address = slice_index words (word_index address)

-- the words once `word` is written at an address
abbrev pub with_word_at : List ℕ → ℕ → ℕ → List ℕ
with_word_at words address word = slice_set words (word_index address) word

-- a heap of n words, each of them 0
pub record IsZeroMemory (words : List ℕ) (n : ℕ) : Type 0 where
  pub size : length words ≡ n
  pub zero : (k : ℕ) → slice_index words k ≡ 0

-- n words from the index i on are 0, and all others are as they were
pub record IsZeroed (old new : List ℕ) (i n : ℕ) : Type 0 where
  pub size : length new ≡ length old
  pub zero : (k : ℕ) → i ≤ k → k < i + n → slice_index new k ≡ 0
  pub others : (k : ℕ) → k < i ⊎ i + n ≤ k → slice_index new k ≡ slice_index old k
