-- No command's line has a `=`.
use Rattle.std.proofs.Common.{◌≡◌, ◌≢◌, ℕ, List, [], ◌∷◌, sym, ap, ◌∙◌, subst, arith}
use Rattle.std.specs.List.{AllByRecursion, join_with_byte}
use Rattle.std.proofs.lemmas.List.Splits.{join_with_byte-slice_split}
use Rattle.std.proofs.lemmas.List.Elements.{All-nil, All-cons, All-append}
use Rattle.heap_spec.specs.declared.event.Event.{Event}
use Rattle.scripts.specs.Grammar.{command_words, IsLineOf}
use Rattle.scripts.proofs.CommandWords.{IsCommandWord, AreCommandWords, letters_from, command_words_are}
use Rattle.written_runs.specs.Cuts.{Lacks}
use Rattle.written_runs.proofs.Digits.{decimal_lacks}

abbrev EachLacks : List (List ℕ) → Type 0
EachLacks words = AllByRecursion (Lacks 61) words

joined : (words : List (List ℕ)) → EachLacks words → Lacks 61 (join_with_byte 32 words)
joined [] each = All-nil (λ b. b ≢ 61)
joined (x ∷ []) each = each.0
joined (x ∷ y ∷ words) each =
    All-append (λ b. b ≢ 61) x (32 ∷ join_with_byte 32 (y ∷ words)) each.0
    (All-cons (λ b. b ≢ 61) 32 (join_with_byte 32 (y ∷ words)) (λ e. absurd (omega (arith, e))) (joined (y ∷ words) each.1))

word_lacks : (word : List ℕ) → IsCommandWord word → Lacks 61 word
word_lacks word (IsCommandWord.letters small short) = λ k d lt e. let from = letters_from word small k d lt in omega (arith, from, e)
word_lacks word (IsCommandWord.number n fits) = decimal_lacks 61 n (omega arith) fits

each_lacks : (words : List (List ℕ)) → AreCommandWords words → EachLacks words
each_lacks [] texts = tt
each_lacks (word ∷ words) texts = (word_lacks word texts.0, each_lacks words texts.1)

pub line_lacks : (line : List ℕ) (event : Event) → IsLineOf line event → Lacks 61 line
line_lacks line event is =
    let e : join_with_byte 32 (command_words event) ≡ line = ap (join_with_byte 32) (sym is.words) ∙ join_with_byte-slice_split 32 line in
    subst (Lacks 61) e (joined (command_words event) (each_lacks (command_words event) (command_words_are event is.in_range)))
