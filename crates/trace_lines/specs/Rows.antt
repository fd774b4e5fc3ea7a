-- The texts of what a line of a run changed.
use Rattle.std.specs.Prelude.{ℕ, Bool, true, false, Option, Some, None, List, [], ◌∷◌, ◌++◌, codes, String, string_bytes}
use Rattle.trace_lines.specs.declared.record.NewObject.{NewObject}
use Rattle.trace_lines.specs.declared.record.SetChange.{SetChange}
use Rattle.trace_lines.specs.declared.record.SetChange.TheVariants.{Comes, Goes, Differs, Whole}
use Rattle.trace_lines.specs.declared.record.Numbered.{Numbered}
use Rattle.trace_lines.specs.declared.record.RegisterWord.{RegisterWord}
use Rattle.trace_lines.specs.declared.record.StackChange.{StackChange}
use Rattle.trace_lines.specs.declared.record.LinkChange.{LinkChange}
use Rattle.trace_lines.specs.declared.record.EntryAt.{EntryAt}
use Rattle.trace_lines.specs.declared.record.EntriesChange.{EntriesChange}
use Rattle.trace_lines.specs.declared.record.Current.{Current}
use Rattle.trace_lines.specs.declared.record.Current.TheVariants.{Begun, Nothing}
use Rattle.trace_lines.specs.declared.record.Reads.{Reads}
use Rattle.trace_lines.specs.declared.record.WordRun.{WordRun}
use Rattle.trace_lines.specs.Texts.{number_text, more_text, list_text}

-- a sentence in quotes
abbrev pub sentence_text : {Z : Type 0} → String Z → List ℕ
sentence_text sentence = codes "\"" ++ (string_bytes sentence ++ codes "\"")

-- a list of numbers
abbrev pub numbers_text : List ℕ → List ℕ
numbers_text numbers = list_text number_text numbers

-- yes as 1, no as 0
abbrev pub flag_number : Bool → ℕ
flag_number true = 1
flag_number false = 0

abbrev pub flag_text : Bool → List ℕ
flag_text flag = number_text (flag_number flag)

-- place, birth, words, and the kind: 0 for normal, 1 for atomic
abbrev pub new_object_text : NewObject → List ℕ
new_object_text o = numbers_text (o.place ∷ o.birth ∷ o.words ∷ flag_number o.is_atomic ∷ [])

abbrev pub numbered_text : Numbered → List ℕ
numbered_text w = numbers_text (w.number ∷ w.word ∷ [])

abbrev pub register_text : RegisterWord → List ℕ
register_text r = numbers_text (r.slot ∷ r.register ∷ r.word ∷ [])

-- the slot, how many words stay, and what is pushed upon them
abbrev pub stack_text : StackChange → List ℕ
stack_text s = codes "[" ++ (number_text s.slot ++ (codes "," ++ (number_text s.keep ++ (more_text number_text s.pushed.items ++ codes "]"))))

-- a place, and the base if there is one
abbrev pub base_text : ℕ → Option ℕ → List ℕ
base_text place (Some base) = numbers_text (place ∷ base ∷ [])
base_text place None = codes "[" ++ (number_text place ++ codes ",null]")

-- the place of the word, and the base that the link names
abbrev pub link_text : LinkChange → List ℕ
link_text l = base_text l.place l.base

abbrev pub entry_text : EntryAt → List ℕ
entry_text e = numbers_text (e.place ∷ e.next ∷ [])

-- how many entries stay, and what is pushed upon them
abbrev pub entries_text : EntriesChange → List ℕ
entries_text e = codes "[" ++ (number_text e.keep ++ (more_text entry_text e.pushed.items ++ codes "]"))

abbrev pub current_text : Current → List ℕ
current_text (Begun entry) = entry_text entry
current_text Nothing = codes "null"

abbrev pub reads_text : Reads → List ℕ
reads_text r = numbers_text (r.roots ∷ r.words ∷ r.pages ∷ [])

-- the first place, and how many words
abbrev pub run_text : WordRun → List ℕ
run_text r = numbers_text (r.place ∷ r.words ∷ [])

-- the last change of a set, behind what names it
abbrev pub change_text : List ℕ → List ℕ → List ℕ
change_text name members = name ++ (numbers_text members ++ codes "}")

-- what comes, what goes, or the whole set
abbrev pub set_text : SetChange → List ℕ
set_text (Comes came) = change_text (codes "{\"+\":") came.items
set_text (Goes went) = change_text (codes "{\"-\":") went.items
set_text (Differs came went) = codes "{\"+\":" ++ (numbers_text came.items ++ change_text (codes ",\"-\":") went.items)
set_text (Whole now) = change_text (codes "{\"=\":") now.items
